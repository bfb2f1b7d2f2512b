use Rattle.std.proofs.Common.{◌≡◌}
use Rattle.search.proofs.Looking.{LookingFrom}
use Rattle.search.proofs.search_from.Given as goal

abbrev pub invariant-loop-node : goal.invariant-loop-node
invariant-loop-node l =
    LookingFrom l.rules.table.now l.rules.starts.now l.rules.buckets.now.roots l.rules.buckets.now.seconds l.plan l.from l.initial.above.words l.initial.above.level l.initial.entries l.entries l.node ×
    (l.above ≡ l.initial.above)
