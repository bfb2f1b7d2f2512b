use Rattle.std.proofs.Common.{◌≡◌}
use Rattle.search.proofs.Looking.{LookingAbove}
use Rattle.search.proofs.search_above.Given as goal

abbrev pub invariant-loop-level : goal.invariant-loop-level
invariant-loop-level l =
    LookingAbove l.rules.table.now l.rules.starts.now l.rules.buckets.now.roots l.rules.buckets.now.seconds l.plan l.from l.initial.above.words l.initial.above.level l.initial.entries l.entries l.level ×
    (l.above ≡ l.initial.above)
