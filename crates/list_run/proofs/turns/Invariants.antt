use Rattle.std.proofs.Common.{◌-◌}
use Rattle.list_run.proofs.Turning.{Turned}
use Rattle.list_run.proofs.turns.Given as goal

abbrev pub invariant-loop-redex : goal.invariant-loop-redex
invariant-loop-redex l =
    Turned l.rules.table.now l.rules.starts.now l.rules.buckets.now.roots l.rules.buckets.now.seconds l.initial.plan.table l.initial.plan.words l.rewrites l.most l.initial.work
    l.plan.table l.above.words l.entries l.work l.plan.words l.node l.above.level l.made

abbrev pub decreases-loop-redex : goal.decreases-loop-redex
decreases-loop-redex l = l.rewrites - l.made
