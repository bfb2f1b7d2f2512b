use Rattle.search.proofs.Attempting.{Attempting}
use Rattle.search.proofs.attempt.Given as goal

abbrev pub invariant-loop-left : goal.invariant-loop-left
invariant-loop-left l = Attempting l.rules.table.now l.rules.starts.now l.set l.part l.initial.entries l.entries l.left

abbrev pub decreases-loop-left : goal.decreases-loop-left
decreases-loop-left l = l.left
