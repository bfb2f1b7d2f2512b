-- `checker::obeys`: the arrays hold 01's state, each guard as its set, and whether code passes from there on is whether it passes. Each turn keeps
-- that by the law of the turn; SET alone writes an entry.
use Prim.Native.Nat.{◌-◌}
use lib.ListN.{length}
use Rattle.checker.proofs.Matching.{Matched}
use Rattle.checker.proofs.obeys.Given as goal

abbrev pub invariant-loop-at : goal.invariant-loop-at
invariant-loop-at l = Matched l.code l.current l.terms l.entries l.guard l.at

abbrev pub decreases-loop-at : goal.decreases-loop-at
decreases-loop-at l = length l.code - l.at
