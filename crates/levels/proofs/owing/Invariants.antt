-- `owing` meets its contract: what is left without the words that owe nothing is the same at every turn, and there is always a word that owes something.
use mathlib.Core.Path.{◌≡◌}
use Rattle.levels.specs.Owing.{owing_from, Owes}
use Rattle.levels.proofs.owing.Given as goal

abbrev pub invariant-loop-here : goal.invariant-loop-here
invariant-loop-here l = Owes l.above l.here × (owing_from l.above l.here ≡ owing_from l.above l.level)

abbrev pub decreases-loop-here : goal.decreases-loop-here
decreases-loop-here l = l.here
