-- The measuring walk: a sequence (`Growing`), an instruction that pushes (`Pushing`), its entry (`Spreading`) and a variable of it (`Meeting`) call
-- one another, the words of the code falling.
use mathlib.Core.Path.{◌≡◌}
use Prim.Native.Nat.{◌+◌, ◌-◌, ◌*◌}
use lib.ListN.{get_or}
use Rattle.measurer.specs.Linking.{place_next}
use Rattle.measurer.specs.Measuring.{push_end}
use Rattle.measurer.proofs.Growing.{Growing}
use Rattle.measurer.proofs.Spreading.{Spanned}
use Rattle.measurer.proofs.Walked.{At}
use Rattle.measurer.proofs.+free_measure_push_spread.Given as goal

abbrev pub decreases-free : goal.decreases-free
decreases-free l = 4 * (push_end l.walk.now.given.code.now l.push.at l.push.count - l.push.at)

abbrev pub decreases-measure : goal.decreases-measure
decreases-measure l = 4 * (l.end - l.from) + 3

abbrev pub decreases-push : goal.decreases-push
decreases-push l = 4 * (place_next l.walk.now.given.code.now l.at - l.at) + 2

abbrev pub decreases-spread : goal.decreases-spread
decreases-spread l = 4 * (push_end l.walk.now.given.code.now l.push.at l.push.count - l.push.at) + 1

abbrev pub invariant-measure-loop-at : goal.invariant-measure-loop-at
invariant-measure-loop-at l = Growing l.walk.given.code.now l.walk.given.subject.now l.walk.given.entries.now l.initial.work l.from l.end l.walk.most l.work l.at l.last l.sum l.farthest

abbrev pub decreases-measure-loop-at : goal.decreases-measure-loop-at
decreases-measure-loop-at l = l.end - l.at

abbrev pub invariant-spread-loop-node : goal.invariant-spread-loop-node
invariant-spread-loop-node l =
    Spanned l.walk.given.code.now l.push.at l.push.count l.push.shift l.part l.places l.walk.given.subject.now l.walk.given.entries.now l.initial.work l.walk.most l.work l.node-iterator.owed l.nodes l.more l.highest l.deepest l.farthest
    × (l.root ≡ get_or l.initial.work l.places 0) × At l.part l.nodes l.node-iterator
