-- `checker::build::build`, `push` and `bodies` call each other; the words that are left, end - from, fall at every call. In `build` a block's answer goes
-- on where the block closes, whatever blocks are around; in `bodies` each body stands alone, and its key is one more of the set.
use Prim.Native.Nat.{◌-◌}
use lib.Dec.{ltb}
use Rattle.turns.specs.Held.{entries_of}
use Rattle.checker.proofs.Ending.{Going, Bodied}
use Rattle.checker.proofs.build.+bodies_build_push.Given as goal

abbrev pub decreases-bodies : goal.decreases-bodies
decreases-bodies l = l.end - l.from

abbrev pub decreases-build : goal.decreases-build
decreases-build l = l.end - l.from

abbrev pub decreases-push : goal.decreases-push
decreases-push l = l.end - l.from

abbrev pub invariant-bodies-loop : goal.invariant-bodies-loop
invariant-bodies-loop l =
    Bodied l.code l.from l.end l.count (entries_of l.entries) l.nesting.lambdas l.nesting.nested l.entry.depth l.entry.guard l.at (l.count - l.counter) l.keys

abbrev pub invariant-build-loop-at : goal.invariant-build-loop-at
invariant-build-loop-at l =
    Going l.code l.from l.end (entries_of l.entries) l.nesting.lambdas l.nesting.nested (ltb l.nesting.lambdas l.nesting.nested) l.at l.terms

abbrev pub decreases-build-loop-at : goal.decreases-build-loop-at
decreases-build-loop-at l = l.end - l.at
