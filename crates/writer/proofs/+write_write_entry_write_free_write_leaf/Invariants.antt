-- `writer::write`, `write_leaf`, `write_entry` and `write_free` call each other. The words of the code that a tree stands in fall at a body. Each says:
-- whatever words are wanted of a tree that stands there, they were written. `write` itself goes from node to node: what is left to write are the trees at
-- hand and, before them, the nodes that wait.
use Prim.Native.Nat.{◌+◌, ◌-◌, ◌*◌}
use Rattle.writer.proofs.Walking.{Writing, Entering}
use Rattle.writer.proofs.+write_write_entry_write_free_write_leaf.Given as goal

abbrev pub decreases-write : goal.decreases-write
decreases-write l = 4 * l.place.words + 3

abbrev pub decreases-write_entry : goal.decreases-write_entry
decreases-write_entry l = 4 * l.place.words + 1

abbrev pub decreases-write_free : goal.decreases-write_free
decreases-write_free l = 4 * l.place.words

abbrev pub decreases-write_leaf : goal.decreases-write_leaf
decreases-write_leaf l = 4 * l.place.words + 2

abbrev pub invariant-write-loop-left : goal.invariant-write-loop-left
invariant-write-loop-left l = Writing l.given.code.now l.given.subject.now l.given.entries.now l.work l.initial.res l.res l.initial.opened l.opened l.end l.to l.root l.at l.left l.lambdas l.kept l.place.offset l.place.lambdas l.place.level l.place.words

abbrev pub decreases-write-loop-left : goal.decreases-write-loop-left
decreases-write-loop-left l = 16 * (2 * l.to + (64 - l.kept)) + l.left

abbrev pub invariant-write_entry-loop-node : goal.invariant-write_entry-loop-node
invariant-write_entry-loop-node l = Entering l.given.code.now l.given.subject.now l.given.entries.now l.work l.part l.initial.res l.res l.initial.opened l.opened l.end l.to l.push l.places l.node l.place.offset l.place.lambdas l.place.level l.place.words
