-- `writer::copy`: the part stands before the place word for word, filled from its start.
use Rattle.writer.proofs.Writings.{Copying}
use Rattle.writer.proofs.copy.Given as goal

abbrev pub invariant-loop-i : goal.invariant-loop-i
invariant-loop-i l = Copying l.initial.res l.res l.part l.to l.i
