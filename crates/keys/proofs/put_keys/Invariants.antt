-- `put_keys` meets its contract: the keys put down, with those of the terms still owed, are the side's.
use Rattle.keys.proofs.Keying.{Keying}
use Rattle.keys.proofs.put_keys.Given as goal

abbrev pub invariant-loop-node : goal.invariant-loop-node
invariant-loop-node l = Keying l.part l.keys l.node-iterator l.next
