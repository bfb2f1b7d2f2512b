-- `put_variables` meets its contract: writing the variables still left from where it stands gives the words that were asked for. A variable's first
-- word is its index.
use Rattle.symbols.proofs.Stored.{Putting}
use Rattle.symbols.proofs.table.put_variables.Given as goal

abbrev pub invariant-loop-i : goal.invariant-loop-i
invariant-loop-i l = Putting l.part l.count l.initial.out l.at l.out l.i
