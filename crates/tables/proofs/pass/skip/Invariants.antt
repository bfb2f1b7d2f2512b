-- `pass::skip` meets its contract: the words gone over and those of the terms still owed are the subterm's, and at the walk's end nothing is owed.
use Rattle.tables.proofs.Nodes.{Going}
use Rattle.tables.proofs.pass.skip.Given as goal

abbrev pub invariant-loop : goal.invariant-loop
invariant-loop l = Going l.part l.nodes
