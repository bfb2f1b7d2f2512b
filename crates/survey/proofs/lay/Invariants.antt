-- `lay` meets its contract. The table is good if the words behind the node hold as many terms as are owed; and if it is, the places noted so far and
-- those of the terms owed at each level are the subject's, and so are its depth and metavariables (`Surveying`). A node's arguments are owed one
-- level further in, at the place that they have; a level that owes nothing is not kept.
use Rattle.survey.proofs.Surveying.{Surveying}
use Rattle.survey.proofs.lay.Given as goal

abbrev pub invariant-loop-node : goal.invariant-loop-node
invariant-loop-node g l = Surveying l.subject l.places l.waiting l.kept l.here l.node
