-- `compare::compare_under` meets its contract. Both walks stand at the same place and owe as many terms, and whether those agree is what was asked of
-- the first two: bodies that agree are equally long. What falls from call to call is the old part's length.
use Rattle.std.proofs.Common.{◌-◌, length}
use Rattle.tables.proofs.Renamed.{Abreast}
use Rattle.tables.proofs.compare.+compare_under.Given as goal

abbrev pub decreases-compare_under : goal.decreases-compare_under
decreases-compare_under l = length l.old.now

abbrev pub invariant-loop-node : goal.invariant-loop-node
invariant-loop-node l = Abreast l.pairs l.shift l.under l.old l.new l.nodes

abbrev pub decreases-loop-node : goal.decreases-loop-node
decreases-loop-node l = length l.nodes.part.now - l.nodes.at
