-- `enter_all` and `enter_term` meet their contracts. In the loop, what the terms still owed make of the rows that are there is what the subterm makes of
-- those at the start, and the words counted with theirs are the subterm's. A body is entered by a call, with one abstraction more above it. What falls is
-- the part's length, and at a node that of the part behind it, and one more.
use Prim.Native.Nat.{◌+◌, ◌-◌}
use lib.ListN.{length}
use Rattle.symbols.specs.Table.{rows_of}
use Rattle.symbols.proofs.Entering.{AtNode}
use Rattle.symbols.proofs.+enter_all_enter_term.Given as goal

abbrev pub decreases-enter_all : goal.decreases-enter_all
decreases-enter_all l = length l.part.now

abbrev pub decreases-enter_term : goal.decreases-enter_term
decreases-enter_term l = length l.node.behind.now + 1

abbrev pub invariant-enter_all-loop-node : goal.invariant-enter_all-loop-node
invariant-enter_all-loop-node l = AtNode l.part l.under (rows_of l.initial.table) l.table l.nodes l.words

abbrev pub decreases-enter_all-loop-node : goal.decreases-enter_all-loop-node
decreases-enter_all-loop-node l = length l.nodes.part.now - l.nodes.at
