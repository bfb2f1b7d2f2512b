-- `left::left_side` and `left::left_term` meet their contracts. The words of the terms still owed, written from where the loop stands, make the
-- table that was asked for; each way through the loop takes the first node's words, or the first term's, from them. What falls is the
-- part's length, and at a node that of the part behind it, and one more.
use Prim.Native.Nat.{◌+◌, ◌-◌}
use lib.ListN.{length}
use Rattle.generator.proofs.Matching.{AtNode}
use Rattle.generator.proofs.left.+left_side_left_term.Given as goal

abbrev pub decreases-left_side : goal.decreases-left_side
decreases-left_side l = length l.part.now

abbrev pub decreases-left_term : goal.decreases-left_term
decreases-left_term l = length l.node.behind.now + 1

abbrev pub invariant-left_side-loop-node : goal.invariant-left_side-loop-node
invariant-left_side-loop-node l = AtNode l.part l.rows l.initial.code l.under l.sets l.at l.nodes l.coming l.place l.code

abbrev pub decreases-left_side-loop-node : goal.decreases-left_side-loop-node
decreases-left_side-loop-node l = length l.nodes.part.now - l.nodes.at
