use native.Mathlib.Omega.{arith}
use lib.Dec.{lit<}
use Rattle.generator.proofs.Matching.{first_node, node_fits, plain_node, node_falls, node_asked, node_passes, node_done, node_stands, no_node, is_metavariable, abst_fits, body_asked, body_done}
use Rattle.generator.proofs.left.+left_side_left_term.Goals as goal

pub left_side-loop-node-init : goal.left_side-loop-node-init
left_side-loop-node-init t c = first_node _ c.requires c.of-nodes.ensures

pub left_side-left_plain-place-requires : goal.left_side-left_plain-place-requires
left_side-left_plain-place-requires t c = node_fits _ _ c.in-Some.node c.loop-node.invariant c.in-Some.ensures.steps c.if-node-lt-FIRST_METAVARIABLE.true

pub left_side-loop-node-preserved-then-node-lt-FIRST_METAVARIABLE : goal.left_side-loop-node-preserved-then-node-lt-FIRST_METAVARIABLE
left_side-loop-node-preserved-then-node-lt-FIRST_METAVARIABLE t c =
    plain_node _ _ c.in-Some.node c.loop-node.invariant c.in-Some.ensures.steps c.if-node-lt-FIRST_METAVARIABLE.true c.left_plain-place.ensures

pub left_side-left_term-term-requires : goal.left_side-left_term-term-requires
left_side-left_term-term-requires t c =
    let e = c.loop-node.invariant in
    let p = c.in-Some.ensures.steps in
    let l = node_falls _ _ c.in-Some.node e p in
    (omega arith, (node_asked _ _ c.in-Some.node e p c.requires, c.if-node-lt-FIRST_METAVARIABLE.false))

pub left_side-pass-requires : goal.left_side-pass-requires
left_side-pass-requires t c = node_passes _ _ c.in-Some.node c.loop-node.invariant c.in-Some.ensures.steps c.left_term-term.result c.left_term-term.ensures

pub left_side-loop-node-preserved-derived : goal.left_side-loop-node-preserved-derived
left_side-loop-node-preserved-derived t c =
    (node_stands _ (node_done _ _ c.in-Some.node c.loop-node.invariant c.in-Some.ensures.steps c.left_term-term.result c.left_term-term.ensures _ c.pass.ensures), tt)

pub left_side-loop-node-preserved : goal.left_side-loop-node-preserved
left_side-loop-node-preserved t c = node_done _ _ c.in-Some.node c.loop-node.invariant c.in-Some.ensures.steps c.left_term-term.result c.left_term-term.ensures _ c.pass.ensures

pub left_side-returns : goal.left_side-returns
left_side-returns t c = rw c.passed.ensures (no_node _ _ c.loop-node.invariant c.in_default.ensures.steps)

pub left_term-left_metavariable-requires : goal.left_term-left_metavariable-requires
left_term-left_metavariable-requires t c = (c.requires.0, is_metavariable c.requires.0.begins c.requires.1 c.if-node-ne-ABSTRACTION.true)

pub left_term-put-inside-requires : goal.left_term-put-inside-requires
left_term-put-inside-requires t c = (lit< tt, abst_fits c.requires.0 c.if-node-ne-ABSTRACTION.false)

pub left_term-left_side-requires : goal.left_term-left_side-requires
left_term-left_side-requires t c = (omega arith, body_asked c.requires.0 c.if-node-ne-ABSTRACTION.false c.put-inside.ensures)

pub left_term-returns : goal.left_term-returns
left_term-returns t c = body_done c.requires.0 c.if-node-ne-ABSTRACTION.false c.put-inside.ensures c.left_side.ensures
