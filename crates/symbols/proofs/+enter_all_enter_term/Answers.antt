use native.Mathlib.Omega.{arith}
use Rattle.tables.proofs.Fronts.{below_abstraction}
use Rattle.symbols.proofs.Entering.{words_few, body_enterable, body_full, body_entered, first_node, plain_node, node_enterable, node_full, node_passes, node_entered, node_stands, node_falls, no_node}
use borrow.Author.Rules.{rules}
use Rattle.symbols.proofs.+enter_all_enter_term.Goals as goal

pub enter_all-loop-node-init : goal.enter_all-loop-node-init
enter_all-loop-node-init t c = first_node c.args.table.now _ c.requires c.of-nodes.ensures

pub enter_all-loop-node-preserved-then-node-lt-FIRST_METAVARIABLE : goal.enter_all-loop-node-preserved-then-node-lt-FIRST_METAVARIABLE
enter_all-loop-node-preserved-then-node-lt-FIRST_METAVARIABLE t c = plain_node _ _ c.in-Some.node c.loop-node.invariant c.in-Some.ensures.steps c.if-node-lt-FIRST_METAVARIABLE.true

pub enter_all-enter_term-requires : goal.enter_all-enter_term-requires
enter_all-enter_term-requires t c =
    let s = c.loop-node.invariant in
    let k = s.whole in
    let w = s.entering.walk.walk.within in
    let p = c.in-Some.ensures.steps in
    let l = node_falls _ _ c.in-Some.node s p in
    (omega arith, (node_enterable _ _ c.in-Some.node s p, c.if-node-lt-FIRST_METAVARIABLE.false))

pub enter_all-returns-in_err-term : goal.enter_all-returns-in_err-term
enter_all-returns-in_err-term t c = rw c.from_residual.ensures (node_full _ _ c.in-Some.node c.loop-node.invariant c.in-Some.ensures.steps c.enter_term.result c.enter_term.ensures c.in_err-term.was)

pub enter_all-pass-requires : goal.enter_all-pass-requires
enter_all-pass-requires t c = node_passes _ _ c.in-Some.node c.loop-node.invariant c.in-Some.ensures.steps c.enter_term.result c.enter_term.ensures _ c.in_ok-term.was

pub enter_all-overflow_add-words-in-Some : goal.enter_all-overflow_add-words-in-Some
enter_all-overflow_add-words-in-Some t c =
    let o = (node_entered _ _ c.in-Some.node c.loop-node.invariant c.in-Some.ensures.steps c.enter_term.result c.enter_term.ensures _ c.in_ok-term.was _ c.pass.ensures).entering in
    let k = o.few in let q = o.counts in omega arith

pub enter_all-loop-node-preserved-derived : goal.enter_all-loop-node-preserved-derived
enter_all-loop-node-preserved-derived t c =
    (node_stands _ (node_entered _ _ c.in-Some.node c.loop-node.invariant c.in-Some.ensures.steps c.enter_term.result c.enter_term.ensures _ c.in_ok-term.was _ c.pass.ensures), tt)

pub enter_all-loop-node-preserved : goal.enter_all-loop-node-preserved
enter_all-loop-node-preserved t c =
    node_entered _ _ c.in-Some.node c.loop-node.invariant c.in-Some.ensures.steps c.enter_term.result c.enter_term.ensures _ c.in_ok-term.was _ c.pass.ensures

pub enter_all-returns : goal.enter_all-returns
enter_all-returns t c = rw c.passed-read.ensures (no_node _ _ c.loop-node.invariant c.in_default.ensures.steps)

pub enter_term-enter_metavariable-requires : goal.enter_term-enter_metavariable-requires
enter_term-enter_metavariable-requires t c = let p = c.requires in (p.0, p.1, below_abstraction p.0.begins c.if-node-ne-ABSTRACTION.true)

pub enter_term-enter_all-requires : goal.enter_term-enter_all-requires
enter_term-enter_all-requires t c = (omega arith, body_enterable c.args.node c.requires.0 c.if-node-ne-ABSTRACTION.false)

pub enter_term-returns-in_err-body : goal.enter_term-returns-in_err-body
enter_term-returns-in_err-body t c = rw c.from_residual.ensures (body_full c.args.node c.requires.0 c.if-node-ne-ABSTRACTION.false c.enter_all.ensures c.in_err-body.was)

pub enter_term-overflow_add-words : goal.enter_term-overflow_add-words
enter_term-overflow_add-words t c = let k = words_few (body_enterable c.args.node c.requires.0 c.if-node-ne-ABSTRACTION.false) c.enter_all.ensures c.in_ok-body.was in search rules

pub enter_term-returns : goal.enter_term-returns
enter_term-returns t c = body_entered c.args.node c.requires.0 c.if-node-ne-ABSTRACTION.false c.enter_all.ensures c.in_ok-body.was
