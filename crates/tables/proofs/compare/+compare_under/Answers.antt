use mathlib.Core.Path.{sym, ◌∙◌}
use native.Mathlib.Omega.{arith}
use borrow.Author.Rules.{rules}
use Rattle.tables.proofs.Renamed.{abreast_from, abreast_room, variable_apart, variable_abreast, word_apart, count_apart, applied_abreast, bodies_begin, bodies_fall, bodies_room, bodies_apart, bodies_pass, bodies_abreast, abreast_ended}
use Rattle.tables.proofs.compare.+compare_under.Goals as goal

pub loop-node-init : goal.loop-node-init
loop-node-init t c = abreast_from _ c.requires.0 c.requires.1 c.of-nodes.ensures

pub offset_bounds-new-behind : goal.offset_bounds-new-behind
offset_bounds-new-behind t c = let r = abreast_room _ _ c.in-Some.node c.loop-node.invariant c.in-Some.ensures.steps _ c.passed-behind.ensures in search rules

pub bounds-new-behind : goal.bounds-new-behind
bounds-new-behind t c = let r = abreast_room _ _ c.in-Some.node c.loop-node.invariant c.in-Some.ensures.steps _ c.passed-behind.ensures in omega arith

pub returns-then-not-is_same_variable : goal.returns-then-not-is_same_variable
returns-then-not-is_same_variable t c = variable_apart _ _ c.in-Some.node c.loop-node.invariant c.in-Some.ensures.steps _ c.passed-behind.ensures c.if-node-lt-FIRST_SYMBOL.true (sym c.is_same_variable.ensures ∙ c.if-not-is_same_variable.true)

pub loop-node-preserved-else-not-is_same_variable : goal.loop-node-preserved-else-not-is_same_variable
loop-node-preserved-else-not-is_same_variable t c = variable_abreast _ _ c.in-Some.node c.loop-node.invariant c.in-Some.ensures.steps _ c.passed-behind.ensures c.if-node-lt-FIRST_SYMBOL.true (sym c.is_same_variable.ensures ∙ c.if-not-is_same_variable.false)

pub returns-then-other-node : goal.returns-then-other-node
returns-then-other-node t c = word_apart _ _ c.in-Some.node c.loop-node.invariant c.in-Some.ensures.steps _ c.passed-behind.ensures c.if-node-lt-FIRST_SYMBOL.false c.if-other-node.true

pub slice_bounds-compare_under-count : goal.slice_bounds-compare_under-count
slice_bounds-compare_under-count t c = let r = abreast_room _ _ c.in-Some.node c.loop-node.invariant c.in-Some.ensures.steps _ c.passed-behind.ensures in omega arith

pub slice_bounds-compare_under-start : goal.slice_bounds-compare_under-start
slice_bounds-compare_under-start t c = let r = abreast_room _ _ c.in-Some.node c.loop-node.invariant c.in-Some.ensures.steps _ c.passed-behind.ensures in search rules

pub compare_under-requires : goal.compare_under-requires
compare_under-requires t c =
    let b = bodies_begin _ _ c.in-Some.node c.loop-node.invariant c.in-Some.ensures.steps _ c.passed-behind.ensures c.if-node-eq-ABSTRACTION.true c.if-other-node.false in (
      bodies_fall _ _ c.in-Some.node c.loop-node.invariant c.in-Some.ensures.steps _ c.passed-behind.ensures c.if-node-eq-ABSTRACTION.true c.if-other-node.false c.decreases,
      (b.0, b.1, bodies_room _ _ c.in-Some.node c.loop-node.invariant c.in-Some.ensures.steps _ c.passed-behind.ensures c.if-node-eq-ABSTRACTION.true c.if-other-node.false c.requires.2),
    )

pub returns-in_err-words : goal.returns-in_err-words
returns-in_err-words t c =
    c.from_residual.ensures
    ∙ bodies_apart _ _ c.in-Some.node c.loop-node.invariant c.in-Some.ensures.steps _ c.passed-behind.ensures c.if-node-eq-ABSTRACTION.true c.if-other-node.false (sym c.in_err-words.was ∙ c.compare_under.ensures)

pub pass-requires : goal.pass-requires
pass-requires t c = bodies_pass _ _ c.in-Some.node c.loop-node.invariant c.in-Some.ensures.steps _ c.passed-behind.ensures c.if-node-eq-ABSTRACTION.true c.if-other-node.false _ (sym c.in_ok-words.was ∙ c.compare_under.ensures)

pub loop-node-preserved-then-node-eq-ABSTRACTION : goal.loop-node-preserved-then-node-eq-ABSTRACTION
loop-node-preserved-then-node-eq-ABSTRACTION t c = bodies_abreast _ _ c.in-Some.node c.loop-node.invariant c.in-Some.ensures.steps _ c.passed-behind.ensures c.if-node-eq-ABSTRACTION.true c.if-other-node.false _ (sym c.in_ok-words.was ∙ c.compare_under.ensures) _ c.pass.ensures

pub bounds-new-behind-else-node-eq-ABSTRACTION : goal.bounds-new-behind-else-node-eq-ABSTRACTION
bounds-new-behind-else-node-eq-ABSTRACTION t c = let r = abreast_room _ _ c.in-Some.node c.loop-node.invariant c.in-Some.ensures.steps _ c.passed-behind.ensures in omega arith

pub returns-then-new-behind : goal.returns-then-new-behind
returns-then-new-behind t c = count_apart _ _ c.in-Some.node c.loop-node.invariant c.in-Some.ensures.steps _ c.passed-behind.ensures c.if-node-lt-FIRST_SYMBOL.false c.if-new-behind.true

pub loop-node-preserved : goal.loop-node-preserved
loop-node-preserved t c = applied_abreast _ _ c.in-Some.node c.loop-node.invariant c.in-Some.ensures.steps _ c.passed-behind.ensures c.if-node-lt-FIRST_SYMBOL.false c.if-node-eq-ABSTRACTION.false c.if-other-node.false c.if-new-behind.false

pub returns : goal.returns
returns t c = rw c.passed.ensures (abreast_ended _ _ c.loop-node.invariant c.in_default.ensures.steps)
