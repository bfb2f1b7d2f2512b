use mathlib.Core.Path.{refl, sym, ◌∙◌}
use native.Mathlib.Omega.{arith}
use Rattle.rule_table.proofs.Laying.{laying_none, laid_all, laid_cut, laid_refused, laid_more, passes_told}
use Rattle.std.proofs.lemmas.Result.{err_from_is_err_and}
use Rattle.rule_table.proofs.lay.Goals as goal

pub loop-rule-init : goal.loop-rule-init
loop-rule-init c =
    rw (c.into_iter-rule-iterator.ensures.into_iter_gives, c.of-rule-items.ensures.0, c.of-rule-items.ensures.1) (refl, laying_none _ _ c.requires.0 c.requires.1)

pub returns-in_err-start : goal.returns-in_err-start
returns-in_err-start c =
    let l = c.loop-rule.invariant in
    let g = rw (l.0, c.in_err-start.was) at c.in-Some.ensures.steps.1 in
    let p = err_from_is_err_and c.from_residual.result c.from_residual.ensures.1 in
    rw (p.1, p.2, g.1.0) (laid_cut l.1 g.0 g.1.2)

pub loop-rule-preserved : goal.loop-rule-preserved
loop-rule-preserved c =
    let l = c.loop-rule.invariant in
    let p = c.in-Some.ensures.steps in
    let g = rw (l.0, c.in_ok-start.was) at p.1 in
    (rw p.0 l.0, rw (g.1.0, g.1.1) (laid_more l.1 g.0 (rw g.1.1 at g.1.2) (passes_told _ (rw (c.code_at.ensures, g.1.0) at (sym c.in_ok-check.was ∙ c.check.ensures)))))

pub returns-in_err-check : goal.returns-in_err-check
returns-in_err-check c =
    let l = c.loop-rule.invariant in
    let g = rw (l.0, c.in_ok-start.was) at c.in-Some.ensures.steps.1 in
    let p = err_from_is_err_and c.from_residual-in_err-check.result c.from_residual-in_err-check.ensures.1 in
    rw (p.1, p.2) (laid_refused l.1 g.0 (rw g.1.1 at g.1.2) _ (cc (c.in_err-check.was, c.check.ensures, c.code_at.ensures, g.1.0)))

pub returns : goal.returns
returns c =
    let l = c.loop-rule.invariant in
    laid_all l.1 (omega (arith, rw l.0 at c.in-None.ensures.steps.1.0))
