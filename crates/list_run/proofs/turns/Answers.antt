use Rattle.std.proofs.Common.{refl, ap, ◌∙◌, arith, Err}
use Rattle.std.proofs.lemmas.Result.{err_from_is_err_and}
use Rattle.list_run.proofs.Turning.{turned_starts, turned_ends, turned_stops, may_rewrite, turned_breaks, turned_on}
use Rattle.list_run.proofs.turns.Goals as goal

pub loop-redex-init : goal.loop-redex-init
loop-redex-init c = turned_starts c.requires.0 refl

pub returns-then-made-rewrites : goal.returns-then-made-rewrites
returns-then-made-rewrites c = turned_stops c.loop-redex.invariant (rw c.part.ensures at c.search.ensures.finds) c.in-Some.is c.if-made-rewrites.true

pub rewrite-requires : goal.rewrite-requires
rewrite-requires c = may_rewrite c.loop-redex.invariant (rw c.part.ensures at c.search.ensures.finds) c.in-Some.is c.requires.0

pub returns-in_err-rewrite : goal.returns-in_err-rewrite
returns-in_err-rewrite c =
    let q = err_from_is_err_and c.from_residual.result c.from_residual.ensures.1 in
    let k = c.loop-redex.invariant.allowed in
    rw (q.1 ∙ ap Err q.2) (turned_breaks c.loop-redex.invariant (rw c.part.ensures at c.search.ensures.finds) c.in-Some.is c.rewrite.ensures c.in_err-rewrite.was (omega (arith, k)))

pub loop-redex-preserved : goal.loop-redex-preserved
loop-redex-preserved c =
    let k = c.loop-redex.invariant.allowed in
    rw c.in-Some.ensures.level
    (turned_on c.loop-redex.invariant (rw c.part.ensures at c.search.ensures.finds) c.in-Some.is c.rewrite.ensures c.in_ok-rewrite.was c.requires.0 (omega (arith, k)))

pub returns : goal.returns
returns c = turned_ends c.loop-redex.invariant (rw c.part.ensures at c.search.ensures.finds) c.in_default.is
