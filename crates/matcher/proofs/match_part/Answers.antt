use Rattle.documents.specs.declared.Refusal.TheVariants.{MatchFails}
use Rattle.std.proofs.Common.{◌≡◌, ap, ◌∙◌, arith, Err}
use Rattle.std.proofs.lemmas.Result.{err_from_is_err_and}
use Rattle.matcher.proofs.Opcodes.{top_low, enters}
use Rattle.matcher.proofs.Whole.{going_from, going_refused, refused_why, going_later, going_inside, going_next, going_build}
use Rattle.matcher.proofs.match_part.Goals as goal

pub loop-here-init : goal.loop-here-init
loop-here-init c = going_from _ _ _ c.requires.0 c.requires.1 c.requires.2

pub returns-in_err-next : goal.returns-in_err-next
returns-in_err-next c =
    let g = c.loop-here.invariant in
    let w = c.in_err-next.was in
    let q = err_from_is_err_and c.from_residual.result c.from_residual.ensures.1 in
    let e : c.from_residual.result ≡ Err MatchFails = q.1 ∙ ap Err (q.2 ∙ refused_why g c.step.ensures.steps _ w) in
    rw e (going_refused g c.step.ensures.steps _ w)

pub loop-here-smaller : goal.loop-here-smaller
loop-here-smaller c =
    let g = c.loop-here.invariant in
    let w = c.in_ok-next.was in
    let b = going_later g c.step.ensures.steps w in
    let d = going_inside g c.step.ensures.steps w in
    omega arith

pub enter-made-requires : goal.enter-made-requires
enter-made-requires c = (enters c.loop-here.invariant.midway, let b = top_low c.loop-here.invariant.midway in omega arith)

pub loop-here-preserved : goal.loop-here-preserved
loop-here-preserved c = going_next c.loop-here.invariant c.step.ensures.steps c.in_ok-next.was c.enter-made.ensures.0 c.enter-made.ensures.1

pub returns : goal.returns
returns c = going_build c.loop-here.invariant c.loop-here-test.false
