use native.Mathlib.Nat.{sub-zero}
use borrow.Author.Rules.{rules}
use Rattle.std.proofs.Common.{refl, ap, ◌∙◌, arith, Err}
use Rattle.std.proofs.lemmas.Result.{err_from_is_err_and}
use Rattle.matcher.proofs.Opcodes.{top_low, enters}
use Rattle.watcher.proofs.Following.{following_from, following_refused, following_next, following_stopped, counted_from, following_built}
use Rattle.watcher.proofs.follow.Goals as goal

pub loop-done-init : goal.loop-done-init
loop-done-init c = rw (sub-zero c.args.i) (following_from _ _ _ _ c.requires.0 c.requires.1 refl)

pub bounds-code-here : goal.bounds-code-here
bounds-code-here c = let b = c.loop-done.invariant.midway.inside in search rules

pub build_part-requires : goal.build_part-requires
build_part-requires c = counted_from c.loop-done.invariant c.if-code-here-gt-EQI.true c.requires.0

pub overflow_cast-result-then-code-here-gt-EQI : goal.overflow_cast-result-then-code-here-gt-EQI
overflow_cast-result-then-code-here-gt-EQI c = let b = top_low c.loop-done.invariant.midway in search rules

pub returns-then-code-here-gt-EQI : goal.returns-then-code-here-gt-EQI
returns-then-code-here-gt-EQI c = following_built c.loop-done.invariant c.if-code-here-gt-EQI.true c.requires.0 c.requires.1 c.build_part.ensures

pub step-requires : goal.step-requires
step-requires c = (c.loop-done.invariant.midway, omega arith)

pub returns-in_err-next : goal.returns-in_err-next
returns-in_err-next c =
    let f = following_refused c.loop-done.invariant c.step.ensures.steps c.requires.0 c.requires.1 (omega arith) c.in_err-next.was in
    let q = err_from_is_err_and c.from_residual.result c.from_residual.ensures.1 in
    q.1 ∙ ap Err (q.2 ∙ f.0) ∙ f.1

pub enter-made-requires : goal.enter-made-requires
enter-made-requires c = (enters c.loop-done.invariant.midway, let b = top_low c.loop-done.invariant.midway in omega arith)

pub loop-done-preserved : goal.loop-done-preserved
loop-done-preserved c = following_next c.loop-done.invariant c.step.ensures.steps c.in_ok-next.was (omega arith) (omega arith) c.enter-made.ensures.0 c.enter-made.ensures.1

pub overflow_cast-result-4 : goal.overflow_cast-result-4
overflow_cast-result-4 c = let b = top_low c.loop-done.invariant.midway in search rules

pub returns : goal.returns
returns c = following_stopped c.loop-done.invariant c.requires.0 c.requires.1 (omega arith)
