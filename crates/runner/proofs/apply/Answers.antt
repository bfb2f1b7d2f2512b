-- `runner::apply`: 16, 11 by the check, the subject's refusals by the survey; of the others `rewrite` has decided.
use Rattle.std.proofs.Common.{refl, ap, ◌∙◌, arith, Err}
use Rattle.std.proofs.lemmas.Result.{err_from_is_err_and}
use Rattle.checker.proofs.Matching.{verdict_passes}
use Rattle.runner.proofs.Answering.{run_short, run_unchecked, run_refused}
use Rattle.runner.proofs.Applying.{begun_from, applied_before}
use Rattle.runner.proofs.apply.Goals as goal

pub returns-then-work-lt-WORKING_WORDS : goal.returns-then-work-lt-WORKING_WORDS
returns-then-work-lt-WORKING_WORDS c = record { long = refl; says = run_short _ _ _ _ c.if-work-lt-WORKING_WORDS.true }

pub returns-in_err-check : goal.returns-in_err-check
returns-in_err-check c =
    let q = err_from_is_err_and c.from_residual.result c.from_residual.ensures.1 in
    rw (q.1 ∙ ap Err q.2) record { long = refl; says = run_unchecked _ _ _ _ (omega arith) c.check.ensures c.in_err-check.was }

pub returns-in_err-survey : goal.returns-in_err-survey
returns-in_err-survey c =
    let q = err_from_is_err_and c.from_residual-in_err-survey.result c.from_residual-in_err-survey.ensures.1 in
    rw (q.1 ∙ ap Err q.2)
    record { long = c.work-1.given.1; says = run_refused _ _ _ _ (omega arith) (verdict_passes c.args.code.now c.check.ensures c.in_ok-check.was) c.survey.ensures.size c.in_err-survey.was }

pub rewrite-requires : goal.rewrite-requires
rewrite-requires c = begun_from c.args.code.now c.args.subject.now c.args.work.now c.survey.new.places (omega arith) c.work-1.given.1 (verdict_passes c.args.code.now c.check.ensures c.in_ok-check.was) c.survey.ensures c.in_ok-survey.was

pub returns : goal.returns
returns c = applied_before c.work-1.given.1 c.rewrite.ensures
