use Rattle.std.proofs.Common.{ap, ◌∙◌, Err}
use Rattle.std.proofs.lemmas.Result.{err_from_is_err_and}
use Rattle.list_run.proofs.Answering.{applied_before}
use Rattle.list_run.proofs.Planning.{accepted_from, unfit}
use Rattle.list_run.proofs.accept.Goals as goal

pub returns-in_err-survey : goal.returns-in_err-survey
returns-in_err-survey c =
    let q = err_from_is_err_and c.from_residual.result c.from_residual.ensures.1 in
    rw (q.1 ∙ ap Err q.2) (unfit c.requires c.survey.ensures.size c.in_err-survey.was c.work-1.given.1)

pub plans-requires : goal.plans-requires
plans-requires c = accepted_from c.requires c.survey.ensures.size c.in_ok-survey.was c.work-1.given.1

pub returns : goal.returns
returns c = applied_before c.work-1.given.1 c.plans.ensures
