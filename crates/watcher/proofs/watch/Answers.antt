-- `watcher::watch`: 11 by the check, the subject's refusals by the table check; of the others `follow` has decided.
use Rattle.std.proofs.Common.{ap, ◌∙◌, Err}
use Rattle.std.proofs.lemmas.Result.{err_from_is_err_and}
use Rattle.tables.proofs.Accepted.{subject_there}
use Rattle.checker.proofs.Matching.{verdict_passes, verdict_why}
use Rattle.watcher.proofs.Following.{watch_unchecked, watch_refused}
use Rattle.watcher.proofs.watch.Goals as goal

pub returns-in_err-check : goal.returns-in_err-check
returns-in_err-check c =
    let q = err_from_is_err_and c.from_residual.result c.from_residual.ensures.1 in
    q.1 ∙ ap Err (q.2 ∙ verdict_why c.args.code.now c.check.ensures c.in_err-check.was) ∙ watch_unchecked _ _ _ c.check.ensures c.in_err-check.was

pub returns-in_err-accept_subject : goal.returns-in_err-accept_subject
returns-in_err-accept_subject c =
    let q = err_from_is_err_and c.from_residual-in_err-accept_subject.result c.from_residual-in_err-accept_subject.ensures.1 in
    q.1 ∙ ap Err q.2 ∙ watch_refused _ _ _ (verdict_passes c.args.code.now c.check.ensures c.in_ok-check.was) c.accept_subject.ensures c.in_err-accept_subject.was

pub follow-requires : goal.follow-requires
follow-requires c = (verdict_passes c.args.code.now c.check.ensures c.in_ok-check.was, (subject_there c.args.subject.now c.accept_subject.ensures c.in_ok-accept_subject.was).0)
