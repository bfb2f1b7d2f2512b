use Rattle.std.proofs.Common.{ap, ◌∙◌, arith, Err}
use Rattle.std.proofs.lemmas.Result.{err_from_is_err_and}
use Rattle.list_run.proofs.Planning.{subject_few, subject_large, may_turn, turned_refused, last_fits, turned_plan}
use Rattle.list_run.proofs.plans.Goals as goal

pub returns-then-most-subject : goal.returns-then-most-subject
returns-then-most-subject c = subject_large c.requires c.args.res.now c.room-most.ensures c.if-most-subject.true

pub copy-requires : goal.copy-requires
copy-requires c = subject_few c.requires

pub turns-requires : goal.turns-requires
turns-requires c = may_turn c.requires c.args.res.now c.room-most.ensures c.copy.ensures (omega arith) c.copy.auto.table c.sort.ensures

pub returns-in_err-ended : goal.returns-in_err-ended
returns-in_err-ended c =
    let q = err_from_is_err_and c.from_residual.result c.from_residual.ensures.1 in
    rw (q.1 ∙ ap Err q.2) (rw c.in_err-ended.was at (turned_refused c.requires c.args.res.now c.room-most.ensures c.copy.ensures (omega arith) c.copy.auto.table c.sort.ensures c.turns.ensures c.in_err-ended.was))

pub copy-requires-2 : goal.copy-requires-2
copy-requires-2 c = rw c.part.ensures (last_fits c.requires c.args.res.now c.room-most.ensures c.copy.ensures (omega arith) c.copy.auto.table c.sort.ensures c.turns.ensures c.in_ok-ended.was)

pub returns : goal.returns
returns c =
    turned_plan c.requires c.args.res.now c.room-most.ensures c.copy.ensures (omega arith) c.copy.auto.table c.sort.ensures c.turns.ensures c.in_ok-ended.was
    (rw c.part.ensures at c.copy-2.ensures)
