use borrow.Author.Rules.{rules}
use Rattle.std.proofs.Common.{ap, ◌∙◌, Err}
use Rattle.std.proofs.lemmas.Result.{err_from_is_err_and}
use Rattle.runner.proofs.Measuring.{refuses, words_fit, stands, writes}
use Rattle.runner.proofs.build.Goals as goal

pub returns-in_err-nodes : goal.returns-in_err-nodes
returns-in_err-nodes c =
    let q = err_from_is_err_and c.from_residual.result c.from_residual.ensures.1 in
    rw (q.1 ∙ ap Err q.2) (refuses c.requires c.args.res.now c.room-most.ensures c.weigh.ensures c.in_err-nodes.was)

pub overflow_mul-nodes : goal.overflow_mul-nodes
overflow_mul-nodes c = let w = words_fit c.requires c.args.res.now c.room-most.ensures c.weigh.ensures c.in_ok-nodes.was in search rules

pub put_before-requires : goal.put_before-requires
put_before-requires c =
    (stands c.requires c.args.res.now c.room-most.ensures c.weigh.ensures c.in_ok-nodes.was, (words_fit c.requires c.args.res.now c.room-most.ensures c.weigh.ensures c.in_ok-nodes.was).1)

pub overflow_cast-result : goal.overflow_cast-result
overflow_cast-result c = let w = words_fit c.requires c.args.res.now c.room-most.ensures c.weigh.ensures c.in_ok-nodes.was in search rules

pub returns : goal.returns
returns c = writes c.requires c.args.res.now c.room-most.ensures c.weigh.ensures c.in_ok-nodes.was c.put_before.ensures
