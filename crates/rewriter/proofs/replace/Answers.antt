-- `rewriter::replace`: a refusal of the new term is one of the next plan; else the plan's words are those that were exchanged.
use borrow.Author.Rules.{rules}
use Rattle.std.proofs.Common.{ap, ◌∙◌, arith, Err}
use Rattle.std.proofs.lemmas.Result.{err_from_is_err_and}
use Rattle.rewriter.proofs.NextPlan.{refuses, next_fits, exchanging, replaces}
use Rattle.rewriter.proofs.replace.Goals as goal

pub returns-in_err-weighed-clause-replaces : goal.returns-in_err-weighed-clause-replaces
returns-in_err-weighed-clause-replaces c =
    let q = err_from_is_err_and c.from_residual.result c.from_residual.ensures.1 in
    rw (q.1 ∙ ap Err q.2) (refuses c.requires c.weigh_redex.ensures c.in_err-weighed.was)

pub exchange-requires : goal.exchange-requires
exchange-requires c = exchanging c.requires c.weigh_redex.ensures c.in_ok-weighed.was

pub overflow_sub-plan : goal.overflow_sub-plan
overflow_sub-plan c = let h = next_fits c.requires c.weigh_redex.ensures c.in_ok-weighed.was in let e = c.exchange.ensures.words in search rules

pub overflow_mul-plan : goal.overflow_mul-plan
overflow_mul-plan c = let h = next_fits c.requires c.weigh_redex.ensures c.in_ok-weighed.was in search rules

pub overflow_add-plan : goal.overflow_add-plan
overflow_add-plan c = let h = next_fits c.requires c.weigh_redex.ensures c.in_ok-weighed.was in let e = c.exchange.ensures.words in search rules

pub invariant_of-plan : goal.invariant_of-plan
invariant_of-plan c = let h = next_fits c.requires c.weigh_redex.ensures c.in_ok-weighed.was in let e = c.exchange.ensures.words in omega arith

pub returns-clause-replaces : goal.returns-clause-replaces
returns-clause-replaces c = rw c.exchange.ensures.words (replaces c.requires c.weigh_redex.ensures c.in_ok-weighed.was c.exchange.ensures.tables)
