-- `accept::accept_subject` meets its contract: a refusal of the table is handed on, and an accepted table begins with the term whose metavariables
-- are asked for.
use Rattle.std.proofs.Common.{sym, ap, ◌∙◌, Err}
use Rattle.std.proofs.lemmas.Result.{err_from_is_err_and}
use Rattle.documents.specs.Limits.{plan_limit}
use Rattle.tables.proofs.Accepted.{accepted_table, subject_refused, subject_metavariable, subject_plain}
use Rattle.tables.proofs.accept.accept_subject.Goals as goal

pub returns-in_err-nodes : goal.returns-in_err-nodes
returns-in_err-nodes c = let q = err_from_is_err_and _ c.from_residual.ensures.1 in q.1 ∙ ap Err q.2 ∙ sym (subject_refused c.args.table.now _ (sym c.in_err-nodes.was ∙ c.accept.ensures))

pub plain-requires : goal.plain-requires
plain-requires c = (accepted_table plan_limit c.args.table.now _ (sym c.in_ok-nodes.was ∙ c.accept.ensures)).begins

pub returns-then-not-plain : goal.returns-then-not-plain
returns-then-not-plain c = sym (subject_metavariable (accepted_table plan_limit c.args.table.now _ (sym c.in_ok-nodes.was ∙ c.accept.ensures)) (sym c.plain.ensures ∙ c.if-not-plain.true))

pub returns : goal.returns
returns c = sym (subject_plain (accepted_table plan_limit c.args.table.now _ (sym c.in_ok-nodes.was ∙ c.accept.ensures)) (sym c.plain.ensures ∙ c.if-not-plain.false))
