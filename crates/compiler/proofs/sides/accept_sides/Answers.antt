-- `sides::accept_sides` meets its contract: a refused table is handed on, and each question is asked of accepted tables in 01's order, so a refusal is
-- the first one that is due.
use mathlib.Core.Path.{sym, ◌∙◌}
use Rattle.std.proofs.lemmas.Result.{err_from_is_err_and}
use Rattle.documents.specs.Limits.{side_limit}
use Rattle.tables.proofs.Accepted.{accepted_table}
use Rattle.compiler.proofs.Called.{left_refused, right_refused, sides_no_symbol, sides_open, sides_not_simple, sides_simple}
use Rattle.compiler.proofs.sides.accept_sides.Goals as goal

pub returns-in_err-nodes : goal.returns-in_err-nodes
returns-in_err-nodes c =
    let q = err_from_is_err_and c.from_residual.result c.from_residual.ensures.1 in
    rw (q.1, q.2) (sym (left_refused c.args.left.now c.args.right.now _ (sym c.in_err-nodes.was ∙ c.accept.ensures)))

pub returns-in_err-accept : goal.returns-in_err-accept
returns-in_err-accept c =
    let q = err_from_is_err_and c.from_residual-in_err-accept.result c.from_residual-in_err-accept.ensures.1 in
    rw (q.1, q.2) (sym (right_refused (accepted_table side_limit c.args.left.now _ (sym c.in_ok-nodes.was ∙ c.accept.ensures)) c.args.right.now _ (sym c.in_err-accept.was ∙ c.accept-2.ensures)))

pub is_symbol-requires : goal.is_symbol-requires
is_symbol-requires c = (accepted_table side_limit c.args.left.now _ (sym c.in_ok-nodes.was ∙ c.accept.ensures)).begins

pub returns-then-not-is_symbol : goal.returns-then-not-is_symbol
returns-then-not-is_symbol c = sym (sides_no_symbol (accepted_table side_limit c.args.left.now _ (sym c.in_ok-nodes.was ∙ c.accept.ensures)) (accepted_table side_limit c.args.right.now _ (sym c.in_ok-accept.was ∙ c.accept-2.ensures)) (sym c.is_symbol.ensures ∙ c.if-not-is_symbol.true))

pub both_closed-requires : goal.both_closed-requires
both_closed-requires c = ((accepted_table side_limit c.args.left.now _ (sym c.in_ok-nodes.was ∙ c.accept.ensures)).begins, (accepted_table side_limit c.args.right.now _ (sym c.in_ok-accept.was ∙ c.accept-2.ensures)).begins)

pub returns-then-not-both_closed : goal.returns-then-not-both_closed
returns-then-not-both_closed c = sym (sides_open (accepted_table side_limit c.args.left.now _ (sym c.in_ok-nodes.was ∙ c.accept.ensures)) (accepted_table side_limit c.args.right.now _ (sym c.in_ok-accept.was ∙ c.accept-2.ensures)) (sym c.is_symbol.ensures ∙ c.if-not-is_symbol.false) (sym c.both_closed.ensures ∙ c.if-not-both_closed.true))

pub is_simple-requires : goal.is_simple-requires
is_simple-requires c = (accepted_table side_limit c.args.left.now _ (sym c.in_ok-nodes.was ∙ c.accept.ensures)).begins

pub returns-then-not-is_simple : goal.returns-then-not-is_simple
returns-then-not-is_simple c = sym (sides_not_simple (accepted_table side_limit c.args.left.now _ (sym c.in_ok-nodes.was ∙ c.accept.ensures)) (accepted_table side_limit c.args.right.now _ (sym c.in_ok-accept.was ∙ c.accept-2.ensures)) (sym c.is_symbol.ensures ∙ c.if-not-is_symbol.false) (sym c.both_closed.ensures ∙ c.if-not-both_closed.false) (sym c.is_simple.ensures ∙ c.if-not-is_simple.true))

pub returns : goal.returns
returns c = sym (sides_simple (accepted_table side_limit c.args.left.now _ (sym c.in_ok-nodes.was ∙ c.accept.ensures)) (accepted_table side_limit c.args.right.now _ (sym c.in_ok-accept.was ∙ c.accept-2.ensures)) (sym c.is_symbol.ensures ∙ c.if-not-is_symbol.false) (sym c.both_closed.ensures ∙ c.if-not-both_closed.false) (sym c.is_simple.ensures ∙ c.if-not-is_simple.false))
