-- `compile` meets document 01's call: a refusal of the sides is the call's, and what follows meets the call itself.
use mathlib.Core.Path.{sym, ◌∙◌}
use Rattle.std.proofs.lemmas.Result.{err_from_is_err_and}
use Rattle.compiler.proofs.Called.{sides_accepted, call_refused}
use Rattle.compiler.proofs.compile.Goals as goal

pub translate-requires : goal.translate-requires
translate-requires c = let s = c.args in sides_accepted s.left.now s.right.now _ (sym c.in_ok-accept_sides.was ∙ c.accept_sides.ensures)

pub returns-in_err-accept_sides : goal.returns-in_err-accept_sides
returns-in_err-accept_sides c =
    let s = c.args in
    let q = err_from_is_err_and c.from_residual.result c.from_residual.ensures.1 in
    rw (q.1, q.2) (call_refused s.left.now s.right.now s.code.now _ (sym c.in_err-accept_sides.was ∙ c.accept_sides.ensures))

pub returns : goal.returns
returns c = c.translate.ensures
