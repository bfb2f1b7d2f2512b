-- `turns::turn`: IS, ISABST and NEXT by their own laws, the others by what `stays` ensures.
use mathlib.Core.Path.{sym, ◌∙◌}
use native.Mathlib.Omega.{arith}
use Rattle.instructions.proofs.Reading.{fetched_is, fetched_op}
use Rattle.turns.proofs.Turning.{turn_unfetched, turn_is, turn_deep, turn_isabst, turn_next, turn_stays, turn_refused}
use Rattle.std.proofs.lemmas.Result.{err_from_is_err_and}
use borrow.Author.Rules.{rules}
use Rattle.turns.proofs.turn.Goals as goal

pub returns-in_err-next : goal.returns-in_err-next
returns-in_err-next c =
    let p = err_from_is_err_and c.from_residual.result c.from_residual.ensures.1 in
    rw (p.1, p.2) (turn_unfetched _ _ _ _ _ _ c.requires.0 (sym c.fetch.ensures ∙ c.in_err-next.was))

pub bounds-code-at-then-op-eq-IS : goal.bounds-code-at-then-op-eq-IS
bounds-code-at-then-op-eq-IS c = let f = fetched_op _ _ _ _ 0 (sym c.fetch.ensures ∙ c.in_ok-next.was) c.if-op-eq-IS.true in search rules

pub bounds-code-at-then-op-eq-IS-2 : goal.bounds-code-at-then-op-eq-IS-2
bounds-code-at-then-op-eq-IS-2 c = let f = fetched_op _ _ _ _ 0 (sym c.fetch.ensures ∙ c.in_ok-next.was) c.if-op-eq-IS.true in search rules

pub returns-then-op-eq-IS : goal.returns-then-op-eq-IS
returns-then-op-eq-IS c = let f = fetched_op _ _ _ _ 0 (sym c.fetch.ensures ∙ c.in_ok-next.was) c.if-op-eq-IS.true in turn_is _ _ _ _ _ _ c.if-op-eq-IS.true f.0 f.1 c.arguments.ensures

pub returns-then-from-ge-MOST_OPEN : goal.returns-then-from-ge-MOST_OPEN
returns-then-from-ge-MOST_OPEN c = let f = fetched_op _ _ _ _ 1 (sym c.fetch.ensures ∙ c.in_ok-next.was) c.if-op-eq-ISABST.true in turn_deep _ _ _ _ _ c.if-op-eq-ISABST.true f.0 f.1 (rw c.from.ensures at c.if-from-ge-MOST_OPEN.true)

pub returns-then-op-eq-ISABST : goal.returns-then-op-eq-ISABST
returns-then-op-eq-ISABST c = let f = fetched_op _ _ _ _ 1 (sym c.fetch.ensures ∙ c.in_ok-next.was) c.if-op-eq-ISABST.true in turn_isabst _ _ _ _ _ c.if-op-eq-ISABST.true f.0 f.1 (omega arith)

pub returns-then-op-eq-NEXT : goal.returns-then-op-eq-NEXT
returns-then-op-eq-NEXT c = let f = fetched_op _ _ _ _ 2 (sym c.fetch.ensures ∙ c.in_ok-next.was) c.if-op-eq-NEXT.true in turn_next _ _ _ _ _ c.if-op-eq-NEXT.true f.0 f.1

pub stays-requires : goal.stays-requires
stays-requires c = let p = c.requires in let f = fetched_is _ _ _ _ (sym c.fetch.ensures ∙ c.in_ok-next.was) in (p.0, omega arith, p.1, f.0, f.1, rw c.from-2.ensures p.3)

pub returns-in_err-next-2 : goal.returns-in_err-next-2
returns-in_err-next-2 c =
    let p = err_from_is_err_and c.from_residual-in_err-next-2.result c.from_residual-in_err-next-2.ensures.1 in
    let h = rw c.from-2.ensures at c.stays.ensures in
    rw (p.1, p.2) (turn_refused _ _ _ _ _ _ h c.in_err-next-2.was)

pub returns : goal.returns
returns c = let h = rw c.from-2.ensures at c.stays.ensures in turn_stays _ _ _ _ _ _ h c.in_ok-next-2.was
