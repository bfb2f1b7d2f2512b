use mathlib.Core.Path.{◌≡◌, refl, sym, ap, ◌∙◌}
use Prim.Native.Nat.{◌+◌, ◌-◌}
use native.Mathlib.Omega.{arith}
use Rattle.std.specs.Prelude.{Ok}
use Rattle.std.proofs.lemmas.Result.{err_from_is_err_and}
use Rattle.instructions.proofs.Reading.{fetched_is, fetched_op}
use Rattle.turns.proofs.Entered.{found_low, found_none, found_slot}
use Rattle.turns.proofs.Turning.{fetched_refused}
use Rattle.checker.specs.declared.build.Ended.TheVariants.{Done}
use Rattle.documents.specs.declared.Refusal.TheVariants.{DoesNotPass}
use Rattle.checker.proofs.Ending.{entry_operand, entry_operands, ends_done, ends_unfetched, ends_shut, ends_closed, ends_block, going_block, block_inside, body_inside, shut_not, done_not, other_shut, other_done, ends_absent, ends_entry, entry_range, going_entry, ends_plain, going_plain, obey_bare, obey_all, obey_few, obey_long, obey_key, obey_deep, obey_bad, bodied_next}
use Rattle.checker.proofs.Making.{terms_refused}
use Rattle.checker.proofs.Pushing.{push_other, push_many, push_bodies, entry_whole, entry_push, entry_refused}
use borrow.Author.Rules.{rules}
use Rattle.checker.proofs.build.+bodies_build_push.Goals as goal
use Rattle.checker.proofs.build.+bodies_build_push.Goals.{bodies-then-entry-key-via-then-entry-key, bodies-then-entry-key-via-else-entry-key+then-end-at, push-then-code-from-via-then-code-from, push-then-code-from-via-else-code-from+then-count-gt-MOST_PAIRS}

pub bodies-returns-then-end-at-lt2 : goal.bodies-returns-then-end-at-lt2
bodies-returns-then-end-at-lt2 t c = obey_few c.loop.invariant (omega arith) c.if-end-at-lt2.true

pub bodies-returns-then-entry-key : goal.bodies-returns-then-entry-key
bodies-returns-then-entry-key t c = elim c.then-entry-key.branch [
  | bodies-then-entry-key-via-then-entry-key w ↦ obey_key c.loop.invariant (omega arith) c.requires.1 w.if-entry-key.true
  | bodies-then-entry-key-via-else-entry-key+then-end-at w ↦ obey_long c.loop.invariant (omega arith) c.if-end-at-lt2.false w.if-end-at.true
]

pub bodies-returns-in_err-inside : goal.bodies-returns-in_err-inside
bodies-returns-in_err-inside t c =
    let p = err_from_is_err_and c.from_residual.result c.from_residual.ensures.1 in
    let n = c.in_err-inside.ensures.ok_part in
    let v = rw n at c.in_err-inside.ensures.value in
    let e : c.in_err-inside.field-0.0 ≡ DoesNotPass = cc in
    rw (p.1, p.2, e) (obey_deep c.loop.invariant (omega arith) c.requires.1 c.if-end-at.false c.if-end-at-lt2.false (rw n at c.body.ensures))

pub bodies-returns-in_err-build : goal.bodies-returns-in_err-build
bodies-returns-in_err-build t c =
    let p = err_from_is_err_and c.from_residual-in_err-build.result c.from_residual-in_err-build.ensures.1 in
    rw (p.1, p.2, c.build.ensures.refusal _ c.in_err-build.was) (obey_bad c.loop.invariant (omega arith) c.requires.1 c.if-end-at.false c.if-end-at-lt2.false (body_inside _ _ c.args.nesting.blocks (rw c.in_ok-inside.ensures.ok_part at c.body.ensures).1 (rw c.in_ok-inside.ensures.ok_part at c.body.ensures).2 c.build.ensures) (done_not _ c.in_err-build.was))

pub bodies-returns-in_default : goal.bodies-returns-in_default
bodies-returns-in_default t c = obey_bad c.loop.invariant (omega arith) c.requires.1 c.if-end-at.false c.if-end-at-lt2.false (body_inside _ _ c.args.nesting.blocks (rw c.in_ok-inside.ensures.ok_part at c.body.ensures).1 (rw c.in_ok-inside.ensures.ok_part at c.body.ensures).2 c.build.ensures) (other_done _ c.in_ok-build.was c.in_default.not-Done)

pub bodies-loop-preserved : goal.bodies-loop-preserved
bodies-loop-preserved t c =
    let d : c.build.result ≡ Ok Done = c.in_ok-build.was ∙ ap Ok c.in-Done.is in
    let z : c.args.count - (c.loop.counter + 1) ≡ c.args.count - c.loop.counter - 1 = omega arith in
    rw z (bodied_next c.loop.invariant (omega arith) c.requires.1 c.if-end-at.false c.if-end-at-lt2.false (body_inside _ _ c.args.nesting.blocks (rw c.in_ok-inside.ensures.ok_part at c.body.ensures).1 (rw c.in_ok-inside.ensures.ok_part at c.body.ensures).2 c.build.ensures) _ c.if-entry-key.false (rw c.in_ok-inside.ensures.ok_part at c.body.ensures).0 d c.insert-keys.ensures)

pub bodies-returns-then-not-all_below : goal.bodies-returns-then-not-all_below
bodies-returns-then-not-all_below t c = obey_bare c.loop.invariant (omega arith) (sym c.all_below.ensures ∙ c.if-not-all_below.true)

pub bodies-returns : goal.bodies-returns
bodies-returns t c = obey_all c.loop.invariant (omega arith) (sym c.all_below.ensures ∙ c.if-not-all_below.false)

pub build-returns-in_err-next : goal.build-returns-in_err-next
build-returns-in_err-next t c =
    let p = err_from_is_err_and c.from_residual.result c.from_residual.ensures.1 in
    rw (p.1, p.2, fetched_refused _ _ _ _ (sym c.fetch.ensures ∙ c.in_err-next.was)) (ends_unfetched c.loop-at.invariant c.loop-at-test.true c.requires.1 _ (sym c.fetch.ensures ∙ c.in_err-next.was))

pub build-returns-then-op-eq-ADBMAL : goal.build-returns-then-op-eq-ADBMAL
build-returns-then-op-eq-ADBMAL t c = ends_shut c.loop-at.invariant c.loop-at-test.true c.requires.1 (sym c.fetch.ensures ∙ c.in_ok-next.was) _ c.if-op-eq-ADBMAL.true c.one_term.ensures

pub build-returns-in_err-block : goal.build-returns-in_err-block
build-returns-in_err-block t c =
    let p = err_from_is_err_and c.from_residual-in_err-block.result c.from_residual-in_err-block.ensures.1 in
    let n = c.in_err-block.ensures.ok_part in
    let v = rw n at c.in_err-block.ensures.value in
    let e : c.in_err-block.field-0.0 ≡ DoesNotPass = cc in
    rw (p.1, p.2, e) (ends_closed c.loop-at.invariant c.loop-at-test.true c.requires.1 (sym c.fetch.ensures ∙ c.in_ok-next.was) c.if-op-eq-LAMBDA.true (rw n at c.block.ensures))

pub build-build-requires : goal.build-build-requires
build-build-requires t c = let p = c.requires in let g = c.loop-at.invariant.grows in let m = c.decreases in let k = fetched_op _ _ _ _ 9 (sym c.fetch.ensures ∙ c.in_ok-next.was) c.if-op-eq-LAMBDA.true in (omega arith, (k.1, p.1, p.2))

pub build-returns-in_err-after : goal.build-returns-in_err-after
build-returns-in_err-after t c =
    let p = err_from_is_err_and c.from_residual-in_err-after.result c.from_residual-in_err-after.ensures.1 in
    rw (p.1, p.2, c.build.ensures.refusal _ c.in_err-after.was) (ends_block c.loop-at.invariant c.loop-at-test.true c.requires.1 (sym c.fetch.ensures ∙ c.in_ok-next.was) c.if-op-eq-LAMBDA.true (rw c.in_ok-block.ensures.ok_part at c.block.ensures).0 (block_inside _ _ (rw c.in_ok-block.ensures.ok_part at c.block.ensures).1 (rw c.in_ok-block.ensures.ok_part at c.block.ensures).2 c.build.ensures) (shut_not _ c.in_err-after.was))

pub build-returns-in_default : goal.build-returns-in_default
build-returns-in_default t c = ends_block c.loop-at.invariant c.loop-at-test.true c.requires.1 (sym c.fetch.ensures ∙ c.in_ok-next.was) c.if-op-eq-LAMBDA.true (rw c.in_ok-block.ensures.ok_part at c.block.ensures).0 (block_inside _ _ (rw c.in_ok-block.ensures.ok_part at c.block.ensures).1 (rw c.in_ok-block.ensures.ok_part at c.block.ensures).2 c.build.ensures) (other_shut _ c.in_ok-after.was c.in_default.not-Shut)

pub build-loop-at-smaller-then-op-eq-LAMBDA : goal.build-loop-at-smaller-then-op-eq-LAMBDA
build-loop-at-smaller-then-op-eq-LAMBDA t c = let k = fetched_op _ _ _ _ 9 (sym c.fetch.ensures ∙ c.in_ok-next.was) c.if-op-eq-LAMBDA.true in let w = c.build.ensures.placed _ (c.in_ok-after.was ∙ ap Ok c.in-Shut.is) in omega arith

pub build-loop-at-preserved-then-op-eq-LAMBDA : goal.build-loop-at-preserved-then-op-eq-LAMBDA
build-loop-at-preserved-then-op-eq-LAMBDA t c = going_block c.loop-at.invariant c.loop-at-test.true c.requires.1 (sym c.fetch.ensures ∙ c.in_ok-next.was) c.if-op-eq-LAMBDA.true (rw c.in_ok-block.ensures.ok_part at c.block.ensures).0 _ (block_inside _ _ (rw c.in_ok-block.ensures.ok_part at c.block.ensures).1 (rw c.in_ok-block.ensures.ok_part at c.block.ensures).2 c.build.ensures) (c.in_ok-after.was ∙ ap Ok c.in-Shut.is)

pub build-bounds-code-at-then-op-gt-PUSHVAR : goal.build-bounds-code-at-then-op-gt-PUSHVAR
build-bounds-code-at-then-op-gt-PUSHVAR t c = let k = entry_operand c.loop-at.invariant c.loop-at-test.true c.requires.1 (sym c.fetch.ensures ∙ c.in_ok-next.was) c.if-op-gt-PUSHVAR.true in search rules

pub build-returns-in_err-entry : goal.build-returns-in_err-entry
build-returns-in_err-entry t c =
    let p = err_from_is_err_and c.from_residual-in_err-entry.result c.from_residual-in_err-entry.ensures.1 in
    let n = c.in_err-entry.ensures.ok_part in
    let v = rw n at c.in_err-entry.ensures.value in
    let e : c.in_err-entry.field-0.0 ≡ DoesNotPass = cc in
    rw (p.1, p.2, e) (ends_absent c.loop-at.invariant c.loop-at-test.true c.requires.1 (sym c.fetch.ensures ∙ c.in_ok-next.was) c.if-op-gt-PUSHVAR.true (found_none c.args.entries _ (sym c.find-found.ensures ∙ n)))

pub build-push-requires : goal.build-push-requires
build-push-requires t c = let p = c.requires in let g = c.loop-at.invariant.grows in let m = c.decreases in let k = entry_operand c.loop-at.invariant c.loop-at-test.true c.requires.1 (sym c.fetch.ensures ∙ c.in_ok-next.was) c.if-op-gt-PUSHVAR.true in (omega arith, (omega arith, omega arith, entry_operands c.loop-at.invariant c.loop-at-test.true c.requires.1 (sym c.fetch.ensures ∙ c.in_ok-next.was) c.if-op-gt-PUSHVAR.true, p.1, p.2, sym c.find-found.ensures ∙ c.in_ok-entry.ensures.ok_part))

pub build-returns-in_err-at : goal.build-returns-in_err-at
build-returns-in_err-at t c =
    let p = err_from_is_err_and c.from_residual-in_err-at.result c.from_residual-in_err-at.ensures.1 in
    rw (p.1, p.2, entry_refused _ _ _ _ _ _ _ _ (sym c.push.ensures ∙ c.in_err-at.was)) (ends_entry c.loop-at.invariant c.loop-at-test.true c.requires.1 (sym c.fetch.ensures ∙ c.in_ok-next.was) c.if-op-gt-PUSHVAR.true refl (found_slot c.args.entries _ _ (sym c.find-found.ensures ∙ c.in_ok-entry.ensures.ok_part)) c.push.ensures _ c.in_err-at.was)

pub build-loop-at-smaller-then-op-gt-PUSHVAR : goal.build-loop-at-smaller-then-op-gt-PUSHVAR
build-loop-at-smaller-then-op-gt-PUSHVAR t c = let w = entry_range c.loop-at.invariant c.loop-at-test.true c.requires.1 (sym c.fetch.ensures ∙ c.in_ok-next.was) c.if-op-gt-PUSHVAR.true refl (found_slot c.args.entries _ _ (sym c.find-found.ensures ∙ c.in_ok-entry.ensures.ok_part)) c.push.ensures _ c.in_ok-at.was in omega arith

pub build-loop-at-preserved-then-op-gt-PUSHVAR : goal.build-loop-at-preserved-then-op-gt-PUSHVAR
build-loop-at-preserved-then-op-gt-PUSHVAR t c = going_entry c.loop-at.invariant c.loop-at-test.true c.requires.1 (sym c.fetch.ensures ∙ c.in_ok-next.was) c.if-op-gt-PUSHVAR.true refl (found_slot c.args.entries _ _ (sym c.find-found.ensures ∙ c.in_ok-entry.ensures.ok_part)) c.push.ensures _ c.in_ok-at.was

pub build-plain-requires : goal.build-plain-requires
build-plain-requires t c = let p = c.requires in let g = c.loop-at.invariant.grows in let w = c.loop-at.invariant.within in let k = fetched_is _ _ _ _ (sym c.fetch.ensures ∙ c.in_ok-next.was) in (omega arith, omega arith)

pub build-returns-in_err-terms : goal.build-returns-in_err-terms
build-returns-in_err-terms t c =
    let p = err_from_is_err_and c.from_residual-in_err-terms.result c.from_residual-in_err-terms.ensures.1 in
    rw (p.1, p.2, terms_refused _ _ _ _ _ (sym c.plain.ensures ∙ c.in_err-terms.was)) (ends_plain c.loop-at.invariant c.loop-at-test.true c.requires.1 (sym c.fetch.ensures ∙ c.in_ok-next.was) c.if-op-eq-ADBMAL.false c.if-op-eq-LAMBDA.false c.if-op-gt-PUSHVAR.false c.plain.ensures _ c.in_err-terms.was)

pub build-loop-at-smaller : goal.build-loop-at-smaller
build-loop-at-smaller t c = let k = fetched_is _ _ _ _ (sym c.fetch.ensures ∙ c.in_ok-next.was) in omega arith

pub build-loop-at-preserved : goal.build-loop-at-preserved
build-loop-at-preserved t c = going_plain c.loop-at.invariant c.loop-at-test.true c.requires.1 (sym c.fetch.ensures ∙ c.in_ok-next.was) c.if-op-eq-ADBMAL.false c.if-op-eq-LAMBDA.false c.if-op-gt-PUSHVAR.false c.plain.ensures _ c.in_ok-terms.was

pub build-returns : goal.build-returns
build-returns t c = ends_done c.loop-at.invariant _ c.loop-at-test.false c.one_term-2.ensures

pub push-returns-then-code-from-eq-PUSHIMM : goal.push-returns-then-code-from-eq-PUSHIMM
push-returns-then-code-from-eq-PUSHIMM t c = entry_whole _ _ _ _ _ _ _ _ c.if-code-from-eq-PUSHIMM.true c.push_whole.ensures

pub push-overflow_sub-nesting : goal.push-overflow_sub-nesting
push-overflow_sub-nesting t c = let p = found_low c.args.entries _ _ c.requires.5 in search rules

pub push-returns-then-code-from : goal.push-returns-then-code-from
push-returns-then-code-from t c = elim c.then-code-from.branch [
  | push-then-code-from-via-then-code-from w ↦
      let p = found_low c.args.entries _ _ c.requires.5 in
      entry_push _ _ _ _ _ _ _ _ c.if-code-from-eq-PUSHIMM.false (push_other _ _ _ c.args.entries _ _ _ c.requires.5 (λ q. w.if-code-from.true (omega arith)))
  | push-then-code-from-via-else-code-from+then-count-gt-MOST_PAIRS w ↦
      entry_push _ _ _ _ _ _ _ _ c.if-code-from-eq-PUSHIMM.false (push_many _ _ _ c.args.entries _ _ _ c.requires.5 w.if-count-gt-MOST_PAIRS.true)
]

pub push-bodies-requires : goal.push-bodies-requires
push-bodies-requires t c = let p = c.requires in let o = p.2 c.if-code-from-eq-PUSHIMM.false in let m = c.decreases in (omega arith, (omega arith, p.3, p.4, found_low c.args.entries _ _ p.5))

pub push-returns : goal.push-returns
push-returns t c = let p = found_low c.args.entries _ _ c.requires.5 in entry_push _ _ _ _ _ _ _ _ c.if-code-from-eq-PUSHIMM.false (c.bodies.ensures ∙ push_bodies _ _ _ c.args.entries _ _ _ c.requires.5 (omega arith) (omega arith))
