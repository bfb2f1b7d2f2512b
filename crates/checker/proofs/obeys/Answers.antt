use mathlib.Core.Path.{refl}
use Prim.Native.Nat.{◌+◌, ◌-◌}
use native.Mathlib.Omega.{arith}
use Rattle.checker.proofs.Current.{put_replaced}
use Rattle.checker.proofs.Matching.{matched_from, matched_ended, matched_builds, matched_bare, top_low, matched_refused, ranged, listing, matched_next, room, matched_set}
use Rattle.std.proofs.lemmas.Result.{err_from_is_err_and}
use borrow.Author.Rules.{rules}
use Rattle.checker.proofs.obeys.Goals as goal

pub loop-at-init : goal.loop-at-init
loop-at-init c = matched_from _ _ c.new-entries.ensures

pub builds-requires : goal.builds-requires
builds-requires c = (c.loop-at-test.true, c.requires, c.if-op-gt-EQI.true)

pub returns-then-op-gt-EQI : goal.returns-then-op-gt-EQI
returns-then-op-gt-EQI c = matched_builds c.loop-at.invariant c.loop-at-test.true c.if-op-gt-EQI.true c.builds.ensures

pub returns-then-terms-eq0 : goal.returns-then-terms-eq0
returns-then-terms-eq0 c = matched_bare c.loop-at.invariant c.loop-at-test.true c.if-op-gt-EQI.false c.if-terms-eq0.true

pub turn-requires : goal.turn-requires
turn-requires c = let v = c.loop-at.invariant.many in (c.loop-at-test.true, omega arith, omega arith, top_low c.loop-at.invariant c.loop-at-test.true c.if-op-gt-EQI.false c.if-terms-eq0.false refl)

pub returns-in_err-turned : goal.returns-in_err-turned
returns-in_err-turned c =
    let p = err_from_is_err_and c.from_residual.result c.from_residual.ensures.1 in
    rw (p.1, p.2) (matched_refused c.loop-at.invariant c.loop-at-test.true c.if-op-gt-EQI.false c.if-terms-eq0.false refl _ c.turn.ensures c.in_err-turned.was)

pub overflow_add-terms : goal.overflow_add-terms
overflow_add-terms c = let g = ranged c.loop-at.invariant c.loop-at-test.true c.if-op-gt-EQI.false c.if-terms-eq0.false refl c.turn.ensures c.in_ok-turned.was in search rules

pub slice_bounds-current-end : goal.slice_bounds-current-end
slice_bounds-current-end c = let g = ranged c.loop-at.invariant c.loop-at-test.true c.if-op-gt-EQI.false c.if-terms-eq0.false refl c.turn.ensures c.in_ok-turned.was in let v = c.loop-at.invariant.whole_current in search rules

pub enter-requires : goal.enter-requires
enter-requires c = (room c.loop-at.invariant c.loop-at-test.true c.if-op-gt-EQI.false c.if-terms-eq0.false refl c.turn.ensures c.in_ok-turned.was c.if-op-eq-SET.true, top_low c.loop-at.invariant c.loop-at-test.true c.if-op-gt-EQI.false c.if-terms-eq0.false refl)

pub loop-at-smaller-then-op-eq-SET : goal.loop-at-smaller-then-op-eq-SET
loop-at-smaller-then-op-eq-SET c = let g = ranged c.loop-at.invariant c.loop-at-test.true c.if-op-gt-EQI.false c.if-terms-eq0.false refl c.turn.ensures c.in_ok-turned.was in search rules

pub loop-at-preserved-then-op-eq-SET : goal.loop-at-preserved-then-op-eq-SET
loop-at-preserved-then-op-eq-SET c = let g = ranged c.loop-at.invariant c.loop-at-test.true c.if-op-gt-EQI.false c.if-terms-eq0.false refl c.turn.ensures c.in_ok-turned.was in let v = c.loop-at.invariant.whole_current in let n = c.in_ok-turned.turned.terms in matched_set c.loop-at.invariant c.loop-at-test.true c.if-op-gt-EQI.false c.if-terms-eq0.false refl c.turn.ensures c.in_ok-turned.was (put_replaced c.loop-at.current _ (c.loop-at.terms - 1) n (c.loop-at.terms - 1 + n - (c.loop-at.terms - 1)) _ (omega arith) (omega arith) (c.fill.ensures.after (λ y e. e))) c.if-op-eq-SET.true c.enter.ensures

pub guard_of-guard-requires : goal.guard_of-guard-requires
guard_of-guard-requires c = (c.loop-at-test.true, listing c.loop-at.invariant c.loop-at-test.true c.if-op-gt-EQI.false c.if-terms-eq0.false refl c.turn.ensures c.in_ok-turned.was)

pub loop-at-smaller : goal.loop-at-smaller
loop-at-smaller c = let g = ranged c.loop-at.invariant c.loop-at-test.true c.if-op-gt-EQI.false c.if-terms-eq0.false refl c.turn.ensures c.in_ok-turned.was in search rules

pub loop-at-preserved : goal.loop-at-preserved
loop-at-preserved c = let g = ranged c.loop-at.invariant c.loop-at-test.true c.if-op-gt-EQI.false c.if-terms-eq0.false refl c.turn.ensures c.in_ok-turned.was in let v = c.loop-at.invariant.whole_current in let n = c.in_ok-turned.turned.terms in matched_next c.loop-at.invariant c.loop-at-test.true c.if-op-gt-EQI.false c.if-terms-eq0.false refl c.turn.ensures c.in_ok-turned.was (put_replaced c.loop-at.current _ (c.loop-at.terms - 1) n (c.loop-at.terms - 1 + n - (c.loop-at.terms - 1)) _ (omega arith) (omega arith) (c.fill.ensures.after (λ y e. e))) _ c.if-op-eq-SET.false c.guard_of-guard.ensures

pub returns : goal.returns
returns c = matched_ended c.loop-at.invariant c.loop-at-test.false
