-- `turns::eqi`: the entry that was found is the slot of 01's state, its depth at most 63; then each test in the code's order. The guard's set and the
-- first indices are all below b exactly where they cover it.
use mathlib.Core.Path.{◌≡◌, sym, ◌∙◌}
use native.Mathlib.Omega.{arith}
use Rattle.turns.proofs.Turning.{eqi_missing, eqi_other, eqi_past, eqi_many, eqi_high, eqi_bare, eqi_there}
use Rattle.turns.proofs.Entered.{found_low}
use Rattle.std.proofs.lemmas.Result.{err_from_is_err_and}
use Rattle.documents.specs.declared.Refusal.TheVariants.{DoesNotPass}
use borrow.Author.Rules.{rules}
use Rattle.turns.proofs.eqi.Goals as goal
use Rattle.turns.proofs.eqi.Goals.{then-code-at-via-then-code-at, then-code-at-via-else-code-at+then-code-at-gt-MOST_PAIRS}

pub returns-in_err-b : goal.returns-in_err-b
returns-in_err-b c =
    let p = err_from_is_err_and c.from_residual.result c.from_residual.ensures.1 in
    let n = c.in_err-b.ensures.ok_part in
    let v = rw n at c.in_err-b.ensures.value in
    let e : c.in_err-b.field-0.0 ≡ DoesNotPass = cc in
    rw (p.1, p.2, e) (eqi_missing _ _ _ c.args.entries.now (sym c.find-found.ensures ∙ n))

pub overflow_sub-d : goal.overflow_sub-d
overflow_sub-d c = let l = found_low c.args.entries.now _ _ (sym c.find-found.ensures ∙ c.in_ok-b.ensures.ok_part) in search rules

pub returns-then-code-at : goal.returns-then-code-at
returns-then-code-at c =
    let f = sym c.find-found.ensures ∙ c.in_ok-b.ensures.ok_part in
    let l = found_low c.args.entries.now _ _ f in
    elim c.then-code-at.branch [
      | then-code-at-via-then-code-at w ↦ eqi_other _ _ _ c.args.entries.now _ _ f (λ q. w.if-code-at.true (omega arith))
      | then-code-at-via-else-code-at+then-code-at-gt-MOST_PAIRS w ↦ eqi_many _ _ _ c.args.entries.now _ _ f (omega arith) w.if-code-at-gt-MOST_PAIRS.true
    ]

pub returns-then-code-end : goal.returns-then-code-end
returns-then-code-end c = let l = found_low c.args.entries.now _ _ (sym c.find-found.ensures ∙ c.in_ok-b.ensures.ok_part) in eqi_past _ _ _ c.args.entries.now _ _ (sym c.find-found.ensures ∙ c.in_ok-b.ensures.ok_part) (omega arith) c.if-code-end.true

pub firsts-requires : goal.firsts-requires
firsts-requires c = found_low c.args.entries.now _ _ (sym c.find-found.ensures ∙ c.in_ok-b.ensures.ok_part)

pub returns-in_err-set : goal.returns-in_err-set
returns-in_err-set c =
    let f = sym c.find-found.ensures ∙ c.in_ok-b.ensures.ok_part in
    let l = found_low c.args.entries.now _ _ f in
    let p = err_from_is_err_and c.from_residual-in_err-set.result c.from_residual-in_err-set.ensures.1 in
    let n = c.in_err-set.ensures.ok_part in
    let v = rw n at c.in_err-set.ensures.value in
    let e : c.in_err-set.field-0.0 ≡ DoesNotPass = cc in
    rw (p.1, p.2, e) (eqi_high _ _ _ c.args.entries.now _ _ f (omega arith) _ (omega arith) (omega arith) c.firsts.ensures n)

pub all_below-requires : goal.all_below-requires
all_below-requires c = found_low c.args.entries.now _ _ (sym c.find-found.ensures ∙ c.in_ok-b.ensures.ok_part)

pub returns-then-not-all_below : goal.returns-then-not-all_below
returns-then-not-all_below c = let l = found_low c.args.entries.now _ _ (sym c.find-found.ensures ∙ c.in_ok-b.ensures.ok_part) in eqi_bare _ _ _ c.args.entries.now _ _ (sym c.find-found.ensures ∙ c.in_ok-b.ensures.ok_part) (omega arith) _ (omega arith) (omega arith) c.firsts.ensures _ c.in_ok-set.ensures.ok_part (sym c.all_below.ensures ∙ c.if-not-all_below.true)

pub returns : goal.returns
returns c = let l = found_low c.args.entries.now _ _ (sym c.find-found.ensures ∙ c.in_ok-b.ensures.ok_part) in eqi_there _ _ _ c.args.entries.now _ _ (sym c.find-found.ensures ∙ c.in_ok-b.ensures.ok_part) (omega arith) _ (omega arith) (omega arith) c.firsts.ensures _ c.in_ok-set.ensures.ok_part (sym c.all_below.ensures ∙ c.if-not-all_below.false)
