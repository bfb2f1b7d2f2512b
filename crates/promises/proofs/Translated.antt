-- Demand 2, from what the crates below show. A run of a rule's code comes to what the machine does, since compiled code passes; the
-- machine fails, or some valuation makes the left side the subject, and then what is left to decide is the result's limits.
use mathlib.Core.Path.{◌≡◌, refl, sym, ap, ◌∙◌}
use mathlib.Core.Logic.{◌⊎◌, inl, inr, ◌↔◌}
use Prim.Native.Nat.{ℕ, ◌/◌, ◌≤◌, ◌<◌, min}
use native.Mathlib.Omega.{arith}
use mathlib.Core.Bool.{Bool, true, false, not}
use mathlib.Core.List.{List}
use lib.Dec.{T, leb}
use lib.ListN.{length}
use borrow.Author.Tests.{le-leb, lt-leb, leb-true, leb-false}
use Rattle.documents.specs.declared.Refusal.TheVariants.{MatchFails, ResultTooLarge, ResultTooDeep, ResultIndexTooLarge}
use Rattle.documents.specs.Limits.{plan_limit, depth_limit, code_limit, index_limit}
use Rattle.documents.specs.Lists.{every}
use Rattle.documents.specs.Terms.{Term}
use Rattle.documents.specs.Tables.{table_of, nodes, depth, indices}
use Rattle.documents.specs.Rules.{Val, Valuation, metasubst, metas, among}
use Rattle.documents.specs.Machine.{fails, run}
use Rattle.documents.specs.Translation.{compile}
use Rattle.documents.specs.Numbers.{answered, refused, unless, rule, rule_in, result_for}
use Rattle.documents.specs.Calls.{at_front, run_answer, run_call, RunAnswer, compile_call, check_call}
use Rattle.documents.proofs.Lists.{never}
use Rattle.documents.proofs.Instructions.{program_in_words}
use Rattle.documents.proofs.Numbers.{Accepted, rule_in_accepted, subject_in_held}
use Rattle.kahrs.proofs.Main.{CrsRule, crs_rule_lem, Yields, theorem_9_metasubst, soundness_metasubst, unique_metasubst}
use Rattle.compiled.proofs.Passes.{compiled_passes}
use Rattle.compiled.proofs.WordCount.{compiled_fits}
use Rattle.promises.specs.Promises.{code_of, Given, Turns, DoneOrLimit, TooLarge, TooDeep, IndexTooLarge, Passed}
use Rattle.promises.proofs.Passed.{passes_check, run_fails_lem, run_ends_lem}

-- ---- What a run of a rule's code comes to

pub code_passes : (left right : List ℕ) (l r : Term) → rule_in left right ≡ answered (rule l r) → check_call (code_of l r) ≡ 0
code_passes left right l r e = passes_check (code_of l r) (compiled_passes left right l r (rule_in_accepted left right l r e))

module _ (left right subject working result : List ℕ) (l r t : Term) (g : Given left right subject working l r t) where
  accepted : Accepted left right l r
  accepted = rule_in_accepted left right l r g.rules

  crs : CrsRule l r
  crs = crs_rule_lem l r accepted.crs accepted.left_held.shallow

  -- compiled code is code that passes
  compiled_passed : Passed (code_of l r) subject (compile l r) t
  compiled_passed = record { checks = code_passes left right l r g.rules; program = program_in_words (compile l r); subjects = g.subjects }

  -- the valuation decides all that the call gives
  run_turned : (v : Val) → Turns v l t → run_call (code_of l r) subject working result ≡ run_answer working result (result_for (length result) (metasubst v r))
  run_turned v (val, e) = (let y = rw e at (theorem_9_metasubst l r crs v val) in run_ends_lem (code_of l r) subject (compile l r) t compiled_passed working result g.room (metasubst v r) y.0 y.1)

-- ---- What the three limits come to

-- the answer of a result whose three tests came to a, b and c
abbrev answer : List ℕ → List ℕ → List ℕ → Bool → Bool → Bool → RunAnswer
answer working result ws a b c =
    run_answer working result (unless a ResultTooLarge (unless b ResultTooDeep (unless c ResultIndexTooLarge (answered ws))))

record Decided (result ws : List ℕ) (x : RunAnswer) (a b c : Bool) : Type 0 where
  either : DoneOrLimit x.number
  large : (x.number ≡ 13) ↔ (a ≡ false)
  deep : (x.number ≡ 14) ↔ ((a ≡ true) × (b ≡ false))
  index : (x.number ≡ 15) ↔ ((a ≡ true) × (b ≡ true) × (c ≡ false))
  wrote : x.number ≡ 0 → (x.result ≡ at_front result ws) × (x.words ≡ length ws)

decided : (working result ws : List ℕ) (a b c : Bool) → Decided result ws (answer working result ws a b c) a b c
decided working result ws false b c = record {
  either = inr (inl refl);
  large = (λ e. refl, λ e. refl);
  deep = (λ e. absurd (omega arith), λ e. never (cc));
  index = (λ e. absurd (omega arith), λ e. never (cc));
  wrote = λ e. absurd (omega arith);
}
decided working result ws true false c = record {
  either = inr (inr (inl refl));
  large = (λ e. absurd (omega arith), λ e. never (cc));
  deep = (λ e. (refl, refl), λ e. refl);
  index = (λ e. absurd (omega arith), λ e. never (cc));
  wrote = λ e. absurd (omega arith);
}
decided working result ws true true false = record {
  either = inr (inr (inr refl));
  large = (λ e. absurd (omega arith), λ e. never (cc));
  deep = (λ e. absurd (omega arith), λ e. never (cc));
  index = (λ e. (refl, refl, refl), λ e. refl);
  wrote = λ e. absurd (omega arith);
}
decided working result ws true true true = record {
  either = inl refl;
  large = (λ e. absurd (omega arith), λ e. never (cc));
  deep = (λ e. absurd (omega arith), λ e. never (cc));
  index = (λ e. absurd (omega arith), λ e. never (cc));
  wrote = λ e. (refl, refl);
}

-- a test and what it tests
over : (m n : ℕ) → (leb n m ≡ false) ↔ (m < n)
over m n = (leb-false n m, λ h. lt-leb n m h)

within : (m n : ℕ) → (leb n m ≡ true) ↔ ((m < n) → ⊥)
within m n = (λ e h. let k = leb-true n m e in omega arith, λ h. le-leb n m (omega arith))

index_test : (q : Bool) → (q ≡ false) ↔ T (not q)
index_test true = (λ e. never (cc), λ h. absurd h)
index_test false = (λ e. tt, λ h. refl)

-- ---- The sentences

pub code_fits : (left right : List ℕ) (l r : Term) → rule_in left right ≡ answered (rule l r) → length (code_of l r) ≤ code_limit
code_fits left right l r e = compiled_fits left right l r (rule_in_accepted left right l r e)

pub compiles : (left right code : List ℕ) (l r : Term) → rule_in left right ≡ answered (rule l r) → length (code_of l r) ≤ length code
    → compile_call left right code ≡ record { number = 0; words = length (code_of l r); code = at_front code (code_of l r) }
unfolding compile_call
compiles left right code l r e h = rw (e, le-leb (length (code_of l r)) (length code) h)

module _ (left right subject working result : List ℕ) (l r t : Term) (g : Given left right subject working l r t) where
  abbrev ran : RunAnswer
  ran = run_call (code_of l r) subject working result

  -- the three tests of the instance of the right side
  abbrev size : Val → Bool
  size v = leb (nodes (metasubst v r)) (min plan_limit (length result / 2))

  abbrev deepness : Val → Bool
  deepness v = leb (depth (metasubst v r)) depth_limit

  abbrev indexes : Val → Bool
  indexes v = every (λ x. leb x index_limit) (indices (metasubst v r))

  ran_decided : (v : Val) → Turns v l t → Decided result (table_of (metasubst v r)) ran (size v) (deepness v) (indexes v)
  unfolding result_for
  ran_decided v h = rw (run_turned left right subject working result l r t g v h) (decided working result (table_of (metasubst v r)) (size v) (deepness v) (indexes v))

  no_match_lem : ran ≡ run_answer working result (refused MatchFails) → DoneOrLimit ran.number → ⊥
  no_match_lem e (inl n) = let k = ap (λ (a : RunAnswer). a.number) e in omega arith
  no_match_lem e (inr (inl n)) = let k = ap (λ (a : RunAnswer). a.number) e in omega arith
  no_match_lem e (inr (inr (inl n))) = let k = ap (λ (a : RunAnswer). a.number) e in omega arith
  no_match_lem e (inr (inr (inr n))) = let k = ap (λ (a : RunAnswer). a.number) e in omega arith

  pub ran_matches : DoneOrLimit ran.number ↔ ((v : Val) × Turns v l t)
  ran_matches = (λ d. go (soundness_metasubst l r rule' t (subject_in_held subject t g.subjects).1) d, λ (v, h). (ran_decided v h).either)
    where
      rule' : CrsRule l r
      rule' = crs left right subject working result l r t g

      go : (run (compile l r) t ≡ fails) ⊎ ((v : Val) × Valuation v × (metasubst v l ≡ t) × Yields (compile l r) t (metasubst v r)) → DoneOrLimit ran.number
          → (v : Val) × Turns v l t
      go (inl e) d = absurd (no_match_lem (run_fails_lem (code_of l r) subject (compile l r) t (compiled_passed left right subject working result l r t g) working result g.room e) d)
      go (inr (v, val, e, y)) d = (v, (val, e))

  pub ran_limits : (v : Val) → Turns v l t
      → ((ran.number ≡ 13) ↔ TooLarge (length result) (metasubst v r))
      × ((ran.number ≡ 14) ↔ ((TooLarge (length result) (metasubst v r) → ⊥) × TooDeep (metasubst v r)))
      × ((ran.number ≡ 15) ↔ ((TooLarge (length result) (metasubst v r) → ⊥) × (TooDeep (metasubst v r) → ⊥) × IndexTooLarge (metasubst v r)))
  ran_limits v h =
      let d = ran_decided v h in
      let large = over (min plan_limit (length result / 2)) (nodes (metasubst v r)) in
      let small = within (min plan_limit (length result / 2)) (nodes (metasubst v r)) in
      let deep = over depth_limit (depth (metasubst v r)) in
      let shallow = within depth_limit (depth (metasubst v r)) in
      let high = index_test (indexes v) in (
        (λ e. large.0 (d.large.0 e), λ k. d.large.1 (large.1 k)),
        (λ e. let x = d.deep.0 e in (small.0 x.0, deep.0 x.1), λ (a, b). d.deep.1 (small.1 a, deep.1 b)),
        (
          λ e. let x = d.index.0 e in (small.0 x.0, shallow.0 x.1, high.0 x.2),
          λ (a, b, c). d.index.1 (small.1 a, shallow.1 b, high.1 c),
        ),
      )

  pub ran_leaves : (v : Val) → Turns v l t → ran.number ≡ 0 → (ran.result ≡ at_front result (table_of (metasubst v r))) × (ran.words ≡ length (table_of (metasubst v r)))
  ran_leaves v h = (ran_decided v h).wrote

pub only_one_lem : (left right : List ℕ) (l r t : Term) → rule_in left right ≡ answered (rule l r) → (v w : Val) → Turns v l t → Turns w l t
    → (z k : ℕ) → T (among (metas l) (z, k)) → v z k ≡ w z k
only_one_lem left right l r t e v w (a, p) (b, q) =
    let i = rule_in_accepted left right l r e in unique_metasubst l r (crs_rule_lem l r i.crs i.left_held.shallow) v w a b (p ∙ sym q)
