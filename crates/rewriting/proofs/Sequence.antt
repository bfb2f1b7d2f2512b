-- The sequence of plans, and what the call comes to, one rewrite at a time: the loop that the code is. `Running` is its invariant: what the whole comes
-- to is what is left comes to, with the rewrites made so far added.
use mathlib.Core.Path.{◌≡◌, refl, sym, ap, ◌∙◌}
use Prim.Native.Nat.{ℕ, zero, suc, ◌+◌, ◌-◌, ◌≤◌, ◌<◌}
use native.Mathlib.Omega.{arith}
use mathlib.Core.Bool.{true}
use mathlib.Core.Option.{Option, none, some, some-injective}
use mathlib.Core.List.{List, [], ◌∷◌}
use lib.ListN.{length, get_elem?}
use Rattle.documents.specs.declared.Refusal.{Refusal}
use Rattle.documents.specs.Terms.{Term}
use Rattle.documents.specs.Tables.{table_of}
use Rattle.documents.specs.Instructions.{Program}
use Rattle.documents.specs.Numbers.{Answer, answered, refused, with, result_for}
use Rattle.documents.proofs.Lists.{never}
use Rattle.rewriting.specs.Rewrites.{is_none, once, from_next, plans, last_of, last_plan}
use Rattle.rewriting.specs.ListCall.{plans_for, Rewritten, rewritten, rewrites}

-- so many rewrites more
abbrev pub more : ℕ → Answer Rewritten → Answer Rewritten
more k (answered (rewritten ws n q)) = answered (rewritten ws (k + n) q)
more k (refused r) = refused r

more_zero : (a : Answer Rewritten) → more 0 a ≡ a
more_zero (answered (rewritten ws n q)) = ap (λ (m : ℕ). answered (rewritten ws m q)) (omega arith)
more_zero (refused r) = refl

more_more : (j k : ℕ) (a : Answer Rewritten) → more j (more k a) ≡ more (j + k) a
more_more j k (answered (rewritten ws n q)) = ap (λ (m : ℕ). answered (rewritten ws m q)) (omega arith)
more_more j k (refused r) = refl

module _ (rules : List Program) where
  -- ---- The sequence

  -- the plans behind the first
  abbrev pub behind : ℕ → Term → List Term
  behind zero t = []
  behind (suc n) t = from_next (once rules t) (plans rules n)

  pub plans_behind : (n : ℕ) (t : Term) → plans rules n t ≡ t ∷ behind n t
  plans_behind zero t = refl
  plans_behind (suc n) t = refl

  pub plans_none : (n : ℕ) (t : Term) → once rules t ≡ none → plans rules n t ≡ t ∷ []
  plans_none zero t e = refl
  plans_none (suc n) t e = rw e

  pub plans_some : (n : ℕ) (t u : Term) → once rules t ≡ some u → plans rules (suc n) t ≡ t ∷ plans rules n u
  plans_some n t u e = rw e

  pub last_none : (n : ℕ) (t : Term) → once rules t ≡ none → last_plan rules n t ≡ t
  last_none n t e = ap (last_of t) (plans_none n t e)

  pub last_some : (n : ℕ) (t u : Term) → once rules t ≡ some u → last_plan rules (suc n) t ≡ last_plan rules n u
  last_some n t u e = ap (last_of t) (plans_some n t u e ∙ ap (λ (l : List Term). t ∷ l) (plans_behind n u)) ∙ sym (ap (last_of u) (plans_behind n u))

  -- at least the subject, and at most one plan more than the number
  pub plans_count : (n : ℕ) (t : Term) → (1 ≤ length (plans rules n t)) × (length (plans rules n t) ≤ n + 1)
  plans_count zero t = (omega arith, omega arith)
  plans_count (suc n) t = go (once rules t) (plans_count n)
    where
      go : (o : Option Term) → ((u : Term) → (1 ≤ length (plans rules n u)) × (length (plans rules n u) ≤ n + 1))
          → (1 ≤ suc (length (from_next o (plans rules n)))) × (suc (length (from_next o (plans rules n))) ≤ suc n + 1)
      go none h = (omega arith, omega arith)
      go (some u) h = let k = h u in (omega arith, omega (arith, k.1))

  -- where fewer rewrites were made than allowed, no rule matches the last plan
  pub stopped_early : (n : ℕ) (t : Term) → length (plans rules n t) < n + 1 → once rules (last_plan rules n t) ≡ none
  stopped_early zero t h = absurd (omega arith)
  stopped_early (suc n) t h = go (once rules t) refl (stopped_early n)
    where
      go : (o : Option Term) → once rules t ≡ o → ((u : Term) → length (plans rules n u) < n + 1 → once rules (last_plan rules n u) ≡ none)
          → once rules (last_plan rules (suc n) t) ≡ none
      go none e k = ap (once rules) (last_none (suc n) t e) ∙ e
      go (some u) e k = ap (once rules) (last_some n t u e) ∙ k u (let l = ap length (plans_some n t u e) in omega arith)

  -- each plan but the first is the one before it, rewritten once
  pub plans_once : (n : ℕ) (t : Term) (i : ℕ) (a b : Term) → get_elem? (plans rules n t) i ≡ some a → get_elem? (plans rules n t) (suc i) ≡ some b
      → once rules a ≡ some b
  plans_once zero t i a b e f = never (cc)
  plans_once (suc n) t i a b e f = go (once rules t) refl (plans_once n) i e f
    where
      go : (o : Option Term) → once rules t ≡ o
          → ((u : Term) (i : ℕ) (a b : Term) → get_elem? (plans rules n u) i ≡ some a → get_elem? (plans rules n u) (suc i) ≡ some b → once rules a ≡ some b)
          → (i : ℕ) → get_elem? (t ∷ from_next o (plans rules n)) i ≡ some a → get_elem? (from_next o (plans rules n)) i ≡ some b → once rules a ≡ some b
      go none q k i e f = never (cc)
      go (some u) q k zero e f =
          let x : a ≡ t = cc in
          let y : get_elem? (plans rules n u) 0 ≡ some u = ap (λ (l : List Term). get_elem? l 0) (plans_behind n u) in
          let z : b ≡ u = some-injective b u (sym f ∙ y) in
          ap (once rules) x ∙ q ∙ ap some (sym z)
      go (some u) q k (suc i) e f = k u i a b e f

  -- what a rewrite keeps holds of all plans, where it holds of the subject
  pub plans_keep : (P : Term → Type 0) → ((a b : Term) → P a → once rules a ≡ some b → P b) → (n : ℕ) (t : Term) → P t
      → (i : ℕ) (a : Term) → get_elem? (plans rules n t) i ≡ some a → P a
  plans_keep P h zero t p zero a e = let q : a ≡ t = cc in rw q p
  plans_keep P h zero t p (suc i) a e = never (cc)
  plans_keep P h (suc n) t p zero a e = let q : a ≡ t = cc in rw q p
  plans_keep P h (suc n) t p (suc i) a e = go (once rules t) refl (plans_keep P h n) e
    where
      go : (o : Option Term) → once rules t ≡ o → ((u : Term) → P u → (i : ℕ) (a : Term) → get_elem? (plans rules n u) i ≡ some a → P a)
          → get_elem? (from_next o (plans rules n)) i ≡ some a → P a
      go none q k e = never (cc)
      go (some u) q k e = k u (h t u p q) i a e

  pub last_keeps : (P : Term → Type 0) → ((a b : Term) → P a → once rules a ≡ some b → P b) → (n : ℕ) (t : Term) → P t → P (last_plan rules n t)
  last_keeps P h zero t p = p
  last_keeps P h (suc n) t p = go (once rules t) refl (last_keeps P h n)
    where
      go : (o : Option Term) → once rules t ≡ o → ((u : Term) → P u → P (last_plan rules n u)) → P (last_plan rules (suc n) t)
      go none q k = rw (last_none (suc n) t q) p
      go (some u) q k = rw (last_some n t u q) (k u (h t u p q))

  -- ---- One rewrite at a time

  module _ (room : ℕ) where
    pub rewrites_zero : (t : Term) → rewrites rules t 0 room ≡ with (result_for room t) (λ ws. answered (rewritten ws 0 (is_none (once rules t))))
    unfolding rewrites
    rewrites_zero t = refl

    pub rewrites_none : (n : ℕ) (t : Term) → once rules t ≡ none → rewrites rules t n room ≡ with (result_for room t) (λ ws. answered (rewritten ws 0 true))
    unfolding rewrites
    rewrites_none n t e = rw (plans_none n t e, e)

    pub rewrites_some : (n : ℕ) (t u : Term) → once rules t ≡ some u
        → rewrites rules t (suc n) room ≡ with (result_for room t) (λ ws. more 1 (rewrites rules u n room))
    unfolding rewrites
    rewrites_some n t u e = rw (e, plans_behind n u) (go (result_for room t) (plans_for room (u ∷ behind n u)))
      where
        go : (a b : Answer (List ℕ))
            → with (with a (λ ws. b)) (λ ws. answered (rewritten ws (suc (suc (length (behind n u))) - 1) (is_none (once rules (last_of u (behind n u))))))
            ≡ with a (λ ws. more 1 (with b (λ ws. answered (rewritten ws (suc (length (behind n u)) - 1) (is_none (once rules (last_of u (behind n u))))))))
        go (answered vs) (answered bs) =
            ap (λ (m : ℕ). answered (rewritten bs m (is_none (once rules (last_of u (behind n u))))))
            (let z : suc (suc (length (behind n u))) - 1 ≡ 1 + (suc (length (behind n u)) - 1) = omega arith in z)
        go (answered vs) (refused r) = refl
        go (refused r) b = refl

    -- the plan itself breaks a limit
    pub rewrites_breaks : (n : ℕ) (t : Term) (r : Refusal) → result_for room t ≡ refused r → rewrites rules t n room ≡ refused r
    rewrites_breaks zero t r e = rewrites_zero t ∙ ap (λ (a : Answer (List ℕ)). with a (λ ws. answered (rewritten ws 0 (is_none (once rules t))))) e
    rewrites_breaks (suc n) t r e = go (once rules t) refl
      where
        go : (o : Option Term) → once rules t ≡ o → rewrites rules t (suc n) room ≡ refused r
        go none q = rewrites_none (suc n) t q ∙ ap (λ (a : Answer (List ℕ)). with a (λ ws. answered (rewritten ws 0 true))) e
        go (some u) q = rewrites_some n t u q ∙ ap (λ (a : Answer (List ℕ)). with a (λ ws. more 1 (rewrites rules u n room))) e

-- ---- The loop

module _ (rules : List Program) (subject : Term) (number room : ℕ) where
  -- the plan t after `made` rewrites: it keeps the limits
  pub record Running (t : Term) (made : ℕ) : Type 0 where
    pub allowed : made ≤ number
    pub keeps : result_for room t ≡ answered (table_of t)
    pub same : rewrites rules subject number room ≡ more made (rewrites rules t (number - made) room)

  pub running_starts : result_for room subject ≡ answered (table_of subject) → Running subject 0
  running_starts e = record {
    allowed = omega arith;
    keeps = e;
    same = sym (more_zero (rewrites rules subject (number - 0) room) ∙ ap (λ (n : ℕ). rewrites rules subject n room) (omega arith));
  }

  module _ (t : Term) (made : ℕ) (h : Running t made) where
    -- no rule matches any more
    pub running_ends : once rules t ≡ none → rewrites rules subject number room ≡ answered (rewritten (table_of t) made true)
    running_ends e =
        h.same
        ∙ ap (more made) (rewrites_none rules room (number - made) t e ∙ ap (λ (a : Answer (List ℕ)). with a (λ ws. answered (rewritten ws 0 true))) h.keeps)
        ∙ ap (λ (n : ℕ). answered (rewritten (table_of t) n true)) (omega arith)

    -- the number is used up: the last plan is still looked at
    pub running_stops : made ≡ number → rewrites rules subject number room ≡ answered (rewritten (table_of t) made (is_none (once rules t)))
    running_stops e =
        h.same
        ∙ ap (λ (n : ℕ). more made (rewrites rules t n room)) (omega arith)
        ∙ ap (more made) (rewrites_zero rules room t
        ∙ ap (λ (a : Answer (List ℕ)). with a (λ ws. answered (rewritten ws 0 (is_none (once rules t))))) h.keeps)
        ∙ ap (λ (n : ℕ). answered (rewritten (table_of t) n (is_none (once rules t)))) (omega arith)

    module _ (u : Term) (e : once rules t ≡ some u) (l : made < number) where
      step : rewrites rules subject number room ≡ more (made + 1) (rewrites rules u (number - (made + 1)) room)
      step =
          h.same
          ∙ ap (λ (n : ℕ). more made (rewrites rules t n room)) (let z : number - made ≡ suc (number - (made + 1)) = omega arith in z)
          ∙ ap (more made) (rewrites_some rules room (number - (made + 1)) t u e
          ∙ ap (λ (a : Answer (List ℕ)). with a (λ ws. more 1 (rewrites rules u (number - (made + 1)) room))) h.keeps)
          ∙ more_more made 1 (rewrites rules u (number - (made + 1)) room)

      -- one rewrite more
      pub running_goes : result_for room u ≡ answered (table_of u) → Running u (made + 1)
      running_goes k = record { allowed = omega arith; keeps = k; same = step }

      -- the rewritten plan breaks a limit: that decides
      pub running_breaks : (r : Refusal) → result_for room u ≡ refused r → rewrites rules subject number room ≡ refused r
      running_breaks r k = step ∙ ap (more (made + 1)) (rewrites_breaks rules room (number - (made + 1)) u r k)
