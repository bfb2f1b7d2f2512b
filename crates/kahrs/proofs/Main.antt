-- 004's Theorem 9, its converse, and that the valuation found is the only one. The match part leaves entries that cover the table, and then
-- Lemma 8 gives the right side's instance; where the match part does not fail, getval is a valuation that makes the left side the subject.
use mathlib.Core.Path.{◌≡◌, refl, sym, ap, ◌∙◌}
use mathlib.Core.Logic.{◌⊎◌, inl, inr}
use Prim.Native.Nat.{ℕ, ◌≤◌}
use native.Mathlib.Omega.{arith}
use mathlib.Core.Option.{Option, none, some}
use mathlib.Core.List.{List, [], ◌∷◌}
use lib.Dec.{T}
use lib.ListN.{length}
use Rattle.documents.specs.Terms.{Term, absts}
use Rattle.documents.specs.Tables.{depth}
use Rattle.documents.specs.Rules.{Val, Valuation, metas, among, crs_rule, metasubst}
use Rattle.documents.specs.Instructions.{Program}
use Rattle.documents.specs.Machine.{Entry, State, state, Outcome, done, fails, ◌>>=◌, exec, start, run}
use Rattle.documents.specs.Translation.{Row, Located, lookup, symbol_table, lhs, rhs, compile}
use Rattle.documents.proofs.Lists.{never, T_of}
use Rattle.documents.proofs.Numbers.{conditions}
use Rattle.documents.proofs.Substitution.{rename_ext, rename_id}
use Rattle.documents.proofs.Valuations.{bodies_of, instance, metasubst_bodies}
use Rattle.kahrs.proofs.RightSide.{exec-⧺, AllMetas, Below, rhs_runs}
use Rattle.kahrs.proofs.Simple.{Simple, simple_of, below_of_closed}
use Rattle.kahrs.proofs.Locations.{fresh_update, lhs_from, lhs_left}
use Rattle.kahrs.proofs.LeftSide.{Parallel, Instantiates, Admits, complete, After, Ends, sound}
use Rattle.kahrs.proofs.Known.{AllMetas-map, Known, metas_known, known_of, of_among, known_of_contains}
use Rattle.kahrs.proofs.Getval.{covers, agree, getval, getval_gets, getval_unknown}
use Rattle.kahrs.proofs.Plain.{Plain, plain_of_instance}

-- a rule as the proofs use it
pub record CrsRule (l r : Term) : Type 0 where
  pub simple : Simple 0 l
  pub closed : Below 0 r
  pub known : AllMetas (Known (symbol_table l)) r

-- a run that ends with one finished term, w, and no current term
abbrev pub Yields : Program → Term → Term → Type 0
Yields c u w = (env : List Entry) × (run c u ≡ done (state [] env (w ∷ []) 0 []))

-- a run on u that rewrites it: a valuation's instance of the left side is the subject, and the run makes its instance of the right side
pub record Rewrites (l r u : Term) : Type 0 where
  pub val : Val
  pub subject : instance 0 val l ≡ u
  pub result : Yields (compile l r) u (instance 0 val r)
  pub plain : metas u ≡ [] → (z k : ℕ) → Plain val z k

module _ (l r : Term) (h : CrsRule l r) where
  abbrev table : List Row
  table = symbol_table l

  -- the match part
  abbrev left : Program
  left = lhs table 0 (length table) l

  run_parts : (u : Term) → run (compile l r) u ≡ exec left (start u) >>= exec (rhs table 0 r)
  run_parts u = exec-⧺ left (rhs table 0 r) (start u)

  matched : (val : Val) → (env : List Entry) × (exec left (start (instance 0 val l)) ≡ done (state [] env [] 0 [])) × Parallel (Instantiates val) table env
  matched val =
      let c = complete val [] 0 [] 0 0 l (omega arith) h.simple [] [] tt [] in
      (c.0, ap (λ (p : Program). exec p (start (instance 0 val l))) (lhs_left l h.simple) ∙ c.1, c.2)

  built : (val : Val) (env : List Entry) → Parallel (Instantiates val) table env
      → exec (rhs table 0 r) (state [] env [] 0 []) ≡ done (state [] env (instance 0 val r ∷ []) 0 [])
  built val env p =
      rhs_runs [] env table val 0 r h.closed (AllMetas-map _ _ r (covers val table env p) h.known) [] 0 [] refl
      ∙ ap (λ (t : Term). done (state [] env (t ∷ []) 0 [])) (rename_ext _ _ (instance 0 val r) (λ x. omega arith) ∙ rename_id (instance 0 val r))

  -- Theorem 9: the code, run on an instance of the left side, makes that instance of the right side
  pub theorem_9 : (val : Val) → Yields (compile l r) (instance 0 val l) (instance 0 val r)
  theorem_9 val =
      let m = matched val in
      (m.0, run_parts (instance 0 val l) ∙ ap (λ o. o >>= exec (rhs table 0 r)) m.1 ∙ built val m.0 m.2)

  same_env : (x y : List Entry) (o : Outcome State) → o ≡ done (state [] x [] 0 []) → o ≡ done (state [] y [] 0 []) → x ≡ y
  same_env x y o e f = cc

  -- two valuations that give the same instance of the left side agree on its metavariables
  pub unique : (v w : Val) → instance 0 v l ≡ instance 0 w l → (z k : ℕ) → Known table z k → v z k ≡ w z k
  unique v w e z k n =
      let a = matched v in
      let b = matched w in
      let d : a.0 ≡ b.0 = same_env a.0 b.0 _ a.1 (ap (λ (t : Term). exec left (start t)) e ∙ b.1) in
      agree v w table b.0 (rw d at a.2) b.2 z k n

  -- where the subject has no metavariables, getval's bodies have none
  getval_plain : (env : List Entry) → metas (instance 0 (getval table env) l) ≡ [] → (z k : ℕ) → Plain (getval table env) z k
  getval_plain env e z k = go (lookup z k table) refl
    where
      v : Val
      v = getval table env

      go : (o : Option Located) → lookup z k table ≡ o → Plain v z k
      go none q = ap metas (getval_unknown table env z k q)
      go (some x) q = known_of (Plain v) 0 l [] (plain_of_instance 0 v l h.simple e) (λ y j n. absurd (n refl)) z k (λ p. never (cc))

  -- a run fails or rewrites
  pub soundness : (u : Term) → (run (compile l r) u ≡ fails) ⊎ Rewrites l r u
  soundness u = go (sound [] 0 [] 0 0 l (omega arith) h.simple [] [] tt u tt [])
    where
      go : Ends [] 0 [] (exec (lhs_from 0 l []) (start u)) [] (After [] [] table (λ val. instance 0 val l ≡ u)) → (run (compile l r) u ≡ fails) ⊎ Rewrites l r u
      go (inl e) = inl (run_parts u ∙ ap (λ o. o >>= exec (rhs table 0 r)) (ap (λ (p : Program). exec p (start u)) (lhs_left l h.simple) ∙ e))
      go (inr o) =
          let v = getval table o.0 in
          let m = (o.2.1 v (getval_gets Admits table o.0 (fresh_update 0 l [] tt) o.2.0)).1 in
          inr (record { val = v; subject = m; result = rw (← m) (theorem_9 v); plain = λ e. getval_plain o.0 (ap metas m ∙ e) })

-- the tests of 004's crs_rule, and a left side no deeper than 64, are enough
pub crs_rule_lem : (l r : Term) → T (crs_rule l r) → depth l ≤ 64 → CrsRule l r
crs_rule_lem l r h d =
    let c = conditions l r h in
    record {
      simple = simple_of 0 l (T_of _ c.left_simple) (below_of_closed l (T_of _ c.left_closed)) (omega arith);
      closed = below_of_closed r (T_of _ c.right_closed);
      known = known_of_contains l r (T_of _ c.known);
    }

-- ---- In 004's words: valuations and metasubst

module _ (l r : Term) (h : CrsRule l r) where
  pub theorem_9_metasubst : (v : Val) → Valuation v → Yields (compile l r) (metasubst v l) (metasubst v r)
  theorem_9_metasubst v val = rw (metasubst_bodies v val l, metasubst_bodies v val r) (theorem_9 l r h (bodies_of v val))

  pub soundness_metasubst : (u : Term) → metas u ≡ []
      → (run (compile l r) u ≡ fails) ⊎ ((v : Val) × Valuation v × (metasubst v l ≡ u) × Yields (compile l r) u (metasubst v r))
  soundness_metasubst u e = go (soundness l r h u)
    where
      go : (run (compile l r) u ≡ fails) ⊎ Rewrites l r u
          → (run (compile l r) u ≡ fails) ⊎ ((v : Val) × Valuation v × (metasubst v l ≡ u) × Yields (compile l r) u (metasubst v r))
      go (inl f) = inl f
      go (inr w) =
          let v : Val = λ z k. absts k (w.val z k) in
          let val : Valuation v = λ z k. record { body = w.val z k; under = refl; plain = w.plain e z k } in
          inr (v, val, metasubst_bodies v val l ∙ w.subject, rw (metasubst_bodies v val r) w.result)

  pub unique_metasubst : (v w : Val) → Valuation v → Valuation w → metasubst v l ≡ metasubst w l → (z k : ℕ) → T (among (metas l) (z, k)) → v z k ≡ w z k
  unique_metasubst v w p q e z k m =
      (p z k).under
      ∙ ap (absts k) (unique l r h (bodies_of v p) (bodies_of w q) (sym (metasubst_bodies v p l) ∙ e ∙ metasubst_bodies w q l) z k
      (of_among (Known (symbol_table l)) l (metas_known 0 l []) z k m))
      ∙ sym (q z k).under
