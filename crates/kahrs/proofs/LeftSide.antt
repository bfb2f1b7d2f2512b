-- 004's Lemma 7 and its converse: the code of a left side finds the bodies of a valuation in an instance of that side, and fails where there is
-- no valuation. ENV and the symbol table are parallel, so what is known of an entry is a relation R between a row and a term; soundness is
-- said of every valuation that goes with the entries afterwards, so none has to be chosen on the way.
use mathlib.Core.Path.{◌≡◌, refl, ap, ap₂, ◌∙◌}
use mathlib.Core.Logic.{◌⊎◌, inl, inr}
use Prim.Native.Nat.{ℕ, zero, suc, ◌+◌, ◌≤◌}
use native.Mathlib.Omega.{arith}
use mathlib.Core.Bool.{Bool, true, false, not, ◌&&◌, cond}
use mathlib.Core.Option.{Option, none, some}
use mathlib.Core.List.{List, [], ◌∷◌}
use lib.Dec.{T, eqb}
use lib.ListN.{length, get_elem?}
use borrow.Author.Tests.{eq-eqb}
use Rattle.documents.specs.Lists.{every, keep, member, up_to, pairlists}
use Rattle.documents.specs.Terms.{Sort, one, many, Tm, Var, Sym, Meta, Abst, Nil, Cons, Term, Terms, len, rename}
use Rattle.documents.specs.Tables.{nodes}
use Rattle.documents.specs.Rules.{Val, freevars}
use Rattle.documents.specs.Instructions.{IS, ISABST, ◌▸◌, Program}
use Rattle.documents.specs.Machine.{Current, current, Entry, entry, State, state, Outcome, done, fails, ◌>>=◌, or_fails, test, Action, is_var, equal, placed, renaming, eqi, currents, exec}
use Rattle.documents.specs.Translation.{Row, row, Located, located, further, lookup, enter, update, offset}
use Rattle.documents.proofs.Lists.{never, on, case}
use Rattle.documents.proofs.Substitution.{rename_ext, rename_rename, rename_id}
use Rattle.documents.proofs.Valuations.{instance, len_instance}
use Rattle.documents.proofs.FreeVariables.{AllFree, AllFree-map, free_of_every, every_of_free, free_renamed, rename_agree}
use Rattle.kahrs.proofs.RightSide.{exec-⧺, place, covered, placed_of_covered}
use Rattle.kahrs.proofs.Equal.{equal_refl, of_is_var, of_equal}
use Rattle.kahrs.proofs.Places.{argument, Distinct, Under, eqb_both, argument_place, argument_covered, renaming_argument, argument_renaming, firsts_pairlists, unlisted_covered}
use Rattle.kahrs.proofs.Simple.{vars, len_vars, unvar_vars, update_arguments, instance_meta, Simple}
use Rattle.kahrs.proofs.Locations.{occurrence, lhs_from}

-- ---- The tests of a CHECK and of an EQI

abbrev pub Covered : List ℕ → ℕ → Term → Type 0
Covered l b a = AllFree (λ y. T (covered l b y)) a

-- a CHECK's test, where the arguments are l
abbrev spares : ℕ → List ℕ → Term → Bool
spares n l a = every (λ y. not (member (keep (λ i. not (member l i)) (up_to n)) y)) (freevars a)

spares_covered : (n : ℕ) (l : List ℕ) (a : Term) → Covered l n a → spares n l a ≡ true
spares_covered n l a h = on (spares n l a) (every_of_free _ 0 a (AllFree-map _ _ a (λ y k. rw (unlisted_covered n l y) k) h))

covered_of_spares : (n : ℕ) (l : List ℕ) (a : Term) → T (spares n l a) → Covered l n a
covered_of_spares n l a h = AllFree-map _ _ a (λ y k. rw (unlisted_covered n l y) at k) (free_of_every _ 0 a h)

-- an EQI has its first indices, and compares
eqi_is : (n b : ℕ) (l' l : List ℕ) (a u : Term) (σ : State) → length l' ≡ length l → b ≤ 64 → Covered l' b a
    → eqi (offset n b) (pairlists l' l) (entry b a) u σ ≡ test (equal (rename (renaming (pairlists l' l) (offset n b)) a) u) σ
eqi_is n b l' l a u σ e lo h =
    let p : T (every (placed l' b (offset n b)) (freevars a)) = every_of_free _ 0 a (AllFree-map _ _ a (λ y. placed_of_covered l' b (offset n b) n y (omega arith)) h) in
    rw (firsts_pairlists l' l e, on (every (placed l' b (offset n b)) (freevars a)) p)

-- ---- Rows and entries, side by side

abbrev pub Parallel : (Row → Term → Type 0) → List Row → List Entry → Type 0
Parallel R [] [] = Unit {0}
Parallel R [] (a ∷ env) = ⊥
Parallel R (r ∷ rows) [] = ⊥
Parallel R (row z k b l ∷ rows) (entry b' a ∷ env) = ((b' ≡ b) × R (row z k b l) a) × Parallel R rows env

-- what a lookup finds among them
pub data Looked (R : Row → Term → Type 0) (z k : ℕ) (rows : List Row) (env : List Entry) : Option Located → Type 0 where
  absent : Looked R z k rows env none
  present : {i b : ℕ} {l : List ℕ} (a : Term) → get_elem? rows i ≡ some (row z k b l) → get_elem? env i ≡ some (entry b a) → R (row z k b l) a
      → Looked R z k rows env (some (located i (row z k b l)))

looked_further : (R : Row → Term → Type 0) (z k : ℕ) (rows : List Row) (env : List Entry) (r : Row) (c : Entry) (o : Option Located)
    → Looked R z k rows env o → Looked R z k (r ∷ rows) (c ∷ env) (further o)
looked_further R z k rows env r c o absent = absent
looked_further R z k rows env r c o (present a d e h) = present a d e h

pub looked : (R : Row → Term → Type 0) (z k : ℕ) (rows : List Row) (env : List Entry) → Parallel R rows env → Looked R z k rows env (lookup z k rows)
looked R z k [] [] p = absent
looked R z k [] (a ∷ env) p = absurd p
looked R z k (r ∷ rows) [] p = absurd p
looked R z k (row z' k' b l ∷ rows) (entry b' a ∷ env) p =
    case (λ q. (T q → (z ≡ z') × (k ≡ k'))
    → Looked R z k (row z' k' b l ∷ rows) (entry b' a ∷ env) (cond q (some (located 0 (row z' k' b l))) (further (lookup z k rows)))) (eqb z z' && eqb k k')
    (λ t e. let (e₁, e₂) = e tt in rw (p.0.0, ← e₁, ← e₂) (present {b = b} {l = l} a refl refl (rw (e₁, e₂) p.0.1)))
    (λ t e. looked_further R z k rows env _ (entry b' a) _ (looked R z k rows env p.1))
    (eqb_both z z' k k')

-- the row and the term at one place
pub parallel_at : (R : Row → Term → Type 0) (rows : List Row) (env : List Entry) (i : ℕ) (r : Row) (b : ℕ) (a : Term) → Parallel R rows env
    → get_elem? rows i ≡ some r → get_elem? env i ≡ some (entry b a) → R r a
parallel_at R [] env i r b a p d f = never (cc)
parallel_at R (x ∷ rows) [] i r b a p d f = absurd p
parallel_at R (row z k b₁ l ∷ rows) (entry b₂ c ∷ env) zero r b a p d f =
    let q : row z k b₁ l ≡ r = cc in let g : c ≡ a = cc in rw (← q, ← g) p.0.1
parallel_at R (row z k b₁ l ∷ rows) (entry b₂ c ∷ env) (suc i) r b a p d f = parallel_at R rows env i r b a p.1 d f

-- ---- Lemma 7

-- t, under d abstractions and at node m, before the current terms cs
abbrev pub ahead : (s : Sort) → ℕ → ℕ → Tm s → List Current → List Current
ahead one d m t cs = current d m t ∷ cs
ahead many d m ts cs = currents d m ts cs

-- a row as every match makes it
abbrev pub RowGood : ℕ → ℕ → List ℕ → Type 0
RowGood k b l = Distinct l × Under b l × (b ≤ 64) × (length l ≡ k)

-- the term is the row's metavariable's first occurrence, instantiated
abbrev pub Instantiates : Val → Row → Term → Type 0
Instantiates val (row z k b l) a = (a ≡ rename (argument b l) (val z k)) × RowGood k b l

module _ (val : Val) (st : List Term) (off : ℕ) (nst : List ℕ) where
  -- the code takes the current terms cs away, and makes entries for the rows
  abbrev Matches : Program → List Current → List Entry → List Current → List Row → Type 0
  Matches c cs env cs' rows =
      (env' : List Entry) × (exec c (state cs env st off nst) ≡ done (state cs' env' st off nst)) × Parallel (Instantiates val) rows env'

  matches_meta : (n m z : ℕ) (l : List ℕ) → n ≤ 64 → Distinct l → Under n l → (rows : List Row) (env : List Entry) (o : Option Located)
      → Parallel (Instantiates val) rows env → Looked (Instantiates val) z (length l) rows env o → (cs : List Current)
      → Matches (occurrence n (vars l) o) (current n m (rename (argument n l) (val z (length l))) ∷ cs) env cs (enter o (row z (length l) n l) rows)
  matches_meta n m z l lo d u rows env o p absent cs =
      let a = rename (argument n l) (val z (length l)) in
      let h : Covered l n a = free_renamed _ (argument n l) (val z (length l)) (argument_covered n l) in
      (entry n a ∷ env, rw (unvar_vars l, spares_covered n l a h), ((refl, (refl, (d, u, lo, refl))), p))
  matches_meta n m z l lo d u rows env o p (present {b = b} {l = l'} a g e r) cs =
      let β = val z (length l) in
      let f = renaming (pairlists l' l) (offset n b) in
      let k : rename f (rename (argument b l') β) ≡ rename (argument n l) β =
      rename_rename _ _ β ∙ rename_ext _ _ β (λ x. renaming_argument b n l' l x r.1.3 r.1.2 r.1.0 r.1.1) in
      let h : Covered l' b (rename (argument b l') β) = free_renamed _ (argument b l') β (argument_covered b l') in
      let t = rename (argument n l) β in
      let c = eqi_is n b l' l (rename (argument b l') β) t (state (current n m t ∷ cs) env st off nst) r.1.3 r.1.2 h in
      (env, rw (e, unvar_vars l, r.0, c, k, on (equal t t) (equal_refl t)), p)

  -- Lemma 7
  pub complete : {s : Sort} (n m : ℕ) (t : Tm s) → n ≤ 64 → Simple n t → (rows : List Row) (env : List Entry) → Parallel (Instantiates val) rows env
      → (cs : List Current) → Matches (lhs_from n t rows) (ahead s n m (instance n val t) cs) env cs (update n t rows)
  complete n m (Var x) lo h rows env p cs = (env, rw (eq-eqb x x refl), p)
  complete n m (Sym s ts) lo h rows env p cs =
      rw (len_instance n val ts, eq-eqb s s refl, eq-eqb (len ts) (len ts) refl) (complete n (m + 1) ts lo h rows env p cs)
  complete n m (Meta z ts) lo h rows env p cs =
      rw (update_arguments n ts h.0 h.1, h.1, instance_meta n val z h.0, unvar_vars h.0, len_vars h.0)
      (matches_meta n m z h.0 lo h.2 h.3 rows env _ p (looked (Instantiates val) z (length h.0) rows env p) cs)
  complete n m (Abst t) lo h rows env p cs =
      let e : n + 1 ≡ suc n = omega arith in
      rw e (complete (suc n) (m + 1) t (omega arith) h.1 rows env p cs)
  complete n m Nil lo h rows env p cs = (env, refl, p)
  complete n m (Cons t ts) lo h rows env p cs =
      let r = complete n m t lo h.0 rows env p (currents n (m + nodes (instance n val t)) (instance n val ts) cs) in
      let q = complete n (m + nodes (instance n val t)) ts lo h.1 (update n t rows) r.0 r.2 cs in
      (q.0, exec-⧺ (lhs_from n t rows) (lhs_from n ts (update n t rows)) _ ∙ ap (λ o. o >>= exec (lhs_from n ts (update n t rows))) r.1 ∙ q.1, q.2)

-- ---- Soundness

-- what a CHECK established of an entry
abbrev pub Admits : Row → Term → Type 0
Admits (row z k b l) a = Covered l b a × (b ≤ 64) × (length l ≡ k)

-- the valuation goes with the entry
abbrev pub Gets : Val → Row → Term → Type 0
Gets val (row z k b l) a = val z k ≡ rename (place l b) a

abbrev Fits : (s : Sort) → Tm s → Tm s → Type 0
Fits one t u = Unit {0}
Fits many ts us = len us ≡ len ts

-- whatever valuation goes with the entries after t, went with those before it, and E holds of it
abbrev pub After : List Row → List Entry → List Row → (Val → Type 0) → List Entry → Type 0
After rows env rows' E env' =
    Parallel Admits rows' env' × ((val : Val) → Parallel (Gets val) rows' env' → Parallel (Gets val) rows env × E val)

module _ (st : List Term) (off : ℕ) (nst : List ℕ) where
  -- a run fails, or comes to its end with the current terms cs, and with entries of which Q holds
  abbrev pub Ends : Outcome State → List Current → (List Entry → Type 0) → Type 0
  Ends r cs Q = (r ≡ fails) ⊎ ((env' : List Entry) × (r ≡ done (state cs env' st off nst)) × Q env')

  ends_test : (q : Bool) (σ : State) (f : Action) (cs : List Current) (Q : List Entry → Type 0) → (T q → Ends (f σ) cs Q) → Ends (test q σ >>= f) cs Q
  ends_test true σ f cs Q h = h tt
  ends_test false σ f cs Q h = inl refl

  ends_map : (r : Outcome State) (cs : List Current) (rows : List Row) (env : List Entry) (rows' : List Row) (E E' : Val → Type 0)
      → ((val : Val) → E val → E' val) → Ends r cs (After rows env rows' E) → Ends r cs (After rows env rows' E')
  ends_map r cs rows env rows' E E' m (inl e) = inl e
  ends_map r cs rows env rows' E E' m (inr o) = inr (o.0, o.1, (o.2.0, λ val q. let (p, e) = o.2.1 val q in (p, m val e)))

  ends_then : (r : Outcome State) (f : Action) (cs₁ cs₂ : List Current) (rows : List Row) (env : List Entry) (rows₁ rows₂ : List Row) (E₁ E₂ : Val → Type 0)
      → Ends r cs₁ (After rows env rows₁ E₁)
      → ((env₁ : List Entry) → Parallel Admits rows₁ env₁ → Ends (f (state cs₁ env₁ st off nst)) cs₂ (After rows₁ env₁ rows₂ E₂))
      → Ends (r >>= f) cs₂ (After rows env rows₂ (λ val. E₁ val × E₂ val))
  ends_then r f cs₁ cs₂ rows env rows₁ rows₂ E₁ E₂ (inl e) k = inl (ap (λ o. o >>= f) e)
  ends_then r f cs₁ cs₂ rows env rows₁ rows₂ E₁ E₂ (inr o) k = go (k o.0 o.2.0)
    where
      go : Ends (f (state cs₁ o.0 st off nst)) cs₂ (After rows₁ o.0 rows₂ E₂) → Ends (r >>= f) cs₂ (After rows env rows₂ (λ val. E₁ val × E₂ val))
      go (inl e) = inl (ap (λ x. x >>= f) o.1 ∙ e)
      go (inr o₂) = inr (
        o₂.0,
        ap (λ x. x >>= f) o.1 ∙ o₂.1,
        (o₂.2.0, λ val q. let (q₁, e₂) = o₂.2.1 val q in let (q₀, e₁) = o.2.1 val q₁ in (q₀, (e₁, e₂))),
      )

  sound_meta : (n m z : ℕ) (l : List ℕ) → n ≤ 64 → (rows : List Row) (env : List Entry) (o : Option Located)
      → Parallel Admits rows env → Looked Admits z (length l) rows env o → (u : Term) (cs : List Current)
      → Ends (exec (occurrence n (vars l) o) (state (current n m u ∷ cs) env st off nst)) cs
      (After rows env (enter o (row z (length l) n l) rows) (λ val. rename (argument n l) (val z (length l)) ≡ u))
  sound_meta n m z l lo rows env o p absent u cs = rw (unvar_vars l)
      (ends_test (spares n l u) _ _ cs _ λ t.
      let h = covered_of_spares n l u t in
      inr (
        entry n u ∷ env,
        refl,
        (
          ((refl, (h, lo, refl)), p),
          λ val q. (
            q.1,
            ap (rename (argument n l)) q.0.1 ∙ rename_rename (argument n l) (place l n) u
                ∙ rename_agree _ _ u (AllFree-map _ _ u (argument_place n l) h) ∙ rename_id u,
          ),
        ),
      ))
  sound_meta n m z l lo rows env o p (present {b = b} {l = l'} a g e r) u cs =
      rw (e, unvar_vars l, eqi_is n b l' l a u (state (current n m u ∷ cs) env st off nst) r.2 r.1 r.0)
      (ends_test (equal (rename (renaming (pairlists l' l) (offset n b)) a) u) _ _ cs _ λ t.
      inr (
        env,
        refl,
        (
          p,
          λ val q. (
            q,
            ap (rename (argument n l)) (parallel_at (Gets val) rows env _ _ b a q g e) ∙ rename_rename (argument n l) (place l' b) a
                ∙ rename_agree _ _ a (AllFree-map _ _ a (λ y. argument_renaming b n l' l y r.2 r.1) r.0) ∙ of_equal _ u t,
          ),
        ),
      ))

  sound_sym : (n m s : ℕ) (ts : Terms) (rows : List Row) (env : List Entry) (u : Term) (cs : List Current)
      → ((us : Terms) → len us ≡ len ts
      → Ends (exec (lhs_from n ts rows) (state (currents n (m + 1) us cs) env st off nst)) cs (After rows env (update n ts rows) (λ val. instance n val ts ≡ us)))
      → Ends (exec (IS s (len ts) ▸ lhs_from n ts rows) (state (current n m u ∷ cs) env st off nst)) cs
      (After rows env (update n ts rows) (λ val. Sym s (instance n val ts) ≡ u))
  sound_sym n m s ts rows env (Var x) cs k = inl refl
  sound_sym n m s ts rows env (Sym s' us) cs k =
      case (λ q. (T q → (s ≡ s') × (len us ≡ len ts))
      → Ends (or_fails (cond q (some us) none) (λ vs. done (state (currents n (m + 1) vs cs) env st off nst)) >>= exec (lhs_from n ts rows)) cs
      (After rows env (update n ts rows) (λ val. Sym s (instance n val ts) ≡ Sym s' us))) (eqb s s' && eqb (len us) (len ts))
      (λ t h.
      let r = h tt in
      ends_map _ cs rows env (update n ts rows) _ _ (λ val e. ap₂ Sym r.0 e) (k us r.1))
      (λ t h. inl refl) (eqb_both s s' (len us) (len ts))
  sound_sym n m s ts rows env (Meta z us) cs k = inl refl
  sound_sym n m s ts rows env (Abst t) cs k = inl refl

  sound_abst : (n m : ℕ) (t : Term) (rows : List Row) (env : List Entry) (u : Term) (cs : List Current)
      → ((v : Term)
      → Ends (exec (lhs_from (suc n) t rows) (state (current (suc n) (m + 1) v ∷ cs) env st off nst)) cs
      (After rows env (update (suc n) t rows) (λ val. instance (suc n) val t ≡ v)))
      → Ends (exec (ISABST ▸ lhs_from (suc n) t rows) (state (current n m u ∷ cs) env st off nst)) cs
      (After rows env (update (suc n) t rows) (λ val. Abst (instance (suc n) val t) ≡ u))
  sound_abst n m t rows env (Var x) cs k = inl refl
  sound_abst n m t rows env (Sym s us) cs k = inl refl
  sound_abst n m t rows env (Meta z us) cs k = inl refl
  sound_abst n m t rows env (Abst v) cs k =
      let e : n + 1 ≡ suc n = omega arith in
      rw e (ends_map _ cs rows env (update (suc n) t rows) _ _ (λ val e. ap Abst e) (k v))

  -- the code of a left side's term, where the current term is u
  pub sound : {s : Sort} (n m : ℕ) (t : Tm s) → n ≤ 64 → Simple n t → (rows : List Row) (env : List Entry) → Parallel Admits rows env
      → (u : Tm s) → Fits s t u → (cs : List Current)
      → Ends (exec (lhs_from n t rows) (state (ahead s n m u cs) env st off nst)) cs (After rows env (update n t rows) (λ val. instance n val t ≡ u))
  sound n m (Var x) lo h rows env p u w cs =
      ends_test (is_var x u) _ _ cs _ λ t. inr (env, refl, (p, λ val q. (q, of_is_var x u t)))
  sound n m (Sym s ts) lo h rows env p u w cs = sound_sym n m s ts rows env u cs (λ us e. sound n (m + 1) ts lo h rows env p us e cs)
  sound n m (Meta z ts) lo h rows env p u w cs =
      ends_map _ cs rows env (update n (Meta z ts) rows) (λ val. rename (argument n h.0) (val z (length h.0)) ≡ u) _
      (λ val e. ap (λ (us : Terms). instance n val (Meta z us)) h.1 ∙ instance_meta n val z h.0 ∙ e)
      (rw (update_arguments n ts h.0 h.1, h.1, unvar_vars h.0, len_vars h.0)
      (sound_meta n m z h.0 lo rows env _ p (looked Admits z (length h.0) rows env p) u cs))
  sound n m (Abst t) lo h rows env p u w cs = sound_abst n m t rows env u cs (λ v. sound (suc n) (m + 1) t (omega arith) h.1 rows env p v tt cs)
  sound n m Nil lo h rows env p Nil w cs = inr (env, refl, (p, λ val q. (q, refl)))
  sound n m Nil lo h rows env p (Cons v us) w cs = absurd (omega arith)
  sound n m (Cons t ts) lo h rows env p Nil w cs = absurd (omega arith)
  sound n m (Cons t ts) lo h rows env p (Cons v us) w cs =
      rw (exec-⧺ (lhs_from n t rows) (lhs_from n ts (update n t rows)) (state (ahead many n m (Cons v us) cs) env st off nst))
      (ends_map _ cs rows env (update n ts (update n t rows)) _ _ (λ val e. ap₂ Cons e.0 e.1)
      (ends_then _ _ (currents n (m + nodes v) us cs) cs rows env (update n t rows) (update n ts (update n t rows)) _ _
      (sound n m t lo h.0 rows env p v tt (currents n (m + nodes v) us cs))
      (λ env₁ p₁. sound n (m + nodes v) ts lo h.1 (update n t rows) env₁ p₁ us (omega arith) cs)))
