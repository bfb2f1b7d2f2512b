-- Which metavariables stand in a symbol table: those that the table had, and those of the term that it was updated by. So 004's test that the
-- right side's metavariables are among the left side's is enough for each of them to be found.
use mathlib.Core.Path.{◌≡◌, refl, sym, subst as transport}
use mathlib.Core.Logic.{◌⊎◌, inl, inr}
use Prim.Native.Nat.{ℕ, suc}
use mathlib.Core.Bool.{Bool, true, false, ◌&&◌, ◌||◌, cond}
use mathlib.Core.Option.{Option, none, some}
use mathlib.Core.List.{List, [], ◌∷◌, ◌++◌}
use lib.Dec.{T, eqb}
use borrow.Author.Tests.{eq-eqb}
use Rattle.documents.specs.Lists.{every}
use Rattle.documents.specs.Terms.{Sort, Tm, Var, Sym, Meta, Abst, Nil, Cons, Term, len}
use Rattle.documents.specs.Rules.{metas, among, contains}
use Rattle.documents.specs.Translation.{Row, row, Located, located, further, lookup, unvar, enter, update, symbol_table}
use Rattle.documents.proofs.Lists.{never, T_of, of_and, every_append}
use Rattle.kahrs.proofs.RightSide.{AllMetas}
use Rattle.kahrs.proofs.Places.{eqb_both}
use Rattle.kahrs.proofs.Locations.{update_before}

pub AllMetas-map : {s : Sort} (P Q : ℕ → ℕ → Type 0) (t : Tm s) → ((z k : ℕ) → P z k → Q z k) → AllMetas P t → AllMetas Q t
AllMetas-map P Q (Var x) h a = tt
AllMetas-map P Q (Sym s ts) h a = AllMetas-map P Q ts h a
AllMetas-map P Q (Meta z ts) h a = (h z (len ts) a.0, AllMetas-map P Q ts h a.1)
AllMetas-map P Q (Abst t) h a = AllMetas-map P Q t h a
AllMetas-map P Q Nil h a = tt
AllMetas-map P Q (Cons t ts) h a = (AllMetas-map P Q t h a.0, AllMetas-map P Q ts h a.1)

-- the metavariable stands in the table
abbrev pub Known : List Row → ℕ → ℕ → Type 0
Known rows z k = lookup z k rows ≡ none → ⊥

-- what is not in a table is neither its first row nor in the others
pub not_here : (q : Bool) (r : Row) (o : Option Located) → cond q (some (located 0 r)) (further o) ≡ none → (q ≡ false) × (o ≡ none)
not_here true r o h = never (cc)
not_here false r none h = (refl, refl)
not_here false r (some (located i x)) h = never (cc)

known_before : (z k : ℕ) (pre rows : List Row) → Known rows z k → Known (pre ++ rows) z k
known_before z k [] rows h e = h e
known_before z k (row z' k' b l ∷ pre) rows h e = known_before z k pre rows h (not_here (eqb z z' && eqb k k') (row z' k' b l) (lookup z k (pre ++ rows)) e).1

known_update : {s : Sort} (n : ℕ) (t : Tm s) (rows : List Row) (z k : ℕ) → Known rows z k → Known (update n t rows) z k
known_update n t rows z k h = let u = update_before n t rows in transport (λ (l : List Row). Known l z k) (sym u.1) (known_before z k u.0 rows h)

known_enter : (z k b : ℕ) (l : List ℕ) (rows : List Row) (o : Option Located) → lookup z k rows ≡ o → Known (enter o (row z k b l) rows) z k
known_enter z k b l rows none h e =
    let d = (not_here (eqb z z && eqb k k) (row z k b l) (lookup z k rows) e).0 in
    let f : eqb z z && eqb k k ≡ true = rw (eq-eqb z z refl, eq-eqb k k refl) in
    never (cc)
known_enter z k b l rows (some x) h e = never (cc)

pub metas_known : {s : Sort} (n : ℕ) (t : Tm s) (rows : List Row) → AllMetas (Known (update n t rows)) t
metas_known n (Var x) rows = tt
metas_known n (Sym s ts) rows = metas_known n ts rows
metas_known n (Meta z ts) rows =
    (known_update n ts _ z (len ts) (known_enter z (len ts) n (unvar ts) rows (lookup z (len ts) rows) refl), metas_known n ts _)
metas_known n (Abst t) rows = metas_known (suc n) t rows
metas_known n Nil rows = tt
metas_known n (Cons t ts) rows = (AllMetas-map _ _ t (known_update n ts (update n t rows)) (metas_known n t rows), metas_known n ts (update n t rows))

-- the other way round: what a table knows it knew, or the term has it
pub known_of : {s : Sort} (P : ℕ → ℕ → Type 0) (n : ℕ) (t : Tm s) (rows : List Row) → AllMetas P t → ((z k : ℕ) → Known rows z k → P z k)
    → (z k : ℕ) → Known (update n t rows) z k → P z k
known_of P n (Var x) rows a h = h
known_of P n (Sym s ts) rows a h = known_of P n ts rows a h
known_of P n (Meta z ts) rows a h = known_of P n ts _ a.1 (entered (lookup z (len ts) rows))
  where
    entered : (o : Option Located) (z' k' : ℕ) → Known (enter o (row z (len ts) n (unvar ts)) rows) z' k' → P z' k'
    entered none z' k' k = go (eqb z' z && eqb k' (len ts)) refl
      where
        go : (q : Bool) → eqb z' z && eqb k' (len ts) ≡ q → P z' k'
        go true q = let (d, c) = eqb_both z' z k' (len ts) (T_of (eqb z' z && eqb k' (len ts)) q) in rw (d, c) a.0
        go false q = h z' k' (λ e. k (rw (q, e)))
    entered (some x) z' k' k = h z' k' k
known_of P n (Abst t) rows a h = known_of P (suc n) t rows a h
known_of P n Nil rows a h = h
known_of P n (Cons t ts) rows a h = known_of P n ts (update n t rows) a.1 (known_of P n t rows a.0 h)

-- ---- The test

among_append : (l m : List (ℕ × ℕ)) (p : ℕ × ℕ) → T (among (l ++ m) p) → T (among l p) ⊎ T (among m p)
among_append [] m p h = inr h
among_append (a ∷ l) m p h = go (eqb a.0 p.0 && eqb a.1 p.1) (among_append l m p) h
  where
    go : (q : Bool) → (T (among (l ++ m) p) → T (among l p) ⊎ T (among m p)) → T (q || among (l ++ m) p) → T (q || among l p) ⊎ T (among m p)
    go true k h = inl tt
    go false k h = k h

pub of_among : {s : Sort} (P : ℕ → ℕ → Type 0) (t : Tm s) → AllMetas P t → (z k : ℕ) → T (among (metas t) (z, k)) → P z k
of_among P (Var x) a z k h = absurd h
of_among P (Sym s ts) a z k h = of_among P ts a z k h
of_among P (Meta z' ts) a z k h = go (eqb z' z && eqb (len ts) k) (eqb_both z' z (len ts) k) (of_among P ts a.1 z k) h
  where
    go : (q : Bool) → (T q → (z' ≡ z) × (len ts ≡ k)) → (T (among (metas ts) (z, k)) → P z k) → T (q || among (metas ts) (z, k)) → P z k
    go true e f h = let (d, c) = e tt in rw (← d, ← c) a.0
    go false e f h = f h
of_among P (Abst t) a z k h = of_among P t a z k h
of_among P Nil a z k h = absurd h
of_among P (Cons t ts) a z k h = go (of_among P t a.0 z k) (of_among P ts a.1 z k) (among_append (metas t) (metas ts) (z, k) h)
  where
    go : (T (among (metas t) (z, k)) → P z k) → (T (among (metas ts) (z, k)) → P z k) → T (among (metas t) (z, k)) ⊎ T (among (metas ts) (z, k)) → P z k
    go f g (inl h) = f h
    go f g (inr h) = g h

pub AllMetas-every : {s : Sort} (p : ℕ × ℕ → Bool) (t : Tm s) → T (every p (metas t)) → AllMetas (λ z k. T (p (z, k))) t
AllMetas-every p (Var x) h = tt
AllMetas-every p (Sym s ts) h = AllMetas-every p ts h
AllMetas-every p (Meta z ts) h = let r = of_and (p (z, len ts)) (every p (metas ts)) h in (r.0, AllMetas-every p ts r.1)
AllMetas-every p (Abst t) h = AllMetas-every p t h
AllMetas-every p Nil h = tt
AllMetas-every p (Cons t ts) h =
    let r = of_and (every p (metas t)) (every p (metas ts)) (rw (every_append p (metas t) (metas ts)) at h) in
    (AllMetas-every p t r.0, AllMetas-every p ts r.1)

-- right metavariables that are among the left ones are in the left side's table
pub known_of_contains : (l r : Term) → T (contains (metas r) (metas l)) → AllMetas (Known (symbol_table l)) r
known_of_contains l r h = AllMetas-map _ _ r (of_among (Known (symbol_table l)) l (metas_known 0 l [])) (AllMetas-every (among (metas l)) r h)
