-- What `push` leaves on the stack: the entry under a substitution (the core of 004's Lemma 8).
use mathlib.Core.Path.{◌≡◌, refl, sym, ap, ◌∙◌}
use mathlib.Core.Logic.{◌⊎◌, inl, inr}
use Prim.Native.Nat.{ℕ, zero, suc, ◌+◌, ◌-◌, ◌≤◌, ◌<◌}
use native.Mathlib.Omega.{arith}
use mathlib.Core.Option.{Option}
use mathlib.Core.List.{List, ◌∷◌}
use lib.Dec.{ltb}
use borrow.Author.Tests.{lt-ltb, le-ltb}
use Rattle.documents.specs.Terms.{Sort, one, many, Tm, Var, Sym, Meta, Abst, Nil, Cons, Term, Terms, len, rename, lift, subst}
use Rattle.documents.specs.Machine.{Current, Entry, State, state, Outcome, done, ◌>>=◌, Action, split, cell, wrap, push_free, push_met, push}
use Rattle.documents.proofs.Substitution.{rename_ext, rename_rename, rename_id, len_subst, subst_unders}
use Rattle.documents.proofs.FreeVariables.{unders, AllFree}

-- the terms of t on the stack, pushed one after the other
abbrev pub onto : (s : Sort) → Tm s → List Term → List Term
onto one t st = t ∷ st
onto many Nil st = st
onto many (Cons t ts) st = onto many ts (t ∷ st)

abbrev append : Terms → Terms → Terms
append Nil us = us
append (Cons t ts) us = Cons t (append ts us)

append-nil : (ts : Terms) → append ts Nil ≡ ts
append-nil Nil = refl
append-nil (Cons t ts) = ap (Cons t) (append-nil ts)

split_onto : (ts us : Terms) (m : ℕ) (st : List Term) (k : Terms → List Term → Outcome State)
    → split (m + len ts) us (onto many ts st) k ≡ split m (append ts us) st k
split_onto Nil us m st k = let e : m + 0 ≡ m = omega arith in rw e
split_onto (Cons t ts) us m st k = let e : m + suc (len ts) ≡ suc m + len ts = omega arith in rw e (split_onto ts us (suc m) (t ∷ st) k)

split_all : (ts : Terms) (st : List Term) (k : Terms → List Term → Outcome State) → split (len ts) Nil (onto many ts st) k ≡ k ts st
split_all ts st k =
    let e : len ts ≡ 0 + len ts = omega arith in
    ap (λ (m : ℕ). split m Nil (onto many ts st) k) e ∙ split_onto ts Nil 0 st k ∙ ap (λ (us : Terms). k us st) (append-nil ts)

module _ (cs : List Current) (env : List Entry) (off : ℕ) (nst : List ℕ) where
  pub cell_onto : (f : Terms → Term) (ts : Terms) (k : ℕ) → len ts ≡ k → (st : List Term)
      → cell f k (state cs env (onto many ts st) off nst) ≡ done (state cs env (f ts ∷ st) off nst)
  cell_onto f ts k e st = rw (← e) (split_all ts st (λ us rest. done (state cs env (f us ∷ rest) off nst)))

-- a variable x under n abstractions of an entry: bound by one of them, or y outside of them, of which P is known
module _ (φ : ℕ → Term) (P : ℕ → Type 0) where
  abbrev pub View : ℕ → ℕ → Type 0
  View n x =
      ((x < n) × (subst_unders n φ x ≡ Var x))
      ⊎ ((y : ℕ) × (x ≡ n + y) × (subst_unders n φ x ≡ rename (λ z. n + z) (φ y)) × P y)

  view_suc : (n x : ℕ) → View n x → View (suc n) (suc x)
  view_suc n x (inl h) = inl (omega (arith, h.0), ap lift h.1)
  view_suc n x (inr h) =
      inr (h.0, omega (arith, h.1), ap lift h.2 ∙ rename_rename suc _ (φ h.0) ∙ rename_ext _ _ (φ h.0) (λ z. omega arith), h.3)

  pub view : (n x : ℕ) → unders n P x → View n x
  view zero x g = inr (x, omega arith, sym (rename_ext _ _ (φ x) (λ z. omega arith) ∙ rename_id (φ x)), g)
  view (suc n) zero g = inl (omega arith, refl)
  view (suc n) (suc x) g = view_suc n x (view n x g)

module _ (run : ℕ → Option Action) (D : ℕ) (cs : List Current) (env : List Entry) (off : ℕ) (nst : List ℕ) (φ : ℕ → Term) where
  -- the variable y of the entry gives the term φ y, lifted past the abstractions of the entry that are above it
  abbrev pub Gives : ℕ → Type 0
  Gives y = (n : ℕ) (st : List Term) → push_free (run y) D n (n + y) (state cs env st off nst) ≡ done (state cs env (rename (λ x. n + x) (φ y) ∷ st) off nst)

  push_met_is : (n x : ℕ) (st : List Term) → View φ Gives n x
      → push_met (ltb x n) run D n x (state cs env st off nst) ≡ done (state cs env (subst_unders n φ x ∷ st) off nst)
  push_met_is n x st (inl h) = rw (lt-ltb x n h.0, h.1)
  push_met_is n x st (inr h) =
      let e : n + h.0 - n ≡ h.0 = omega arith in
      let k : n ≤ n + h.0 = omega arith in
      rw (h.2, h.1, le-ltb (n + h.0) n k, e) (h.3 n st)

  -- push leaves the entry under the substitution φ, and all else as it was
  pub push_is : {s : Sort} (n : ℕ) (t : Tm s) (st : List Term) → AllFree (unders n Gives) t
      → push run D n t (state cs env st off nst) ≡ done (state cs env (onto s (subst (subst_unders n φ) t) st) off nst)
  push_is n (Var x) st h = push_met_is n x st (view φ Gives n x h)
  push_is n (Sym s ts) st h =
      ap (λ r. r >>= cell (Sym s) (len ts)) (push_is n ts st h) ∙ cell_onto cs env off nst (Sym s) _ (len ts) (len_subst _ ts) st
  push_is n (Meta z ts) st h =
      ap (λ r. r >>= cell (Meta z) (len ts)) (push_is n ts st h) ∙ cell_onto cs env off nst (Meta z) _ (len ts) (len_subst _ ts) st
  push_is n (Abst t) st h = ap (λ r. r >>= wrap) (push_is (suc n) t st h)
  push_is n Nil st h = refl
  push_is n (Cons t ts) st h = ap (λ r. r >>= push run D n ts) (push_is n t st h.0) ∙ push_is n ts _ h.1
