-- The environment against the check's entries: each entry has the depth that the check keeps, its variables past that depth are free in the
-- subject, and none stands in its guard. So keys that cover the indices below b outside the guard have a place for every variable of the entry.
use mathlib.Core.Path.{◌≡◌, refl, ap}
use mathlib.Core.Logic.{◌⊎◌, inl, inr}
use Prim.Native.Nat.{ℕ, zero, suc, ◌+◌, ◌≤◌}
use native.Mathlib.Omega.{arith}
use native.Mathlib.Decide.{ℕ_discrete}
use mathlib.Core.Bool.{Bool, true, false, not, ◌&&◌, ◌||◌}
use mathlib.Core.Option.{Option, some}
use mathlib.Core.List.{List, [], ◌∷◌}
use lib.Dec.{T, leb, le→leb}
use lib.ListN.{length, get_elem?}
use Rattle.documents.specs.Limits.{d_shift}
use Rattle.documents.specs.Lists.{every, member, up_to}
use Rattle.documents.specs.Terms.{Term}
use Rattle.documents.specs.Rules.{freevars}
use Rattle.documents.specs.Machine.{Entry, entry, placed}
use Rattle.documents.specs.Passing.{open_limit, Slot, slot, with_slot, covers}
use Rattle.documents.proofs.Lists.{never, of_and, every_append}
use Rattle.documents.proofs.FreeVariables.{unders, AllFree, AllFree-map, every_of_free}
use Rattle.kahrs.proofs.RightSide.{covered, placed_of_covered}

-- ---- Keys that cover

abbrev pub Outside : List ℕ → ℕ → Type 0
Outside g y = T (not (member g y))

or_right : (p q : Bool) → T (p || q) → T (not p) → T q
or_right true q t n = absurd n
or_right false q t n = t

or_of : (p q : Bool) → T p ⊎ T q → T (p || q)
or_of true q h = tt
or_of false q (inl h) = absurd h
or_of false q (inr h) = h

key_or_past : (b : ℕ) (g ks : List ℕ) (y : ℕ) → T (covers b g ks) → Outside g y → T (member ks y) ⊎ (b ≤ y)
key_or_past zero g ks y c n = inr (omega arith)
key_or_past (suc b) g ks y c n =
    let p : ℕ → Bool = λ i. member g i || member ks i in
    let r = of_and (every p (up_to b)) (p b && true) (rw (every_append p (up_to b) (b ∷ [])) at c) in
    go (ℕ_discrete b y) (of_and (p b) true r.1).0 (key_or_past b g ks y r.0 n)
  where
    go : Dec (b ≡ y) → T (member g b || member ks b) → T (member ks y) ⊎ (b ≤ y) → T (member ks y) ⊎ (suc b ≤ y)
    go d t (inl m) = inl m
    go (yes e) t (inr h) = inl (or_right (member g y) (member ks y) (rw e at t) n)
    go (no e) t (inr h) = inr (omega arith)

pub covered_of_covers : (b : ℕ) (g ks : List ℕ) (y : ℕ) → T (covers b g ks) → Outside g y → T (covered ks b y)
covered_of_covers b g ks y c n = or_of (member ks y) (leb b y) (go (key_or_past b g ks y c n))
  where
    go : T (member ks y) ⊎ (b ≤ y) → T (member ks y) ⊎ T (leb b y)
    go (inl m) = inl m
    go (inr h) = inr (le→leb b y h)

-- keys that cover have a place for each free variable of a guarded entry
pub all_placed : (ks g : List ℕ) (b D n : ℕ) (a : Term) → D + b ≡ n + d_shift → T (covers b g ks) → AllFree (Outside g) a
    → T (every (placed ks b D) (freevars a))
all_placed ks g b D n a e c o =
    every_of_free (placed ks b D) 0 a (AllFree-map _ _ a (λ y h. placed_of_covered ks b D n y e (covered_of_covers b g ks y c h)) o)

-- ---- Entries

module _ (Sub : ℕ → Type 0) where
  abbrev pub EntryOk : Slot → Entry → Type 0
  EntryOk (slot b g) (entry b' a) = (b' ≡ b) × (b ≤ open_limit) × AllFree (unders b Sub) a × AllFree (Outside g) a

  abbrev pub EntriesOk : List Slot → List Entry → Type 0
  EntriesOk [] [] = Unit {0}
  EntriesOk [] (x ∷ env) = ⊥
  EntriesOk (s ∷ es) [] = ⊥
  EntriesOk (s ∷ es) (x ∷ env) = EntryOk s x × EntriesOk es env

  pub entries_length : (es : List Slot) (env : List Entry) → EntriesOk es env → length env ≡ length es
  entries_length [] [] o = refl
  entries_length [] (x ∷ env) o = absurd o
  entries_length (s ∷ es) [] o = absurd o
  entries_length (s ∷ es) (x ∷ env) o = ap suc (entries_length es env o.1)

  -- the entry that an instruction names, and what the check says of it
  pub record Named {A : Type 0} (env : List Entry) (e : ℕ) (f : ℕ → List ℕ → Option A) (r : A) : Type 0 where
    pub b : ℕ
    pub guard : List ℕ
    pub term : Term
    pub here : get_elem? env e ≡ some (entry b term)
    pub says : f b guard ≡ some r
    pub low : b ≤ open_limit
    pub inside : AllFree (unders b Sub) term
    pub outside : AllFree (Outside guard) term

  pub named : {A : Type 0} (es : List Slot) (env : List Entry) (e : ℕ) (f : ℕ → List ℕ → Option A) (r : A)
      → EntriesOk es env → with_slot (get_elem? es e) f ≡ some r → Named env e f r
  named [] env e f r o w = never (cc)
  named (s ∷ es) [] e f r o w = absurd o
  named (slot b g ∷ es) (entry b' a ∷ env) zero f r o w =
      record { b = b; guard = g; term = a; here = ap (λ (n : ℕ). some (entry n a)) o.0.0; says = w; low = o.0.1; inside = o.0.2; outside = o.0.3 }
  named (s ∷ es) (x ∷ env) (suc e) f r o w =
      let k = named es env e f r o.1 w in
      record { b = k.b; guard = k.guard; term = k.term; here = k.here; says = k.says; low = k.low; inside = k.inside; outside = k.outside }
