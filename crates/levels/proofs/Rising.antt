-- The ancestors of a node, the root first: each comes before the next, and all before the node. So those before one of them stand before it in the list.
use mathlib.Core.Path.{◌≡◌, refl}
use Prim.Native.Nat.{ℕ, zero, suc, ◌+◌, ◌-◌, ◌≤◌, ◌<◌}
use native.Mathlib.Omega.{arith}
use mathlib.Core.Bool.{Bool, true, false, ◌||◌, cond}
use mathlib.Core.List.{List, [], ◌∷◌}
use lib.Dec.{T, eqb, ltb}
use lib.ListN.{length, get_or}
use borrow.Author.Tests.{eqb-true, ltb-false}
use Rattle.documents.specs.Lists.{member}
use Rattle.documents.specs.Terms.{Sort, Tm, Var, Sym, Meta, Abst, Nil, Cons}
use Rattle.documents.specs.Tables.{nodes}
use Rattle.rewriting.proofs.Ancestors.{ancestors_from}

-- rising numbers from p on, below q
abbrev pub Rising : ℕ → ℕ → List ℕ → Type 0
Rising p q [] = Unit {0}
Rising p q (a ∷ l) = (p ≤ a) × (a < q) × Rising (suc a) q l

rising_lower : (o p q : ℕ) (l : List ℕ) → o ≤ p → Rising p q l → Rising o q l
rising_lower o p q [] h r = r
rising_lower o p q (a ∷ l) h r = (omega (arith, r.0), r.1, r.2)

pub ancestors_rise : {s : Sort} (p q : ℕ) (t : Tm s) (n : ℕ) → p + n ≤ q → Rising p q (ancestors_from p t n)
ancestors_rise p q (Var x) n h = tt
ancestors_rise p q (Sym s ts) zero h = tt
ancestors_rise p q (Sym s ts) (suc n) h = (omega arith, omega arith, ancestors_rise (suc p) q ts n (omega arith))
ancestors_rise p q (Meta z ts) zero h = tt
ancestors_rise p q (Meta z ts) (suc n) h = (omega arith, omega arith, ancestors_rise (suc p) q ts n (omega arith))
ancestors_rise p q (Abst t) zero h = tt
ancestors_rise p q (Abst t) (suc n) h = (omega arith, omega arith, ancestors_rise (suc p) q t n (omega arith))
ancestors_rise p q Nil n h = tt
ancestors_rise p q (Cons t ts) n h = go (ltb n (nodes t)) refl _ _ (ancestors_rise p q t n h) (ancestors_rise (p + nodes t) q ts (n - nodes t))
  where
    go : (b : Bool) → ltb n (nodes t) ≡ b → (l m : List ℕ) → Rising p q l → (p + nodes t + (n - nodes t) ≤ q → Rising (p + nodes t) q m)
        → Rising p q (cond b l m)
    go true b l m r f = r
    go false b l m r f = let k = ltb-false n (nodes t) b in rising_lower p (p + nodes t) q m (omega arith) (f (omega arith))

pub rising_bounds : (p q : ℕ) (l : List ℕ) → Rising p q l → (i : ℕ) → i < length l → (p ≤ get_or l i 0) × (get_or l i 0 < q)
rising_bounds p q [] r i h = absurd (omega arith)
rising_bounds p q (a ∷ l) r zero h = (r.0, r.1)
rising_bounds p q (a ∷ l) r (suc i) h = let b = rising_bounds (suc a) q l r.2 i (omega arith) in (omega (arith, r.0, b.0), b.1)

-- the lower one stands before
pub rising_before : (p q : ℕ) (l : List ℕ) → Rising p q l → (i j : ℕ) → i < length l → j < length l → get_or l j 0 < get_or l i 0 → j < i
rising_before p q [] r i j h k b = absurd (omega arith)
rising_before p q (a ∷ l) r zero zero h k b = absurd (omega arith)
rising_before p q (a ∷ l) r zero (suc j) h k b = absurd (omega (arith, (rising_bounds (suc a) q l r.2 j (omega arith)).0))
rising_before p q (a ∷ l) r (suc i) zero h k b = omega arith
rising_before p q (a ∷ l) r (suc i) (suc j) h k b = let g = rising_before (suc a) q l r.2 i j (omega arith) (omega arith) b in omega arith

pub member_at : (l : List ℕ) (a : ℕ) → T (member l a) → (j : ℕ) × (j < length l) × (get_or l j 0 ≡ a)
member_at [] a h = absurd h
member_at (x ∷ l) a h = go (eqb x a) refl h (member_at l a)
  where
    go : (q : Bool) → eqb x a ≡ q → T (q || member l a) → (T (member l a) → (j : ℕ) × (j < length l) × (get_or l j 0 ≡ a))
        → (j : ℕ) × (j < suc (length l)) × (get_or (x ∷ l) j 0 ≡ a)
    go true q h f = (0, omega arith, eqb-true x a q)
    go false q h f = let r = f h in (suc r.0, let b = r.1 in omega arith, r.2)
