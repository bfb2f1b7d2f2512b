-- What the check has asked of a PUSHI and of a body that it passed.
use mathlib.Core.Path.{◌≡◌, ap}
use Prim.Native.Nat.{ℕ, ◌+◌}
use mathlib.Core.Bool.{Bool, true, ◌&&◌}
use mathlib.Core.Option.{Option, none, some}
use mathlib.Core.List.{List, [], ◌∷◌}
use lib.Dec.{T, eqb, leb, ltb}
use borrow.Author.Tests.{eqb-true}
use Rattle.documents.specs.Limits.{d_shift}
use Rattle.documents.specs.Lists.{need}
use Rattle.documents.specs.Instructions.{Body, Program, Bodies, body_count, keys}
use Rattle.documents.specs.Passing.{pair_limit, nest_limit, Slot, slot, with_slot, covers, all_below, blocks, one_more, one_term, build}
use Rattle.documents.proofs.Lists.{never, on, T_of, of_and, needed}

-- the entry was made
pub slot_there : {A : Type 0} (o : Option Slot) (f : ℕ → List ℕ → Option A) (r : A) → with_slot o f ≡ some r → (b : ℕ) × (g : List ℕ) × (f b g ≡ some r)
slot_there none f r e = never (cc)
slot_there (some (slot b g)) f r e = (b, g, e)

-- ---- PUSHI of an entry that was made under b abstractions, with the list g of its CHECK

module _ (es : List Slot) (l nest D : ℕ) (a : Bodies) (hs : List ℕ) where
  abbrev pub push_asks : ℕ → List ℕ → Option (List ℕ)
  push_asks b g =
      need (eqb (D + b) (l + blocks hs + d_shift)) (need (leb (body_count a) pair_limit) (need (all_below b (keys a)) (need (covers b g (keys a))
      (need (build es true (l + blocks hs) (nest + blocks hs) a) (one_more hs)))))

  pub record PushAsked (ks : List ℕ) (b : ℕ) (g : List ℕ) : Type 0 where
    pub shift : D + b ≡ l + blocks hs + d_shift
    pub covered : T (covers b g (keys a))
    pub bodies : T (build es true (l + blocks hs) (nest + blocks hs) a)
    pub more : one_more hs ≡ some ks

  pub push_asked : (ks : List ℕ) (b : ℕ) (g : List ℕ) → push_asks b g ≡ some ks → PushAsked ks b g
  push_asked ks b g e =
      let q₁ = needed (eqb (D + b) (l + blocks hs + d_shift)) _ ks e in
      let q₂ = needed (leb (body_count a) pair_limit) _ ks q₁.1 in
      let q₃ = needed (all_below b (keys a)) _ ks q₂.1 in
      let q₄ = needed (covers b g (keys a)) _ ks q₃.1 in
      let q₅ = needed (build es true (l + blocks hs) (nest + blocks hs) a) _ ks q₄.1 in
      record { shift = eqb-true _ _ q₁.0; covered = T_of _ q₄.0; bodies = T_of _ q₅.0; more = q₅.1 }

-- ---- Bodies

pub one_term_lem : (o : Option (List ℕ)) → T (one_term o) → o ≡ some (1 ∷ [])
one_term_lem none t = absurd t
one_term_lem (some []) t = absurd t
one_term_lem (some (h ∷ [])) t = ap (λ (n : ℕ). some (n ∷ [])) (eqb-true h 1 (on (eqb h 1) t))
one_term_lem (some (h ∷ h₀ ∷ hs)) t = absurd t

-- a body makes one term, and those behind it were asked the same
pub body_asked : (es : List Slot) (inside : Bool) (l nest k : ℕ) (c : Program) (a : Bodies) → T (build es inside l nest (Body k c a))
    → (build es true l (nest + 1) c (0 ∷ []) ≡ some (1 ∷ [])) × T (build es inside l nest a)
body_asked es inside l nest k c a t =
    let q = of_and (ltb nest nest_limit && one_term (build es true l (nest + 1) c (0 ∷ []))) (build es inside l nest a) t in
    (one_term_lem _ (of_and (ltb nest nest_limit) (one_term (build es true l (nest + 1) c (0 ∷ []))) q.0).1, q.1)
