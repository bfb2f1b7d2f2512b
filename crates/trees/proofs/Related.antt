-- Lists of the same length whose elements stand in a relation: what keys find in the one stands in it to what they find in the other.
use Prim.Native.Nat.{ℕ}
use mathlib.Core.Bool.{cond}
use mathlib.Core.Option.{Option, none, some}
use mathlib.Core.List.{List, [], ◌∷◌}
use lib.Dec.{eqb}
use Rattle.documents.specs.Lists.{assoc, pairlists}
use Rattle.documents.proofs.Lists.{case}

module _ {A B : Type 0} (R : A → B → Type 0) where
  abbrev pub AllRelated : List A → List B → Type 0
  AllRelated [] [] = Unit {0}
  AllRelated [] (y ∷ ys) = ⊥
  AllRelated (x ∷ xs) [] = ⊥
  AllRelated (x ∷ xs) (y ∷ ys) = R x y × AllRelated xs ys

  abbrev pub BothRelated : Option A → Option B → Type 0
  BothRelated none none = Unit {0}
  BothRelated none (some y) = ⊥
  BothRelated (some x) none = ⊥
  BothRelated (some x) (some y) = R x y

  pub found_related : (ks : List ℕ) (xs : List A) (ys : List B) → AllRelated xs ys
      → (k : ℕ) → BothRelated (assoc (pairlists ks xs) k) (assoc (pairlists ks ys) k)
  found_related [] xs ys h k = tt
  found_related (i ∷ ks) [] [] h k = tt
  found_related (i ∷ ks) [] (y ∷ ys) h k = absurd h
  found_related (i ∷ ks) (x ∷ xs) [] h k = absurd h
  found_related (i ∷ ks) (x ∷ xs) (y ∷ ys) h k =
      case (λ q. BothRelated (cond q (some x) (assoc (pairlists ks xs) k)) (cond q (some y) (assoc (pairlists ks ys) k))) (eqb i k)
      (λ t. h.0) (λ t. found_related ks xs ys h.1 k)
