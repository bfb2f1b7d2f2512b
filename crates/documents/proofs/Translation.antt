-- Programs one after the other, and the bodies of a PUSHI behind their keys.
use mathlib.Core.Path.{◌≡◌, refl, ap}
use Prim.Native.Nat.{ℕ, ◌+◌}
use native.Mathlib.Omega.{arith}
use mathlib.Core.List.{List, [], ◌∷◌}
use lib.ListN.{length, length-append}
use Rattle.documents.specs.Instructions.{End, ◌▸◌, Program, keys, words}
use Rattle.documents.specs.Translation.{◌⧺◌, keyed}

pub ⧺-assoc : (a b c : Program) → (a ⧺ b) ⧺ c ≡ a ⧺ (b ⧺ c)
⧺-assoc End b c = refl
⧺-assoc (i ▸ a) b c = ap (λ (d : Program). i ▸ d) (⧺-assoc a b c)

pub length-words-⧺ : (c d : Program) → length (words (c ⧺ d)) ≡ length (words c) + length (words d)
length-words-⧺ End d = omega arith
length-words-⧺ (i ▸ c) d =
    let h = length-words-⧺ c d in
    let a = length-append (words i) (words (c ⧺ d)) in
    let b = length-append (words i) (words c) in
    omega arith

pub keys_keyed : (l : List ℕ) (ds : List Program) → length l ≡ length ds → keys (keyed l ds) ≡ l
keys_keyed [] ds e = refl
keys_keyed (a ∷ l) [] e = absurd (omega arith)
keys_keyed (a ∷ l) (d ∷ ds) e = ap {B = List ℕ} (λ k. a ∷ k) (keys_keyed l ds (omega arith))
