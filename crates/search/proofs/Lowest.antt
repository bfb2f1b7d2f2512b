-- The lowest bit of a number: below it there is none, and without it the number has the others still.
use mathlib.Core.Path.{◌≡◌, refl, sym, ap, ap₂, ◌∙◌}
use Prim.Native.Nat.{ℕ, zero, suc, ◌+◌, ◌-◌, ◌*◌, ◌/◌, ◌%◌, ◌^◌, ◌<◌, min}
use native.Mathlib.Nat.{pow-suc, div-div-eq-div-mul}
use native.Mathlib.Omega.{arith}
use lib.Bits.{bit_and, and_shr}
use lib.Count.{count_trailing_zeros, under}
use lib.Pow.{pow-add}
use Rattle.std.proofs.lemmas.Nat.Bits.{bit_at-suc, bit_at_and}

-- ---- Below it there is none

halves : (n j : ℕ) → n / 2 ^ suc j ≡ n / 2 / 2 ^ j
halves n j = ap (λ (m : ℕ). n / m) (let z : 1 + j ≡ suc j = omega arith in ap (λ (k : ℕ). 2 ^ k) (sym z) ∙ pow-add 2 1 j) ∙ sym (div-div-eq-div-mul n 2 (2 ^ j))

pub below_lowest : (k n j : ℕ) → j < count_trailing_zeros k n → n / 2 ^ j % 2 ≡ 0
unfolding count_trailing_zeros
below_lowest zero n j h = absurd (omega arith)
below_lowest (suc k) n j h = go (n % 2) refl j h (below_lowest k (n / 2))
  where
    go : (d : ℕ) → n % 2 ≡ d → (j : ℕ) → j < under d (count_trailing_zeros k (n / 2)) → ((i : ℕ) → i < count_trailing_zeros k (n / 2) → n / 2 / 2 ^ i % 2 ≡ 0) → n / 2 ^ j % 2 ≡ 0
    go zero e zero h f = let z : n / 1 ≡ n = omega arith in rw z e
    go zero e (suc j) h f = rw (halves n j) (f j (omega arith))
    go (suc d) e j h f = absurd (omega arith)

pub lowest_bit : (k n : ℕ) → 0 < n → n < 2 ^ k → n / 2 ^ count_trailing_zeros k n % 2 ≡ 1
unfolding count_trailing_zeros
lowest_bit zero n p h = absurd (omega arith)
lowest_bit (suc k) n p h = go (n % 2) refl (lowest_bit k (n / 2))
  where
    half : n / 2 < 2 ^ k
    half = let z : 1 + k ≡ suc k = omega arith in let e : 2 ^ (1 + k) ≡ 2 * 2 ^ k = pow-add 2 1 k in let h' : n < 2 ^ (1 + k) = rw z h in omega arith

    go : (d : ℕ) → n % 2 ≡ d → (0 < n / 2 → n / 2 < 2 ^ k → n / 2 / 2 ^ count_trailing_zeros k (n / 2) % 2 ≡ 1) → n / 2 ^ under d (count_trailing_zeros k (n / 2)) % 2 ≡ 1
    go zero e f = rw (halves n (count_trailing_zeros k (n / 2))) (f (omega arith) half)
    go (suc d) e f = let z : n / 1 ≡ n = omega arith in rw z (omega arith)

-- ---- Without it

pub others_stay : (k n j : ℕ) → 0 < n → n < 2 ^ k → n / 2 ^ j % 2 ≡ 1 → (j ≡ count_trailing_zeros k n → ⊥) → bit_and n (n - 1) / 2 ^ j % 2 ≡ 1
unfolding count_trailing_zeros
others_stay zero n j p h s ne = absurd (omega arith)
others_stay (suc k) n j p h s ne = go (n % 2) (count_trailing_zeros k (n / 2)) j refl s ne (λ e i. others_stay k (n / 2) i (omega arith) half)
  where
    half : n / 2 < 2 ^ k
    half = omega (arith, pow-suc 2 k)

    go : (d t j : ℕ) → n % 2 ≡ d → n / 2 ^ j % 2 ≡ 1 → (j ≡ under d t → ⊥)
        → (n % 2 ≡ 0 → (i : ℕ) → n / 2 / 2 ^ i % 2 ≡ 1 → (i ≡ t → ⊥) → bit_and (n / 2) (n / 2 - 1) / 2 ^ i % 2 ≡ 1) → bit_and n (n - 1) / 2 ^ j % 2 ≡ 1
    go zero t zero e s ne f = let z : n / 1 ≡ n = omega arith in let s' : n % 2 ≡ 1 = rw z at s in absurd (omega arith)
    go zero t (suc i) e s ne f =
        let z : (n - 1) / 2 ≡ n / 2 - 1 = omega arith in
        bit_at-suc (bit_and n (n - 1)) i ∙ ap (λ (m : ℕ). m / 2 ^ i % 2) (and_shr n (n - 1) 1 ∙ ap (bit_and (n / 2)) z) ∙ f e i (sym (bit_at-suc n i) ∙ s) (λ q. ne (ap suc q))
    go (suc d) t zero e s ne f = absurd (ne refl)
    go (suc d) t (suc i) e s ne f =
        let z : (n - 1) / 2 ≡ n / 2 = omega arith in
        let s' : (n - 1) / 2 ^ suc i % 2 ≡ 1 = bit_at-suc (n - 1) i ∙ ap (λ (m : ℕ). m / 2 ^ i % 2) z ∙ sym (bit_at-suc n i) ∙ s in
        bit_at_and n (n - 1) (suc i) ∙ ap₂ min s s'
