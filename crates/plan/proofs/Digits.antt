-- A number's digits: all but the last are those of its tenth, and a 32-bit number has at most ten.
use mathlib.Core.Path.{◌≡◌, refl, ap, ◌∙◌}
use Prim.Native.Nat.{ℕ, zero, suc, ◌+◌, ◌/◌, ◌%◌, ◌^◌, ◌≤◌, ◌<◌}
use native.Mathlib.Nat.{pow-suc}
use native.Mathlib.Omega.{arith}
use mathlib.Core.Bool.{Bool, true, false, cond}
use mathlib.Core.List.{List, [], ◌∷◌, ◌++◌}
use lib.Dec.{ltb}
use lib.ListN.{length, length-append}
use borrow.Author.Tests.{ltb-true, ltb-false, lt-ltb, le-ltb}
use Rattle.plan.specs.Line.{digit, digits_within, decimal}

-- where there is room for all digits, more room changes nothing
within_room : (j k n : ℕ) → n < j → n < k → digits_within j n ≡ digits_within k n
within_room zero k n p q = absurd (omega arith)
within_room (suc j) zero n p q = absurd (omega arith)
within_room (suc j) (suc k) n p q = go (ltb n 10) refl (within_room j k (n / 10))
  where
    go : (b : Bool) → ltb n 10 ≡ b → (n / 10 < j → n / 10 < k → digits_within j (n / 10) ≡ digits_within k (n / 10))
        → cond b (digit n ∷ []) (digits_within j (n / 10) ++ (digit (n % 10) ∷ [])) ≡ cond b (digit n ∷ []) (digits_within k (n / 10) ++ (digit (n % 10) ∷ []))
    go true e tenth = refl
    go false e tenth = let h = ltb-false n 10 e in ap (λ (l : List ℕ). l ++ (digit (n % 10) ∷ [])) (tenth (omega arith) (omega arith))

pub decimal_one : (n : ℕ) → n < 10 → decimal n ≡ digit n ∷ []
unfolding decimal
decimal_one n h = rw (lt-ltb n 10 h)

pub decimal_more : (n : ℕ) → 10 ≤ n → decimal n ≡ decimal (n / 10) ++ (digit (n % 10) ∷ [])
unfolding decimal
decimal_more n h =
    rw (le-ltb n 10 h) (ap (λ (l : List ℕ). l ++ (digit (n % 10) ∷ [])) (within_room n (suc (n / 10)) (n / 10) (omega arith) (omega arith)))

pub length_more : (n : ℕ) → 10 ≤ n → length (decimal n) ≡ length (decimal (n / 10)) + 1
length_more n h = ap (λ (l : List ℕ). length l) (decimal_more n h) ∙ length-append (decimal (n / 10)) (digit (n % 10) ∷ [])

pub length_one : (n : ℕ) → n < 10 → length (decimal n) ≡ 1
length_one n h = ap (λ (l : List ℕ). length l) (decimal_one n h)

short : (k n : ℕ) → n < 10 ^ suc k → length (decimal n) ≤ suc k
short zero n h = omega (arith, length_one n h)
short (suc k) n h = go (ltb n 10) refl (short k (n / 10) (let p = pow-suc 10 (suc k) in omega arith))
  where
    go : (b : Bool) → ltb n 10 ≡ b → length (decimal (n / 10)) ≤ suc k → length (decimal n) ≤ suc (suc k)
    go true e tenth = omega (arith, length_one n (ltb-true n 10 e))
    go false e tenth = omega (arith, length_more n (ltb-false n 10 e))

pub ten_digits : (n : ℕ) → n < 4294967296 → length (decimal n) ≤ 10
ten_digits n h = short 9 n (omega arith)
