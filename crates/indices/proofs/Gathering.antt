-- Index after index, and pair after pair: a turn of each loop.
use mathlib.Core.Path.{◌≡◌, refl, ◌∙◌}
use Prim.Native.Nat.{ℕ, ◌+◌, ◌-◌, ◌*◌, ◌%◌, ◌^◌, ◌≤◌, ◌<◌}
use native.Mathlib.Omega.{arith}
use mathlib.Core.Bool.{true, ◌&&◌, and-false}
use mathlib.Core.List.{List, [], ◌∷◌}
use lib.Dec.{eqb, ltb}
use lib.ListN.{length, get_or, drop, drop_of_length-le}
use lib.Bits.{bit_and, bit_or}
use lib.Pow.{pow_pos, shl_exact}
use borrow.Author.Tests.{lt-ltb, le-ltb, ltb-true}
use Rattle.documents.specs.Machine.{firsts}
use Rattle.documents.specs.Passing.{all_below}
use Rattle.documents.proofs.Lists.{on, T_of, of_and, at_cons}
use Rattle.std.specs.Prelude.{Some, None}
use Rattle.indices.specs.Sets.{inserted, gathered, full, firsts_in}

-- one bit, shifted within 64
one_shifted : (k : ℕ) → k ≤ 63 → 1 * 2 ^ k % 2 ^ 64 ≡ 2 ^ k
one_shifted k h = shl_exact 1 k 64 (omega arith) (omega arith) ∙ omega arith

pub insert_is : (m k : ℕ) → k ≤ 63 → bit_or m (1 * 2 ^ k % 2 ^ 64) ≡ inserted m k
unfolding inserted
insert_is m k h = rw (one_shifted k h)

pub shifted_positive : (k : ℕ) → k ≤ 63 → 1 ≤ 1 * 2 ^ k % 2 ^ 64
shifted_positive k h = rw (one_shifted k h) (pow_pos k)

pub full_is : (m b : ℕ) → b ≤ 63 → eqb (bit_and m (1 * 2 ^ b % 2 ^ 64 - 1)) (1 * 2 ^ b % 2 ^ 64 - 1) ≡ full m b
unfolding full
full_is m b h = rw (one_shifted b h)

module _ (t : List ℕ) (i : ℕ) where
  -- each below 64, and so those behind it
  pub small_next : i < length t → all_below 64 (drop i t) ≡ true → (get_or t i 0 ≤ 63) × (all_below 64 (drop (i + 1) t) ≡ true)
  small_next h e =
      let q = of_and (ltb (get_or t i 0) 64) (all_below 64 (drop (i + 1) t)) (T_of _ (rw (at_cons t i h) at e)) in
      let k = ltb-true (get_or t i 0) 64 (on _ q.0) in
      (omega arith, on _ q.1)

module _ (t : List ℕ) (i m : ℕ) where
  pub gathered_next : (n : ℕ) → i < length t → n ≡ inserted m (get_or t i 0) → gathered m (drop i t) ≡ gathered n (drop (i + 1) t)
  unfolding gathered
  gathered_next n h e = rw (at_cons t i h, e)

  pub gathered_all : length t ≤ i → gathered m (drop i t) ≡ m
  unfolding gathered
  gathered_all h = rw (drop_of_length-le t h)

module _ (b d m : ℕ) where
  pub firsts_none : firsts_in [] m b d ≡ Some m
  unfolding firsts_in gathered
  firsts_none = refl

  module _ (x y : ℕ) (ps : List (ℕ × ℕ)) where
    pub first_high : b ≤ x → firsts_in ((x, y) ∷ ps) m b d ≡ None
    unfolding firsts_in
    first_high p = rw (le-ltb x b p)

    pub second_high : d ≤ y → firsts_in ((x, y) ∷ ps) m b d ≡ None
    unfolding firsts_in
    second_high p = rw (le-ltb y d p, and-false (ltb x b && all_below b (firsts ps)))

    pub pair_next : (n : ℕ) → x < b → y < d → n ≡ inserted m x → firsts_in ((x, y) ∷ ps) m b d ≡ firsts_in ps n b d
    unfolding firsts_in gathered
    pair_next n p q e = rw (lt-ltb x b p, lt-ltb y d q, e)
