-- Sets of indices below 64 as numbers: index i is in set m where the i-th bit of m is 1.
use Rattle.std.specs.Prelude.{ℕ, suc, ◌-◌, ◌/◌, ◌%◌, ◌^◌, Bool, ◌&&◌, cond, List, [], ◌∷◌, eqb, Option, Some, None}
use Rattle.std.specs.Int.Bits.{bit_and, bit_or}
use Rattle.documents.specs.Lists.{keep, up_to}
use Rattle.documents.specs.Machine.{firsts}
use Rattle.documents.specs.Passing.{all_below, seconds}

-- index i is in it
abbrev pub has : ℕ → ℕ → Bool
has m i = eqb (m / 2 ^ i % 2) 1

-- all that are in it; none is higher than the number itself
unfoldable pub members : ℕ → List ℕ
members m = keep (has m) (up_to (suc m))

-- with one index more
unfoldable pub inserted : ℕ → ℕ → ℕ
inserted m k = bit_or m (2 ^ k)

-- with all of a list
unfoldable pub gathered : ℕ → List ℕ → ℕ
gathered m [] = m
gathered m (k ∷ ks) = gathered (inserted m k) ks

-- all below b are in it
unfoldable pub full : ℕ → ℕ → Bool
full m b = eqb (bit_and m (2 ^ b - 1)) (2 ^ b - 1)

-- a set with the first indices of pairs, if they are below b and the second ones below d
unfoldable pub firsts_in : List (ℕ × ℕ) → ℕ → ℕ → ℕ → Option ℕ
firsts_in ps m b d = cond (all_below b (firsts ps) && all_below d (seconds ps)) (Some (gathered m (firsts ps))) None
