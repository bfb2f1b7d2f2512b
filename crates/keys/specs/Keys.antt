-- Metavariables as numbers, and such numbers parted by a bit.
use Rattle.std.specs.Prelude.{◌≡◌, ℕ, ◌+◌, ◌*◌, ◌/◌, ◌%◌, ◌^◌, ◌≤◌, Bool, true, not, List, [], ◌∷◌, eqb, length, take, drop}
use Rattle.documents.specs.Lists.{every, member}
use Rattle.documents.specs.Terms.{Term}
use Rattle.documents.specs.Rules.{metas}

-- a metavariable's word (01, 'Terms and node tables') and its argument count as one number
abbrev pub key : ℕ × ℕ → ℕ
key m = 131072 + m.0 + 65536 * m.1

abbrev pub keys_of : List (ℕ × ℕ) → List ℕ
keys_of [] = []
keys_of (m ∷ ms) = key m ∷ keys_of ms

-- The first n of 256 words are the keys of a term's metavariables.
pub record Keyed (t : Term) (words : List ℕ) (n : ℕ) : Type 0 where
  pub size : length words ≡ 256
  pub within : n ≤ 256
  pub keys : take n words ≡ keys_of (metas t)

-- a key's bit at a place is 0
abbrev pub is_low : ℕ → ℕ → Bool
is_low place k = eqb (k / 2 ^ place % 2) 0

-- The same keys, the first n those whose bit at a place is 0.
pub record Parted (place : ℕ) (old new : List ℕ) (n : ℕ) : Type 0 where
  pub size : length new ≡ length old
  pub within : n ≤ length new
  pub same : (k : ℕ) → member new k ≡ member old k
  pub lows : every (is_low place) (take n new) ≡ true
  pub highs : every (λ k. not (is_low place k)) (drop n new) ≡ true
