-- The bytes of a line (document 01, 'Bytes and the program'): 'prints one line: number, word count, result words, in decimal, single spaces'.
use Rattle.std.specs.Prelude.{◌≡◌, ℕ, zero, suc, ◌+◌, ◌/◌, ◌%◌, ◌≤◌, cond, List, [], ◌∷◌, ◌++◌, ltb, length, take}
use Rattle.std.proofs.lemmas.List.Edits.{sets}

-- ASCII
abbrev pub digit : ℕ → ℕ
digit d = 48 + d

abbrev pub space : ℕ
space = 32

abbrev pub newline : ℕ
newline = 10

-- a number's digits, at most k, without zeros in front
abbrev pub digits_within : ℕ → ℕ → List ℕ
digits_within zero n = []
digits_within (suc k) n = cond (ltb n 10) (digit n ∷ []) (digits_within k (n / 10) ++ (digit (n % 10) ∷ []))

-- a number in decimal; n + 1 digits are always enough
unfoldable pub decimal : ℕ → List ℕ
decimal n = digits_within (suc n) n

-- a space before each further number, a newline behind the last
abbrev pub behind : List ℕ → List ℕ
behind [] = newline ∷ []
behind (n ∷ ns) = space ∷ (decimal n ++ behind ns)

unfoldable pub line_of : List ℕ → List ℕ
line_of [] = newline ∷ []
line_of (n ∷ ns) = decimal n ++ behind ns

-- The bytes stand from that place on, the others are as they were, and next is the place behind them.
pub record Wrote (old new : List ℕ) (at next : ℕ) (bytes : List ℕ) : Type 0 where
  pub line : new ≡ sets old at bytes
  pub place : next ≡ at + length bytes

-- n counts bytes at the front; the second part follows from the first, and both are what a caller who lends that part needs.
abbrev pub Counts : ℕ → List ℕ → Type 0
Counts n bytes = (n ≤ length bytes) × (n ≡ length (take n bytes))
