-- The bodies of a PUSHI in the code: each a key, the number of the body's words, the body.
use Rattle.std.specs.Prelude
use Rattle.std.specs.Prelude.{ℕ, zero, suc, ◌+◌, ◌≤◌, cond, List, eqb, length, get_or, Some, None}
use Rattle.std.proofs.Math.Option.{Option, none, some}

-- the place behind a body whose key stands at q
abbrev pub body_end : List ℕ → ℕ → ℕ
body_end t q = q + 2 + get_or t (q + 1) 0

-- c bodies from q on lie within the code
abbrev pub Readable : List ℕ → ℕ → ℕ → Type 0
Readable t q zero = Unit {0}
Readable t q (suc c) = (body_end t q ≤ length t) × Readable t (body_end t q) c

-- where the first of c keys from q on stands that is y
unfoldable pub key_place : List ℕ → ℕ → ℕ → ℕ → Option ℕ
key_place t q zero y = none
key_place t q (suc c) y = cond (eqb (get_or t q 0) y) (some q) (key_place t (body_end t q) c y)

abbrev pub found_at : Option ℕ → Prelude.Option ℕ
found_at none = None
found_at (some q) = Some q

-- the place behind c bodies from q on
unfoldable pub place_behind : List ℕ → ℕ → ℕ → ℕ
place_behind t q zero = q
place_behind t q (suc c) = place_behind t (body_end t q) c
