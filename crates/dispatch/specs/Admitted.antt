-- The sets of rules while the rules are sorted one by one.
use Rattle.std.specs.Prelude.{◌≡◌, ℕ, ◌+◌, ◌≤◌, ◌<◌, cond, List, map, eqb, length, get_or, set}
use Rattle.indices.specs.Sets.{inserted}

-- with a rule in each set
unfoldable pub everywhere : List ℕ → ℕ → List ℕ
everywhere masks i = map (λ s. inserted s i) masks

-- with a rule in the set of the bucket that it asks for, or in each
unfoldable pub admitted : ℕ → List ℕ → ℕ → List ℕ
admitted asked masks i = cond (eqb asked 258) (everywhere masks i) (set masks asked (inserted (get_or masks asked 0) i))

-- an instruction stands there, with its words if it is an IS
pub record Readable (code : List ℕ) (at : ℕ) : Type 0 where
  pub inside : at < length code
  pub whole : get_or code at 0 ≡ 0 → (at + 2 < length code) × (get_or code (at + 1) 0 ≤ 65535) × (get_or code (at + 2) 0 ≤ 8)
