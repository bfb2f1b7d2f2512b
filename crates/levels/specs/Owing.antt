-- Words that owe nothing any more, at the end of those of an array.
use Rattle.std.specs.Prelude.{ℕ, zero, suc, ◌%◌, ◌<◌, ◌≤◌, cond, List, eqb, get_or}

-- how many are left without them
unfoldable pub owing_from : List ℕ → ℕ → ℕ
owing_from above zero = 0
owing_from above (suc k) = cond (eqb (get_or above k 0 % 16) 0) (owing_from above k) (suc k)

-- one of the first k words owes something
pub record Owes (above : List ℕ) (k : ℕ) : Type 0 where
  pub inside : k ≤ 65
  pub some : 0 < owing_from above k
