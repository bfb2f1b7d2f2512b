-- The check's own lists.
use mathlib.Core.Path.{◌≡◌}
use Prim.Native.Nat.{ℕ, zero, suc, ◌+◌}
use native.Mathlib.Omega.{arith}
use mathlib.Core.List.{List}
use lib.ListN.{length}
use Rattle.documents.specs.Passing.{times}

pub length_times : (n d : ℕ) (ds : List ℕ) → length (times n d ds) ≡ length ds + n
length_times zero d ds = omega arith
length_times (suc n) d ds = let h = length_times n d ds in omega arith
