-- Which words of an entry are its free variables.
use mathlib.Core.Path.{◌≡◌}
use Prim.Native.Nat.{ℕ, ◌≤◌, ◌<◌}
use mathlib.Core.Bool.{true, false}
use lib.Dec.{leb, ltb}
use borrow.Author.Tests.{lt-ltb, le-ltb, ltb-true, leb-true}
use Rattle.documents.proofs.Lists.{on, T_of, of_and}
use Rattle.links.specs.Nodewise.{is_free}

pub no_variable : (w n : ℕ) → 65536 ≤ w → false ≡ is_free w n
unfolding is_free
no_variable w n h = rw (le-ltb w 65536 h)

pub variable_free : (w n : ℕ) → w < 65536 → leb n w ≡ is_free w n
unfolding is_free
variable_free w n h = rw (lt-ltb w 65536 h)

-- a free one, under n abstractions
pub free_low : (w n : ℕ) → is_free w n ≡ true → (w < 65536) × (n ≤ w)
unfolding is_free
free_low w n e = let b = of_and (ltb w 65536) (leb n w) (T_of _ e) in (ltb-true w 65536 (on _ b.0), leb-true n w (on _ b.1))
