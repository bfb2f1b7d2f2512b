-- Whether an entry is copied word for word.
use mathlib.Core.Path.{◌≡◌, sym, ◌∙◌}
use Prim.Native.Nat.{ℕ}
use mathlib.Core.Bool.{true, false}
use mathlib.Core.List.{List}
use lib.ListN.{get_or}
use borrow.Author.Tests.{eq-eqb}
use Rattle.documents.proofs.Lists.{never}
use Rattle.writer.specs.Wanted.{moves_nothing}

pub moves_whole : (code : List ℕ) (at offset : ℕ) → get_or code at 0 ≡ 12 → true ≡ moves_nothing code at offset
unfolding moves_nothing
moves_whole code at offset h = rw (eq-eqb (get_or code at 0) 12 h)

-- an entry that is not copied is that of a PUSHI
pub moves_pushed : (code : List ℕ) (at offset : ℕ) → false ≡ moves_nothing code at offset → get_or code at 0 ≡ 12 → ⊥
moves_pushed code at offset m h = let e : false ≡ true = m ∙ sym (moves_whole code at offset h) in never (cc)
