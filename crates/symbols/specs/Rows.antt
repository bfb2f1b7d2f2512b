-- The symbol table as words (004, section 5): a row after the other, the last first occurrence first, so that a location is a place.
use Rattle.std.specs.Prelude.{ℕ, zero, suc, ◌/◌, ◌<◌, List, [], ◌∷◌, length, get_or, take, drop}
use Rattle.std.specs.Prelude.{Option, Some, None}
use Rattle.std.proofs.Math.Option as Math
use Rattle.std.proofs.Math.Option.{none, some}
use Rattle.documents.specs.Translation.{Row, row, Located, located}

-- the row that words begin with: name, argument count, abstractions above, arguments; there is room for eight of these
abbrev pub row_in : List ℕ → Row
row_in ws = row (get_or ws 0 0) (get_or ws 1 0) (get_or ws 2 0) (take (get_or ws 1 0) (drop 3 ws))

unfoldable pub rows_from : ℕ → List ℕ → List Row
rows_from zero ws = []
rows_from (suc n) ws = row_in ws ∷ rows_from n (drop 11 ws)

-- the rows that words hold, eleven words each
unfoldable pub rows_in : List ℕ → List Row
rows_in ws = rows_from (length ws / 11) ws

-- the location of a row that was looked up
abbrev pub found_in : Math.Option Located → Option ℕ
found_in none = None
found_in (some (located l r)) = Some l

-- No metavariable stands under more than 63 abstractions.
abbrev pub Low : List Row → Type 0
Low [] = Unit {0}
Low (row z k b a ∷ rows) = (b < 64) × Low rows
