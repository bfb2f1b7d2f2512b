-- `left::left_metavariable` meets its contract. What is found in the symbol table is what 004's `lhs` looks up, and the three cases are its own:
-- no row, a location below the SETs to come, any other.
use mathlib.Core.Path.{sym, ◌∙◌}
use Prim.Native.Nat.{◌*◌}
use Rattle.tables.proofs.Parts.{from_drop}
use Rattle.generator.proofs.Matching.{its_row, left_none, left_first_fits, left_first, left_later_fits, left_later}
use borrow.Author.Rules.{rules}
use Rattle.generator.proofs.left.left_metavariable.Goals as goal

pub returns-in_default : goal.returns-in_default
returns-in_default c = left_none c.requires.0 c.requires.1 (sym c.in_default.is ∙ c.find.ensures)

pub first_occurrence-next-requires : goal.first_occurrence-next-requires
first_occurrence-next-requires c = left_first_fits c.requires.0 c.requires.1 (sym c.in-Some.is ∙ c.find.ensures) c.if-location-sets.true

pub returns-then-location-sets : goal.returns-then-location-sets
returns-then-location-sets c = left_first c.requires.0 c.requires.1 (sym c.in-Some.is ∙ c.find.ensures) c.if-location-sets.true c.first_occurrence-next.ensures

pub overflow_mul-row : goal.overflow_mul-row
overflow_mul-row c = let p = (its_row c.requires.0 c.requires.1 (sym c.in-Some.is ∙ c.find.ensures)).within in search rules

pub offset_bounds-rows-location : goal.offset_bounds-rows-location
offset_bounds-rows-location c = let p = (its_row c.requires.0 c.requires.1 (sym c.in-Some.is ∙ c.find.ensures)).within in search rules

pub slice_bounds-row-count : goal.slice_bounds-row-count
slice_bounds-row-count c = let p = (its_row c.requires.0 c.requires.1 (sym c.in-Some.is ∙ c.find.ensures)).within in search rules

pub slice_bounds-row-start : goal.slice_bounds-row-start
slice_bounds-row-start c = let p = (its_row c.requires.0 c.requires.1 (sym c.in-Some.is ∙ c.find.ensures)).within in search rules

pub overflow_cast-entry : goal.overflow_cast-entry
overflow_cast-entry c = let p = (its_row c.requires.0 c.requires.1 (sym c.in-Some.is ∙ c.find.ensures)).within in search rules

pub later_occurrence-next-requires : goal.later_occurrence-next-requires
later_occurrence-next-requires c = let s = c.args in rw (from_drop (11 * c.in-Some.location) s.rows.now) (left_later_fits c.requires.0 c.requires.1 (sym c.in-Some.is ∙ c.find.ensures) c.if-location-sets.false)

pub returns : goal.returns
returns c = let s = c.args in left_later c.requires.0 c.requires.1 (sym c.in-Some.is ∙ c.find.ensures) c.if-location-sets.false (rw (from_drop (11 * c.in-Some.location) s.rows.now) at c.later_occurrence-next.ensures)
