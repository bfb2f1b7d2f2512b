-- `forbid::marks_of` meets its contract: marking what is left of the list gives the marks of the whole list.
use Rattle.std.proofs.Common.{◌≡◌, length}
use Rattle.std.specs.Prelude.{drop}
use Rattle.tables.specs.Forbidden.{Small, mark_all, marked_with}
use Rattle.tables.proofs.forbid.marks_of.Given as goal

abbrev pub invariant-loop-index : goal.invariant-loop-index
invariant-loop-index l = (mark_all l.marks (drop l.index-index l.indices) ≡ marked_with l.indices) × Small (drop l.index-index l.indices) × (length l.marks ≡ 65)
