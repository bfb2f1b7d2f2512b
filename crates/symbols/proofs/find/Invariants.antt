-- `find` meets its contract: looking a metavariable up in the rows that are left, behind so many others, is looking it up in all of them. Each row
-- that is not the one asked for is passed, and a row that is gives its location.
use mathlib.Core.Path.{◌≡◌}
use Rattle.std.specs.Iterator.Adapters.{enumerate_source, enumerate_count}
use Rattle.std.specs.Slice.Iter.{chunks_exact_rest, chunks_exact_size}
use Rattle.symbols.proofs.Rows.{Seeking}
use Rattle.symbols.proofs.find.Given as goal

abbrev pub invariant-loop-location : goal.invariant-loop-location
invariant-loop-location l =
    (chunks_exact_size (enumerate_source l.location-iterator) ≡ 11) ×
    Seeking l.rows l.name l.count (enumerate_count l.location-iterator) (chunks_exact_rest (enumerate_source l.location-iterator))
