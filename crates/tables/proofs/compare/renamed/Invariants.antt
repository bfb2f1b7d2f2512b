-- `compare::renamed` meets its contract: the pairs that are left rename the index as all of them do.
use Rattle.std.proofs.Common.{◌≡◌}
use Rattle.std.specs.Slice.Iter.{chunks_exact_rest, chunks_exact_size}
use Rattle.documents.specs.Instructions.{pairs_in}
use Rattle.documents.specs.Machine.{renaming}
use Rattle.tables.proofs.compare.renamed.Given as goal

abbrev pub invariant-loop-pair : goal.invariant-loop-pair
invariant-loop-pair l =
    (chunks_exact_size l.pair-iterator ≡ 2) ×
    (renaming (pairs_in (chunks_exact_rest l.pair-iterator)) l.shift l.index ≡ renaming (pairs_in l.pairs) l.shift l.index)
