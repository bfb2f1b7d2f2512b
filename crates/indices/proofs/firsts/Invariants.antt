-- `indices::firsts`: the pairs that are left, with the set so far, come to what all pairs come to. A pair that is too high ends it.
use Rattle.std.proofs.Common.{◌≡◌}
use Rattle.std.specs.Slice.Iter.{chunks_exact_rest, chunks_exact_size}
use Rattle.documents.specs.Instructions.{pairs_in}
use Rattle.indices.specs.Sets.{firsts_in}
use Rattle.indices.proofs.firsts.Given as goal

abbrev pub invariant-loop-pair : goal.invariant-loop-pair
invariant-loop-pair l =
    (chunks_exact_size l.pair-iterator ≡ 2) ×
    (firsts_in (pairs_in l.pairs) l.set l.b l.d ≡ firsts_in (pairs_in (chunks_exact_rest l.pair-iterator)) l.firsts l.b l.d)
