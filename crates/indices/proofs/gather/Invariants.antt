-- `indices::gather`: what is left, from the set so far, makes what the whole list makes.
use Rattle.std.proofs.Common.{◌≡◌, true}
use Rattle.std.specs.Prelude.{drop}
use Rattle.documents.specs.Passing.{all_below}
use Rattle.indices.specs.Sets.{gathered}
use Rattle.indices.proofs.gather.Given as goal

abbrev pub invariant-loop-index : goal.invariant-loop-index
invariant-loop-index l = (gathered 0 l.list ≡ gathered l.set (drop l.index-index l.list)) × (all_below 64 (drop l.index-index l.list) ≡ true)
