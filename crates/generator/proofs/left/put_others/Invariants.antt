-- `left::put_others` meets its contract. The indices from the loop's on are still to be looked at: one that is an argument adds nothing to the
-- list, any other is its next word.
use Rattle.generator.proofs.Matching.{Listing}
use Rattle.generator.proofs.left.put_others.Given as goal

abbrev pub invariant-loop-index : goal.invariant-loop-index
invariant-loop-index l = Listing l.arguments l.initial.code l.count l.under l.at l.index l.place l.code
