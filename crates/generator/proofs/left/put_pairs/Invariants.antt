-- `left::put_pairs` meets its contract. The pairs of the arguments that are left are still to be written, and the first of them is an old index and
-- a new one.
use Prim.Native.Nat.{◌-◌, ◌*◌}
use lib.ListN.{take}
use Rattle.documents.specs.Translation.{unvar}
use Rattle.documents.specs.Instructions.{pair_words}
use Rattle.documents.specs.Lists.{pairlists}
use Rattle.tables.specs.Parts.{terms}
use Rattle.generator.proofs.Matching.{Pairing}
use Rattle.generator.proofs.left.put_pairs.Given as goal

abbrev pub invariant-loop-i : goal.invariant-loop-i
invariant-loop-i l = Pairing l.old l.new l.initial.code l.at (pair_words (pairlists (take l.count l.old) (unvar (terms l.count l.new)))) (l.count - l.i) l.i (2 * l.i) l.place l.code
