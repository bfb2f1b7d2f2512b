-- `reader::put_vectors` fills a table with the words from a place on, four by four. The invariant: its front has the first of them.
use mathlib.Core.Path.{◌≡◌}
use Prim.Native.Nat.{◌*◌}
use lib.Seq.{sets}
use Rattle.reader.specs.Reader.{words_from}
use Rattle.reader.proofs.put_vectors.Given as goal

abbrev pub invariant-loop-vector : goal.invariant-loop-vector
invariant-loop-vector l = l.table ≡ sets l.initial.table 0 (words_from l.file l.at (4 * l.vector))
