-- `reader::put_each` fills a table with the words from a place on. The invariant: its front has the first of them.
use mathlib.Core.Path.{◌≡◌}
use lib.Seq.{sets}
use Rattle.reader.specs.Reader.{words_from}
use Rattle.reader.proofs.put_each.Given as goal

abbrev pub invariant-loop-i : goal.invariant-loop-i
invariant-loop-i l = l.table ≡ sets l.initial.table 0 (words_from l.file l.at l.i)
