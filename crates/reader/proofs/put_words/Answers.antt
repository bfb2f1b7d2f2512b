-- `reader::put_words`: the words that fill no vector, and then the others, are all of them (`words_parts`).
use Prim.Native.Nat.{◌+◌, ◌-◌, ◌*◌, ◌%◌}
use mathlib.Core.Path.{ap, ◌≡◌, ◌∙◌}
use mathlib.Core.List.{◌++◌}
use native.Mathlib.Omega.{arith}
use lib.ListN.{length, take, drop, length-take, length-drop}
use Rattle.std.proofs.lemmas.List.{length-append}
use Rattle.reader.specs.Reader.{words_from}
use Rattle.reader.proofs.Words.{words_parts}
use Rattle.reader.proofs.put_words.Goals as goal

pub returns : goal.returns
returns c =
    let s = c.args in
    let bs = s.file.now in
    let m = s.count % 4 in
    let head = c.put_each.new.table in
    let first : length (take m s.table.now) ≡ m = simp length-take (omega arith) in
    let behind : length (take (s.count - m) (drop m (head ++ drop m s.table.now))) ≡ s.count - m =
    simp (length-take, length-drop, length-append) (omega (arith, first, c.put_each.auto.table)) in
    let words : head ≡ words_from bs s.at m = c.put_each.ensures ∙ ap (λ n. words_from bs s.at n) first in
    let others : c.put_vectors.new.table ≡ words_from bs (s.at + 4 * m) (s.count - m) =
    c.put_vectors.ensures ∙ ap (λ n. words_from bs (s.at + 4 * m) n) behind in
    rw (words, others) (words_parts bs s.at s.table.now m s.count (omega arith) c.requires.0 c.requires.1)
