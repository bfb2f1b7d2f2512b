use mathlib.Core.Path.{sym, ◌≡◌}
use native.Mathlib.Omega.{arith}
use lib.ListN.{length}
use Rattle.reader.proofs.Words.{words_fill, sets_one_more}
use Rattle.reader.proofs.put_each.Goals as goal

pub loop-i-preserved : goal.loop-i-preserved
loop-i-preserved c =
    let s = c.args in
    rw (c.word_at.ensures, c.loop-i.invariant) (sym (sets_one_more s.file.now s.at s.table.now c.loop-i.i (omega arith)))

pub returns : goal.returns
returns c =
    let s = c.args in
    let all : c.loop-i.i ≡ length s.table.now = omega arith in
    rw (c.loop-i.invariant, all) (words_fill s.file.now s.at s.table.now c.requires)
