use mathlib.Core.Path.{sym, ◌≡◌}
use Prim.Native.Nat.{◌*◌}
use native.Mathlib.Omega.{arith}
use lib.ListN.{length}
use Rattle.reader.proofs.Words.{words_fill, sets_four_more}
use Rattle.reader.proofs.put_vectors.Goals as goal

pub loop-vector-preserved : goal.loop-vector-preserved
loop-vector-preserved c =
    let s = c.args in
    rw (c.put_four.ensures, c.loop-vector.invariant) (sym (sets_four_more s.file.now s.at s.table.now c.loop-vector.vector (omega arith)))

pub returns : goal.returns
returns c =
    let s = c.args in
    let all : 4 * c.loop-vector.vector ≡ length s.table.now = omega arith in
    rw (c.loop-vector.invariant, all) (words_fill s.file.now s.at s.table.now c.requires.0)
