-- `reader::word_at` gives the big-endian word at a place: the library's sum of the four bytes' worths is the same number.
use native.Mathlib.Omega.{arith}
use Rattle.reader.specs.Reader.{word_at}
use Rattle.reader.proofs.word_at.Goals as goal

pub returns : goal.returns
unfolding word_at
returns c = omega arith
