-- `writer::put`: two stores below the place.
use native.Mathlib.Omega.{arith}
use lib.ListN.{length-set}
use Rattle.writer.proofs.Writings.{wrote_two}
use Rattle.writer.proofs.put.Goals as goal

pub bounds-res-end-2 : goal.bounds-res-end-2
bounds-res-end-2 c = simp length-set (omega arith)

pub returns : goal.returns
returns c = wrote_two _ _ _ _ (omega arith) (omega arith)
