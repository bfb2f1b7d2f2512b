use native.Mathlib.Omega.{arith}
use Rattle.writer.proofs.Writings.{copying_none, copying_more, copied}
use Rattle.writer.proofs.copy.Goals as goal

pub loop-i-init : goal.loop-i-init
loop-i-init c = copying_none _ _ _

pub loop-i-preserved : goal.loop-i-preserved
loop-i-preserved c = copying_more c.loop-i.invariant (omega arith) (omega arith)

pub returns : goal.returns
returns c = copied c.loop-i.invariant (omega arith) _ (omega arith) (omega arith)
