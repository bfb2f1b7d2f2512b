use native.Mathlib.Omega.{arith}
use Rattle.measurer.proofs.Linking.{forgetting_on, forgetting_end}
use Rattle.measurer.proofs.forget.Goals as goal

pub loop-preserved : goal.loop-preserved
loop-preserved c = forgetting_on c.loop.invariant (omega arith)

pub returns : goal.returns
returns c = forgetting_end c.loop.invariant (omega arith)
