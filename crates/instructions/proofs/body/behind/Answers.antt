use Rattle.std.proofs.Common.{arith}
use Rattle.instructions.proofs.Bodies.{passing_on, passing_end}
use Rattle.instructions.proofs.body.behind.Goals as goal

pub loop-preserved : goal.loop-preserved
loop-preserved c = passing_on c.loop.invariant (omega arith) (omega arith)

pub returns : goal.returns
returns c = passing_end c.loop.invariant (omega arith)
