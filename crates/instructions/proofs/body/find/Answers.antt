use Rattle.std.proofs.Common.{sym, ap, arith}
use Rattle.instructions.specs.Bodies.{found_at}
use Rattle.instructions.proofs.Bodies.{finding_on, finding_here, finding_none}
use Rattle.instructions.proofs.body.find.Goals as goal

pub returns-then-code-at : goal.returns-then-code-at
returns-then-code-at c = ap found_at (sym (finding_here c.loop.invariant (omega arith) c.if-code-at.true))

pub loop-preserved : goal.loop-preserved
loop-preserved c = finding_on c.loop.invariant (omega arith) (omega arith) c.if-code-at.false

pub returns : goal.returns
returns c = ap found_at (sym (finding_none c.loop.invariant (omega arith)))
