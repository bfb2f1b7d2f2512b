use native.Mathlib.Omega.{arith}
use Rattle.plan.proofs.Written.{rest_on}
use Rattle.plan.proofs.line.put_rest.Goals as goal

pub loop-word-preserved : goal.loop-word-preserved
loop-word-preserved c = rest_on c.loop-word.invariant c.loop-word-test.true (omega (arith, c.type_inv.words c.loop-word.word-index)) c.put_next-end.ensures
