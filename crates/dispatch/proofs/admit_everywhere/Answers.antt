use native.Mathlib.Omega.{arith}
use Rattle.dispatch.proofs.Entering.{entering_from, entering_next, entering_all}
use Rattle.dispatch.proofs.admit_everywhere.Goals as goal

pub loop-mask-init : goal.loop-mask-init
loop-mask-init c = entering_from _ c.requires.1

pub loop-mask-preserved : goal.loop-mask-preserved
loop-mask-preserved c = entering_next c.loop-mask.invariant (omega arith) c.with_rule.ensures

pub returns : goal.returns
returns c = entering_all c.loop-mask.invariant (omega arith)
