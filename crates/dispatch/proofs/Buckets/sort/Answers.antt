use native.Mathlib.Omega.{arith}
use Rattle.dispatch.proofs.Sifting.{sorting_none, sorting_more, sorting_all, code_inside, code_readable}
use Rattle.dispatch.proofs.Buckets.sort.Goals as goal

pub loop-i-init : goal.loop-i-init
loop-i-init c = sorting_none _ _ c.requires.1 c.requires.2

pub code_at-code-requires : goal.code_at-code-requires
code_at-code-requires c = code_inside c.requires.0.1 _ (omega arith)

pub asked-requires : goal.asked-requires
asked-requires c = (code_readable c.requires.0.1 _ (omega arith) c.code_at-code.ensures).0

pub asked_behind-requires : goal.asked_behind-requires
asked_behind-requires c = code_readable c.requires.0.1 _ (omega arith) c.code_at-code.ensures

pub loop-i-preserved : goal.loop-i-preserved
loop-i-preserved c = sorting_more c.loop-i.invariant (omega arith) c.code_at-code.ensures c.asked.ensures.0 c.admit.ensures c.asked_behind.ensures.0 c.admit-in-loop-i.ensures

pub returns : goal.returns
returns c = sorting_all c.loop-i.invariant (omega arith)
