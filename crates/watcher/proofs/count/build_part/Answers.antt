use native.Mathlib.Nat.{sub-zero}
use Rattle.std.proofs.Common.{arith}
use Rattle.watcher.proofs.Growing.{growing_from, growing_stopped, growing_on, growing_done}
use Rattle.watcher.proofs.count.build_part.Goals as goal

pub loop-init : goal.loop-init
loop-init c = rw (sub-zero c.args.i) (growing_from c.args.i c.requires)

pub returns-then-code-built : goal.returns-then-code-built
returns-then-code-built c = growing_done c.loop.invariant c.if-code-built.true

pub grow-built-requires : goal.grow-built-requires
grow-built-requires c = (c.loop.invariant.now, c.if-code-built.false)

pub loop-preserved : goal.loop-preserved
loop-preserved c = growing_on c.loop.invariant c.grow-built.ensures (omega arith) (omega arith)

pub returns : goal.returns
returns c = growing_stopped c.loop.invariant (omega arith)
