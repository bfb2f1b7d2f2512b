use native.Mathlib.Omega.{arith}
use Rattle.symbols.proofs.Stored.{putting_from, putting_on, putting_ended}
use Rattle.symbols.proofs.table.put_variables.Goals as goal

pub loop-i-init : goal.loop-i-init
loop-i-init c = let p = c.requires in putting_from p.0 p.1 p.2

pub loop-i-preserved : goal.loop-i-preserved
loop-i-preserved c = putting_on c.loop-i.invariant c.loop-i-test.true

pub returns : goal.returns
returns c = putting_ended c.loop-i.invariant (omega arith)
