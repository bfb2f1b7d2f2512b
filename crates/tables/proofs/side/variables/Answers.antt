use Rattle.std.proofs.Common.{arith}
use Rattle.tables.proofs.Along.{along_from, along_zero, along_none, along_on, along_variables, along_end}
use Rattle.tables.proofs.side.variables.Goals as goal

pub loop-i-init : goal.loop-i-init
loop-i-init c = (along_from c.requires, rw (along_zero c.args.count c.args.part.now))

pub bounds-part-i : goal.bounds-part-i
bounds-part-i c = let w = c.loop-i.invariant.0.within in omega arith

pub returns-then-part-i-ge-FIRST_SYMBOL : goal.returns-then-part-i-ge-FIRST_SYMBOL
returns-then-part-i-ge-FIRST_SYMBOL c = let l = c.loop-i.invariant in rw (along_none l.0 c.loop-i-test.true c.if-part-i-ge-FIRST_SYMBOL.true) at l.1

pub loop-i-preserved : goal.loop-i-preserved
loop-i-preserved c = let l = c.loop-i.invariant in let v = c.if-part-i-ge-FIRST_SYMBOL.false in (along_on l.0 c.loop-i-test.true v, rw (along_variables l.0 c.loop-i-test.true v) at l.1)

pub returns : goal.returns
returns c = let l = c.loop-i.invariant in rw (along_end l.0 c.loop-i-test.false) at l.1
