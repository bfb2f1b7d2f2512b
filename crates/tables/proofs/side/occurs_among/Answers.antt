use Rattle.std.proofs.Common.{sym, ◌∙◌, arith}
use borrow.Author.Tests.{eq-eqb, ne_eqb}
use Rattle.tables.proofs.Along.{along_from, along_zero, along_on, along_variable, along_variables, along_free, along_end}
use Rattle.tables.proofs.side.occurs_among.Goals as goal

pub loop-i-init : goal.loop-i-init
loop-i-init c = let e = along_zero c.args.count c.args.part.now in (along_from c.requires.0, rw e c.requires.1, rw e)

pub bounds-part-i : goal.bounds-part-i
bounds-part-i c = let w = c.loop-i.invariant.0.within in omega arith

pub returns-then-part-i : goal.returns-then-part-i
returns-then-part-i c =
    let l = c.loop-i.invariant in
    let v = along_variable l.0 c.loop-i-test.true l.1 in
    rw (along_free l.0 c.loop-i-test.true v, eq-eqb _ _ c.if-part-i.true) at l.2

pub loop-i-preserved : goal.loop-i-preserved
loop-i-preserved c =
    let l = c.loop-i.invariant in
    let v = along_variable l.0 c.loop-i-test.true l.1 in
    (along_on l.0 c.loop-i-test.true v, sym (along_variables l.0 c.loop-i-test.true v) ∙ l.1, rw (along_free l.0 c.loop-i-test.true v, ne_eqb _ _ c.if-part-i.false) at l.2)

pub returns : goal.returns
returns c = let l = c.loop-i.invariant in rw (along_end l.0 c.loop-i-test.false) at l.2
