use Rattle.std.proofs.Common.{sym, ◌∙◌, arith}
use Rattle.tables.proofs.Parts.{from_drop}
use Rattle.tables.proofs.Walks.{walk_variable}
use Rattle.tables.proofs.Sides.{variables_behind}
use Rattle.tables.proofs.Along.{along_from, along_zero, along_on, along_variable, along_variables, along_distinct, along_end}
use Rattle.tables.proofs.side.distinct_variables.Goals as goal

pub returns-then-not-variables : goal.returns-then-not-variables
returns-then-not-variables c = rw (sym c.variables.ensures ∙ c.if-not-variables.true)

pub loop-i-init : goal.loop-i-init
loop-i-init c = let e = along_zero c.args.count c.args.part.now in (along_from c.requires, rw e (sym c.variables.ensures ∙ c.if-not-variables.false), rw e)

pub bounds-part-at : goal.bounds-part-at
bounds-part-at c = let w = c.loop-i.invariant.0.within in omega arith

pub occurs_among-requires : goal.occurs_among-requires
occurs_among-requires c =
    let l = c.loop-i.invariant in
    let v = along_variable l.0 c.loop-i-test.true l.1 in
    rw from_drop ((walk_variable l.0 (omega arith) v).begins, sym (variables_behind l.0 (omega arith) v) ∙ l.1)

pub returns-then-occurs_among : goal.returns-then-occurs_among
returns-then-occurs_among c = let l = c.loop-i.invariant in rw (along_distinct l.0 c.loop-i-test.true l.1, rw from_drop at (sym c.occurs_among.ensures ∙ c.if-occurs_among.true)) at l.2

pub loop-i-preserved : goal.loop-i-preserved
loop-i-preserved c =
    let l = c.loop-i.invariant in
    let v = along_variable l.0 c.loop-i-test.true l.1 in (
      along_on l.0 c.loop-i-test.true v,
      sym (along_variables l.0 c.loop-i-test.true v) ∙ l.1,
      rw (along_distinct l.0 c.loop-i-test.true l.1, rw from_drop at (sym c.occurs_among.ensures ∙ c.if-occurs_among.false)) at l.2,
    )

pub returns : goal.returns
returns c = let l = c.loop-i.invariant in rw (along_end l.0 c.loop-i-test.false) at l.2
