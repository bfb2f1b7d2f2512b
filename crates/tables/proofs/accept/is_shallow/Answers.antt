use native.Mathlib.Omega.{arith}
use Rattle.tables.proofs.Accepted.{levels_from_lem, levels_up, levels_end, levels_leaf, levels_down, levels_deep}
use Rattle.tables.proofs.accept.is_shallow.Goals as goal

pub loop-owed-init : goal.loop-owed-init
loop-owed-init c = levels_from_lem c.requires

pub returns-then-level-eq0 : goal.returns-then-level-eq0
returns-then-level-eq0 c = levels_end c.loop-owed.invariant c.if-owed-eq0.true c.if-level-eq0.true

pub loop-owed-preserved-then-owed-eq0 : goal.loop-owed-preserved-then-owed-eq0
loop-owed-preserved-then-owed-eq0 c = levels_up c.loop-owed.invariant c.if-owed-eq0.true (omega arith)

pub loop-owed-preserved-then-arguments-eq0 : goal.loop-owed-preserved-then-arguments-eq0
loop-owed-preserved-then-arguments-eq0 c = levels_leaf c.loop-owed.invariant (omega arith) c.if-arguments-eq0.true

pub returns-then-level : goal.returns-then-level
returns-then-level c = levels_deep c.loop-owed.invariant (omega arith) (omega arith) c.if-arguments-eq0.false

pub loop-owed-preserved : goal.loop-owed-preserved
loop-owed-preserved c = levels_down c.loop-owed.invariant (omega arith) (let q = c.loop-owed.invariant.few in omega arith)
