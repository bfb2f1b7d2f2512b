use mathlib.Core.Path.{refl}
use native.Mathlib.Omega.{arith}
use Rattle.rule_table.proofs.Counting.{counted_none, all_counted, counted_step, too_many}
use Rattle.rule_table.proofs.few.Goals as goal

pub loop-init : goal.loop-init
loop-init c = rw (c.into_iter-iterator.ensures.into_iter_gives, c.of-items.ensures.0, c.of-items.ensures.1) (refl, counted_none _)

pub returns-then-count-eq-MOST_RULES : goal.returns-then-count-eq-MOST_RULES
returns-then-count-eq-MOST_RULES c =
    let l = c.loop.invariant in
    too_many l.1 (rw l.0 at c.in-Some.ensures.steps.1.0) c.if-count-eq-MOST_RULES.true

pub loop-preserved : goal.loop-preserved
loop-preserved c =
    let l = c.loop.invariant in
    let p = c.in-Some.ensures.steps in
    (rw p.0 l.0, counted_step _ _ l.1 c.if-count-eq-MOST_RULES.false (rw l.0 at p.1.0) (rw l.0 at p.1.1))

pub returns : goal.returns
returns c =
    let l = c.loop.invariant in
    all_counted l.1 (omega (arith, rw l.0 at c.in-None.ensures.steps.1.0))
