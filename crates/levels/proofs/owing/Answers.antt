use mathlib.Core.Path.{refl, ◌∙◌}
use native.Mathlib.Omega.{arith}
use borrow.Author.Rules.{rules}
use Rattle.levels.proofs.Stacks.{owes_some, owing_falls, owes_falls, owing_stays}
use Rattle.levels.proofs.owing.Goals as goal

pub loop-here-init : goal.loop-here-init
loop-here-init c = (c.requires, refl)

pub overflow_sub-here : goal.overflow_sub-here
overflow_sub-here c = owes_some c.loop-here.invariant.0

pub bounds-above-here : goal.bounds-above-here
bounds-above-here c = let p = owes_some c.loop-here.invariant.0 in search rules

pub overflow_sub-here-in-loop-here : goal.overflow_sub-here-in-loop-here
overflow_sub-here-in-loop-here c = owes_some c.loop-here.invariant.0

pub loop-here-smaller : goal.loop-here-smaller
loop-here-smaller c = let p = owes_some c.loop-here.invariant.0 in omega arith

pub loop-here-preserved : goal.loop-here-preserved
loop-here-preserved c = let i = c.loop-here.invariant in (owes_falls i.0 c.loop-here-test.true, owing_falls i.0 c.loop-here-test.true ∙ i.1)

pub returns : goal.returns
returns c = let i = c.loop-here.invariant in owing_stays i.0 c.loop-here-test.false ∙ i.1
