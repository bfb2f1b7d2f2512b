use native.Mathlib.Omega.{arith}
use borrow.Author.Rules.{rules}
use Rattle.levels.proofs.Going.{above_bounds, turned_owes, above_next, arrived}
use Rattle.levels.proofs.Levels.go.Goals as goal

pub loop-node-init : goal.loop-node-init
loop-node-init c = (c.requires.0, c.requires.2)

pub overflow_sub-above : goal.overflow_sub-above
overflow_sub-above c = let b = above_bounds c.loop-node.invariant.0 in search rules

pub offset_bounds-above-here : goal.offset_bounds-above-here
offset_bounds-above-here c = let b = above_bounds c.loop-node.invariant.0 in search rules

pub bounds-above-here : goal.bounds-above-here
bounds-above-here c = let b = above_bounds c.loop-node.invariant.0 in search rules

pub overflow_sub-above-in-loop-node : goal.overflow_sub-above-in-loop-node
overflow_sub-above-in-loop-node c = let b = above_bounds c.loop-node.invariant.0 in search rules

pub bounds-above-here-in-loop-node : goal.bounds-above-here-in-loop-node
bounds-above-here-in-loop-node c = let b = above_bounds c.loop-node.invariant.0 in search rules

pub overflow_cast-above : goal.overflow_cast-above
overflow_cast-above c = let b = above_bounds c.loop-node.invariant.0 in search rules

pub overflow_mul-above : goal.overflow_mul-above
overflow_mul-above c = let b = above_bounds c.loop-node.invariant.0 in search rules

pub overflow_mul-above-in-loop-node : goal.overflow_mul-above-in-loop-node
overflow_mul-above-in-loop-node c = let b = above_bounds c.loop-node.invariant.0 in search rules

pub overflow_add-above : goal.overflow_add-above
overflow_add-above c = let b = above_bounds c.loop-node.invariant.0 in search rules

pub offset_bounds-plan-node : goal.offset_bounds-plan-node
offset_bounds-plan-node c = let b = above_bounds c.loop-node.invariant.0 in search rules

pub bounds-plan-node : goal.bounds-plan-node
bounds-plan-node c = let b = above_bounds c.loop-node.invariant.0 in search rules

pub overflow_add-above-in-loop-node : goal.overflow_add-above-in-loop-node
overflow_add-above-in-loop-node c = let b = above_bounds c.loop-node.invariant.0 in search rules

pub offset_bounds-above-here-in-loop-node : goal.offset_bounds-above-here-in-loop-node
offset_bounds-above-here-in-loop-node c = let b = above_bounds c.loop-node.invariant.0 in search rules

pub bounds-above-here-in-loop-node-2 : goal.bounds-above-here-in-loop-node-2
bounds-above-here-in-loop-node-2 c = let b = above_bounds c.loop-node.invariant.0 in search rules

pub overflow_add-here : goal.overflow_add-here
overflow_add-here c = let b = above_bounds c.loop-node.invariant.0 in search rules

pub owing-here-requires : goal.owing-here-requires
owing-here-requires c = turned_owes c.loop-node.invariant.0 (omega arith)

pub loop-node-preserved : goal.loop-node-preserved
loop-node-preserved c = let i = c.loop-node.invariant in (above_next i.0 (omega arith) _ c.owing-here.ensures, i.1)

pub returns : goal.returns
returns c = arrived c.loop-node.invariant.0 (omega arith) (omega arith)
