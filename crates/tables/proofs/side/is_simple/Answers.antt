use Rattle.std.proofs.Common.{sym, ◌∙◌}
use Rattle.tables.proofs.Nodes.{simple_first, simple_at, simple_past, owes_none}
use Rattle.tables.proofs.side.is_simple.Goals as goal
use Rattle.tables.proofs.side.is_simple.Goals.{else-is_metavariable-via-then-is_metavariable+else-not-distinct_variables, else-is_metavariable-via-else-is_metavariable}

pub loop-node-init : goal.loop-node-init
loop-node-init c = simple_first c.args.part.now c.into_iter-node-iterator.result c.requires (rw c.into_iter-node-iterator.ensures.into_iter_gives c.of-node-items.ensures)

pub returns-then-not-distinct_variables : goal.returns-then-not-distinct_variables
returns-then-not-distinct_variables c =
    rw (simple_at _ _ c.in-Some.node c.loop-node.iterator.0 c.in-Some.ensures.steps (sym c.is_metavariable.ensures ∙ c.if-is_metavariable.true), sym c.distinct_variables.ensures ∙ c.if-not-distinct_variables.true) at c.loop-node.invariant

pub loop-node-preserved : goal.loop-node-preserved
loop-node-preserved c = elim c.else-is_metavariable.branch [
  | else-is_metavariable-via-then-is_metavariable+else-not-distinct_variables w ↦
      rw (simple_at _ _ c.in-Some.node c.loop-node.iterator.0 c.in-Some.ensures.steps (sym c.is_metavariable.ensures ∙ w.if-is_metavariable.true), sym w.distinct_variables.ensures ∙ w.if-not-distinct_variables.false) at c.loop-node.invariant
  | else-is_metavariable-via-else-is_metavariable w ↦
      rw (simple_past _ _ c.in-Some.node c.loop-node.iterator.0 c.in-Some.ensures.steps (sym c.is_metavariable.ensures ∙ w.if-is_metavariable.false)) at c.loop-node.invariant
]

pub returns : goal.returns
returns c = rw (owes_none _ _ c.loop-node.iterator.0 c.in-None.ensures.steps) at c.loop-node.invariant
