use Rattle.std.proofs.Common.{sym, ap, ◌∙◌}
use Rattle.documents.specs.Lists.{is_empty}
use Rattle.tables.proofs.Nodes.{metas_first, metas_at, metas_past, owes_none}
use Rattle.tables.proofs.side.plain.Goals as goal

pub loop-node-init : goal.loop-node-init
loop-node-init c = ap is_empty (metas_first c.args.part.now c.into_iter-node-iterator.result c.requires (rw c.into_iter-node-iterator.ensures.into_iter_gives c.of-node-items.ensures))

pub returns-then-is_metavariable : goal.returns-then-is_metavariable
returns-then-is_metavariable c = rw (metas_at _ _ c.in-Some.node c.loop-node.iterator.0 c.in-Some.ensures.steps (sym c.is_metavariable.ensures ∙ c.if-is_metavariable.true)) at c.loop-node.invariant

pub loop-node-preserved : goal.loop-node-preserved
loop-node-preserved c = rw (metas_past _ _ c.in-Some.node c.loop-node.iterator.0 c.in-Some.ensures.steps (sym c.is_metavariable.ensures ∙ c.if-is_metavariable.false)) at c.loop-node.invariant

pub returns : goal.returns
returns c = rw (owes_none _ _ c.loop-node.iterator.0 c.in-None.ensures.steps) at c.loop-node.invariant
