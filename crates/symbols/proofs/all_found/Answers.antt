use mathlib.Core.Path.{sym, ap, ◌∙◌}
use mathlib.Core.Bool.{not}
use Rattle.tables.proofs.Nodes.{metas_first, metas_at, metas_past, owes_none}
use Rattle.symbols.specs.Rows.{rows_in}
use Rattle.symbols.specs.Entries.{all_found}
use Rattle.symbols.proofs.Asked.{asked}
use Rattle.symbols.proofs.all_found.Goals as goal
use Rattle.symbols.proofs.all_found.Goals.{else-is_metavariable-via-then-is_metavariable+else-is_none, else-is_metavariable-via-else-is_metavariable}

pub loop-node-init : goal.loop-node-init
loop-node-init c =
    let s = c.args in
    ap (all_found (rows_in s.rows.now)) (metas_first s.part.now c.into_iter-node-iterator.result c.requires (rw c.into_iter-node-iterator.ensures.into_iter_gives c.of-node-items.ensures))

pub returns-then-is_none : goal.returns-then-is_none
returns-then-is_none c =
    let m = sym c.is_metavariable.ensures ∙ c.if-is_metavariable.true in
    rw (
      metas_at _ _ c.in-Some.node c.loop-node.iterator.0 c.in-Some.ensures.steps m,
      asked _ _ (rows_in c.args.rows.now) c.find.result m c.find.ensures (c.is_none.ensures ∙ ap not c.if-is_none.true),
    ) at c.loop-node.invariant

pub loop-node-preserved : goal.loop-node-preserved
loop-node-preserved c = elim c.else-is_metavariable.branch [
  | else-is_metavariable-via-then-is_metavariable+else-is_none w ↦
      let m = sym c.is_metavariable.ensures ∙ w.if-is_metavariable.true in
      rw (
        metas_at _ _ c.in-Some.node c.loop-node.iterator.0 c.in-Some.ensures.steps m,
        asked _ _ (rows_in c.args.rows.now) w.find.result m w.find.ensures (w.is_none.ensures ∙ ap not w.if-is_none.false),
      ) at c.loop-node.invariant
  | else-is_metavariable-via-else-is_metavariable w ↦
      rw (metas_past _ _ c.in-Some.node c.loop-node.iterator.0 c.in-Some.ensures.steps (sym c.is_metavariable.ensures ∙ w.if-is_metavariable.false)) at c.loop-node.invariant
]

pub returns : goal.returns
returns c = rw (owes_none _ _ c.loop-node.iterator.0 c.in-None.ensures.steps) at c.loop-node.invariant
