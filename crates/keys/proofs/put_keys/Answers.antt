use mathlib.Core.Path.{sym, ◌∙◌}
use Rattle.keys.proofs.Keying.{keying_from, keying_on, keying_key, keying_ended}
use Rattle.keys.proofs.put_keys.Goals as goal

pub loop-node-init : goal.loop-node-init
loop-node-init c =
    keying_from c.args.part.now c.args.keys.now c.into_iter-node-iterator.result c.requires.0 c.requires.1 c.requires.2
    (rw c.into_iter-node-iterator.ensures.into_iter_gives c.of-node-items.ensures)

pub loop-node-preserved : goal.loop-node-preserved
loop-node-preserved c =
    keying_on _ _ c.in-Some.node c.loop-node.invariant c.loop-node.iterator.0 c.in-Some.ensures.steps (sym c.is_metavariable.ensures ∙ c.if-is_metavariable.false)

pub loop-node-preserved-then-is_metavariable : goal.loop-node-preserved-then-is_metavariable
loop-node-preserved-then-is_metavariable c =
    keying_key _ _ c.in-Some.node c.loop-node.invariant c.loop-node.iterator.0 c.in-Some.ensures.steps (sym c.is_metavariable.ensures ∙ c.if-is_metavariable.true)

pub returns : goal.returns
returns c = keying_ended _ _ c.loop-node.invariant c.loop-node.iterator.0 c.in-None.ensures.steps
