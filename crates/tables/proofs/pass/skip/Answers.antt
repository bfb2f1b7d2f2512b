use Rattle.std.proofs.Common.{◌∙◌}
use Rattle.tables.proofs.Nodes.{going_from, going_on, going_ended}
use Rattle.tables.proofs.pass.skip.Goals as goal

pub loop-init : goal.loop-init
loop-init c = going_from _ c.requires c.of-nodes.ensures

pub loop-preserved : goal.loop-preserved
loop-preserved c = going_on _ _ c.in-Some.field-0 c.loop.invariant c.in-Some.ensures.steps

pub returns : goal.returns
returns c = c.passed.ensures ∙ going_ended _ _ c.loop.invariant c.in_default.ensures.steps
