-- `side::plain` meets its contract. The walk goes node by node, and whether the terms still owed have a metavariable is what was asked of the first:
-- a node that is no metavariable has none of its own, and one that is answers.
use Rattle.std.proofs.Common.{◌≡◌}
use Rattle.documents.specs.Lists.{is_empty}
use Rattle.documents.specs.Rules.{metas}
use Rattle.tables.specs.Parts.{front}
use Rattle.tables.specs.Nodes.{owes}
use Rattle.tables.proofs.side.plain.Given as goal

abbrev pub invariant-loop-node : goal.invariant-loop-node
invariant-loop-node l = is_empty (metas (owes l.node-iterator)) ≡ is_empty (metas (front l.part))
