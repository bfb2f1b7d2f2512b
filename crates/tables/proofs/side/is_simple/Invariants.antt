-- `side::is_simple` meets its contract. The walk goes node by node, into arguments too, and whether the terms still owed are simple is what was
-- asked of the first: at a metavariable the call tells of its arguments, and where they are variables the walk through them changes nothing.
use Rattle.std.proofs.Common.{◌≡◌}
use Rattle.documents.specs.Rules.{simple}
use Rattle.tables.specs.Parts.{front}
use Rattle.tables.specs.Nodes.{owes}
use Rattle.tables.proofs.side.is_simple.Given as goal

abbrev pub invariant-loop-node : goal.invariant-loop-node
invariant-loop-node l = simple (owes l.node-iterator) ≡ simple (front l.part)
