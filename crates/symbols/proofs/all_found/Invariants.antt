-- `all_found` meets its contract: whether the metavariables of the terms still owed have a row is what was asked of the subterm's.
use mathlib.Core.Path.{◌≡◌}
use Rattle.documents.specs.Rules.{metas}
use Rattle.tables.specs.Parts.{front}
use Rattle.tables.specs.Nodes.{owes}
use Rattle.symbols.specs.Rows.{rows_in}
use Rattle.symbols.specs.Entries.{all_found}
use Rattle.symbols.proofs.all_found.Given as goal

abbrev pub invariant-loop-node : goal.invariant-loop-node
invariant-loop-node l = all_found (rows_in l.rows) (metas (owes l.node-iterator)) ≡ all_found (rows_in l.rows) (metas (front l.part))
