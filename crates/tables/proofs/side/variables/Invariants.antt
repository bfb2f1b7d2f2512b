-- `side::variables` meets its contract. A variable is one node, so the walk goes from term to term; whether those left are variables is what was
-- asked of all.
use Rattle.std.proofs.Common.{◌≡◌}
use Rattle.documents.specs.Rules.{are_vars}
use Rattle.tables.specs.Parts.{terms}
use Rattle.tables.proofs.Along.{Along, along}
use Rattle.tables.proofs.side.variables.Given as goal

abbrev pub invariant-loop-i : goal.invariant-loop-i
invariant-loop-i l = Along l.count l.part l.i × (are_vars (along l.count l.part l.i) ≡ are_vars (terms l.count l.part))
