-- `side::distinct_variables` meets its contract. All terms are variables by the first call; whether those left are distinct is what was asked of
-- all, since each that was passed is not among the ones behind it.
use Rattle.std.proofs.Common.{◌≡◌, true}
use Rattle.documents.specs.Rules.{are_vars}
use Rattle.tables.specs.Side.{distinct}
use Rattle.tables.specs.Parts.{terms}
use Rattle.tables.proofs.Along.{Along, along}
use Rattle.tables.proofs.side.distinct_variables.Given as goal

abbrev pub invariant-loop-i : goal.invariant-loop-i
invariant-loop-i l =
    Along l.count l.part l.i ×
    (are_vars (along l.count l.part l.i) ≡ true) ×
    (distinct (along l.count l.part l.i) ≡ distinct (terms l.count l.part))
