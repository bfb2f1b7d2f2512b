-- `side::occurs_among` meets its contract. The terms are variables, so the walk goes from term to term, and a variable's free variable is its own
-- index; whether the index is among those left is what was asked of all.
use Rattle.std.proofs.Common.{◌≡◌, true}
use Rattle.documents.specs.Lists.{member}
use Rattle.documents.specs.Rules.{are_vars, freevars}
use Rattle.tables.specs.Parts.{terms}
use Rattle.tables.proofs.Along.{Along, along}
use Rattle.tables.proofs.side.occurs_among.Given as goal

abbrev pub invariant-loop-i : goal.invariant-loop-i
invariant-loop-i l =
    Along l.count l.part l.i ×
    (are_vars (along l.count l.part l.i) ≡ true) ×
    (member (freevars (along l.count l.part l.i)) l.index ≡ member (freevars (terms l.count l.part)) l.index)
