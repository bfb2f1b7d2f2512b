-- `turns::check_list`: the tests of a CHECK, in the code's order.
use mathlib.Core.Path.{sym, ◌∙◌}
use native.Mathlib.Omega.{arith}
use Rattle.turns.proofs.Turning.{check_long, check_past, check_high, check_there}
use Rattle.turns.proofs.check_list.Goals as goal
use Rattle.turns.proofs.check_list.Goals.{then-code-at-gt-MOST_LISTED-via-then-code-at-gt-MOST_LISTED, then-code-at-gt-MOST_LISTED-via-else-code-at-gt-MOST_LISTED+then-code-end, then-code-at-gt-MOST_LISTED-via-else-code-at-gt-MOST_LISTED+else-code-end+then-not-each_below}

pub returns-then-code-at-gt-MOST_LISTED : goal.returns-then-code-at-gt-MOST_LISTED
returns-then-code-at-gt-MOST_LISTED c = elim c.then-code-at-gt-MOST_LISTED.branch [
  | then-code-at-gt-MOST_LISTED-via-then-code-at-gt-MOST_LISTED w ↦ check_long _ _ _ w.if-code-at-gt-MOST_LISTED.true
  | then-code-at-gt-MOST_LISTED-via-else-code-at-gt-MOST_LISTED+then-code-end w ↦ check_past _ _ _ (omega arith) w.if-code-end.true
  | then-code-at-gt-MOST_LISTED-via-else-code-at-gt-MOST_LISTED+else-code-end+then-not-each_below w ↦
      check_high _ _ _ (omega arith) (omega arith) (sym w.if-not-each_below.true ∙ w.each_below.ensures)
]

pub returns : goal.returns
returns c = check_there _ _ _ (omega arith) (omega arith) (sym c.if-not-each_below.false ∙ c.each_below.ensures)
