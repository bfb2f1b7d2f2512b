-- `rule_table::few`: the rules before a place and those behind it are all that are listed. The 33rd ends the count.
use mathlib.Core.Path.{◌≡◌}
use Rattle.rule_table.proofs.Counting.{Counted}
use Rattle.rule_table.proofs.few.Given as goal

abbrev pub invariant-loop : goal.invariant-loop
invariant-loop l = (l.iterator'.rules.now ≡ l.rules) × Counted l.rules l.iterator'.at l.count
