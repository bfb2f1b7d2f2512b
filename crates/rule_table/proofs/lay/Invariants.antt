-- `rule_table::lay`: what is laid so far, and what the words behind it come to, is what the table comes to. A rule that is cut short or does not
-- pass is the first bad one.
use mathlib.Core.Path.{◌≡◌}
use Rattle.rule_table.proofs.Laying.{Laying}
use Rattle.rule_table.proofs.lay.Given as goal

abbrev pub invariant-loop-rule : goal.invariant-loop-rule
invariant-loop-rule l = (l.rule-iterator.rules.now ≡ l.rules) × Laying l.rules l.starts l.rule-iterator.at l.count
