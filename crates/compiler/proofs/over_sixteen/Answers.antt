-- `over_sixteen` meets its contract: what is left of 8 is 9.
use mathlib.Core.Path.{sym, ◌∙◌}
use Rattle.compiler.proofs.Called.{left_short, right_short}
use Rattle.compiler.proofs.over_sixteen.Goals as goal

pub all_known-requires : goal.all_known-requires
all_known-requires c = let s = c.requires.sides in (s.right_begins, s.left_begins, right_short s, left_short s)

pub returns-then-all_known : goal.returns-then-all_known
returns-then-all_known c = rw (sym c.all_known.ensures ∙ c.if-all_known.true)

pub returns-else-all_known : goal.returns-else-all_known
returns-else-all_known c = rw (sym c.all_known.ensures ∙ c.if-all_known.false)
