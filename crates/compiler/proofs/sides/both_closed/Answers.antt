-- `sides::both_closed` meets its contract: the right side is asked only if the left one is closed.
use mathlib.Core.Path.{sym, ◌∙◌}
use Rattle.compiler.proofs.sides.both_closed.Goals as goal

pub returns-else-is_closed : goal.returns-else-is_closed
returns-else-is_closed c = rw (sym c.is_closed.ensures ∙ c.if-is_closed.false) c.if-is_closed.false

pub returns-then-is_closed : goal.returns-then-is_closed
returns-then-is_closed c = rw (sym c.is_closed.ensures ∙ c.if-is_closed.true) c.is_closed-then-is_closed.ensures
