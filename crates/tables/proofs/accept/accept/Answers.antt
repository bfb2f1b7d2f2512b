-- `accept::accept` meets its contract: its tests are those of `table_in`, in the same order. A good table begins with its one term, so that its depth
-- may be asked for.
use mathlib.Core.Path.{sym, ◌∙◌}
use native.Mathlib.Omega.{arith}
use Rattle.tables.proofs.Accepted.{accept_long, accept_bad, accept_deep, accept_good, good_begins}
use Rattle.tables.proofs.accept.accept.Goals as goal

pub returns-then-limit-table : goal.returns-then-limit-table
returns-then-limit-table c = let s = c.args in sym (accept_long s.limit s.table.now (omega arith))

pub returns-then-not-good : goal.returns-then-not-good
returns-then-not-good c = let s = c.args in sym (accept_bad s.limit s.table.now (omega arith) (sym c.before.good.ensures ∙ c.if-not-good.true))

pub is_shallow-requires : goal.is_shallow-requires
is_shallow-requires c = (good_begins c.args.table.now (sym c.before.good.ensures ∙ c.if-not-good.false)).0

pub returns-then-not-is_shallow : goal.returns-then-not-is_shallow
returns-then-not-is_shallow c = let s = c.args in sym (accept_deep s.limit s.table.now (omega arith) (sym c.before.before.before.good.ensures ∙ c.if-not-good.false) (sym c.is_shallow.ensures ∙ c.if-not-is_shallow.true))

pub returns : goal.returns
returns c = let s = c.args in sym (accept_good s.limit s.table.now (omega arith) (sym c.before.before.before.good.ensures ∙ c.if-not-good.false) (sym c.is_shallow.ensures ∙ c.if-not-is_shallow.false))
