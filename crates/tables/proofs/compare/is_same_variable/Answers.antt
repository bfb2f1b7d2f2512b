-- `compare::is_same_variable` meets its contract, case by case: no variable, a bound one, one that is bound on one side only, and a free one.
use native.Mathlib.Omega.{arith}
use Rattle.documents.specs.Instructions.{pairs_in}
use Rattle.tables.proofs.Renamed.{same_outside, same_bound, same_captured, same_free}
use Rattle.tables.proofs.compare.is_same_variable.Goals as goal

pub returns-then-other-ge-FIRST_SYMBOL : goal.returns-then-other-ge-FIRST_SYMBOL
returns-then-other-ge-FIRST_SYMBOL c = let s = c.args in same_outside (pairs_in s.pairs.now) s.shift s.under s.word s.other (omega arith)

pub returns-then-old-under : goal.returns-then-old-under
returns-then-old-under c = let s = c.args in same_bound (pairs_in s.pairs.now) s.shift s.under s.word s.other (omega arith) (omega arith)

pub returns-then-new-under : goal.returns-then-new-under
returns-then-new-under c = let s = c.args in same_captured (pairs_in s.pairs.now) s.shift s.under s.word s.other (omega arith) (omega arith) (omega arith)

pub returns : goal.returns
returns c = let s = c.args in rw c.renamed.ensures (same_free (pairs_in s.pairs.now) s.shift s.under s.word s.other (omega arith) (omega arith) (omega arith))
