-- `accept::in_layout` meets its contract: each test of the first word is a kind of 01's table.
use mathlib.Core.Path.{sym}
use native.Mathlib.Omega.{arith}
use Rattle.tables.proofs.Accepted.{layout_variable, layout_applied, layout_abstraction, layout_other}
use Rattle.tables.proofs.accept.in_layout.Goals as goal

pub returns-then-word-lt-FIRST_SYMBOL : goal.returns-then-word-lt-FIRST_SYMBOL
returns-then-word-lt-FIRST_SYMBOL c = let s = c.args in sym (layout_variable s.word s.count (omega arith))

pub returns-then-word-lt-ABSTRACTION : goal.returns-then-word-lt-ABSTRACTION
returns-then-word-lt-ABSTRACTION c = let s = c.args in sym (layout_applied s.word s.count (omega arith) (omega arith))

pub returns-then-word-ne-ABSTRACTION : goal.returns-then-word-ne-ABSTRACTION
returns-then-word-ne-ABSTRACTION c = let s = c.args in sym (layout_other s.word s.count (omega arith) c.if-word-ne-ABSTRACTION.true)

pub returns : goal.returns
returns c = let s = c.args in sym (layout_abstraction s.word s.count (omega arith))
