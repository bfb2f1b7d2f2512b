-- `forbid::is_marked` meets its contract: an index below 64 has a mark of its own, and those above share one.
use native.Mathlib.Omega.{arith}
use Rattle.tables.proofs.Free.{not_free, own_mark, shared_mark}
use Rattle.tables.proofs.forbid.is_marked.Goals as goal

pub returns-then-index-under : goal.returns-then-index-under
returns-then-index-under c = let s = c.args in not_free s.marks.now s.under s.index (omega arith)

pub returns-then-free-lt-LISTED : goal.returns-then-free-lt-LISTED
returns-then-free-lt-LISTED c = let s = c.args in own_mark s.marks.now s.under s.index (omega arith) (omega arith)

pub returns : goal.returns
returns c = let s = c.args in shared_mark s.marks.now s.under s.index (omega arith) (omega arith)
