-- `dispatch::asked_behind`: behind an IS stands another instruction, whose words are there.
use mathlib.Core.Path.{sym}
use Rattle.dispatch.proofs.Asking.{behind_first, behind_none}
use Rattle.dispatch.proofs.asked_behind.Goals as goal

pub returns-then-code-eq-IS : goal.returns-then-code-eq-IS
returns-then-code-eq-IS c = behind_first _ _ c.if-code-eq-IS.true c.asked.ensures

pub returns-else-code-eq-IS : goal.returns-else-code-eq-IS
returns-else-code-eq-IS c = (sym (behind_none _ c.if-code-eq-IS.false), tt)
