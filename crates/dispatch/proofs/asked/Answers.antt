-- `dispatch::asked`: an IS asks for the bucket of its symbol, an ISABST for the abstractions', and no other instruction for any.
use mathlib.Core.Path.{sym}
use Rattle.dispatch.proofs.Asking.{asked_is, asked_isabst, asked_else}
use Rattle.dispatch.proofs.asked.Goals as goal

pub returns-then-code-at-eq-IS : goal.returns-then-code-at-eq-IS
returns-then-code-at-eq-IS c = asked_is _ _ c.if-code-at-eq-IS.true c.bucket.ensures

pub returns-then-code-at-eq-ISABST : goal.returns-then-code-at-eq-ISABST
returns-then-code-at-eq-ISABST c = asked_isabst _ _ c.if-code-at-eq-ISABST.true

pub returns-else-code-at-eq-ISABST : goal.returns-else-code-at-eq-ISABST
returns-else-code-at-eq-ISABST c = (sym (asked_else _ _ c.if-code-at-eq-IS.false c.if-code-at-eq-ISABST.false), tt)
