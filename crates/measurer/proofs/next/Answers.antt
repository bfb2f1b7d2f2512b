-- `measurer::next`: behind the entry of a PUSHIMM, behind the bodies of a PUSHI.
use mathlib.Core.Path.{◌∙◌}
use Rattle.measurer.proofs.Linking.{next_whole, next_push}
use Rattle.measurer.proofs.next.Goals as goal

pub returns-then-code-at-eq-PUSHIMM : goal.returns-then-code-at-eq-PUSHIMM
returns-then-code-at-eq-PUSHIMM c = next_whole _ _ c.if-code-at-eq-PUSHIMM.true

pub returns-else-code-at-eq-PUSHIMM : goal.returns-else-code-at-eq-PUSHIMM
returns-else-code-at-eq-PUSHIMM c = c.behind.ensures ∙ next_push _ _ c.if-code-at-eq-PUSHIMM.false
