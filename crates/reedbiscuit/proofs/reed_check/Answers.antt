-- `reedbiscuit::reed_check` gives 01's number of the checker's answer.
use Rattle.std.proofs.Common.{◌∙◌}
use Rattle.reedbiscuit.proofs.Given.{check_given}
use Rattle.reedbiscuit.proofs.reed_check.Goals as goal

pub returns : goal.returns
returns c = c.of_check.ensures ∙ check_given _ _ c.check.ensures
