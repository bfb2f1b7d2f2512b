-- `survey` meets its contract: the length comes first, and the walk answers the rest.
use native.Mathlib.Omega.{arith}
use Rattle.survey.proofs.Surveying.{surveyed_long}
use Rattle.survey.proofs.survey.Goals as goal

pub returns-then-subject : goal.returns-then-subject
returns-then-subject c = surveyed_long _ _ (omega arith)
