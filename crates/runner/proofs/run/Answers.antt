-- `runner::run`: what `apply` says, and the working table cleared.
use Rattle.runner.proofs.Applying.{applied_cleared}
use Rattle.runner.proofs.run.Goals as goal

pub returns : goal.returns
returns c = applied_cleared c.apply-answer.ensures c.clear.ensures
