-- `checker::build::one_term`: the answer, if there is one term.
use Rattle.checker.proofs.Making.{one_not, one_is}
use Rattle.checker.proofs.build.one_term.Goals as goal

pub returns-then-terms-ne1 : goal.returns-then-terms-ne1
returns-then-terms-ne1 c = one_not _ _ c.if-terms-ne1.true

pub returns : goal.returns
returns c = one_is _ _ c.if-terms-ne1.false
