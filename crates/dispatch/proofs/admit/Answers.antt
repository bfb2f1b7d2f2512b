-- `dispatch::admit`: a bucket that is asked for has one set; where any may be, each set gets the rule.
use Rattle.dispatch.proofs.Entering.{all_admitted, one_admitted}
use Rattle.dispatch.proofs.admit.Goals as goal

pub returns-in-Some : goal.returns-in-Some
returns-in-Some c = rw c.in-Some.is (one_admitted c.args.masks.now c.args.rule (rw c.in-Some.is at c.requires.0) c.with_rule.ensures)

pub returns-in-None : goal.returns-in-None
returns-in-None c = rw c.in-None.is (all_admitted c.args.masks.now c.args.rule c.admit_everywhere.ensures)
