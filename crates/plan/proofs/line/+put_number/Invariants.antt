-- `plan::line::put_number` writes a number's digits: those of its tenth, which is smaller, and the last one.
use Rattle.plan.proofs.line.+put_number.Given as goal

abbrev pub decreases-put_number : goal.decreases-put_number
decreases-put_number l = l.n
