-- `checker::check`: more than 4,096 words do not pass; of the others `obeys` has decided.
use native.Mathlib.Omega.{arith}
use Rattle.checker.proofs.Matching.{passes_long, passes_is}
use Rattle.checker.proofs.check.Goals as goal

pub returns-then-code-gt-MOST_WORDS : goal.returns-then-code-gt-MOST_WORDS
returns-then-code-gt-MOST_WORDS c = passes_long c.args.code.now c.if-code-gt-MOST_WORDS.true

pub returns : goal.returns
returns c = passes_is c.args.code.now (omega arith) c.obeys.ensures
