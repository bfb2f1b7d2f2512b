-- `variable::is_free`: an index that is no smaller than the abstractions crossed.
use native.Mathlib.Omega.{arith}
use borrow.Author.Tests.{le-ltb}
use Rattle.links.specs.Nodewise.{is_free}
use Rattle.links.proofs.Variables.{variable_free}
use Rattle.links.proofs.variable.is_free.Goals as goal

pub returns-then-word-lt-FIRST_SYMBOL : goal.returns-then-word-lt-FIRST_SYMBOL
returns-then-word-lt-FIRST_SYMBOL c = variable_free _ _ (omega arith)

pub returns-else-word-lt-FIRST_SYMBOL : goal.returns-else-word-lt-FIRST_SYMBOL
unfolding is_free
returns-else-word-lt-FIRST_SYMBOL c = rw (le-ltb c.args.word 65536 (omega arith))
