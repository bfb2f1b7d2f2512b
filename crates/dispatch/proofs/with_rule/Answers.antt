-- `dispatch::with_rule`: a bit below the 32nd, put into 32 bits, leaves 32.
use native.Mathlib.Omega.{arith}
use borrow.Author.Rules.{rules}
use Rattle.dispatch.proofs.Sifting.{inserted_fits}
use Rattle.dispatch.proofs.with_rule.Goals as goal

pub overflow_cast-result : goal.overflow_cast-result
overflow_cast-result c = let p = inserted_fits c.args.set c.args.rule (omega arith) c.requires in rw c.insert.ensures (search rules)
