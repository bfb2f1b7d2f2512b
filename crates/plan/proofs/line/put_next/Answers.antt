-- `plan::line::put_next` writes a space and a number.
use native.Mathlib.Omega.{arith}
use lib.ListN.{length-set}
use Rattle.plan.proofs.Digits.{ten_digits}
use Rattle.plan.proofs.line.put_next.Goals as goal

pub put_number-requires : goal.put_number-requires
put_number-requires c = let t = ten_digits c.args.n (omega arith) in let l = length-set c.args.line.now c.args.at 32 in omega arith
