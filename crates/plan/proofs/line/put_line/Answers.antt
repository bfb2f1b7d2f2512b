-- `plan::line::put_line` writes the line: a 32-bit number has at most ten digits, so all three parts fit.
use native.Mathlib.Omega.{arith}
use Rattle.plan.proofs.Digits.{ten_digits}
use Rattle.plan.proofs.Written.{wrote_length, wrote_line}
use borrow.Author.Rules.{rules}
use Rattle.plan.proofs.line.put_line.Goals as goal

pub put_number-number_end-requires : goal.put_number-number_end-requires
put_number-number_end-requires c = let t = ten_digits c.args.number (omega arith) in search rules

pub put_next-count_end-requires : goal.put_next-count_end-requires
put_next-count_end-requires c = let t = ten_digits c.args.number (omega arith) in let l = wrote_length c.put_number-number_end.ensures in let p = c.put_number-number_end.ensures.place in search rules

pub put_rest-requires : goal.put_rest-requires
put_rest-requires c = let t = ten_digits c.args.number (omega arith) in let u = ten_digits c.args.count (omega arith) in let l = wrote_length c.put_number-number_end.ensures in let m = wrote_length c.put_next-count_end.ensures in let p = c.put_number-number_end.ensures.place in let q = c.put_next-count_end.ensures.place in search rules

pub returns : goal.returns
returns c = (wrote_line _ _ _ c.put_number-number_end.ensures c.put_next-count_end.ensures c.put_rest.ensures.0, c.put_rest.ensures.1)
