use Rattle.plan.proofs.Digits.{length_one, length_more}
use Rattle.plan.proofs.Written.{wrote_length, number_one, number_more}
use borrow.Author.Rules.{rules}
use Rattle.plan.proofs.line.+put_number.Goals as goal

pub bounds-line-at : goal.bounds-line-at
bounds-line-at t c = let l = length_one _ c.if-n-lt-BASE.true in search rules

pub returns-then-n-lt-BASE : goal.returns-then-n-lt-BASE
returns-then-n-lt-BASE t c = number_one _ _ _ c.if-n-lt-BASE.true

pub put_number-last-requires : goal.put_number-last-requires
put_number-last-requires t c = let l = length_more _ c.if-n-lt-BASE.false in search rules

pub bounds-line-last : goal.bounds-line-last
bounds-line-last t c = let l = length_more _ c.if-n-lt-BASE.false in let p = c.put_number-last.ensures.place in let w = wrote_length c.put_number-last.ensures in search rules

pub overflow_add-result-2 : goal.overflow_add-result-2
overflow_add-result-2 t c = let l = length_more _ c.if-n-lt-BASE.false in let p = c.put_number-last.ensures.place in search rules

pub returns : goal.returns
returns t c = number_more _ c.if-n-lt-BASE.false c.put_number-last.ensures
