-- `left::first_occurrence` meets its contract: CHECK and the number of the other indices, these, then SET and NEXT are the words in their order.
-- That number is what the arguments, which are distinct and below the bound, leave of it.
use lib.Dec.{lit<}
use Rattle.generator.proofs.Matching.{first_check, first_list, first_ends, first_written}
use Rattle.generator.proofs.left.first_occurrence.Goals as goal

pub put-list-requires : goal.put-list-requires
put-list-requires c = (lit< tt, first_check c.requires.0 c.requires.1)

pub put_others-behind-requires : goal.put_others-behind-requires
put_others-behind-requires c = (c.requires.0.variables, first_list c.requires.0 c.requires.1 c.put-list.ensures)

pub put-requires : goal.put-requires
put-requires c = (lit< tt, first_ends c.requires.0 c.requires.1 c.put-list.ensures c.put_others-behind.ensures)

pub returns : goal.returns
returns c = first_written c.requires.0 c.requires.1 c.put-list.ensures c.put_others-behind.ensures c.put.ensures
