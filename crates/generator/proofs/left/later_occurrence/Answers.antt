-- `left::later_occurrence` meets its contract: EQI's fixed words, the pairs, and NEXT are the words in their order.
use native.Mathlib.Omega.{arith}
use lib.Dec.{lit<}
use lib.ListN.{length-drop}
use Rattle.tables.proofs.Parts.{from_drop}
use Rattle.generator.proofs.Matching.{later_eqi, later_pairs, later_ends, later_written}
use Rattle.generator.proofs.left.later_occurrence.Goals as goal

pub put-pairs-requires : goal.put-pairs-requires
put-pairs-requires c = (lit< tt, later_eqi c.requires.0 c.requires.1)

pub put_pairs-behind-requires : goal.put_pairs-behind-requires
put_pairs-behind-requires c = let o = c.requires.0 in let r = c.args.row.now in let d = length-drop 3 r in let h = o.narrow in let w = o.whole in rw (from_drop 3 r) (o.variables, omega arith, later_pairs o c.requires.1 c.put-pairs.ensures)

pub put-requires : goal.put-requires
put-requires c = (lit< tt, later_ends c.requires.0 c.requires.1 c.put-pairs.ensures (rw (from_drop 3 c.args.row.now) at c.put_pairs-behind.ensures))

pub returns : goal.returns
returns c = later_written c.requires.0 c.requires.1 c.put-pairs.ensures (rw (from_drop 3 c.args.row.now) at c.put_pairs-behind.ensures) c.put.ensures
