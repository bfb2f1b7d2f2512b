-- `left::left_plain` meets its contract: the test of the word is the definition's.
use lib.Dec.{lit<}
use borrow.Author.Tests.{lt-ltb, le-ltb}
use Rattle.generator.proofs.left.left_plain.Goals as goal

pub put-requires : goal.put-requires
put-requires c = (lit< tt, rw (lt-ltb c.args.word 65536 c.if-word-lt-FIRST_SYMBOL.true) at c.requires)

pub returns-then-word-lt-FIRST_SYMBOL : goal.returns-then-word-lt-FIRST_SYMBOL
returns-then-word-lt-FIRST_SYMBOL c = rw (lt-ltb c.args.word 65536 c.if-word-lt-FIRST_SYMBOL.true) c.put.ensures

pub put-requires-2 : goal.put-requires-2
put-requires-2 c = (lit< tt, rw (le-ltb c.args.word 65536 c.if-word-lt-FIRST_SYMBOL.false) at c.requires)

pub returns : goal.returns
returns c = rw (le-ltb c.args.word 65536 c.if-word-lt-FIRST_SYMBOL.false) c.put-2.ensures
