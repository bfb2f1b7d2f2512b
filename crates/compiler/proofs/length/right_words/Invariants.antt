-- `length::right_words` meets its contract: with the words of the terms still owed the sum is that of the subterm, and each node adds those of its own
-- instructions.
use Rattle.compiler.proofs.Counted.{Counting}
use Rattle.compiler.proofs.length.right_words.Given as goal

abbrev pub invariant-loop-node : goal.invariant-loop-node
invariant-loop-node l = Counting l.part l.node-iterator l.words
