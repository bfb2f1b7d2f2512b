use Rattle.std.proofs.Common.{arith}
use borrow.Author.Rules.{rules}
use Rattle.tables.proofs.Walks.{walk_at, walk_on}
use Rattle.tables.proofs.walk.NodesIterator.next.Goals as goal

pub overflow_add-self-2 : goal.overflow_add-self-2
overflow_add-self-2 c = let w = walk_on (walk_at c.requires.0 c.requires.1) (omega arith) in let l = w.within in search rules

pub returns-clause-goes : goal.returns-clause-goes
returns-clause-goes c =
    let w = walk_on (walk_at c.requires.0 c.requires.1) (omega arith) in
    let l = w.within in
    record {
      on = λ _. ((w.begins, omega arith), tt, omega arith);
      keeps = (w.begins, omega arith);
      rests = λ _. tt;
    }
