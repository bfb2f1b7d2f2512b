use Rattle.std.proofs.Common.{sym, ◌∙◌, arith}
use Rattle.indices.proofs.Gathering.{gathered_next, gathered_all, small_next}
use Rattle.indices.proofs.gather.Goals as goal

pub insert-set-requires : goal.insert-set-requires
insert-set-requires c = (small_next c.args.list.now c.loop-index.index-index (omega arith) c.loop-index.invariant.1).0

pub loop-index-preserved : goal.loop-index-preserved
loop-index-preserved c = (c.loop-index.invariant.0 ∙ gathered_next c.args.list.now c.loop-index.index-index _ _ (omega arith) c.insert-set.ensures, (small_next c.args.list.now c.loop-index.index-index (omega arith) c.loop-index.invariant.1).1)

pub returns : goal.returns
returns c = sym (c.loop-index.invariant.0 ∙ gathered_all c.args.list.now c.loop-index.index-index _ (omega arith))
