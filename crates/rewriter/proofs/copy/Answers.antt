use Rattle.std.proofs.Common.{arith}
use Rattle.rewriter.proofs.Copied.{copied_more, copied_all}
use Rattle.rewriter.proofs.copy.Goals as goal

pub loop-i-preserved : goal.loop-i-preserved
loop-i-preserved c = copied_more _ _ _ c.requires (omega arith) c.loop-i.invariant

pub returns : goal.returns
returns c = copied_all c.args.part.now c.args.table.now c.loop-i.i c.loop-i.invariant (omega arith) (omega arith)
