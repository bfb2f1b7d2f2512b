use Prim.Native.Nat.{ℕ}
use lib.ListN.{set}
use native.Mathlib.Omega.{arith}
use mathlib.Core.Path.{ap}
use Rattle.links.proofs.Links.{before_low}
use Rattle.measurer.proofs.Linking.{backing_on, backing_end}
use Rattle.measurer.proofs.put_over.Goals as goal

pub loop-preserved : goal.loop-preserved
loop-preserved c = backing_on c.loop.invariant (omega arith) c.before-root.ensures (rw c.before-root.ensures (before_low _)) c.depth.ensures.0 c.depth.ensures.1 c.max-deepest.ensures

pub returns : goal.returns
returns c = let s = c.args in ap (λ (w : ℕ). set s.work.now s.at w) (backing_end c.loop.invariant (omega arith) c.new.ensures c.min.ensures)
