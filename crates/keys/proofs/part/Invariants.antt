-- `part` meets its contract: the keys gone over stand at the two ends, and none has come or gone.
use Prim.Native.Nat.{◌-◌}
use Rattle.keys.proofs.Parting.{Parting}
use Rattle.keys.proofs.part.Given as goal

abbrev pub invariant-loop-low : goal.invariant-loop-low
invariant-loop-low l = Parting l.place l.initial.keys l.keys l.low l.high

abbrev pub decreases-loop-low : goal.decreases-loop-low
decreases-loop-low l = l.high - l.low
