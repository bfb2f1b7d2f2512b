-- `measurer::put_over`: going back through the links of the trees that were taken, the depth of the deepest so far.
use Prim.Native.Nat.{◌-◌}
use Rattle.measurer.proofs.Linking.{Backing}
use Rattle.measurer.proofs.put_over.Given as goal

abbrev pub invariant-loop : goal.invariant-loop
invariant-loop l = Backing l.work l.count l.last (l.count - l.counter) l.root l.deepest
