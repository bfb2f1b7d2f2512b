-- `measurer::forget`: the keys that were passed are cleared.
use Prim.Native.Nat.{◌-◌}
use Rattle.measurer.proofs.Linking.{Forgetting}
use Rattle.measurer.proofs.forget.Given as goal

abbrev pub invariant-loop : goal.invariant-loop
invariant-loop l = Forgetting l.code l.initial.work l.bodies l.count l.work l.at (l.count - l.counter)
