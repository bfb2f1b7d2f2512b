-- `body::behind`: the place behind the bodies that were passed.
use Rattle.std.proofs.Common.{◌-◌}
use Rattle.instructions.proofs.Bodies.{Passing}
use Rattle.instructions.proofs.body.behind.Given as goal

abbrev pub invariant-loop : goal.invariant-loop
invariant-loop l = Passing l.code l.bodies l.count l.at (l.count - l.counter)
