-- `body::find`: no body that was passed has the index as its key.
use Rattle.std.proofs.Common.{◌-◌}
use Rattle.instructions.proofs.Bodies.{Finding}
use Rattle.instructions.proofs.body.find.Given as goal

abbrev pub invariant-loop : goal.invariant-loop
invariant-loop l = Finding l.code l.bodies l.count l.index l.at (l.count - l.counter)
