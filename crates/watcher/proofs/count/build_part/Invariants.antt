-- `count::build_part`: the first i instructions make what those still to come make of the counts so far.
use Rattle.std.proofs.Common.{◌-◌}
use Rattle.watcher.proofs.Growing.{Growing}
use Rattle.watcher.proofs.count.build_part.Given as goal

abbrev pub invariant-loop : goal.invariant-loop
invariant-loop l = Growing l.code l.from l.i l.built.next (l.i - l.counter) l.built.finished
