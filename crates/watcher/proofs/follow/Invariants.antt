-- `watcher::follow`: the first i instructions come to what those still to come come to from the state that is held.
use Rattle.std.proofs.Common.{◌-◌}
use Rattle.watcher.proofs.Following.{Following}
use Rattle.watcher.proofs.follow.Given as goal

abbrev pub invariant-loop-done : goal.invariant-loop-done
invariant-loop-done l = Following l.code l.subject l.entries l.i l.here.at l.here.top l.here.current l.here.made (l.i - l.done)
