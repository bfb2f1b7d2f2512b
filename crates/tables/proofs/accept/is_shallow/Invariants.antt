-- `accept::is_shallow` meets its contract. The terms owed at each level are not deeper than the levels left for them exactly if the whole term is not
-- deeper than 64: a node's arguments are owed one level further in, and a level without terms is left. The words left and the levels fall.
use Prim.Native.Nat.{◌+◌, ◌-◌, ◌*◌}
use lib.ListN.{length}
use Rattle.tables.proofs.Accepted.{Levels}
use Rattle.tables.proofs.accept.is_shallow.Given as goal

abbrev pub invariant-loop-owed : goal.invariant-loop-owed
invariant-loop-owed l = Levels l.table l.above l.level l.owed l.at

abbrev pub decreases-loop-owed : goal.decreases-loop-owed
decreases-loop-owed l = 2 * (length l.table - l.at) + l.level
