-- `forbid::look` meets its contract. Whether a free variable is marked among the terms still owed is what was asked of the first: a variable tells by
-- itself, a body by the call, with one abstraction more above it. What falls from call to call is the part's length.
use Rattle.std.proofs.Common.{◌-◌, length}
use Rattle.tables.proofs.Free.{Looking}
use Rattle.tables.proofs.forbid.+look.Given as goal

abbrev pub decreases-look : goal.decreases-look
decreases-look l = length l.part.now

abbrev pub invariant-loop-node : goal.invariant-loop-node
invariant-loop-node l = Looking l.marks l.under l.part l.nodes

abbrev pub decreases-loop-node : goal.decreases-loop-node
decreases-loop-node l = length l.nodes.part.now - l.nodes.at
