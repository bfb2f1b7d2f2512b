-- `rewriter::copy`: what was copied stands at the front of the table, the rest of it as it was.
use Rattle.std.proofs.Common.{◌≡◌, ◌++◌}
use Rattle.std.specs.Prelude.{take, drop}
use Rattle.rewriter.proofs.copy.Given as goal

abbrev pub invariant-loop-i : goal.invariant-loop-i
invariant-loop-i l = l.table ≡ take l.i l.part ++ drop l.i l.initial.table
