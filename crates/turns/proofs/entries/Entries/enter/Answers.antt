-- `Entries::enter`: behind those that are there, so that it is the newest.
use native.Mathlib.Omega.{arith}
use Rattle.turns.proofs.Entered.{slots_more}
use Rattle.turns.proofs.entries.Entries.enter.Goals as goal

pub returns : goal.returns
returns c = slots_more _ _ _ _ _ (omega arith) (omega arith)
