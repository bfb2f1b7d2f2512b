-- `Stored::find`: the entry stands at the count less one less x, if there are so many.
use mathlib.Core.Path.{refl, sym}
use native.Mathlib.Omega.{arith}
use Rattle.turns.proofs.Entered.{found_missing, found_entry}
use Rattle.turns.proofs.entries.Stored.find.Goals as goal

pub returns-then-self-x : goal.returns-then-self-x
returns-then-self-x c = found_missing c.args.self.now c.args.x c.if-self-x.true

pub returns : goal.returns
returns c = sym (found_entry c.args.self.now c.args.x (omega arith, refl) c.from.ensures)
