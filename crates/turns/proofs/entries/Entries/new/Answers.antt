-- `Entries::new`: none are there.
use mathlib.Core.Path.{refl}
use Rattle.turns.specs.Held.{slots}
use Rattle.turns.proofs.entries.Entries.new.Goals as goal

pub returns : goal.returns
unfolding slots
returns c = refl
