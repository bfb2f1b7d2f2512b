-- `Stored::has_depth`: by what was found.
use mathlib.Core.Path.{sym, ◌∙◌}
use Rattle.turns.proofs.Entered.{same_missing, same_entry}
use Rattle.turns.proofs.entries.Stored.has_depth.Goals as goal

pub returns-in-Some : goal.returns-in-Some
returns-in-Some c = same_entry _ _ _ (sym c.find.ensures ∙ c.in-Some.is)

pub returns-in-None : goal.returns-in-None
returns-in-None c = same_missing _ _ (sym c.find.ensures ∙ c.in-None.is)
