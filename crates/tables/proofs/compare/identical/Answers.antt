-- `compare::identical` meets its contract: without pairs, and with d = 0, nothing is renamed.
use Rattle.tables.specs.Parts.{front}
use Rattle.tables.proofs.Renamed.{not_renamed}
use Rattle.tables.proofs.compare.identical.Goals as goal

pub returns : goal.returns
returns c = rw (not_renamed (front c.args.old.now)) at c.same.ensures
