-- `compare::same` meets its contract: above all abstractions the comparison is that of the renamed term (`equal_is`).
use Rattle.std.proofs.Common.{◌∙◌}
use Rattle.documents.specs.Instructions.{pairs_in}
use Rattle.tables.specs.Parts.{front}
use Rattle.tables.proofs.Walks.{walked_some}
use Rattle.tables.proofs.Renamed.{compare_whole}
use Rattle.tables.proofs.compare.same.Goals as goal

pub returns : goal.returns
returns c =
    let u = front c.args.old.now in
    c.is_some.ensures ∙ walked_some _ u _ c.compare_under.ensures ∙ compare_whole (pairs_in c.args.pairs.now) c.args.shift u (front c.args.new.now)
