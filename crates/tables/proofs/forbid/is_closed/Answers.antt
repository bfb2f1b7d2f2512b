-- `forbid::is_closed` meets its contract: where every index is marked, any free variable is a marked one.
use Rattle.std.proofs.Common.{◌∙◌}
use Rattle.tables.specs.Parts.{front}
use Rattle.tables.proofs.Walks.{walked_some}
use Rattle.tables.proofs.Free.{marked_everywhere}
use Rattle.tables.proofs.forbid.is_closed.Goals as goal

pub returns : goal.returns
returns c = let u = front c.args.part.now in c.is_some.ensures ∙ walked_some _ u _ c.look.ensures ∙ marked_everywhere u
