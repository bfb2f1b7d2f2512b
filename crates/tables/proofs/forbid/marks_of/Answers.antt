use Rattle.std.proofs.Common.{refl}
use Rattle.tables.proofs.Free.{mark_from}
use Rattle.tables.proofs.forbid.marks_of.Goals as goal

pub loop-index-init : goal.loop-index-init
loop-index-init c = (mark_from c.args.indices.now, c.requires, refl)
