-- `indices::insert`: 1 shifted by at most 63 is that power of two.
use Rattle.indices.proofs.Gathering.{insert_is}
use Rattle.indices.proofs.insert.Goals as goal

pub returns : goal.returns
returns c = insert_is _ _ c.requires
