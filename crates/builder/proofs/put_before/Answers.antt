use lib.ListN.{replicate}
use Rattle.links.proofs.Scenes.{known_of}
use mathlib.Core.Path.{refl}
use Rattle.builder.proofs.Weighing.{may_write, written}
use Rattle.builder.proofs.put_before.Goals as goal

pub invariant_of-given : goal.invariant_of-given
invariant_of-given c = record { known = known_of c.requires.0.1.scene }

pub write-requires : goal.write-requires
write-requires c = may_write c.requires.0.1 (replicate 128 0) _ _ refl c.requires.0.2 c.requires.1

pub returns : goal.returns
returns c = λ u b fit. written b (replicate 128 0) fit c.write.ensures.0
