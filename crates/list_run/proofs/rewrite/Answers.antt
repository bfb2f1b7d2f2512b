use lib.Seq.{length-take-le}
use mathlib.Core.Path.{sym}
use Rattle.list_run.proofs.rewrite.Goals as goal

pub slice_bounds-replace-end : goal.slice_bounds-replace-end
slice_bounds-replace-end c = sym (length-take-le _ _ c.requires.few)

pub replace-requires : goal.replace-requires
replace-requires c = rw c.code.ensures c.requires.replacing

pub returns : goal.returns
returns c = rw c.code.ensures at c.replace.ensures.replaces
