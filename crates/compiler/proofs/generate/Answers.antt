-- `generate` meets its contract: the left side's words and, behind them, the right side's are those of 004's `compile`.
use Rattle.compiler.proofs.Generated.{left_asked, right_asked, generated}
use Rattle.compiler.proofs.generate.Goals as goal

pub left_side-matched-requires : goal.left_side-matched-requires
left_side-matched-requires c = left_asked c.requires

pub right_side-requires : goal.right_side-requires
right_side-requires c = right_asked c.requires c.left_side-matched.ensures

pub returns : goal.returns
returns c = generated c.requires c.left_side-matched.ensures c.right_side.ensures
