-- `indices::all_below`: the mask is all bits below b.
use Rattle.indices.proofs.Gathering.{shifted_positive, full_is}
use borrow.Author.Rules.{rules}
use Rattle.indices.proofs.all_below.Goals as goal

pub overflow_sub-all : goal.overflow_sub-all
overflow_sub-all c = let h = shifted_positive c.args.b c.requires in search rules

pub returns : goal.returns
returns c = full_is _ _ c.requires
