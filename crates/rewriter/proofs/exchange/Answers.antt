-- `rewriter::exchange`: what was weighed over the plan stands ready over the copy, and its words come between those before the redex and those behind it.
use Rattle.rewriter.proofs.Exchanged.{may_put, exchanges}
use Rattle.rewriter.proofs.exchange.Goals as goal

pub put_in-requires : goal.put_in-requires
put_in-requires c = may_put c.requires c.set_aside.ensures.tables

pub returns-clause-tables : goal.returns-clause-tables
returns-clause-tables c = exchanges c.requires c.set_aside.ensures.tables c.put_in.auto.plan c.put_in.ensures
