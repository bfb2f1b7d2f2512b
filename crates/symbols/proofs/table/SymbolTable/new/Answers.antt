use lib.Dec.{lit<}
use lib.ListN.{replicate}
use Rattle.symbols.proofs.Rows.{rows_ended}
use Rattle.symbols.proofs.table.SymbolTable.new.Goals as goal

pub returns : goal.returns
returns c = rows_ended (replicate 176 0) 176 (lit< tt)
