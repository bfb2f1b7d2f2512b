use Rattle.symbols.proofs.Stored.{rows_full}
use Rattle.symbols.proofs.table.SymbolTable.is_full.Goals as goal

pub returns : goal.returns
returns c = rows_full c.args.self.now
