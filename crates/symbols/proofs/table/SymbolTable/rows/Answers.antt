-- `rows` meets its contract: the words from the first row on are eleven a row (`rows_whole`).
use Rattle.symbols.proofs.Stored.{rows_whole}
use borrow.Author.Rules.{rules}
use Rattle.symbols.proofs.table.SymbolTable.rows.Goals as goal

pub returns-clause-whole : goal.returns-clause-whole
returns-clause-whole c = let e = rows_whole c.args.self.now in search rules
