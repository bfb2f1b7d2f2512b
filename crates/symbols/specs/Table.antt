-- The rows that the symbol table has.
use Rattle.std.specs.Prelude.{List, drop}
use Rattle.documents.specs.Translation.{Row}
use Rattle.symbols.specs.declared.table.SymbolTable.{SymbolTable}
use Rattle.symbols.specs.Rows.{rows_in}

-- from its first word on
abbrev pub rows_of : SymbolTable → List Row
rows_of table = rows_in (drop table.first table.words)
