-- `sides::is_symbol` meets its contract: the root's first word tells its kind.
use mathlib.Core.Path.{sym, ap, ◌∙◌}
use borrow.Author.Tests.{lt-leb}
use Rattle.documents.specs.Rules.{is_symbol}
use Rattle.tables.proofs.Fronts.{front_variable, front_is_symbol}
use Rattle.compiler.proofs.sides.is_symbol.Goals as goal

pub returns-else-part-ge-FIRST_SYMBOL : goal.returns-else-part-ge-FIRST_SYMBOL
returns-else-part-ge-FIRST_SYMBOL c = lt-leb 65536 _ c.if-part-ge-FIRST_SYMBOL.false ∙ sym (ap is_symbol (front_variable c.requires c.if-part-ge-FIRST_SYMBOL.false))

pub returns-then-part-ge-FIRST_SYMBOL : goal.returns-then-part-ge-FIRST_SYMBOL
returns-then-part-ge-FIRST_SYMBOL c = front_is_symbol c.requires c.if-part-ge-FIRST_SYMBOL.true
