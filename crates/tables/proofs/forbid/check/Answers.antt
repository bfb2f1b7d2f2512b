-- `forbid::check` meets its contract: the marks of the list are those of its indices, and where nothing is listed nothing is forbidden.
use Rattle.std.proofs.Common.{sym, ◌∙◌}
use borrow.Author.Tests.{eqb-true}
use Rattle.tables.specs.Parts.{front}
use Rattle.tables.proofs.Walks.{walked_some}
use Rattle.tables.proofs.Free.{marked_list, clear_empty}
use Rattle.tables.proofs.forbid.check.Goals as goal

pub returns-then-is_empty : goal.returns-then-is_empty
returns-then-is_empty c = clear_empty c.args.indices.now (front c.args.part.now) (eqb-true _ _ (sym c.is_empty.ensures ∙ c.if-is_empty.true))

pub returns : goal.returns
returns c =
    let u = front c.args.part.now in
    c.is_some.ensures ∙ walked_some _ u _ (rw c.marks_of-marks.ensures at c.look.ensures) ∙ marked_list c.args.indices.now u c.requires.1
