-- `enter_metavariable` meets its contract: one that has a row leaves the table as it is, one that has none becomes the first row, unless there is no room.
use mathlib.Core.Path.{sym, ◌∙◌}
use Rattle.symbols.proofs.Located.{present, absent}
use Rattle.symbols.proofs.Entering.{arguments_narrow, arguments_few, arguments_variables, arguments_count, room, first_full, first_entered, later_entered}
use borrow.Author.Rules.{rules}
use Rattle.symbols.proofs.enter_metavariable.Goals as goal

pub returns-then-is_full : goal.returns-then-is_full
returns-then-is_full c =
    let p = c.requires in
    let a = absent _ c.find.ensures (sym c.is_some.ensures ∙ c.if-is_some.false) in
    first_full c.args.node p.0 p.1 p.2 c.args.table.now c.rows.result.now c.rows.ensures.rows a (sym c.if-is_full.true ∙ c.is_full.ensures)

pub enter-requires : goal.enter-requires
enter-requires c =
    let p = c.requires in
    let a = arguments_variables c.args.node p.0 p.1 p.2 in
    (a.0, a.1, arguments_count c.args.node p.0 p.1 p.2, arguments_narrow c.args.node p.0 p.1 p.2, room c.args.table.now (sym c.if-is_full.false ∙ c.is_full.ensures))

pub overflow_sub-words : goal.overflow_sub-words
overflow_sub-words c = let p = c.requires in let k = arguments_few c.args.node p.0 p.1 p.2 in search rules

pub returns : goal.returns
returns c =
    let p = c.requires in
    let a = absent _ c.find.ensures (sym c.is_some.ensures ∙ c.if-is_some.false) in
    first_entered c.args.node p.0 p.1 p.2 c.args.table.now c.rows.result.now c.rows.ensures.rows a _ c.enter.ensures

pub returns-then-is_some : goal.returns-then-is_some
returns-then-is_some c =
    let p = c.requires in
    let l = present _ c.find.ensures (sym c.is_some.ensures ∙ c.if-is_some.true) in
    later_entered c.args.node p.0 p.1 p.2 c.args.table.now c.rows.result.now c.rows.ensures.rows l.0 l.1
