-- `matcher::enter`: nothing is written but for a SET.
use Rattle.matcher.proofs.Whole.{entered_none, entered_top}
use borrow.Author.Rules.{rules}
use Rattle.matcher.proofs.enter.Goals as goal

pub returns-then-op-ne-SET : goal.returns-then-op-ne-SET
returns-then-op-ne-SET c = entered_none c.args.entries.now c.args.op c.args.made c.args.top c.if-op-ne-SET.true

pub offset_bounds-entries-made : goal.offset_bounds-entries-made
offset_bounds-entries-made c = let b = c.requires.0 c.if-op-ne-SET.false in search rules

pub bounds-entries-made : goal.bounds-entries-made
bounds-entries-made c = let b = c.requires.0 c.if-op-ne-SET.false in search rules

pub overflow_add-result : goal.overflow_add-result
overflow_add-result c = let b = c.requires.0 c.if-op-ne-SET.false in search rules

pub returns : goal.returns
returns c = entered_top c.args.entries.now c.args.op c.args.made c.args.top c.if-op-ne-SET.false
