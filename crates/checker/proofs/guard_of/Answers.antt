-- `checker::guard_of`: the list of a CHECK lies within the code, and its indices are below 64, as the turn before has found.
use Rattle.checker.proofs.Current.{guard_none, guard_list, listing_small}
use borrow.Author.Rules.{rules}
use Rattle.checker.proofs.guard_of.Goals as goal

pub returns-then-code-at-ne-CHECK : goal.returns-then-code-at-ne-CHECK
returns-then-code-at-ne-CHECK c = guard_none _ _ c.if-code-at-ne-CHECK.true

pub bounds-code-at-2 : goal.bounds-code-at-2
bounds-code-at-2 c = let h = (c.requires.1 c.if-code-at-ne-CHECK.false).0 in search rules

pub overflow_cast-end : goal.overflow_cast-end
overflow_cast-end c = let h = (c.requires.1 c.if-code-at-ne-CHECK.false).0 in let k = c.args in search rules

pub overflow_add-end-2 : goal.overflow_add-end-2
overflow_add-end-2 c = let h = (c.requires.1 c.if-code-at-ne-CHECK.false).0 in search rules

pub slice_bounds-gather-end : goal.slice_bounds-gather-end
slice_bounds-gather-end c = let h = (c.requires.1 c.if-code-at-ne-CHECK.false).0 in search rules

pub gather-requires : goal.gather-requires
gather-requires c = let s = c.args in listing_small s.code.now s.at c.requires.1 c.if-code-at-ne-CHECK.false

pub returns : goal.returns
returns c = guard_list _ _ _ c.if-code-at-ne-CHECK.false c.gather.ensures
