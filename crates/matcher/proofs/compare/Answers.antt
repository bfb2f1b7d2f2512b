-- `matcher::compare`: the entry that is named is there, and both it and the top begin a part of the subject; then the laws of EQIMM and EQI.
use native.Mathlib.Omega.{arith}
use Rattle.matcher.proofs.Opcodes.{entry_there, entry_place, operand_there, compare_begins, compare_room, old_part, old_room, eqimm_moves, eqimm_fails, eqi_end, eqi_moves, eqi_fails}
use Rattle.matcher.proofs.Stepping.{bounds, reads_eqi}
use borrow.Author.Rules.{rules}
use Rattle.matcher.proofs.compare.Goals as goal

pub overflow_sub-old : goal.overflow_sub-old
overflow_sub-old c = let b = entry_there c.requires.0 c.requires.1 c.requires.2 in search rules

pub bounds-code-at : goal.bounds-code-at
bounds-code-at c = let b = operand_there c.requires.0 c.requires.1 c.requires.2 in search rules

pub overflow_cast-old : goal.overflow_cast-old
overflow_cast-old c = let b = entry_there c.requires.0 c.requires.1 c.requires.2 in let d = c.requires.0.few in search rules

pub overflow_sub-old-2 : goal.overflow_sub-old-2
overflow_sub-old-2 c = let b = entry_there c.requires.0 c.requires.1 c.requires.2 in search rules

pub bounds-entries-made : goal.bounds-entries-made
bounds-entries-made c = let b = entry_place c.requires.0 c.requires.1 c.requires.2 in search rules

pub overflow_cast-old-2 : goal.overflow_cast-old-2
overflow_cast-old-2 c = let b = old_room c.requires.0 c.requires.1 c.requires.2 in search rules

pub bounds-code-at-2 : goal.bounds-code-at-2
bounds-code-at-2 c = let b = c.requires.0.inside in search rules

pub offset_bounds-part-old : goal.offset_bounds-part-old
offset_bounds-part-old c = let b = old_room c.requires.0 c.requires.1 c.requires.2 in search rules

pub slice_bounds-identical-count : goal.slice_bounds-identical-count
slice_bounds-identical-count c = let b = old_room c.requires.0 c.requires.1 c.requires.2 in search rules

pub slice_bounds-identical-start : goal.slice_bounds-identical-start
slice_bounds-identical-start c = let b = old_room c.requires.0 c.requires.1 c.requires.2 in search rules

pub slice_bounds-identical-count-then-code-at-eq-EQIMM : goal.slice_bounds-identical-count-then-code-at-eq-EQIMM
slice_bounds-identical-count-then-code-at-eq-EQIMM c = let b = compare_room c.requires.0 c.requires.1 c.requires.2 in search rules

pub slice_bounds-identical-start-then-code-at-eq-EQIMM : goal.slice_bounds-identical-start-then-code-at-eq-EQIMM
slice_bounds-identical-start-then-code-at-eq-EQIMM c = let b = compare_room c.requires.0 c.requires.1 c.requires.2 in search rules

pub identical-requires : goal.identical-requires
identical-requires c = (old_part c.requires.0 c.requires.1 c.requires.2, compare_begins c.requires.0 c.requires.1 c.requires.2)

pub returns-then-not-identical : goal.returns-then-not-identical
returns-then-not-identical c = record { means = λ m. eqimm_fails m c.if-code-at-eq-EQIMM.true _ c.identical.ensures c.if-not-identical.true }

pub returns-then-code-at-eq-EQIMM : goal.returns-then-code-at-eq-EQIMM
returns-then-code-at-eq-EQIMM c = record { means = λ m. eqimm_moves m c.if-code-at-eq-EQIMM.true _ c.identical.ensures c.if-not-identical.false }

pub bounds-code-at-3 : goal.bounds-code-at-3
bounds-code-at-3 c = let b = bounds c.requires.0 (reads_eqi c.requires.0 (omega arith)) in search rules

pub overflow_cast-end : goal.overflow_cast-end
overflow_cast-end c = let b = eqi_end c.requires.0 (omega arith) in search rules

pub overflow_mul-end : goal.overflow_mul-end
overflow_mul-end c = let b = eqi_end c.requires.0 (omega arith) in search rules

pub overflow_add-end-3 : goal.overflow_add-end-3
overflow_add-end-3 c = let b = eqi_end c.requires.0 (omega arith) in search rules

pub offset_bounds-part-old-2 : goal.offset_bounds-part-old-2
offset_bounds-part-old-2 c = let b = old_room c.requires.0 c.requires.1 c.requires.2 in search rules

pub slice_bounds-same-count : goal.slice_bounds-same-count
slice_bounds-same-count c = let b = old_room c.requires.0 c.requires.1 c.requires.2 in search rules

pub slice_bounds-same-start : goal.slice_bounds-same-start
slice_bounds-same-start c = let b = old_room c.requires.0 c.requires.1 c.requires.2 in search rules

pub slice_bounds-same-count-2 : goal.slice_bounds-same-count-2
slice_bounds-same-count-2 c = let b = compare_room c.requires.0 c.requires.1 c.requires.2 in search rules

pub slice_bounds-same-start-2 : goal.slice_bounds-same-start-2
slice_bounds-same-start-2 c = let b = compare_room c.requires.0 c.requires.1 c.requires.2 in search rules

pub bounds-code-at-4 : goal.bounds-code-at-4
bounds-code-at-4 c = let b = eqi_end c.requires.0 (omega arith) in search rules

pub slice_bounds-same-count-3 : goal.slice_bounds-same-count-3
slice_bounds-same-count-3 c = let b = eqi_end c.requires.0 (omega arith) in search rules

pub slice_bounds-same-end-3 : goal.slice_bounds-same-end-3
slice_bounds-same-end-3 c = let b = eqi_end c.requires.0 (omega arith) in search rules

pub same-requires : goal.same-requires
same-requires c = (old_part c.requires.0 c.requires.1 c.requires.2, compare_begins c.requires.0 c.requires.1 c.requires.2)

pub returns-then-not-same : goal.returns-then-not-same
returns-then-not-same c = record { means = λ m. eqi_fails m (omega arith) _ c.same.ensures c.if-not-same.true }

pub returns : goal.returns
returns c = record { means = λ m. eqi_moves m (omega arith) _ c.same.ensures c.if-not-same.false }
