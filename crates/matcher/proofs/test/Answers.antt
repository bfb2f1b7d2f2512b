-- `matcher::test`: CHECK and EQVAR by their laws, the others by what `compare` ensures.
use native.Mathlib.Omega.{arith}
use Rattle.matcher.proofs.Opcodes.{check_end, check_begins, check_small, check_moves, check_fails, eqvar_moves, eqvar_other}
use Rattle.matcher.proofs.Stepping.{bounds, reads_check, reads_eqvar}
use borrow.Author.Rules.{rules}
use Rattle.matcher.proofs.test.Goals as goal

pub bounds-code-at : goal.bounds-code-at
bounds-code-at c = let b = c.requires.0.inside in search rules

pub bounds-code-at-then-op-eq-CHECK : goal.bounds-code-at-then-op-eq-CHECK
bounds-code-at-then-op-eq-CHECK c = let b = bounds c.requires.0 (reads_check c.requires.0 c.if-op-eq-CHECK.true) in search rules

pub overflow_cast-end : goal.overflow_cast-end
overflow_cast-end c = let b = bounds c.requires.0 (reads_check c.requires.0 c.if-op-eq-CHECK.true) in search rules

pub overflow_add-end-then-op-eq-CHECK-2 : goal.overflow_add-end-then-op-eq-CHECK-2
overflow_add-end-then-op-eq-CHECK-2 c = let b = check_end c.requires.0 c.if-op-eq-CHECK.true in search rules

pub slice_bounds-check-count : goal.slice_bounds-check-count
slice_bounds-check-count c = let b = bounds c.requires.0 (reads_check c.requires.0 c.if-op-eq-CHECK.true) in search rules

pub slice_bounds-check-start : goal.slice_bounds-check-start
slice_bounds-check-start c = let b = bounds c.requires.0 (reads_check c.requires.0 c.if-op-eq-CHECK.true) in search rules

pub slice_bounds-check-count-then-op-eq-CHECK : goal.slice_bounds-check-count-then-op-eq-CHECK
slice_bounds-check-count-then-op-eq-CHECK c = let b = check_end c.requires.0 c.if-op-eq-CHECK.true in search rules

pub slice_bounds-check-end-then-op-eq-CHECK : goal.slice_bounds-check-end-then-op-eq-CHECK
slice_bounds-check-end-then-op-eq-CHECK c = let b = check_end c.requires.0 c.if-op-eq-CHECK.true in search rules

pub check-requires : goal.check-requires
check-requires c = (check_begins c.requires.0 c.if-op-eq-CHECK.true, check_small c.requires.0 c.if-op-eq-CHECK.true)

pub returns-then-not-check : goal.returns-then-not-check
returns-then-not-check c = record { means = λ m. check_fails m c.if-op-eq-CHECK.true _ c.check.ensures c.if-not-check.true }

pub returns-then-op-eq-CHECK : goal.returns-then-op-eq-CHECK
returns-then-op-eq-CHECK c = record { means = λ m. check_moves m c.if-op-eq-CHECK.true _ c.check.ensures c.if-not-check.false }

pub bounds-part-top : goal.bounds-part-top
bounds-part-top c = let b = bounds c.requires.0 (reads_eqvar c.requires.0 c.if-op-eq-EQVAR.true) in search rules

pub bounds-code-at-then-op-eq-EQVAR : goal.bounds-code-at-then-op-eq-EQVAR
bounds-code-at-then-op-eq-EQVAR c = let b = bounds c.requires.0 (reads_eqvar c.requires.0 c.if-op-eq-EQVAR.true) in search rules

pub returns-then-part-top : goal.returns-then-part-top
returns-then-part-top c = record { means = λ m. eqvar_other m c.if-op-eq-EQVAR.true c.if-part-top.true }

pub returns-then-op-eq-EQVAR : goal.returns-then-op-eq-EQVAR
returns-then-op-eq-EQVAR c = record { means = λ m. eqvar_moves m c.if-op-eq-EQVAR.true c.if-part-top.false }

pub compare-requires : goal.compare-requires
compare-requires c = (c.requires.0, omega arith, c.requires.2)
