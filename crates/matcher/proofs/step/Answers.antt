-- `matcher::step`: each way through is one law of its opcode; the words that are looked at are there, since the code passes and a term is current.
use native.Mathlib.Omega.{arith}
use Rattle.matcher.proofs.Opcodes.{is_name, is_count, is_other, is_fewer, is_moves, abst_other, abst_moves, next_moves, next_room, next_begins, set_moves}
use Rattle.matcher.proofs.Stepping.{bounds, reads_is, reads_isabst, reads_next}
use borrow.Author.Rules.{rules}
use Rattle.matcher.proofs.step.Goals as goal
use Rattle.matcher.proofs.step.Goals.{then-part-top-via-then-part-top, then-part-top-via-else-part-top+then-part-top-2}

pub bounds-code-at : goal.bounds-code-at
bounds-code-at c = let b = c.requires.0.inside in search rules

pub bounds-part-top : goal.bounds-part-top
bounds-part-top c = let b = bounds c.requires.0 (reads_is c.requires.0 c.if-op-eq-IS.true) in search rules

pub bounds-code-at-then-op-eq-IS : goal.bounds-code-at-then-op-eq-IS
bounds-code-at-then-op-eq-IS c = let b = bounds c.requires.0 (reads_is c.requires.0 c.if-op-eq-IS.true) in search rules

pub overflow_add-code : goal.overflow_add-code
overflow_add-code c = let b = is_name c.requires.0 c.if-op-eq-IS.true in search rules

pub returns-then-part-top-clause-steps : goal.returns-then-part-top-clause-steps
returns-then-part-top-clause-steps c =
    record {
      means = λ m. elim c.then-part-top.branch [
        | then-part-top-via-then-part-top w ↦ is_other m c.if-op-eq-IS.true w.if-part-top.true
        | then-part-top-via-else-part-top+then-part-top-2 w ↦ is_fewer m c.if-op-eq-IS.true w.if-part-top.false w.if-part-top-2.true
      ];
    }

pub overflow_add-result-then-op-eq-IS : goal.overflow_add-result-then-op-eq-IS
overflow_add-result-then-op-eq-IS c = let b = bounds c.requires.0 (reads_is c.requires.0 c.if-op-eq-IS.true) in search rules

pub overflow_sub-result : goal.overflow_sub-result
overflow_sub-result c = let b = bounds c.requires.0 (reads_is c.requires.0 c.if-op-eq-IS.true) in search rules

pub bounds-code-at-then-op-eq-IS-2 : goal.bounds-code-at-then-op-eq-IS-2
bounds-code-at-then-op-eq-IS-2 c = let b = bounds c.requires.0 (reads_is c.requires.0 c.if-op-eq-IS.true) in search rules

pub overflow_cast-result : goal.overflow_cast-result
overflow_cast-result c = let b = is_count c.requires.0 c.if-op-eq-IS.true in search rules

pub overflow_add-result-then-op-eq-IS-3 : goal.overflow_add-result-then-op-eq-IS-3
overflow_add-result-then-op-eq-IS-3 c = let b = is_count c.requires.0 c.if-op-eq-IS.true in let d = c.requires.0.many in search rules

pub returns-then-op-eq-IS-clause-steps : goal.returns-then-op-eq-IS-clause-steps
returns-then-op-eq-IS-clause-steps c = record { means = λ m. is_moves m c.if-op-eq-IS.true c.if-part-top.false c.if-part-top-2.false }

pub bounds-part-top-then-op-eq-ISABST : goal.bounds-part-top-then-op-eq-ISABST
bounds-part-top-then-op-eq-ISABST c = let b = bounds c.requires.0 (reads_isabst c.requires.0 c.if-op-eq-ISABST.true) in search rules

pub returns-then-part-top-ne-ABSTRACTION-clause-steps : goal.returns-then-part-top-ne-ABSTRACTION-clause-steps
returns-then-part-top-ne-ABSTRACTION-clause-steps c = record { means = λ m. abst_other m c.if-op-eq-ISABST.true c.if-part-top-ne-ABSTRACTION.true }

pub overflow_add-result-then-op-eq-ISABST-2 : goal.overflow_add-result-then-op-eq-ISABST-2
overflow_add-result-then-op-eq-ISABST-2 c = let b = bounds c.requires.0 (reads_isabst c.requires.0 c.if-op-eq-ISABST.true) in search rules

pub returns-then-op-eq-ISABST-clause-steps : goal.returns-then-op-eq-ISABST-clause-steps
returns-then-op-eq-ISABST-clause-steps c = record { means = λ m. abst_moves m c.if-op-eq-ISABST.true c.if-part-top-ne-ABSTRACTION.false }

pub slice_bounds-skip-count : goal.slice_bounds-skip-count
slice_bounds-skip-count c = let b = bounds c.requires.0 (reads_next c.requires.0 c.if-op-eq-NEXT.true) in search rules

pub slice_bounds-skip-start : goal.slice_bounds-skip-start
slice_bounds-skip-start c = let b = bounds c.requires.0 (reads_next c.requires.0 c.if-op-eq-NEXT.true) in search rules

pub skip-requires : goal.skip-requires
skip-requires c = next_begins c.requires.0 c.if-op-eq-NEXT.true

pub overflow_add-result-then-op-eq-NEXT-2 : goal.overflow_add-result-then-op-eq-NEXT-2
overflow_add-result-then-op-eq-NEXT-2 c = let b = next_room c.requires.0 c.if-op-eq-NEXT.true _ c.skip.ensures in search rules

pub overflow_sub-result-then-op-eq-NEXT : goal.overflow_sub-result-then-op-eq-NEXT
overflow_sub-result-then-op-eq-NEXT c = let b = bounds c.requires.0 (reads_next c.requires.0 c.if-op-eq-NEXT.true) in search rules

pub returns-then-op-eq-NEXT-clause-steps : goal.returns-then-op-eq-NEXT-clause-steps
returns-then-op-eq-NEXT-clause-steps c = record { means = λ m. next_moves m c.if-op-eq-NEXT.true _ c.skip.ensures }

pub returns-then-op-eq-SET-clause-steps : goal.returns-then-op-eq-SET-clause-steps
returns-then-op-eq-SET-clause-steps c = record { means = λ m. set_moves m c.if-op-eq-SET.true }

pub test-requires : goal.test-requires
test-requires c = (c.requires.0, omega arith, c.requires.1, c.if-op-eq-SET.false)

pub bounds-part-top-else-part-top : goal.bounds-part-top-else-part-top
bounds-part-top-else-part-top c = let b = bounds c.requires.0 (reads_is c.requires.0 c.if-op-eq-IS.true) in search rules

pub bounds-code-at-else-part-top : goal.bounds-code-at-else-part-top
bounds-code-at-else-part-top c = let b = bounds c.requires.0 (reads_is c.requires.0 c.if-op-eq-IS.true) in search rules

pub returns-clause-steps : goal.returns-clause-steps
returns-clause-steps c = record { means = λ m. rw c.in_ok-next.was at (c.test.ensures.means m) }
