-- `plan::apply`: what each call writes stands in its table (`read_within`, `compile_within`), and what follows its answer is what `planned` says.
use mathlib.Core.Path.{sym, ap, ◌∙◌}
use lib.Seq.{length-take-le}
use Rattle.plan.specs.Program.{after_run}
use Rattle.plan.proofs.Planning.{read_leaves_lem, read_stopped, read_done, read_within, compile_stopped, compile_done, compile_within}
use borrow.Author.Rules.{rules}
use Rattle.plan.proofs.apply.Goals as goal

pub returns-then-read-ne-DONE : goal.returns-then-read-ne-DONE
returns-then-read-ne-DONE c =
    let read = c.reed_read-read.ensures in
    (read_stopped _ _ _ _ _ _ _ _ read _ _ _ c.if-read-ne-DONE.true, read_leaves_lem _ _ _ _ _ _ _ _ read)

pub slice_bounds-left-end : goal.slice_bounds-left-end
slice_bounds-left-end c = let w = read_within _ _ _ _ _ _ _ _ c.reed_read-read.ensures in search rules

pub slice_bounds-left-end-2 : goal.slice_bounds-left-end-2
slice_bounds-left-end-2 c = let w = read_within _ _ _ _ _ _ _ _ c.reed_read-read.ensures in sym (length-take-le _ _ (search rules))

pub slice_bounds-right-end : goal.slice_bounds-right-end
slice_bounds-right-end c = let w = read_within _ _ _ _ _ _ _ _ c.reed_read-read.ensures in search rules

pub slice_bounds-right-end-2 : goal.slice_bounds-right-end-2
slice_bounds-right-end-2 c = let w = read_within _ _ _ _ _ _ _ _ c.reed_read-read.ensures in sym (length-take-le _ _ (search rules))

pub slice_bounds-subject-end : goal.slice_bounds-subject-end
slice_bounds-subject-end c = let w = read_within _ _ _ _ _ _ _ _ c.reed_read-read.ensures in search rules

pub slice_bounds-subject-end-2 : goal.slice_bounds-subject-end-2
slice_bounds-subject-end-2 c = let w = read_within _ _ _ _ _ _ _ _ c.reed_read-read.ensures in sym (length-take-le _ _ (search rules))

pub returns-then-compiled-ne-DONE : goal.returns-then-compiled-ne-DONE
returns-then-compiled-ne-DONE c =
    let read = c.reed_read-read.ensures in
    let stopped = compile_stopped _ _ _ _ _ c.reed_compile-compiled.ensures _ _ _ c.if-compiled-ne-DONE.true in
    (stopped ∙ read_done _ _ _ _ _ _ _ _ read _ _ _ c.if-read-ne-DONE.false, read_leaves_lem _ _ _ _ _ _ _ _ read)

pub slice_bounds-reed_run-end : goal.slice_bounds-reed_run-end
slice_bounds-reed_run-end c = let w = compile_within _ _ _ _ _ c.reed_compile-compiled.ensures in search rules

pub slice_bounds-reed_run-end-2 : goal.slice_bounds-reed_run-end-2
slice_bounds-reed_run-end-2 c = let w = compile_within _ _ _ _ _ c.reed_compile-compiled.ensures in sym (length-take-le _ _ (search rules))

pub returns : goal.returns
returns c =
    let read = c.reed_read-read.ensures in
    let done = compile_done _ _ _ _ _ c.reed_compile-compiled.ensures _ _ _ c.if-compiled-ne-DONE.false in
    (ap (after_run _) c.reed_run.ensures ∙ (done ∙ read_done _ _ _ _ _ _ _ _ read _ _ _ c.if-read-ne-DONE.false), read_leaves_lem _ _ _ _ _ _ _ _ read)
