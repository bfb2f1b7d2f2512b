-- `reader::file_in` gives the counts of a whole file. Each refusal is the case of `file_in` in which that thing is missing; where the words of a
-- section were missing, so is what the next test looks for. `l`, `r` and `s` are the places past the three counts.
use mathlib.Core.Path.{sym, ap, ◌∙◌}
use native.Mathlib.Omega.{arith}
use Rattle.documents.specs.Calls.{file_side_words}
use Rattle.reader.specs.Reader.{counts_of}
use Rattle.reader.proofs.Sections.{count_there, no_left, no_version, no_right, no_subject, no_end, at_end}
use Rattle.reader.proofs.file_in.Goals as goal

pub returns-in_err-l : goal.returns-in_err-l
returns-in_err-l c =
    rw c.from_residual.ensures
    (ap counts_of (sym (no_left _ _ _ _ (sym c.count_in.ensures ∙ c.in_err-l.was))))

pub bounds-file-0 : goal.bounds-file-0
bounds-file-0 c =
    let s = c.args in
    omega (arith, count_there file_side_words s.left 1 s.file.now _ (sym c.count_in.ensures ∙ c.in_ok-l.was))

pub returns-then-file-ne-VERSION : goal.returns-then-file-ne-VERSION
returns-then-file-ne-VERSION c = ap counts_of (sym (no_version _ _ _ _ _ (sym c.count_in.ensures ∙ c.in_ok-l.was) c.if-file-ne-VERSION.true))

pub returns-in_err-r : goal.returns-in_err-r
returns-in_err-r c =
    rw c.from_residual-in_err-r.ensures
    (ap counts_of (sym (no_right _ _ _ _ _ (sym c.count_in.ensures ∙ c.in_ok-l.was) c.if-file-ne-VERSION.false _ c.section_bytes-right_at.ensures
    (sym c.count_in-2.ensures ∙ c.in_err-r.was))))

pub returns-in_err-s : goal.returns-in_err-s
returns-in_err-s c =
    rw c.from_residual-in_err-s.ensures
    (ap counts_of (sym (no_subject _ _ _ _ _ (sym c.count_in.ensures ∙ c.in_ok-l.was) c.if-file-ne-VERSION.false _ c.section_bytes-right_at.ensures
    _ (sym c.count_in-2.ensures ∙ c.in_ok-r.was) _ c.section_bytes.ensures
    (sym c.count_in-3.ensures ∙ c.in_err-s.was))))

pub returns-then-file-subject_at : goal.returns-then-file-subject_at
returns-then-file-subject_at c =
    ap counts_of (sym (no_end _ _ _ _ _ (sym c.count_in.ensures ∙ c.in_ok-l.was) c.if-file-ne-VERSION.false _ c.section_bytes-right_at.ensures
    _ (sym c.count_in-2.ensures ∙ c.in_ok-r.was) _ c.section_bytes.ensures
    _ (sym c.count_in-3.ensures ∙ c.in_ok-s.was) _ c.section_bytes-2.ensures (λ e. omega arith)))

pub returns : goal.returns
returns c =
    sym (at_end _ _ _ _ _ (sym c.count_in.ensures ∙ c.in_ok-l.was) c.if-file-ne-VERSION.false _ c.section_bytes-right_at.ensures
    _ (sym c.count_in-2.ensures ∙ c.in_ok-r.was) _ c.section_bytes.ensures
    _ (sym c.count_in-3.ensures ∙ c.in_ok-s.was) _ c.section_bytes-2.ensures c.if-file-subject_at.false)
