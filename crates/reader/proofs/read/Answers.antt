-- `reader::read` meets document 01's call. `file_in` says that a file is bad before anything is written, or what its counts are; then each table's
-- words are there and fit (`tables`), and what was written to the three tables is what the call gives.
use mathlib.Core.Path.{sym, ◌∙◌, ◌≡◌}
use lib.ListN.{length}
use Rattle.reader.proofs.Sections.{Tables, tables, read_call_done, read_call_refused}
use native.Mathlib.Omega.{arith}
use Rattle.std.specs.Prelude.{Some, None}
use Rattle.std.proofs.lemmas.Result.{err_from_is_err_and}
use Rattle.documents.specs.declared.Refusal.TheVariants.{BadFile}
use Rattle.reader.proofs.read.Goals as goal
use Rattle.reader.proofs.read.Goals.{After-section_bytes}

pub returns-in_err-counts : goal.returns-in_err-counts
returns-in_err-counts c =
    let p = err_from_is_err_and c.from_residual.result c.from_residual.ensures.1 in
    let missing : (c.file_in-found.result ≡ None) × (c.in_err-counts.field-0.0 ≡ BadFile) = (grind arith, grind arith) in
    rw (p.1, p.2, missing.1) (read_call_refused _ _ _ _ (sym c.file_in-found.ensures ∙ missing.0))

found_some : (c : After-section_bytes) → c.file_in-found.result ≡ Some c.in_ok-counts.counts
found_some c = grind arith

-- where the whole file is there, and nothing written
found : (c : After-section_bytes) → let s = c.args in let n = c.in_ok-counts.counts in Tables (length s.left.now) (length s.right.now) (length s.subject.now) s.file.now n.left n.right n.subject c.section_bytes-right_at.result c.section_bytes.result
found c =
    tables _ _ _ _ _ _ _ _ _ c.section_bytes-right_at.ensures c.section_bytes.ensures (sym c.file_in-found.ensures ∙ found_some c)

pub put_words-requires : goal.put_words-requires
put_words-requires c = let t = (found (goal.at.put_words-requires c).After-section_bytes).left_holds in (t.fits, t.whole)

pub put_words-requires-2 : goal.put_words-requires-2
put_words-requires-2 c = let t = (found (goal.at.put_words-requires-2 c).After-section_bytes).right_holds in (t.fits, t.whole)

pub put_words-requires-3 : goal.put_words-requires-3
put_words-requires-3 c = let t = (found (goal.at.put_words-requires-3 c).After-section_bytes).subject_holds in (t.fits, t.whole)

pub returns : goal.returns
returns c =
    rw (c.put_words.ensures, c.put_words-2.ensures, c.put_words-3.ensures)
    (read_call_done _ _ _ _ _ _ _ _ _ (found (goal.at.returns c).After-section_bytes))
