-- `translate` meets document 01's call for sides that are accepted so far. The table that was entered is the symbol table, or has no room for a
-- seventeenth row; the length is that of the code, so the code table is written only if all of it fits.
use mathlib.Core.Path.{◌≡◌, sym, ◌∙◌}
use mathlib.Core.Bool.{true}
use native.Mathlib.Omega.{arith}
use Rattle.documents.specs.Rules.{metas, contains}
use Rattle.tables.specs.Parts.{front}
use Rattle.symbols.proofs.Whole.{Made, table_made, table_full}
use Rattle.compiler.proofs.Called.{Rows, left_simple_lem, left_short, right_short, call_crowded, call_absent, call_short, call_done, code_fits, length_small, rows_made, found_rows}
use borrow.Author.Rules.{rules}
use Rattle.compiler.proofs.translate.Goals as goal
use Rattle.compiler.proofs.translate.Goals.{After-all_found, Else-not-all_found}

pub enter_all-requires : goal.enter_all-requires
enter_all-requires c = let s = c.requires in record { begins = s.left_begins; simple = left_simple_lem s; low = omega arith; short = left_short s }

pub over_sixteen-requires : goal.over_sixteen-requires
over_sixteen-requires c = record { sides = c.requires; many = table_full c.new-table.ensures c.enter_all.ensures c.in_default.is }

pub returns-in_default : goal.returns-in_default
returns-in_default c = rw c.over_sixteen.ensures (call_crowded c.requires c.args.code.now (table_full c.new-table.ensures c.enter_all.ensures c.in_default.is))

-- what was entered, and its rows
made : (c : After-all_found) → Made (front c.args.left.now) c.enter_all.new.table c.in-Some.entered.read c.in-Some.entered.words
made c = table_made c.new-table.ensures c.enter_all.ensures c.in-Some.is

its_rows : (c : After-all_found) → Rows c.args.left.now c.rows-rows.result.now
its_rows c = rows_made c.args.left.now c.rows-rows.result.now (made c) c.rows-rows.ensures.rows c.rows-rows.ensures.few

asked : (c : After-all_found) → c.all_found.result ≡ contains (metas (front c.args.right.now)) (metas (front c.args.left.now))
asked c = c.all_found.ensures ∙ found_rows (metas (front c.args.right.now)) (its_rows c)

-- behind the test of it
known : (c : Else-not-all_found) → contains (metas (front c.args.right.now)) (metas (front c.args.left.now)) ≡ true
known c = sym (asked (goal.at.Else-not-all_found c).After-all_found) ∙ c.if-not-all_found.false

pub all_found-requires : goal.all_found-requires
all_found-requires c = c.requires.right_begins

pub returns-then-not-all_found : goal.returns-then-not-all_found
returns-then-not-all_found c = call_absent c.requires c.args.code.now (sym (asked (goal.at.returns-then-not-all_found c).After-all_found) ∙ c.if-not-all_found.true)

pub right_words-requires : goal.right_words-requires
right_words-requires c = (c.requires.right_begins, right_short c.requires)

pub overflow_add-words : goal.overflow_add-words
overflow_add-words c =
    let o = goal.at.overflow_add-words c in
    let m = made o.After-all_found in
    let b = length_small c.requires (known o.Else-not-all_found) m.few in
    let e = m.counts in
    let r = c.right_words.ensures in
    search rules

pub returns-then-code-words : goal.returns-then-code-words
returns-then-code-words c =
    let o = goal.at.returns-then-code-words c in
    let m = made o.After-all_found in
    let e = m.counts in
    let r = c.right_words.ensures in
    call_short c.requires (known o.Else-not-all_found) m.few c.args.code.now (omega arith)

pub generate-requires : goal.generate-requires
generate-requires c =
    let o = goal.at.generate-requires c in
    let m = made o.After-all_found in
    let t = its_rows o.After-all_found in
    let e = m.counts in
    let r = c.right_words.ensures in
    record { sides = c.requires; entries = t.entries; few = t.few; fits = code_fits c.requires (known o.Else-not-all_found) m.few (omega arith) }

pub overflow_cast-result : goal.overflow_cast-result
overflow_cast-result c =
    let o = goal.at.overflow_cast-result c in
    let m = made o.After-all_found in
    let b = length_small c.requires (known o.Else-not-all_found) m.few in
    let e = m.counts in
    let r = c.right_words.ensures in
    search rules

pub returns : goal.returns
returns c =
    let o = goal.at.returns c in
    let m = made o.After-all_found in
    let e = m.counts in
    let r = c.right_words.ensures in
    rw c.generate.ensures (call_done c.requires (known o.Else-not-all_found) m.few c.args.code.now (omega arith) (omega arith))
