-- The length of a rule's code in words, told from the two sides without making the code: so it is known before a word is written whether a code
-- table has room (document 01, refusal 10). It reads like lhs and rhs of 004, section 6; each number counts an opcode and its further words.
use Rattle.std.specs.Prelude.{ℕ, suc, ◌+◌, ◌-◌, ◌*◌, List, []}
use Rattle.std.proofs.Math.Option.{Option, none, some}
use Rattle.documents.specs.Terms.{Sort, Tm, Var, Sym, Meta, Abst, Nil, Cons, Term, len}
use Rattle.documents.specs.Translation.{Row, Located, lookup, update}

-- A metavariable with k arguments under n abstractions. At its first occurrence: CHECK, a count and the n - k other indices, SET, NEXT. Later:
-- EQI, entry, d + 64, a count and two words a pair, NEXT.
abbrev pub occurrence_words : ℕ → ℕ → Option Located → ℕ
occurrence_words n k none = 4 + (n - k)
occurrence_words n k (some e) = 5 + 2 * k

-- The left side, under n abstractions; the rows are those made so far, and an occurrence is the first where it is not among them.
abbrev pub left_words : {s : Sort} → ℕ → Tm s → List Row → ℕ
-- EQVAR, index, NEXT
left_words n (Var x) rows = 3
-- IS, name, count
left_words n (Sym s ts) rows = 3 + left_words n ts rows
left_words n (Meta z ts) rows = occurrence_words n (len ts) (lookup z (len ts) rows)
-- ISABST
left_words n (Abst t) rows = 1 + left_words (suc n) t rows
left_words n Nil rows = 0
left_words n (Cons t ts) rows = left_words n t rows + left_words n ts (update n t rows)

-- The right side.
abbrev pub right_words : {s : Sort} → Tm s → ℕ
-- PUSHVAR, index
right_words (Var x) = 2
-- CELL, name, count
right_words (Sym s ts) = right_words ts + 3
-- PUSHI, entry, d + 64, a count, and before each body its key and its length
right_words (Meta z ts) = 4 + 2 * len ts + right_words ts
-- LAMBDA, ADBMAL
right_words (Abst t) = 2 + right_words t
right_words Nil = 0
right_words (Cons t ts) = right_words t + right_words ts

abbrev pub code_length : Term → Term → ℕ
code_length left right = left_words 0 left [] + right_words right
