-- The code of a left side's subterm (004, section 6.1), as the generator is asked for it.
use Rattle.std.specs.Prelude.{◌≡◌, ℕ, ◌+◌, ◌-◌, ◌≤◌, ◌<◌, true, cond, List, ltb, length, get_or, take, drop}
use Rattle.documents.specs.Limits.{kind_step}
use Rattle.documents.specs.Lists.{pairlists}
use Rattle.documents.specs.Terms.{Term}
use Rattle.documents.specs.Rules.{are_vars}
use Rattle.documents.specs.Instructions.{IS, NEXT, CHECK, SET, EQVAR, EQI, End, ◌▸◌, words}
use Rattle.documents.specs.Translation.{unvar, offset, bvset, sets_after, lhs}
use Rattle.kahrs.proofs.Simple.{Simple}
use Rattle.tables.specs.Parts.{terms, front, Begins, word_count}
use Rattle.symbols.specs.Rows.{rows_in, Low}
use Rattle.generator.specs.declared.left.Matched.{Matched}
use Rattle.generator.specs.Written.{Fits, Wrote}

-- the words of its code, under so many abstractions, with so many SETs still to come
abbrev pub left_code : List ℕ → ℕ → ℕ → Term → List ℕ
left_code rows under sets t = words (lhs (rows_in rows) under sets t)

-- the words of a variable's node, or of a symbol's
abbrev pub plain_code : ℕ → ℕ → List ℕ
plain_code word count = cond (ltb word kind_step) (words (EQVAR word ▸ NEXT ▸ End)) (words (IS (word - kind_step) count ▸ End))

-- the first terms of a part, so many, are variables
pub record Variables (n : ℕ) (part : List ℕ) : Type 0 where
  pub begins : Begins n part
  pub variables : are_vars (terms n part) ≡ true

-- the arguments of a first occurrence: the other indices below that number are as many as are left of it
pub record First (arguments : List ℕ) (count under : ℕ) : Type 0 where
  pub variables : Variables count arguments
  pub others : length (bvset under (terms count arguments)) + count ≡ under

abbrev pub first_code : List ℕ → ℕ → ℕ → List ℕ
first_code arguments count under = words (CHECK (bvset under (terms count arguments)) ▸ SET ▸ NEXT ▸ End)

-- the arguments of a later occurrence, and words that begin with the row
pub record Later (row arguments : List ℕ) (count under : ℕ) : Type 0 where
  pub variables : Variables count arguments
  pub whole : 11 ≤ length row
  pub narrow : count ≤ 8
  pub low : get_or row 2 0 < 64
  pub shallow : under < 64

abbrev pub later_code : List ℕ → List ℕ → ℕ → ℕ → ℕ → List ℕ
later_code row arguments count under entry =
    words (EQI entry (offset under (get_or row 2 0)) (pairlists (take count (drop 3 row)) (unvar (terms count arguments))) ▸ NEXT ▸ End)

-- the part begins with a metavariable
pub record Metavariable (part : List ℕ) : Type 0 where
  pub lowest : 131072 ≤ get_or part 0 0
  pub highest : get_or part 0 0 < 196608

-- What is asked for: the subterm that a part begins with is that of a left side, the symbol table has at most sixteen rows, and there is room.
pub record Asked (part rows code : List ℕ) (under sets at : ℕ) : Type 0 where
  pub begins : Begins 1 part
  pub simple : Simple under (front part)
  pub shallow : under < 64
  pub low : Low (rows_in rows)
  pub few : length rows ≤ 176
  pub fits : Fits code at (left_code rows under sets (front part))

-- What is done: the words that were gone over, the SETs still to come behind them, and the code.
pub record Done (part rows old new : List ℕ) (under sets at : ℕ) (r : Matched) : Type 0 where
  pub read : r.read ≡ word_count (front part)
  pub sets_left : r.sets ≡ sets_after (rows_in rows) sets (front part)
  pub wrote : Wrote old new at r.next (left_code rows under sets (front part))

-- what is done for a node, whose own two words its caller has gone over
abbrev pub behind_node : Matched → Matched
behind_node r = record { read = 2 + r.read; sets = r.sets; next = r.next }
