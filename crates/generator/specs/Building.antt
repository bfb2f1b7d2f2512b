-- The right side's code as words (004, section 6.2), and what the functions that write it require and ensure.
use Rattle.std.specs.Prelude.{◌≡◌, ℕ, ◌+◌, ◌≤◌, List, length, take, drop}
use Rattle.documents.specs.Terms.{Sort, Tm, Term, Terms}
use Rattle.documents.specs.Instructions.{End, words}
use Rattle.documents.specs.Translation.{joined, keyed, rhs}
use Rattle.tables.specs.Parts.{Begins, word_count}
use Rattle.symbols.specs.Rows.{rows_in, Low}
use Rattle.generator.specs.Written.{Wrote}
use Rattle.generator.specs.declared.right.Built.{Built}

-- the words of a term's code under so many abstractions, metavariables being looked up in the rows
unfoldable pub right_code : List ℕ → ℕ → Term → List ℕ
right_code rows under t = words (rhs (rows_in rows) under t)

-- of terms, one code after the other
unfoldable pub right_codes : List ℕ → ℕ → Terms → List ℕ
right_codes rows under ts = words (joined (rhs (rows_in rows) under ts) End)

-- of n terms, each code behind its key and its length; the keys stand in the rows, from a place on
unfoldable pub right_bodies : List ℕ → ℕ → ℕ → ℕ → Terms → List ℕ
right_bodies rows under keys n ts = words (keyed (take n (drop keys rows)) (rhs (rows_in rows) under ts))

-- n terms begin the part, and a symbol table of sixteen rows at most is lent. A depth stays a word whatever is added to it.
pub record Ready (n : ℕ) (part : List ℕ) (under : ℕ) (rows : List ℕ) : Type 0 where
  pub begins : Begins n part
  pub shallow : under + length part ≤ 1024
  pub low : Low (rows_in rows)
  pub few : length rows ≤ 176

-- A term or terms were gone over, and the words ws are written from that place on.
pub record Builds {s : Sort} (t : Tm s) (ws old new : List ℕ) (at : ℕ) (built : Built) : Type 0 where
  pub read : built.read ≡ word_count t
  pub wrote : Wrote old new at built.next ws
