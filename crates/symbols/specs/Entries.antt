-- Entering the metavariables of a left side in the symbol table (004, section 5), and asking for those of a right side.
use Rattle.std.specs.Prelude.{◌≡◌, ℕ, ◌+◌, ◌≤◌, ◌<◌, Bool, true, false, cond, List, leb, length}
use Rattle.std.specs.Prelude.{Option, Some, None}
use Rattle.std.proofs.Math.Option as Math
use Rattle.std.proofs.Math.Option.{none, some}
use Rattle.documents.specs.Limits.{metavariable_limit}
use Rattle.documents.specs.Lists.{every}
use Rattle.documents.specs.Terms.{Term}
use Rattle.documents.specs.Translation.{Row, Located, lookup, update}
use Rattle.kahrs.proofs.Simple.{Simple}
use Rattle.compiled.specs.Length.{left_words}
use Rattle.tables.specs.Parts.{front, Begins, word_count}
use Rattle.symbols.specs.declared.Entered.{Entered}
use Rattle.symbols.specs.declared.table.SymbolTable.{SymbolTable}
use Rattle.symbols.specs.Table.{rows_of}

-- What is asked for: the subterm that a part begins with is that of a left side, under so many abstractions.
pub record Enterable (part : List ℕ) (under : ℕ) : Type 0 where
  pub begins : Begins 1 part
  pub simple : Simple under (front part)
  pub low : under < 64
  pub short : length part ≤ 512

-- the words gone over, and the words of their code
abbrev pub some_entered : ℕ → ℕ → Option Entered
some_entered read words = Some (record { read = read; words = words })

-- What entering the metavariables of a term under n abstractions answers: the term's words, and the words of its code; unless the table would have
-- more than sixteen rows.
unfoldable pub entered : ℕ → Term → List Row → Option Entered
entered n t rows = cond (leb (length (update n t rows)) metavariable_limit) (some_entered (word_count t) (left_words n t rows)) None

-- The answer, and the table that was left: where there is room, it holds the term's metavariables too.
pub record Enters (n : ℕ) (t : Term) (rows : List Row) (table : SymbolTable) (r : Option Entered) : Type 0 where
  pub answer : r ≡ entered n t rows
  pub entries : length (update n t rows) ≤ metavariable_limit → rows_of table ≡ update n t rows

-- the answer for a node, whose own two words its caller has gone over
abbrev pub behind_node : Option Entered → Option Entered
behind_node None = None
behind_node (Some e) = some_entered (2 + e.read) e.words

abbrev pub is_found : Math.Option Located → Bool
is_found none = false
is_found (some e) = true

-- each of these metavariables has a row
abbrev pub all_found : List Row → List (ℕ × ℕ) → Bool
all_found rows ms = every (λ m. is_found (lookup m.0 m.1 rows)) ms
