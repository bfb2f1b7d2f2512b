-- What the compiler's answers stand for (document 01, 'Numbers given back': compile).
use Rattle.std.specs.Prelude.{◌≡◌, ℕ, ◌≤◌, ◌<◌, ◌&&◌, cond, List, length, Result, Ok, Err}
use Rattle.documents.specs.declared.Refusal.{Refusal}
use Rattle.documents.specs.declared.Refusal.TheVariants.{LeftRootNoSymbol, FreeVariable, ArgumentsNotDistinctVariables, MetavariableAbsentOnLeft, TooManyMetavariables}
use Rattle.documents.specs.Limits.{side_limit, metavariable_limit}
use Rattle.documents.specs.Terms.{Term}
use Rattle.documents.specs.Tables.{nodes}
use Rattle.documents.specs.Rules.{metas, simple, is_symbol, closed, contains}
use Rattle.documents.specs.Instructions.{words}
use Rattle.documents.specs.Translation.{symbol_table, compile}
use Rattle.documents.specs.Numbers.{number_of, Answer, answered, refused, unless, with, table_in, Rule, rule}
use Rattle.documents.specs.Calls.{CompileAnswer}
use Rattle.documents.proofs.Numbers.{Held}
use Rattle.tables.specs.Parts.{front, Begins}
use Rattle.symbols.specs.Rows.{rows_in}
use Rattle.generator.specs.Written.{Fits}

-- 01's number and count, and the lent code table afterwards, for each answer
abbrev pub given : Result ℕ Refusal → List ℕ → CompileAnswer
given (Ok n) code = record { number = 0; words = n; code = code }
given (Err w) code = record { number = number_of w; words = 0; code = code }

-- The two sides of a rule, so far: left 2, 1, 3; right 2, 1, 3; then 5, 6, 7.
unfoldable pub sides_in : List ℕ → List ℕ → Answer Rule
sides_in left right =
    with (table_in side_limit left) (λ l.
    with (table_in side_limit right) (λ r.
    unless (is_symbol l) LeftRootNoSymbol
    (unless (closed l && closed r) FreeVariable
    (unless (simple l) ArgumentsNotDistinctVariables
    (answered (rule l r))))))

abbrev pub sides_answer : Answer Rule → Result ℕ Refusal
sides_answer (answered (rule l r)) = Ok (nodes l)
sides_answer (refused w) = Err w

-- sides that are accepted so far
pub record Sides (left right : List ℕ) : Type 0 where
  pub left_begins : Begins 1 left
  pub right_begins : Begins 1 right
  pub left_held : Held side_limit left (front left)
  pub right_held : Held side_limit right (front right)
  pub accepted : sides_in left right ≡ answered (rule (front left) (front right))

-- more than sixteen metavariables on the left
pub record Crowded (left right : List ℕ) : Type 0 where
  pub sides : Sides left right
  pub many : metavariable_limit < length (symbol_table (front left))

-- then 8, or else 9
abbrev pub crowded : Term → Term → Refusal
crowded l r = cond (contains (metas r) (metas l)) TooManyMetavariables MetavariableAbsentOnLeft

-- an accepted rule, its symbol table, and a code table that has room
pub record Generating (left right rows code : List ℕ) : Type 0 where
  pub sides : Sides left right
  pub entries : rows_in rows ≡ symbol_table (front left)
  pub few : length rows ≤ 176
  pub fits : Fits code 0 (words (compile (front left) (front right)))
