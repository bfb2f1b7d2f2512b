-- Numbers given back (document 01, and the requests of 02): the refusals, and in which order each thing that goes in is refused.
use Rattle.std.specs.Prelude.{ℕ, ◌*◌, ◌/◌, min, Bool, true, false, ◌&&◌, List, leb, length}
use Rattle.std.proofs.Math.Option.{Option, none, some}
use Rattle.documents.specs.declared.Refusal.{Refusal}
use Rattle.documents.specs.declared.Refusal.TheVariants.{TableNotGood, TooManyWords, TooDeep, MetavariableInSubject, LeftRootNoSymbol, FreeVariable, ArgumentsNotDistinctVariables, MetavariableAbsentOnLeft, TooManyMetavariables, CodeTableShort, DoesNotPass, MatchFails, ResultTooLarge, ResultTooDeep, ResultIndexTooLarge, WorkingTableShort, BadFile, ListTooLong}
use Rattle.documents.specs.Limits.{side_limit, plan_limit, depth_limit, metavariable_limit, index_limit}
use Rattle.documents.specs.Lists.{every, is_empty}
use Rattle.documents.specs.Terms.{Term}
use Rattle.documents.specs.Tables.{table_of, term_in, nodes, depth, indices}
use Rattle.documents.specs.Rules.{metas, simple, is_symbol, closed, contains}
use Rattle.documents.specs.Instructions.{Program, words, program_in}
use Rattle.documents.specs.Machine.{State, Outcome, done, fails, no_step}
use Rattle.documents.specs.Translation.{symbol_table, compile}
use Rattle.documents.specs.Passing.{passes}

abbrev pub number_of : Refusal → ℕ
number_of TableNotGood = 1
number_of TooManyWords = 2
number_of TooDeep = 3
number_of MetavariableInSubject = 4
number_of LeftRootNoSymbol = 5
number_of FreeVariable = 6
number_of ArgumentsNotDistinctVariables = 7
number_of MetavariableAbsentOnLeft = 8
number_of TooManyMetavariables = 9
number_of CodeTableShort = 10
number_of DoesNotPass = 11
number_of MatchFails = 12
number_of ResultTooLarge = 13
number_of ResultTooDeep = 14
number_of ResultIndexTooLarge = 15
number_of WorkingTableShort = 16
number_of BadFile = 17
-- request 1's
number_of ListTooLong = 37

-- An answer, or the refusal that is due.
pub data Answer (A : Type 0) : Type 0 where
  answered : A → Answer A
  refused : Refusal → Answer A

-- refuse unless the test holds
abbrev pub unless : {A : Type 0} → Bool → Refusal → Answer A → Answer A
unless true r a = a
unless false r a = refused r

-- refuse where it is missing
abbrev pub or_refuse : {A : Type 0} → Option A → Refusal → Answer A
or_refuse none r = refused r
or_refuse (some a) r = answered a

-- with what was answered; a refusal travels up as it is
abbrev pub with : {A B : Type 0} → Answer A → (A → Answer B) → Answer B
with (answered a) f = f a
with (refused r) f = refused r

-- A table within its node limit: 2, 1, 3.
unfoldable pub table_in : ℕ → List ℕ → Answer Term
table_in limit ws =
    unless (leb (length ws) (2 * limit)) TooManyWords
    (with (or_refuse (term_in ws) TableNotGood) (λ t.
    unless (leb (depth t) depth_limit) TooDeep (answered t)))

-- A subject: 2, 1, 3, 4.
unfoldable pub subject_in : List ℕ → Answer Term
subject_in ws =
    with (table_in plan_limit ws) (λ t.
    unless (is_empty (metas t)) MetavariableInSubject (answered t))

-- the two sides of a rule
pub data Rule : Type 0 where
  rule : Term → Term → Rule

-- An accepted rule: left 2, 1, 3; right 2, 1, 3; then 5, 6, 7, 8, 9. (Laws `rule_in_accepted`, `accepted_rule_in`: within the limits it is one of 004's.)
unfoldable pub rule_in : List ℕ → List ℕ → Answer Rule
rule_in left right =
    with (table_in side_limit left) (λ l.
    with (table_in side_limit right) (λ r.
    unless (is_symbol l) LeftRootNoSymbol
    (unless (closed l && closed r) FreeVariable
    (unless (simple l) ArgumentsNotDistinctVariables
    (unless (contains (metas r) (metas l)) MetavariableAbsentOnLeft
    (unless (leb (length (symbol_table l)) metavariable_limit) TooManyMetavariables
    (answered (rule l r))))))))

-- A rule's code, for a code table of so many words: 10.
abbrev pub code_for : ℕ → Rule → Answer (List ℕ)
code_for room (rule l r) = unless (leb (length (words (compile l r))) room) CodeTableShort (answered (words (compile l r)))

-- Code that passes: 11.
unfoldable pub code_in : List ℕ → Answer Program
code_in ws = unless (passes ws) DoesNotPass (or_refuse (program_in ws) DoesNotPass)

-- What a run of a program comes to: 12. That there is a step and a finished term is demand 3; where code did not pass, 11 was due.
abbrev pub outcome_of : Outcome State → Answer State
outcome_of (done σ) = answered σ
outcome_of fails = refused MatchFails
outcome_of no_step = refused DoesNotPass

-- The table of a result, for a result table of so many words: 13, 14, 15, each over the whole result.
unfoldable pub result_for : ℕ → Term → Answer (List ℕ)
result_for room t =
    unless (leb (nodes t) (min plan_limit (room / 2))) ResultTooLarge
    (unless (leb (depth t) depth_limit) ResultTooDeep
    (unless (every (λ x. leb x index_limit) (indices t)) ResultIndexTooLarge
    (answered (table_of t))))
