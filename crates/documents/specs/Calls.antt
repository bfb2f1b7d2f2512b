-- The five calls (document 01, 'Numbers given back' and 'Bytes and the program'): for all that goes in, the old contents of the lent tables
-- too, the number, the counts and every lent word afterwards. Contracts cite these.
use Rattle.std.specs.Prelude.{ℕ, ◌+◌, ◌*◌, cond, List, [], ◌∷◌, eqb, leb, length, get_or, take, drop, replicate}
use Rattle.std.proofs.Math.Option.{Option, none, some}
use Rattle.std.proofs.lemmas.List.Edits.{sets}
use Rattle.documents.specs.declared.Refusal.TheVariants.{DoesNotPass, WorkingTableShort, BadFile}
use Rattle.documents.specs.Limits.{plan_limit, code_limit, working_words}
use Rattle.documents.specs.Lists.{need}
use Rattle.documents.specs.Terms.{Term}
use Rattle.documents.specs.Tables.{nodes}
use Rattle.documents.specs.Machine.{Current, current, State, state, run, first, finished}
use Rattle.documents.specs.Passing.{passes}
use Rattle.documents.specs.Numbers.{number_of, Answer, answered, refused, unless, or_refuse, with, rule_in, code_for, subject_in, code_in, outcome_of, result_for}

-- words at the front of a lent table, the rest as it was
abbrev pub at_front : List ℕ → List ℕ → List ℕ
at_front old ws = sets old 0 ws

-- ---- Read: 17

-- four bytes, the highest first
abbrev pub big_endian : ℕ → ℕ → ℕ → ℕ → ℕ
big_endian a b c d = ((a * 256 + b) * 256 + c) * 256 + d

abbrev pub words_of : List ℕ → List ℕ
words_of [] = []
words_of (a ∷ []) = []
words_of (a ∷ b ∷ []) = []
words_of (a ∷ b ∷ c ∷ []) = []
words_of (a ∷ b ∷ c ∷ d ∷ bs) = big_endian a b c d ∷ words_of bs

-- the words of a file's table, and the bytes behind it
pub data Section : Type 0 where
  section : List ℕ → List ℕ → Section

-- A four-byte word count, at most `limit` and `room`, and that many words.
abbrev pub counted : ℕ → ℕ → ℕ → List ℕ → Option Section
counted n limit room bs =
    need (leb n limit) (need (leb n room) (need (leb (4 * n) (length bs)) (some (section (words_of (take (4 * n) bs)) (drop (4 * n) bs)))))

abbrev pub section_in : ℕ → ℕ → List ℕ → Option Section
section_in limit room bs = need (leb 4 (length bs)) (counted (big_endian (get_or bs 0 0) (get_or bs 1 0) (get_or bs 2 0) (get_or bs 3 0)) limit room (drop 4 bs))

-- the words of a side and of a subject that a file may hold
abbrev pub file_side_words : ℕ
file_side_words = 1024

abbrev pub file_subject_words : ℕ
file_subject_words = 8192

pub data File : Type 0 where
  file : List ℕ → List ℕ → List ℕ → File

abbrev pub with_section : {A : Type 0} → Option Section → (List ℕ → List ℕ → Option A) → Option A
with_section none f = none
with_section (some (section ws bs)) f = f ws bs

-- left, right and subject, for tables of so many words, and nothing after
abbrev pub sections_in : ℕ → ℕ → ℕ → List ℕ → Option File
sections_in left right subject bs =
    with_section (section_in file_side_words left bs) (λ l bs₁.
    with_section (section_in file_side_words right bs₁) (λ r bs₂.
    with_section (section_in file_subject_words subject bs₂) (λ s bs₃.
    need (eqb (length bs₃) 0) (some (file l r s)))))

-- one version byte, 1
unfoldable pub file_in : ℕ → ℕ → ℕ → List ℕ → Option File
file_in left right subject [] = none
file_in left right subject (v ∷ bs) = need (eqb v 1) (sections_in left right subject bs)

pub record ReadAnswer : Type 0 where
  pub number : ℕ
  pub left_words : ℕ
  pub right_words : ℕ
  pub subject_words : ℕ
  pub left : List ℕ
  pub right : List ℕ
  pub subject : List ℕ

abbrev pub read_answer : List ℕ → List ℕ → List ℕ → Answer File → ReadAnswer
read_answer left right subject (answered (file l r s)) =
    record { number = 0; left_words = length l; right_words = length r; subject_words = length s; left = at_front left l; right = at_front right r; subject = at_front subject s }
read_answer left right subject (refused r) =
    record { number = number_of r; left_words = 0; right_words = 0; subject_words = 0; left = left; right = right; subject = subject }

-- the bytes of a file, and the three lent tables
unfoldable pub read_call : List ℕ → List ℕ → List ℕ → List ℕ → ReadAnswer
read_call bytes left right subject = read_answer left right subject (or_refuse (file_in (length left) (length right) (length subject) bytes) BadFile)

-- ---- Compile: left 2, 1, 3; right 2, 1, 3; then 5, 6, 7, 8, 9, 10

pub record CompileAnswer : Type 0 where
  pub number : ℕ
  pub words : ℕ
  pub code : List ℕ

abbrev pub compile_answer : List ℕ → Answer (List ℕ) → CompileAnswer
compile_answer code (answered ws) = record { number = 0; words = length ws; code = at_front code ws }
compile_answer code (refused r) = record { number = number_of r; words = 0; code = code }

-- the two sides, and the lent code table
unfoldable pub compile_call : List ℕ → List ℕ → List ℕ → CompileAnswer
compile_call left right code = compile_answer code (with (rule_in left right) (code_for (length code)))

-- ---- Check: 11

unfoldable pub check_call : List ℕ → ℕ
check_call code = cond (passes code) 0 (number_of DoesNotPass)

-- ---- Run: 16, 11, subject 2, 1, 3, 4, then 12, 13, 14, 15

pub record RunAnswer : Type 0 where
  pub number : ℕ
  pub words : ℕ
  pub working : List ℕ
  pub result : List ℕ

abbrev pub zeros : List ℕ → List ℕ
zeros working = replicate (length working) 0

abbrev pub run_answer : List ℕ → List ℕ → Answer (List ℕ) → RunAnswer
run_answer working result (answered ws) = record { number = 0; words = length ws; working = zeros working; result = at_front result ws }
run_answer working result (refused r) = record { number = number_of r; words = 0; working = zeros working; result = result }

-- the result's table, for working and result tables of so many words
unfoldable pub runs : List ℕ → List ℕ → ℕ → ℕ → Answer (List ℕ)
runs code subject working result =
    unless (leb working_words working) WorkingTableShort
    (with (code_in code) (λ c.
    with (subject_in subject) (λ t.
    with (outcome_of (run c t)) (λ σ.
    with (or_refuse (finished σ) DoesNotPass) (result_for result)))))

unfoldable pub run_call : List ℕ → List ℕ → List ℕ → List ℕ → RunAnswer
run_call code subject working result = run_answer working result (runs code subject (length working) (length result))

-- ---- Watch: 11, 2, 1, 3, 4, 12

pub record WatchAnswer : Type 0 where
  pub number : ℕ
  pub current : ℕ
  pub entries : ℕ
  pub finished : ℕ
  pub node : ℕ

-- the node number of the current term, the subject's node count if there is none
abbrev pub node_of : Term → List Current → ℕ
node_of t [] = nodes t
node_of t (current d m u ∷ cs) = m

abbrev pub counts : Term → State → WatchAnswer
counts t (state cs env st off nst) = record { number = 0; current = length cs; entries = length env; finished = length st; node = node_of t cs }

abbrev pub watch_answer : Answer WatchAnswer → WatchAnswer
watch_answer (answered w) = w
watch_answer (refused r) = record { number = number_of r; current = 0; entries = 0; finished = 0; node = 0 }

-- the state after the first i outermost instructions
unfoldable pub watches : List ℕ → List ℕ → ℕ → Answer WatchAnswer
watches code subject i =
    with (code_in code) (λ c.
    with (subject_in subject) (λ t.
    with (outcome_of (run (first i c) t)) (λ σ. answered (counts t σ))))

unfoldable pub watch_call : List ℕ → List ℕ → ℕ → WatchAnswer
watch_call code subject i = watch_answer (watches code subject i)

-- ---- The program plan_apply

-- what its line says: number, word count, result words; the first call that refuses ends the work, with its number and a 0
abbrev pub run_line : RunAnswer → List ℕ
run_line a = a.number ∷ a.words ∷ take a.words a.result

abbrev pub compile_line : List ℕ → CompileAnswer → List ℕ
compile_line subject a =
    cond (eqb a.number 0)
    (run_line (run_call (take a.words a.code) subject (replicate working_words 0) (replicate (2 * plan_limit) 0)))
    (a.number ∷ 0 ∷ [])

-- the line for a rule and a subject
unfoldable pub plan_line : List ℕ → List ℕ → List ℕ → List ℕ
plan_line left right subject = compile_line subject (compile_call left right (replicate code_limit 0))

abbrev pub read_line : ReadAnswer → List ℕ
read_line a =
    cond (eqb a.number 0)
    (plan_line (take a.left_words a.left) (take a.right_words a.right) (take a.subject_words a.subject))
    (a.number ∷ 0 ∷ [])

-- the line for a file
unfoldable pub plan_apply : List ℕ → List ℕ
plan_apply bytes = read_line (read_call bytes (replicate file_side_words 0) (replicate file_side_words 0) (replicate file_subject_words 0))
