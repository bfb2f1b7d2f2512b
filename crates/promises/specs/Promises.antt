-- What we promise: the three demands (00-demands.md), sentence by sentence, and how tight the contracts are (document 01). The sentences speak of
-- the five calls as documents/specs/Calls defines them; that reed_read .. reed_watch give just that is their contract (reedbiscuit/specs/Answers).
-- What is promised of the sixth call, the list run, is in ListPromises; its contract too is tight (`Tight.lists`). proofs/Promises proves each record.
use Rattle.std.specs.Prelude.{◌≡◌, ◌⊎◌, ◌↔◌, ℕ, ◌/◌, ◌≤◌, ◌<◌, min, not, List, [], ◌∷◌, T, leb, length, take, replicate}
use Rattle.std.proofs.Math.Option.{some}
use Rattle.documents.specs.declared.Refusal.{Refusal}
use Rattle.documents.specs.Limits.{plan_limit, depth_limit, code_limit, working_words, index_limit}
use Rattle.documents.specs.Lists.{every, member}
use Rattle.documents.specs.Terms.{Term}
use Rattle.documents.specs.Tables.{table_of, nodes, depth, indices}
use Rattle.documents.specs.Rules.{Val, Valuation, metasubst, metas, among, freevars}
use Rattle.documents.specs.Instructions.{Program, words, program_in}
use Rattle.documents.specs.Machine.{Entry, State, state, done, fails, no_step, run, first}
use Rattle.documents.specs.Translation.{compile}
use Rattle.documents.specs.Numbers.{number_of, answered, rule, rule_in, subject_in, result_for}
use Rattle.documents.specs.Calls.{at_front, read_call, compile_call, check_call, run_answer, run_call, counts, watch_call}
use Rattle.answers.specs.declared.ReedReadAnswer.{ReedReadAnswer}
use Rattle.answers.specs.declared.ReedAnswer.{ReedAnswer}
use Rattle.answers.specs.declared.ReedListAnswer.{ReedListAnswer}
use Rattle.answers.specs.declared.ReedWatchAnswer.{ReedWatchAnswer}
use Rattle.reedbiscuit.specs.Answers.{Reads, Compiles, Checks, Runs, ListRuns, Watches}
use Rattle.promises.specs.Order.{first_due, read_order, compile_order, check_order, run_order, watch_order}

-- ---- Demand 1

pub record Demand1 : Type 0 where
  -- 'The file reader, the compiler, the code check, the watch call and the run take every input there can be.' Any lists, whatever their words: the
  -- number of each call is the first that is due of its refusals, in 'a fixed place in the order', and 0 if none is.
  pub reads : (file left right subject : List ℕ) → (read_call file left right subject).number ≡ first_due (read_order file (length left) (length right) (length subject))
  pub compiles : (left right code : List ℕ) → (compile_call left right code).number ≡ first_due (compile_order left right (length code))
  pub checks : (code : List ℕ) → check_call code ≡ first_due (check_order code)
  pub watches : (code subject : List ℕ) (i : ℕ) → (watch_call code subject i).number ≡ first_due (watch_order code subject i)
  pub runs : (code subject working result : List ℕ) → (run_call code subject working result).number ≡ first_due (run_order code subject (length working) (length result))
  -- 'Each refusal has one number': no two have the same, and none has that of done.
  pub one_number : (r s : Refusal) → number_of r ≡ number_of s → r ≡ s
  pub not_done : (r : Refusal) → 0 < number_of r
  -- 'It leaves the code table, the result table or the reader's tables with their old contents.' All else that the call gives is then 0.
  pub read_leaves : (file left right subject : List ℕ) → 0 < (read_call file left right subject).number
      → read_call file left right subject
      ≡ record { number = (read_call file left right subject).number; left_words = 0; right_words = 0; subject_words = 0; left = left; right = right; subject = subject }
  pub compile_leaves : (left right code : List ℕ) → 0 < (compile_call left right code).number
      → compile_call left right code ≡ record { number = (compile_call left right code).number; words = 0; code = code }
  pub run_leaves : (code subject working result : List ℕ) → 0 < (run_call code subject working result).number
      → ((run_call code subject working result).words ≡ 0) × ((run_call code subject working result).result ≡ result)
  pub watch_leaves : (code subject : List ℕ) (i : ℕ) → 0 < (watch_call code subject i).number
      → watch_call code subject i ≡ record { number = (watch_call code subject i).number; current = 0; entries = 0; finished = 0; node = 0 }
  -- 'The working table comes back filled with zeros from every run.'
  pub zeros : (code subject working result : List ℕ) → (run_call code subject working result).working ≡ replicate (length working) 0

-- ---- Demand 2

-- 'the code that Kahrs's translation gives, in our word layout'
abbrev pub code_of : Term → Term → List ℕ
code_of l r = words (compile l r)

-- 'Take an accepted rule and an accepted subject, with working room.'
pub record Given (left right subject working : List ℕ) (l r t : Term) : Type 0 where
  pub rules : rule_in left right ≡ answered (rule l r)
  pub subjects : subject_in subject ≡ answered t
  pub room : working_words ≤ length working

-- a valuation turns the left side into the subject
abbrev pub Turns : Val → Term → Term → Type 0
Turns v l t = Valuation v × (metasubst v l ≡ t)

-- done, or a refusal on a result limit: 13, 14, 15
abbrev pub DoneOrLimit : ℕ → Type 0
DoneOrLimit n = (n ≡ 0) ⊎ ((n ≡ 13) ⊎ ((n ≡ 14) ⊎ (n ≡ 15)))

-- the limits that a result can break, for a result table of so many words
abbrev pub TooLarge : ℕ → Term → Type 0
TooLarge room w = min plan_limit (room / 2) < nodes w

abbrev pub TooDeep : Term → Type 0
TooDeep w = depth_limit < depth w

abbrev pub IndexTooLarge : Term → Type 0
IndexTooLarge w = T (not (every (λ x. leb x index_limit) (indices w)))

pub record Demand2 : Type 0 where
  -- 'The compiler gives the code that Kahrs's translation gives, in our word layout.' It is never longer than 4,096 words.
  pub compiles : (left right code : List ℕ) (l r : Term) → rule_in left right ≡ answered (rule l r) → length (code_of l r) ≤ length code
      → compile_call left right code ≡ record { number = 0; words = length (code_of l r); code = at_front code (code_of l r) }
  pub fits : (left right : List ℕ) (l r : Term) → rule_in left right ≡ answered (rule l r) → length (code_of l r) ≤ code_limit
  -- 'Running the rule's code answers done, or refuses on a result limit, exactly when some valuation turns the left side into the subject.'
  pub matches : (left right subject working result : List ℕ) (l r t : Term) → Given left right subject working l r t
      → DoneOrLimit (run_call (code_of l r) subject working result).number ↔ ((v : Val) × Turns v l t)
  -- 'On the left side's metavariables there is only one.'
  pub only_one : (left right : List ℕ) (l r t : Term) → rule_in left right ≡ answered (rule l r) → (v w : Val) → Turns v l t → Turns w l t
      → (z k : ℕ) → T (among (metas l) (z, k)) → v z k ≡ w z k
  -- 'Done leaves the right side under it at the front of the result table.' The count is that of its words.
  pub leaves : (left right subject working result : List ℕ) (l r t : Term) → Given left right subject working l r t → (v : Val) → Turns v l t
      → (run_call (code_of l r) subject working result).number ≡ 0
      → ((run_call (code_of l r) subject working result).result ≡ at_front result (table_of (metasubst v r)))
      × ((run_call (code_of l r) subject working result).words ≡ length (table_of (metasubst v r)))
  -- 'A result limit is named exactly when that term breaks it and no earlier one.'
  pub limits : (left right subject working result : List ℕ) (l r t : Term) → Given left right subject working l r t → (v : Val) → Turns v l t
      → (((run_call (code_of l r) subject working result).number ≡ 13) ↔ TooLarge (length result) (metasubst v r))
      × (((run_call (code_of l r) subject working result).number ≡ 14) ↔ ((TooLarge (length result) (metasubst v r) → ⊥) × TooDeep (metasubst v r)))
      × (((run_call (code_of l r) subject working result).number ≡ 15)
      ↔ ((TooLarge (length result) (metasubst v r) → ⊥) × (TooDeep (metasubst v r) → ⊥) × IndexTooLarge (metasubst v r)))

-- ---- Demand 3

-- 'Code may come from anybody's compiler.' The program c stands in words that the check passes, the term t in an accepted subject.
pub record Passed (code subject : List ℕ) (c : Program) (t : Term) : Type 0 where
  pub checks : check_call code ≡ 0
  pub program : program_in code ≡ some c
  pub subjects : subject_in subject ≡ answered t

pub record Demand3 : Type 0 where
  -- 'Code that passes the check' is a program,
  pub reads : (code : List ℕ) → check_call code ≡ 0 → (c : Program) × (program_in code ≡ some c)
  -- 'run on any accepted subject by the paper's machine without our result limits, never meets an instruction that has no step.'
  pub steps : (code subject : List ℕ) (c : Program) (t : Term) → Passed code subject c t → run c t ≡ no_step → ⊥
  -- 'If no match instruction fails, it ends with one finished term, and every variable free there is free in the subject.'
  pub ends : (code subject : List ℕ) (c : Program) (t : Term) → Passed code subject c t → (run c t ≡ fails → ⊥)
      → (u : Term) × (env : List Entry) × (run c t ≡ done (state [] env (u ∷ []) 0 [])) × T (every (member (freevars t)) (freevars u))
  -- 'Code compiled from an accepted rule always passes.'
  pub passes : (left right : List ℕ) (l r : Term) → rule_in left right ≡ answered (rule l r) → check_call (code_of l r) ≡ 0
  -- Where a run is done, the code has passed and the subject was accepted,
  pub given : (code subject working result : List ℕ) → (run_call code subject working result).number ≡ 0 → (c : Program) × (t : Term) × Passed code subject c t
  -- and what it leaves is an accepted subject again: the machine's finished term, with no name, count or metavariable that a table cannot hold.
  pub again : (code subject working result : List ℕ) (c : Program) (t : Term) → Passed code subject c t → (run_call code subject working result).number ≡ 0
      → (u : Term) × (env : List Entry) × (run c t ≡ done (state [] env (u ∷ []) 0 []))
      × (subject_in (take (run_call code subject working result).words (run_call code subject working result).result) ≡ answered u)

-- ---- How tight the contracts are

pub record Tight : Type 0 where
  -- 'It is proved that two outcomes allowed by it agree': number, counts and every lent word.
  pub reads : (file left right subject : List ℕ) (a b : ReedReadAnswer) (left₁ right₁ subject₁ left₂ right₂ subject₂ : List ℕ)
      → Reads file left right subject a left₁ right₁ subject₁ → Reads file left right subject b left₂ right₂ subject₂
      → (a ≡ b) × (left₁ ≡ left₂) × (right₁ ≡ right₂) × (subject₁ ≡ subject₂)
  pub compiles : (left right code : List ℕ) (a b : ReedAnswer) (code₁ code₂ : List ℕ) → Compiles left right code a code₁ → Compiles left right code b code₂
      → (a ≡ b) × (code₁ ≡ code₂)
  pub checks : (code : List ℕ) (m n : ℕ) → Checks code m → Checks code n → m ≡ n
  pub runs : (code subject working result : List ℕ) (a b : ReedAnswer) (working₁ result₁ working₂ result₂ : List ℕ)
      → Runs code subject working result a working₁ result₁ → Runs code subject working result b working₂ result₂
      → (a ≡ b) × (working₁ ≡ working₂) × (result₁ ≡ result₂)
  pub watches : (code subject : List ℕ) (i : ℕ) (a b : ReedWatchAnswer) → Watches code subject i a → Watches code subject i b → a ≡ b
  pub lists : (rules subject : List ℕ) (number : ℕ) (working result : List ℕ) (a b : ReedListAnswer) (working₁ result₁ working₂ result₂ : List ℕ)
      → ListRuns rules subject number working result a working₁ result₁ → ListRuns rules subject number working result b working₂ result₂
      → (a ≡ b) × (working₁ ≡ working₂) × (result₁ ≡ result₂)
  -- 'For all code that passes, whoever compiled it, the run's number, count and words are those of the paper's machine, under the order and limits
  -- above': 12 where it fails, and else what its finished term comes to.
  pub run_fails : (code subject working result : List ℕ) (c : Program) (t : Term) → Passed code subject c t → working_words ≤ length working
      → run c t ≡ fails → (run_call code subject working result).number ≡ 12
  pub run_ends : (code subject working result : List ℕ) (c : Program) (t u : Term) (env : List Entry) → Passed code subject c t → working_words ≤ length working
      → run c t ≡ done (state [] env (u ∷ []) 0 []) → run_call code subject working result ≡ run_answer working result (result_for (length result) u)
  -- Watch: 'its four numbers are those of the paper's machine after each i', and 12 where one of the i instructions fails.
  pub watch_steps : (code subject : List ℕ) (i : ℕ) (c : Program) (t : Term) → Passed code subject c t → run (first i c) t ≡ no_step → ⊥
  pub watch_fails : (code subject : List ℕ) (i : ℕ) (c : Program) (t : Term) → Passed code subject c t
      → run (first i c) t ≡ fails → (watch_call code subject i).number ≡ 12
  pub watch_ends : (code subject : List ℕ) (i : ℕ) (c : Program) (t : Term) (σ : State) → Passed code subject c t
      → run (first i c) t ≡ done σ → watch_call code subject i ≡ counts t σ
