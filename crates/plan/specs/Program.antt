-- What the three calls of plan_apply come to, one after the other (document 01, 'Bytes and the program'): 'reads a file .., compiles, runs .., and
-- prints one line: number, word count, result words .. The first call that refuses ends the work; its number and a 0 are the line.'
use Rattle.std.specs.Prelude.{◌≡◌, ℕ, cond, List, eqb, take}
use Rattle.documents.specs.Calls.{ReadAnswer, read_call, CompileAnswer, compile_call, RunAnswer, run_call}
use Rattle.answers.specs.declared.ReedAnswer.{ReedAnswer}
use Rattle.reedbiscuit.specs.Answers.{run_given}

-- the line's number and word count, and the tables lent to compile and run, afterwards
pub record Planned : Type 0 where
  pub number : ℕ
  pub words : ℕ
  pub code : List ℕ
  pub working : List ℕ
  pub result : List ℕ

-- the run is the last call
abbrev pub after_run : List ℕ → RunAnswer → Planned
after_run code a = record { number = a.number; words = a.words; code = code; working = a.working; result = a.result }

-- code that was written is run on the subject
abbrev pub after_compile : List ℕ → List ℕ → List ℕ → CompileAnswer → Planned
after_compile subject working result a =
    cond (eqb a.number 0)
    (after_run a.code (run_call (take a.words a.code) subject working result))
    (record { number = a.number; words = 0; code = a.code; working = working; result = result })

-- sides that were read are compiled
abbrev pub after_read : List ℕ → List ℕ → List ℕ → ReadAnswer → Planned
after_read code working result a =
    cond (eqb a.number 0)
    (after_compile (take a.subject_words a.subject) working result
    (compile_call (take a.left_words a.left) (take a.right_words a.right) code))
    (record { number = a.number; words = 0; code = code; working = working; result = result })

-- the bytes of a file, and the six lent tables
unfoldable pub planned : List ℕ → List ℕ → List ℕ → List ℕ → List ℕ → List ℕ → List ℕ → Planned
planned file left right subject code working result = after_read code working result (read_call file left right subject)

-- the tables lent to the reader, afterwards: nothing that follows writes them
abbrev pub Leaves : ReadAnswer → List ℕ → List ℕ → List ℕ → Type 0
Leaves a left right subject = (left ≡ a.left) × (right ≡ a.right) × (subject ≡ a.subject)

-- ---- The code's answers

-- the numbers of a struct, and the tables lent to compile and run, afterwards
abbrev pub told : ReedAnswer → List ℕ → List ℕ → List ℕ → Planned
told a code working result = after_run code (run_given a working result)
