-- What the C answers stand for (document 01, 'Numbers given back'), and for each call what its contract allows: from all that goes in, the answer
-- and every lent word afterwards.
use Rattle.std.specs.Prelude.{◌≡◌, ℕ, cond, List}
use Rattle.documents.specs.Calls.{ReadAnswer, read_call, CompileAnswer, compile_call, check_call, RunAnswer, run_call, WatchAnswer, watch_call}
use Rattle.rewriting.specs.ListCall.{ListAnswer, list_call}
use Rattle.answers.specs.declared.ReedReadAnswer.{ReedReadAnswer}
use Rattle.answers.specs.declared.ReedAnswer.{ReedAnswer}
use Rattle.answers.specs.declared.ReedListAnswer.{ReedListAnswer}
use Rattle.answers.specs.declared.ReedWatchAnswer.{ReedWatchAnswer}

-- ---- Read

-- the numbers of a struct, and the lent tables afterwards
abbrev pub read_given : ReedReadAnswer → List ℕ → List ℕ → List ℕ → ReadAnswer
read_given a left right subject =
    record { number = a.number; left_words = a.left; right_words = a.right; subject_words = a.subject; left = left; right = right; subject = subject }

-- reed_read of a file with three tables lent may answer a and leave these tables
abbrev pub Reads : (file left right subject : List ℕ) → (a : ReedReadAnswer) → (left' right' subject' : List ℕ) → Type 0
Reads file left right subject a left' right' subject' = read_given a left' right' subject' ≡ read_call file left right subject

-- ---- Compile

-- the numbers of a struct, and the lent code table afterwards
abbrev pub compile_given : ReedAnswer → List ℕ → CompileAnswer
compile_given a code = record { number = a.number; words = a.words; code = code }

-- reed_compile of two sides with a code table lent may answer a and leave this one
abbrev pub Compiles : (left right code : List ℕ) → (a : ReedAnswer) → (code' : List ℕ) → Type 0
Compiles left right code a code' = compile_given a code' ≡ compile_call left right code

-- ---- Check

-- reed_check of code may answer n
abbrev pub Checks : (code : List ℕ) → (n : ℕ) → Type 0
Checks code n = n ≡ check_call code

-- ---- Run

-- the numbers of a struct, and the lent working and result tables afterwards
abbrev pub run_given : ReedAnswer → List ℕ → List ℕ → RunAnswer
run_given a working result = record { number = a.number; words = a.words; working = working; result = result }

-- reed_run of code on a subject with a working and a result table lent may answer a and leave these tables
abbrev pub Runs : (code subject working result : List ℕ) → (a : ReedAnswer) → (working' result' : List ℕ) → Type 0
Runs code subject working result a working' result' = run_given a working' result' ≡ run_call code subject working result

-- ---- A list of rules, run to the end (request 1)

-- the numbers of the call, as a struct: the flag is 1 if no rule matches any more, else 0
abbrev pub list_struct : ListAnswer → ReedListAnswer
list_struct call = record { number = call.number; words = call.words; rewrites = call.rewrites; normal = cond call.normal 1 0 }

-- reed_list_run of rules on a subject, for so many rewrites at the most, with a working and a result table lent may answer a and leave these tables
abbrev pub ListRuns : (rules subject : List ℕ) → (number : ℕ) → (working result : List ℕ) → (a : ReedListAnswer) → (working' result' : List ℕ) → Type 0
ListRuns rules subject number working result a working' result' =
    let call = list_call rules subject number working result in
    (a ≡ list_struct call) × (working' ≡ call.working) × (result' ≡ call.result)

-- ---- Watch

-- the numbers of a struct
abbrev pub watch_given : ReedWatchAnswer → WatchAnswer
watch_given a = record { number = a.number; current = a.current; entries = a.entries; finished = a.finished; node = a.node }

-- reed_watch of code on a subject and i may answer a
abbrev pub Watches : (code subject : List ℕ) → (i : ℕ) → (a : ReedWatchAnswer) → Type 0
Watches code subject i a = watch_given a ≡ watch_call code subject i
