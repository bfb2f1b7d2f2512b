-- What the C structs stand for: of each answer of a worker, the struct says what the worker's contract says. So its call is document 01's, or
-- request 1's.
use mathlib.Core.Path.{◌≡◌, refl}
use Prim.Native.Nat.{ℕ}
use mathlib.Core.List.{List}
use Rattle.std.specs.Prelude.{Result, Ok, Err}
use Rattle.documents.specs.declared.Refusal.{Refusal}
use Rattle.documents.specs.Terms.{Term}
use Rattle.documents.specs.Instructions.{Program}
use Rattle.documents.specs.Machine.{State, state, run, first}
use Rattle.documents.specs.Numbers.{Answer, answered, refused, with, subject_in, code_in, outcome_of}
use Rattle.documents.specs.Calls.{check_call, WatchAnswer, counts, watch_answer, watches, watch_call}
use Rattle.documents.specs.Passing.{passes}
use Rattle.checker.specs.Matched.{verdict}
use Rattle.checker.proofs.Matching.{number_passes, number_refused}
use Rattle.watcher.specs.Watching.{as_watched}
use Rattle.answers.specs.Structs.{of_check, of_watch}
use Rattle.reedbiscuit.specs.Answers.{watch_given}

pub check_given : (code : List ℕ) (x : Result (Unit {0}) Refusal) → x ≡ verdict (passes code) → of_check x ≡ check_call code
check_given code (Ok _) e = number_passes code e refl
check_given code (Err w) e = number_refused code w e refl

-- ---- Watch: the counts come with the number of done

abbrev As-watched : Answer WatchAnswer → Type 0
As-watched a = watch_given (of_watch (as_watched a)) ≡ watch_answer a

of_state : (t : Term) (a : Answer State) → As-watched (with a (λ σ. answered (counts t σ)))
of_state t (answered (state cs env st off nst)) = refl
of_state t (refused r) = refl

of_subject : (i : ℕ) (p : Program) (a : Answer Term) → As-watched (with a (λ t. with (outcome_of (run (first i p) t)) (λ σ. answered (counts t σ))))
of_subject i p (answered t) = of_state t (outcome_of (run (first i p) t))
of_subject i p (refused r) = refl

of_code : (i : ℕ) (subject : List ℕ) (a : Answer Program)
    → As-watched (with a (λ p. with (subject_in subject) (λ t. with (outcome_of (run (first i p) t)) (λ σ. answered (counts t σ)))))
of_code i subject (answered p) = of_subject i p (subject_in subject)
of_code i subject (refused r) = refl

pub watch_given_lem : (code subject : List ℕ) (i : ℕ) → watch_given (of_watch (as_watched (watches code subject i))) ≡ watch_call code subject i
unfolding watch_call watches
watch_given_lem code subject i = of_code i subject (code_in code)
