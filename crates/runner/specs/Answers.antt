-- What the runner's answers stand for (document 01, 'Numbers given back': run).
use Rattle.std.specs.Prelude.{◌≡◌, ℕ, List, length, Result, Ok, Err}
use Rattle.documents.specs.Numbers.{number_of}
use Rattle.documents.specs.Calls.{RunAnswer, zeros, run_call}
use Rattle.documents.specs.declared.Refusal.{Refusal}

-- 01's number and count, and the lent tables afterwards, for each answer
abbrev pub given : Result ℕ Refusal → List ℕ → List ℕ → RunAnswer
given (Ok n) work result = record { number = 0; words = n; working = work; result = result }
given (Err w) work result = record { number = number_of w; words = 0; working = work; result = result }

-- The answer, and the result table, are those of the call; the working table has its length, and may hold anything.
pub record Applied (code subject work work' result result' : List ℕ) (r : Result ℕ Refusal) : Type 0 where
  pub long : length work' ≡ length work
  pub says : given r (zeros work) result' ≡ run_call code subject work result
