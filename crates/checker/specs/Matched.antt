-- The match part, and the whole (document 01, 'When code passes').
use Rattle.std.specs.Prelude.{◌≡◌, ℕ, ◌+◌, ◌≤◌, Bool, true, false, cond, List, [], eqb, length, get_or, take, drop, Result, Ok, Err}
use Rattle.documents.specs.declared.Refusal.{Refusal}
use Rattle.documents.specs.declared.Refusal.TheVariants.{DoesNotPass}
use Rattle.documents.specs.Instructions.{op_check}
use Rattle.documents.specs.Passing.{Slot, all_below, Matching, matching, parts, and_then_holds}
use Rattle.instructions.specs.Places.{program_at}

-- whether code passes from place a on, in the match part with the state m
abbrev pub passes_at : List ℕ → ℕ → Matching → Bool
passes_at t a m = and_then_holds (program_at t a (length t)) (λ c. parts c m)

abbrev pub verdict : Bool → Result (Unit {0}) Refusal
verdict true = Ok tt
verdict false = Err DoesNotPass

-- the build part from place a on, whatever the depths of the terms that are still current
pub record BuildsAt (t : List ℕ) (a terms : ℕ) (es : List Slot) (r : Result (Unit {0}) Refusal) : Type 0 where
  pub means : (ds g : List ℕ) → length ds ≡ terms → r ≡ verdict (passes_at t a (matching ds es g))

-- the list that a SET directly behind place a gets: that of a CHECK there
unfoldable pub list_behind : List ℕ → ℕ → List ℕ
list_behind t a = cond (eqb (get_or t a 0) op_check) (take (get_or t (a + 1) 0) (drop (a + 2) t)) []

-- it lies within the code, and its indices are below 64
abbrev pub Listing : List ℕ → ℕ → Type 0
Listing t a = get_or t a 0 ≡ op_check → (a + 2 + get_or t (a + 1) 0 ≤ length t) × (all_below 64 (take (get_or t (a + 1) 0) (drop (a + 2) t)) ≡ true)
