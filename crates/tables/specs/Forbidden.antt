-- Free variables that are forbidden (004, section 4.2: CHECK). The forbidden ones are marked: a mark for each index below 64, and one for all
-- indices from there on.
use Rattle.std.specs.Prelude.{Option, ◌≡◌, ℕ, ◌-◌, min, Bool, true, false, not, ◌&&◌, List, [], ◌∷◌, ltb, get_or, set, replicate}
use Rattle.documents.specs.Lists.{every, member}
use Rattle.documents.specs.Terms.{Term}
use Rattle.documents.specs.Rules.{fv, freevars}
use Rattle.tables.specs.Parts.{walked}

-- the test of CHECK: no free variable is listed
unfoldable pub clear : List ℕ → Term → Bool
clear indices t = every (λ y. not (member indices y)) (freevars t)

-- each index has a mark of its own
abbrev pub Small : List ℕ → Type 0
Small indices = every (λ y. ltb y 64) indices ≡ true

abbrev pub unmarked : List Bool → ℕ → Bool
unmarked marks y = not (get_or marks (min y 64) false)

-- a variable x, met under n abstractions, is free there and marked
abbrev pub marked : List Bool → ℕ → ℕ → Bool
marked marks n x = not (ltb x n) && not (unmarked marks (x - n))

-- a walk of a term under n abstractions that stops at a marked variable
abbrev pub looked : List Bool → ℕ → Term → Option ℕ
looked marks n t = walked (every (unmarked marks) (fv n t)) t

abbrev pub mark_all : List Bool → List ℕ → List Bool
mark_all marks [] = marks
mark_all marks (y ∷ ys) = mark_all (set marks y true) ys

-- the marks of a list
unfoldable pub marked_with : List ℕ → List Bool
marked_with indices = mark_all (replicate 65 false) indices
