-- What 004 takes from its library of functions on lists (its all is every, its filter keep, its 0 upto (n-1) up_to n), and answers that may be missing.
use Rattle.std.specs.Prelude.{ℕ, zero, suc, Bool, true, false, not, ◌&&◌, ◌||◌, cond, List, [], ◌∷◌, ◌++◌, eqb}
use Rattle.std.proofs.Math.Option.{Option, none, some}

abbrev pub every : {A : Type 0} → (A → Bool) → List A → Bool
every p [] = true
every p (a ∷ l) = p a && every p l

abbrev pub keep : {A : Type 0} → (A → Bool) → List A → List A
keep p [] = []
keep p (a ∷ l) = let r = keep p l in cond (p a) (a ∷ r) r

abbrev pub member : List ℕ → ℕ → Bool
member [] y = false
member (v ∷ vs) y = eqb v y || member vs y

-- no number twice
abbrev pub isset : List ℕ → Bool
isset [] = true
isset (x ∷ xs) = not (member xs x) && isset xs

abbrev pub is_empty : {A : Type 0} → List A → Bool
is_empty [] = true
is_empty (a ∷ l) = false

-- the numbers below n, rising
abbrev pub up_to : ℕ → List ℕ
up_to zero = []
up_to (suc n) = up_to n ++ (n ∷ [])

abbrev pub pairlists : {A B : Type 0} → List A → List B → List (A × B)
pairlists [] bs = []
pairlists (a ∷ l) [] = []
pairlists (a ∷ l) (b ∷ bs) = (a, b) ∷ pairlists l bs

-- what is paired with y, the first where there are several
abbrev pub assoc : {A : Type 0} → List (ℕ × A) → ℕ → Option A
assoc [] y = none
assoc (p ∷ ps) y = cond (eqb p.0 y) (some p.1) (assoc ps y)

-- a test that has to hold
abbrev pub need : {A : Type 0} → Bool → Option A → Option A
need true o = o
need false o = none

-- what follows from an answer, if there is one
abbrev pub and_then : {A B : Type 0} → Option A → (A → Option B) → Option B
and_then none f = none
and_then (some a) f = f a
