-- Where each node of a subject stands: its depth, and the number of abstractions above it.
use Rattle.std.specs.Prelude.{◌≡◌, ℕ, suc, ◌+◌, ◌*◌, Bool, true, false, ◌&&◌, cond, List, [], ◌∷◌, ◌++◌, eqb, leb, ltb, take}
use Rattle.documents.specs.Limits.{depth_limit}
use Rattle.documents.specs.Lists.{is_empty}
use Rattle.documents.specs.Terms.{Sort, Tm, Var, Sym, Meta, Abst, Nil, Cons}
use Rattle.documents.specs.Tables.{depth}
use Rattle.documents.specs.Rules.{metas}
use Rattle.documents.specs.Numbers.{subject_in}
use Rattle.documents.specs.declared.Refusal.{Refusal}
use Rattle.documents.specs.declared.Refusal.TheVariants.{TableNotGood}
use Rattle.std.specs.Prelude.{Result, Ok, Err}
use Rattle.tables.specs.Answers.{sized, is_good}
use Rattle.tables.specs.Parts.{front}

-- depth d, below n abstractions
abbrev pub place : ℕ → ℕ → ℕ
place d n = d * 256 + n

-- The places of the nodes, in prefix order: the root, or each root, has depth d and n abstractions above it.
abbrev pub places_of : {s : Sort} → ℕ → ℕ → Tm s → List ℕ
places_of d n (Var x) = place d n ∷ []
places_of d n (Sym s ts) = place d n ∷ places_of (suc d) n ts
places_of d n (Meta z ts) = place d n ∷ places_of (suc d) n ts
places_of d n (Abst t) = place d n ∷ places_of (suc d) (suc n) t
places_of d n Nil = []
places_of d n (Cons t ts) = places_of d n t ++ places_of d n ts

-- The answer of the check, and of an accepted subject the places of its nodes. Where it is refused, nothing is said of the table of places.
pub record Surveyed (subject places : List ℕ) (r : Result ℕ Refusal) : Type 0 where
  pub size : r ≡ sized (subject_in subject)
  pub table : (n : ℕ) → r ≡ Ok n → take n places ≡ places_of 1 0 (front subject)

-- The subject is not good, too deep, or has a metavariable.
abbrev pub Unfit : List ℕ → Type 0
Unfit subject = is_good subject ≡ true → leb (depth (front subject)) depth_limit && is_empty (metas (front subject)) ≡ false

-- an abstraction or a symbol with so many arguments, at a place that is not of depth 64
unfoldable pub goes_in : ℕ → ℕ → ℕ → Bool
goes_in word count here = ltb here 16384 && cond (eqb word 196608) (eqb count 1) (leb 65536 word && (ltb word 131072 && leb count 8))

-- a node that a subject may have at a place: without arguments, any but a metavariable; else one as just said
unfoldable pub may_stand : ℕ → ℕ → ℕ → Bool
may_stand word count here = cond (eqb count 0) (ltb word 131072) (goes_in word count here)

-- the place of a node's arguments: only an abstraction, which has one first word, is above them besides
unfoldable pub below : ℕ → ℕ → ℕ
below here word = cond (eqb word 196608) (here + 257) (here + 256)

-- how many levels wait when a node's arguments are gone into: the node's own waits if it owes more than the node, that is two terms
unfoldable pub levels : ℕ → ℕ → ℕ
levels kept level = cond (ltb level 131072) kept (kept + 1)

-- a table that has no term left to hold is good if it has no word left
unfoldable pub whole_of : ℕ → ℕ → Result ℕ Refusal
whole_of words n = cond (eqb words (2 * n)) (Ok n) (Err TableNotGood)
