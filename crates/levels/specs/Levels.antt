-- The nodes above a node of a plan, the nearest first, each with how many of its arguments are still to begin.
use Rattle.std.specs.Prelude.{◌≡◌, ℕ, zero, suc, ◌+◌, ◌-◌, ◌*◌, ◌<◌, cond, List, [], ◌∷◌, map, ltb, length, get_or}
use Rattle.documents.specs.Terms.{Sort, Tm, Var, Sym, Meta, Abst, Nil, Cons, Term, len}
use Rattle.documents.specs.Tables.{nodes}
use Rattle.documents.specs.Numbers.{answered, subject_in}
use Rattle.tables.specs.Parts.{front}

-- the number of a node above, and how many of its arguments are still to begin
pub data Level : Type 0 where
  level : ℕ → ℕ → Level

-- one of its arguments has begun
abbrev pub begun : List Level → List Level
begun [] = []
begun (level a zero ∷ ls) = level a zero ∷ ls
begun (level a (suc o) ∷ ls) = level a o ∷ ls

-- The levels above node n of a term or of a list of terms, whose first node is numbered p; ls are those above it. The argument at hand counts as still
-- to begin for the nearest node above, and not for the others.
abbrev pub levels_from : {s : Sort} → ℕ → Tm s → ℕ → List Level → List Level
levels_from p (Var x) n ls = ls
levels_from p (Sym s ts) zero ls = ls
levels_from p (Sym s ts) (suc n) ls = levels_from (suc p) ts n (level p (len ts) ∷ begun ls)
levels_from p (Meta z ts) zero ls = ls
levels_from p (Meta z ts) (suc n) ls = levels_from (suc p) ts n (level p (len ts) ∷ begun ls)
levels_from p (Abst t) zero ls = ls
levels_from p (Abst t) (suc n) ls = levels_from (suc p) t n (level p 1 ∷ begun ls)
levels_from p Nil n ls = ls
levels_from p (Cons t ts) n ls = cond (ltb n (nodes t)) (levels_from p t n ls) (levels_from (p + nodes t) ts (n - nodes t) (begun ls))

-- of a whole plan: above its root nothing stands, and the plan itself is to begin
unfoldable pub levels_of : Term → ℕ → List Level
levels_of t n = levels_from 0 t n (level 0 1 ∷ [])

-- a level as a word
abbrev pub word_of : Level → ℕ
word_of (level a o) = a * 16 + o

-- the numbers at the front of an array, the last of them first
abbrev pub stacked : List ℕ → ℕ → List ℕ
stacked above zero = []
stacked above (suc k) = get_or above k 0 ∷ stacked above k

-- what stands above node n of an accepted plan, in the first so many words of an array
pub record Above (plan : List ℕ) (n : ℕ) (above : List ℕ) (many : ℕ) : Type 0 where
  pub accepted : subject_in plan ≡ answered (front plan)
  pub inside : n < nodes (front plan)
  pub words : stacked above many ≡ map word_of (levels_of (front plan) n)
  pub long : length above ≡ 65
