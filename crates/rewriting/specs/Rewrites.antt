-- Request 1: 'a whole plan rewritten: each time at the first node in prefix order where some rule matches, by the first such rule there'. One
-- rewrite of a plan, and the defined sequence of plans.
use Rattle.std.specs.Prelude.{ℕ, zero, suc, Bool, true, false, List, [], ◌∷◌}
use Rattle.std.proofs.Math.Option.{Option, none, some}
use Rattle.documents.specs.Terms.{Sort, Tm, Var, Sym, Meta, Abst, Nil, Cons, Term}
use Rattle.documents.specs.Instructions.{Program}
use Rattle.documents.specs.Machine.{run, made}

-- ---- Answers that may be missing

-- the first of two that is there
abbrev pub or_else : {A : Type 0} → Option A → Option A → Option A
or_else none o = o
or_else (some a) o = some a

-- an answer, put where it belongs
abbrev pub put_in : {A B : Type 0} → (A → B) → Option A → Option B
put_in f none = none
put_in f (some a) = some (f a)

abbrev pub is_none : {A : Type 0} → Option A → Bool
is_none none = true
is_none (some a) = false

-- ---- One rewrite

-- 'by the first such rule there': what the first rule of the list that matches at the root makes of a term. A rule matches where its run makes
-- something. (Law `made_none_fails`: where its code passed, that is where no match instruction fails.)
abbrev pub by_first_rule : List Program → Term → Option Term
by_first_rule [] t = none
by_first_rule (c ∷ cs) t = let later = by_first_rule cs t in or_else (made (run c t)) later

-- 'at the first node in prefix order': the first node for which f has an answer, replaced by that answer; a node comes before its arguments, and
-- they from left to right. (Laws `some_exactly`, `none_exactly` of proofs/FirstNode: so it is, over numbered nodes.)
abbrev pub at_first_node : {s : Sort} → (Term → Option Term) → Tm s → Option (Tm s)
at_first_node f (Var x) = f (Var x)
at_first_node f (Sym s ts) = let below = at_first_node f ts in or_else (f (Sym s ts)) (put_in (Sym s) below)
at_first_node f (Meta z ts) = let below = at_first_node f ts in or_else (f (Meta z ts)) (put_in (Meta z) below)
at_first_node f (Abst t) = let below = at_first_node f t in or_else (f (Abst t)) (put_in Abst below)
at_first_node f Nil = none
at_first_node f (Cons t ts) = let behind = at_first_node f ts in or_else (put_in (λ u. Cons u ts) (at_first_node f t)) (put_in (Cons t) behind)

-- one rewrite of a plan by a list of rules; none where no rule matches any node
unfoldable pub once : List Program → Term → Option Term
once rules t = at_first_node (by_first_rule rules) t

-- ---- The sequence of plans

-- the plans from the next one on, if there is one
abbrev pub from_next : Option Term → (Term → List Term) → List Term
from_next none f = []
from_next (some u) f = f u

-- The plan itself, and after each plan that some rule matches that plan rewritten once: so many rewrites at the most. The plan that one more rewrite
-- would make is not among them.
abbrev pub plans : List Program → ℕ → Term → List Term
plans rules zero t = t ∷ []
plans rules (suc n) t = t ∷ from_next (once rules t) (plans rules n)

-- the last of the plans behind t, t itself if there is none
abbrev pub last_of : Term → List Term → Term
last_of t [] = t
last_of t (u ∷ us) = last_of u us

-- the plan that rewriting ends with
abbrev pub last_plan : List Program → ℕ → Term → Term
last_plan rules n t = last_of t (plans rules n t)
