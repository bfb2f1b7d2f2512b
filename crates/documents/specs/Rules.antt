-- Rules and valuations (document 01, 'Rules, valuations, translation'; 004, section 2).
use Rattle.std.specs.Prelude.{◌≡◌, ℕ, suc, ◌-◌, Bool, true, false, ◌&&◌, ◌||◌, cond, List, [], ◌∷◌, ◌++◌, eqb, ltb}
use Rattle.documents.specs.Lists.{every, isset, is_empty}
use Rattle.documents.specs.Terms.{Sort, Tm, Var, Sym, Meta, Abst, Nil, Cons, Term, Terms, len, lift, betas, absts}

-- the free variables under n abstractions, as seen from above them
abbrev pub fv : {s : Sort} → ℕ → Tm s → List ℕ
fv n (Var k) = cond (ltb k n) [] ((k - n) ∷ [])
fv n (Sym s ts) = fv n ts
fv n (Meta z ts) = fv n ts
fv n (Abst t) = fv (suc n) t
fv n Nil = []
fv n (Cons t ts) = fv n t ++ fv n ts

abbrev pub freevars : {s : Sort} → Tm s → List ℕ
freevars t = fv 0 t

-- the metavariables, each by its name and its argument count
abbrev pub metas : {s : Sort} → Tm s → List (ℕ × ℕ)
metas (Var x) = []
metas (Sym s ts) = metas ts
metas (Meta z ts) = (z, len ts) ∷ metas ts
metas (Abst t) = metas t
metas Nil = []
metas (Cons t ts) = metas t ++ metas ts

abbrev pub are_vars : Terms → Bool
are_vars Nil = true
are_vars (Cons (Var x) ts) = are_vars ts
are_vars (Cons (Sym s us) ts) = false
are_vars (Cons (Meta z us) ts) = false
are_vars (Cons (Abst t) ts) = false

-- each metavariable's arguments are distinct variables
abbrev pub simple : {s : Sort} → Tm s → Bool
simple (Var x) = true
simple (Sym s ts) = simple ts
simple (Meta z ts) = are_vars ts && isset (freevars ts)
simple (Abst t) = simple t
simple Nil = true
simple (Cons t ts) = simple t && simple ts

abbrev pub is_symbol : Term → Bool
is_symbol (Var x) = false
is_symbol (Sym s ts) = true
is_symbol (Meta z ts) = false
is_symbol (Abst t) = false

abbrev pub closed : Term → Bool
closed t = is_empty (freevars t)

-- is the metavariable m, a name and a count, among ms?
abbrev pub among : List (ℕ × ℕ) → (ℕ × ℕ) → Bool
among [] m = false
among (p ∷ ps) m = (eqb p.0 m.0 && eqb p.1 m.1) || among ps m

abbrev pub contains : List (ℕ × ℕ) → List (ℕ × ℕ) → Bool
contains ms ps = every (among ps) ms

-- 004's crs_rule; document 01 asks for the limits besides (`rule_in` in Numbers)
abbrev pub crs_rule : Term → Term → Bool
crs_rule left right = contains (metas right) (metas left) && is_symbol left && closed left && closed right && simple left

-- A valuation: of a metavariable's name and count, a term ..
abbrev pub Val : Type 0
Val = ℕ → ℕ → Term

-- .. without metavariables, under at least as many abstractions as the count says.
pub record Substitute (k : ℕ) (t : Term) : Type 0 where
  pub body : Term
  pub under : t ≡ absts k body
  pub plain : metas body ≡ []

abbrev pub Valuation : Val → Type 0
Valuation v = (z k : ℕ) → Substitute k (v z k)

abbrev pub metasubst : {s : Sort} → Val → Tm s → Tm s
metasubst v (Var x) = Var x
metasubst v (Sym s ts) = Sym s (metasubst v ts)
metasubst v (Meta z ts) = betas (v z (len ts)) (metasubst v ts)
metasubst v (Abst t) = Abst (metasubst (λ z k. lift (v z k)) t)
metasubst v Nil = Nil
metasubst v (Cons t ts) = Cons (metasubst v t) (metasubst v ts)
