-- What is asked of the metavariables of a side, as a walk of its table sees it: for each question, its answer for the terms that begin at a node
-- and its answer for the terms behind the node's words. Laws are in the code's form: places of a whole table and tests of the first word.
use mathlib.Core.Path.{◌≡◌, refl, sym, ap, ap₂, ◌∙◌}
use Prim.Native.Nat.{ℕ, zero, suc, ◌+◌, ◌-◌, ◌/◌, ◌%◌, ◌≤◌, ◌<◌}
use native.Mathlib.Nat.{sub-zero}
use native.Mathlib.Omega.{arith}
use mathlib.Core.Bool.{Bool, true, false, not, ◌&&◌, and-true, and_assoc}
use mathlib.Core.List.{List, [], ◌∷◌, ◌++◌, append_assoc, append-nil}
use lib.Dec.{eqb}
use lib.ListN.{drop, get_or}
use borrow.Author.Tests.{ne_eqb, le-ltb, eqb-true}
use Rattle.documents.specs.Lists.{member, isset}
use Rattle.documents.specs.Terms.{Var, Sym, Meta, Abst, Nil, Cons, Term, Terms, len}
use Rattle.documents.specs.Rules.{metas, simple, are_vars, freevars}
use Rattle.documents.proofs.Lists.{never}
use Rattle.tables.specs.Side.{distinct}
use Rattle.tables.specs.Parts.{held, first_terms, terms, front, Begins}
use Rattle.tables.proofs.Parts.{join, Step, step, front_term}
use Rattle.tables.proofs.Walks.{at_variable, Walk}

-- ---- The metavariables of terms

metas_join : (ts us : Terms) → metas (join ts us) ≡ metas ts ++ metas us
metas_join Nil us = refl
metas_join (Cons t ts) us = rw (metas_join ts us, append_assoc (metas t) (metas ts) (metas us))

metas_metavariable : {k s c : ℕ} {ts us : Terms} → Step k s c ts us → k ≡ 2 → metas ts ≡ (s, c) ∷ metas us
metas_metavariable {k = zero} p e = absurd (omega arith)
metas_metavariable {k = suc zero} p e = absurd (omega arith)
metas_metavariable {k = suc (suc zero)} p e = rw (p.node, p.inside, metas_join p.arguments p.later, p.count)
metas_metavariable {k = suc (suc (suc k))} p e = absurd (omega arith)

metas_other : {k s c : ℕ} {ts us : Terms} → Step k s c ts us → ((k ≡ 2) → ⊥) → metas ts ≡ metas us
metas_other {k = zero} p e = rw (p.node, p.inside, p.shape)
metas_other {k = suc zero} p e = rw (p.node, p.inside, metas_join p.arguments p.later)
metas_other {k = suc (suc zero)} p e = absurd (e refl)
metas_other {k = suc (suc (suc zero))} p e = rw (p.node, p.inside, p.shape.1)
metas_other {k = suc (suc (suc (suc k)))} p e = absurd p.shape

-- two pairs that are not the same
pub unequal : (x y u v : ℕ) → ((x ≡ y) → (u ≡ v) → ⊥) → eqb x y && eqb u v ≡ false
unequal x y u v h = go (eqb x y) (eqb-true x y)
  where
    go : (q : Bool) → (q ≡ true → x ≡ y) → q && eqb u v ≡ false
    go true f = ne_eqb u v (h (f refl))
    go false f = refl

pub metas_front : {part : List ℕ} → Begins 1 part → metas (terms 1 part) ≡ metas (front part)
metas_front {part} b = rw (front_term part b) (append-nil (metas (front part)))

module _ {t : List ℕ} {a n : ℕ} (w : Walk t a n) (h : 0 < n) where
  -- at a metavariable
  pub metas_here : 131072 ≤ get_or t a 0 → get_or t a 0 < 196608
      → metas (terms n (drop a t)) ≡ (get_or t a 0 % 65536, get_or t (a + 1) 0) ∷ metas (terms (n - 1 + get_or t (a + 1) 0) (drop (a + 2) t))
  metas_here lo hi = metas_metavariable (step t a n w.begins h) (omega arith)

  -- at another node
  pub metas_behind : (131072 ≤ get_or t a 0 → get_or t a 0 < 196608 → ⊥)
      → metas (terms n (drop a t)) ≡ metas (terms (n - 1 + get_or t (a + 1) 0) (drop (a + 2) t))
  metas_behind o = metas_other (step t a n w.begins h) (λ e. o (omega arith) (omega arith))

-- ---- Terms that are variables

are_vars_other : {k s c : ℕ} {ts us : Terms} → Step k s c ts us → 0 < k → are_vars ts ≡ false
are_vars_other {k = zero} p e = absurd (omega arith)
are_vars_other {k = suc zero} p e = rw p.node
are_vars_other {k = suc (suc zero)} p e = rw p.node
are_vars_other {k = suc (suc (suc k))} p e = rw p.node

freevars_cons : (x : ℕ) (us : Terms) → freevars (Cons (Var x) us) ≡ x ∷ freevars us
freevars_cons x us = rw (le-ltb x 0 (omega arith), sub-zero x)

module _ {t : List ℕ} {a n : ℕ} (w : Walk t a n) (h : 0 < n) where
  -- at another node
  pub no_variable : 65536 ≤ get_or t a 0 → are_vars (terms n (drop a t)) ≡ false
  no_variable v = are_vars_other (step t a n w.begins h) (omega arith)

  pub is_variable : are_vars (terms n (drop a t)) ≡ true → get_or t a 0 < 65536
  is_variable v = let z : 65536 ≤ get_or t a 0 → ⊥ = λ q. never (cc (no_variable q)) in omega arith

  -- at a variable
  pub variables_behind : get_or t a 0 < 65536 → are_vars (terms n (drop a t)) ≡ are_vars (terms (n - 1) (drop (a + 2) t))
  variables_behind v = rw (at_variable t a n w.begins h v).terms_are

  pub freevars_here : get_or t a 0 < 65536 → freevars (terms n (drop a t)) ≡ get_or t a 0 ∷ freevars (terms (n - 1) (drop (a + 2) t))
  freevars_here v = ap (λ (ts : Terms). freevars ts) (at_variable t a n w.begins h v).terms_are ∙ freevars_cons (get_or t a 0) (terms (n - 1) (drop (a + 2) t))

  -- the first is not among the others, and those are distinct
  pub distinct_here : are_vars (terms n (drop a t)) ≡ true
      → distinct (terms n (drop a t)) ≡ not (member (freevars (terms (n - 1) (drop (a + 2) t))) (get_or t a 0)) && distinct (terms (n - 1) (drop (a + 2) t))
  distinct_here e =
      let v = is_variable e in
      rw (freevars_here v, variables_behind v, sym (variables_behind v) ∙ e)

-- ---- Terms whose metavariables have distinct variables as arguments

simple_join : (ts us : Terms) → simple (join ts us) ≡ simple ts && simple us
simple_join Nil us = refl
simple_join (Cons t ts) us = rw (simple_join ts us) (sym (and_assoc (simple t) (simple ts) (simple us)))

variables_simple : (ts : Terms) → are_vars ts ≡ true → simple ts ≡ true
variables_simple Nil e = refl
variables_simple (Cons (Var x) ts) e = variables_simple ts e
variables_simple (Cons (Sym s us) ts) e = never (cc)
variables_simple (Cons (Meta z us) ts) e = never (cc)
variables_simple (Cons (Abst t) ts) e = never (cc)

-- behind distinct variables, terms are simple or not as they were
distinct_simple : (ts us : Terms) → distinct ts && simple us ≡ distinct ts && simple (join ts us)
distinct_simple ts us = rw (simple_join ts us) (go (are_vars ts) (variables_simple ts))
  where
    go : (q : Bool) → (q ≡ true → simple ts ≡ true) → (q && isset (freevars ts)) && simple us ≡ (q && isset (freevars ts)) && (simple ts && simple us)
    go true f = rw (f refl)
    go false f = refl

-- terms that stand before others are their first
first_of_join : (ts us : Terms) (m : ℕ) (vs : List Term) → first_terms m vs ≡ join ts us → first_terms (len ts) vs ≡ ts
first_of_join Nil us m vs e = refl
first_of_join (Cons t ts) us zero vs e = never (cc)
first_of_join (Cons t ts) us (suc m) [] e = never (cc)
first_of_join (Cons t ts) us (suc m) (v ∷ vs) e = ap₂ Cons (cc) (first_of_join ts us m vs (cc))

-- the arguments of a node are the first terms behind its words
pub arguments_are : {k s c : ℕ} {ts : Terms} (m : ℕ) (part : List ℕ) (p : Step k s c ts (terms m part)) → terms c part ≡ p.arguments
unfolding terms
arguments_are m part p = rw (← p.count) (first_of_join p.arguments p.later m (held part) p.inside)

simple_other : {k s c : ℕ} {ts us : Terms} → Step k s c ts us → ((k ≡ 2) → ⊥) → simple ts ≡ simple us
simple_other {k = zero} p e = rw (p.node, p.inside, p.shape)
simple_other {k = suc zero} p e = rw (p.node, p.inside, simple_join p.arguments p.later)
simple_other {k = suc (suc zero)} p e = absurd (e refl)
simple_other {k = suc (suc (suc zero))} p e = rw (p.node, p.inside, p.shape.1)
simple_other {k = suc (suc (suc (suc k)))} p e = absurd p.shape

simple_metavariable : {k s c w : ℕ} {ts us : Terms} (p : Step k s c ts us) → w / 65536 ≡ k → w % 65536 ≡ s → 131072 ≤ w → ((w ≡ 196608) → ⊥)
    → simple ts ≡ distinct p.arguments && simple us
simple_metavariable {k = zero} p e f lo ne = absurd (omega arith)
simple_metavariable {k = suc zero} p e f lo ne = absurd (omega arith)
simple_metavariable {k = suc (suc zero)} p e f lo ne = rw (p.node, p.inside) (distinct_simple p.arguments p.later)
simple_metavariable {k = suc (suc (suc zero))} p e f lo ne = let z = p.shape.0 in absurd (ne (omega arith))
simple_metavariable {k = suc (suc (suc (suc k)))} p e f lo ne = absurd p.shape

pub simple_front : {part : List ℕ} → Begins 1 part → simple (terms 1 part) ≡ simple (front part)
simple_front {part} b = rw (front_term part b) (and-true (simple (front part)))

module _ {t : List ℕ} {a n : ℕ} (w : Walk t a n) (h : 0 < n) where
  -- at a metavariable
  pub simple_here : 131072 ≤ get_or t a 0 → (get_or t a 0 ≡ 196608 → ⊥)
      → simple (terms n (drop a t)) ≡ distinct (terms (get_or t (a + 1) 0) (drop (a + 2) t)) && simple (terms (n - 1 + get_or t (a + 1) 0) (drop (a + 2) t))
  simple_here lo ne =
      let p = step t a n w.begins h in
      rw (arguments_are (n - 1 + get_or t (a + 1) 0) (drop (a + 2) t) p) (simple_metavariable p refl refl lo ne)

  -- at another node
  pub simple_behind : (131072 ≤ get_or t a 0 → get_or t a 0 < 196608 → ⊥)
      → simple (terms n (drop a t)) ≡ simple (terms (n - 1 + get_or t (a + 1) 0) (drop (a + 2) t))
  simple_behind o = simple_other (step t a n w.begins h) (λ e. o (omega arith) (omega arith))
