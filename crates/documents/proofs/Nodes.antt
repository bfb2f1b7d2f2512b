-- The number beside a current term is that of its node in the subject: it holds at the start, and each match instruction keeps it.
use mathlib.Core.Path.{◌≡◌, refl, ap, ◌∙◌}
use Prim.Native.Nat.{ℕ, zero, suc, ◌+◌, ◌-◌, ◌≤◌, ◌<◌}
use native.Mathlib.Omega.{arith}
use mathlib.Core.Bool.{Bool, true, false, not, ◌&&◌, cond}
use mathlib.Core.Option.{Option, none, some}
use mathlib.Core.List.{List, [], ◌∷◌}
use lib.Dec.{T, eqb, ltb}
use lib.ListN.{get_elem?}
use borrow.Author.Tests.{lt-ltb, le-ltb, ltb-true, ltb-false, eqb-true}
use Rattle.documents.specs.Lists.{every, member}
use Rattle.documents.specs.Terms.{Sort, Tm, Var, Sym, Meta, Abst, Nil, Cons, Term, Terms, len, rename}
use Rattle.documents.specs.Tables.{nodes, depth, subterm}
use Rattle.documents.specs.Rules.{freevars}
use Rattle.documents.specs.Instructions.{IS, ISABST, NEXT, CHECK, SET, EQVAR, EQIMM, EQI, CELL, LAMBDA, ADBMAL, PUSHVAR, PUSHIMM, PUSHI, Instruction}
use Rattle.documents.specs.Machine.{Current, current, Entry, entry, State, state, Outcome, done, no_step, test, or_fails, or_no_step, Action, arguments_of, body_of, is_var, equal, placed, firsts, renaming, eqi, eqimm, currents, with_current, exec, start}
use Rattle.documents.specs.Passing.{is_match}
use Rattle.documents.proofs.Lists.{never}

-- ---- Subterms of subterms

pub nodes_positive : (t : Term) → 1 ≤ nodes t
nodes_positive (Var x) = omega arith
nodes_positive (Sym s ts) = omega arith
nodes_positive (Meta z ts) = omega arith
nodes_positive (Abst t) = omega arith

pub depth_positive : (t : Term) → 0 < depth t
depth_positive (Var x) = omega arith
depth_positive (Sym s ts) = omega arith
depth_positive (Meta z ts) = omega arith
depth_positive (Abst t) = omega arith

pub len_nodes : (ts : Terms) → len ts ≤ nodes ts
len_nodes Nil = omega arith
len_nodes (Cons t ts) = let h = len_nodes ts in let k = nodes_positive t in omega arith

pub subterm_root : (t : Term) → subterm t 0 ≡ some t
subterm_root (Var x) = refl
subterm_root (Sym s ts) = refl
subterm_root (Meta z ts) = refl
subterm_root (Abst t) = refl

-- in the first of a list of terms, and behind it
pub subterm_first : (t : Term) (ts : Terms) (n : ℕ) → n < nodes t → subterm (Cons t ts) n ≡ subterm t n
subterm_first t ts n h = rw (lt-ltb n (nodes t) h)

pub subterm_behind : (t : Term) (ts : Terms) (n : ℕ) → subterm (Cons t ts) (nodes t + n) ≡ subterm ts n
subterm_behind t ts n =
    let h : nodes t ≤ nodes t + n = omega arith in
    let e : nodes t + n - nodes t ≡ n = omega arith in
    rw (le-ltb (nodes t + n) (nodes t) h, e)

-- either of the two
subterm_cons : {P : Type 0} (t : Term) (ts : Terms) (n : ℕ) (u : Term) → subterm (Cons t ts) n ≡ some u
    → (n < nodes t → subterm t n ≡ some u → P) → ((m : ℕ) → n ≡ nodes t + m → subterm ts m ≡ some u → P) → P
subterm_cons {P} t ts n u e f g = go (ltb n (nodes t)) refl e
  where
    go : (q : Bool) → ltb n (nodes t) ≡ q → cond q (subterm t n) (subterm ts (n - nodes t)) ≡ some u → P
    go true q e = f (ltb-true n (nodes t) q) e
    go false q e = let h = ltb-false n (nodes t) q in g (n - nodes t) (omega arith) e

pub subterm_inside : {s : Sort} (t : Tm s) (n : ℕ) (u : Term) → subterm t n ≡ some u → n < nodes t
subterm_inside (Var x) zero u e = omega arith
subterm_inside (Var x) (suc n) u e = never (cc)
subterm_inside (Sym s ts) zero u e = omega arith
subterm_inside (Sym s ts) (suc n) u e = let h = subterm_inside ts n u e in omega arith
subterm_inside (Meta z ts) zero u e = omega arith
subterm_inside (Meta z ts) (suc n) u e = let h = subterm_inside ts n u e in omega arith
subterm_inside (Abst t) zero u e = omega arith
subterm_inside (Abst t) (suc n) u e = let h = subterm_inside t n u e in omega arith
subterm_inside Nil n u e = never (cc)
subterm_inside (Cons t ts) n u e =
    subterm_cons t ts n u e (λ h e. omega arith) (λ m p e. let h = subterm_inside ts m u e in omega arith)

-- a root's own subterms
at_root : (t u : Term) (n : ℕ) (v : Term) → some t ≡ some u → subterm u n ≡ some v → subterm t (0 + n) ≡ some v
at_root t u n v e f = let q : t ≡ u = cc in let z : 0 + n ≡ n = omega arith in rw (z, q) f

pub subterm_subterm : {s : Sort} (t : Tm s) (m n : ℕ) (u v : Term) → subterm t m ≡ some u → subterm u n ≡ some v → subterm t (m + n) ≡ some v
subterm_subterm (Var x) zero n u v e f = at_root (Var x) u n v e f
subterm_subterm (Var x) (suc m) n u v e f = never (cc)
subterm_subterm (Sym s ts) zero n u v e f = at_root (Sym s ts) u n v e f
subterm_subterm (Sym s ts) (suc m) n u v e f = let z : suc m + n ≡ suc (m + n) = omega arith in rw z (subterm_subterm ts m n u v e f)
subterm_subterm (Meta x ts) zero n u v e f = at_root (Meta x ts) u n v e f
subterm_subterm (Meta x ts) (suc m) n u v e f = let z : suc m + n ≡ suc (m + n) = omega arith in rw z (subterm_subterm ts m n u v e f)
subterm_subterm (Abst t) zero n u v e f = at_root (Abst t) u n v e f
subterm_subterm (Abst t) (suc m) n u v e f = let z : suc m + n ≡ suc (m + n) = omega arith in rw z (subterm_subterm t m n u v e f)
subterm_subterm Nil m n u v e f = never (cc)
subterm_subterm (Cons t ts) m n u v e f =
    subterm_cons t ts m u e
    (λ h e. let g = subterm_subterm t m n u v e f in subterm_first t ts (m + n) (subterm_inside t (m + n) v g) ∙ g)
    (λ k p e. let z : m + n ≡ nodes t + (k + n) = omega arith in rw z (subterm_behind t ts (k + n) ∙ subterm_subterm ts k n u v e f))

-- ---- Current terms

module _ (subject : Term) where
  abbrev pub Numbered : List Current → Type 0
  Numbered [] = Unit {0}
  Numbered (current d m t ∷ cs) = (subterm subject m ≡ some t) × Numbered cs

  abbrev pub NumberedIn : State → Type 0
  NumberedIn (state cs env st off nst) = Numbered cs

  -- terms that stand in the subject one after the other, from node p on
  numbered_currents : (d p : ℕ) (ts : Terms) (cs : List Current) → ((n : ℕ) (u : Term) → subterm ts n ≡ some u → subterm subject (p + n) ≡ some u)
      → Numbered cs → Numbered (currents d p ts cs)
  numbered_currents d p Nil cs h k = k
  numbered_currents d p (Cons t ts) cs h k = (
    (let z : p + 0 ≡ p = omega arith in rw z at (h 0 t (subterm_first t ts 0 (nodes_positive t) ∙ subterm_root t))),
    numbered_currents d (p + nodes t) ts cs
        (λ n u e. let z : p + nodes t + n ≡ p + (nodes t + n) = omega arith in rw z (h (nodes t + n) u (subterm_behind t ts n ∙ e)))
        k,
  )

  arguments_of_is : (s n : ℕ) (t : Term) (ts : Terms) → arguments_of s n t ≡ some ts → t ≡ Sym s ts
  arguments_of_is s n (Var x) ts e = never (cc)
  arguments_of_is s n (Sym s' us) ts e = go (eqb s s') refl (eqb (len us) n) e
    where
      go : (p : Bool) → eqb s s' ≡ p → (q : Bool) → cond (p && q) (some us) none ≡ some ts → Sym s' us ≡ Sym s ts
      go true p true e = let x = eqb-true s s' p in let y : us ≡ ts = cc in rw (x, y)
      go true p false e = never (cc)
      go false p q e = never (cc)
  arguments_of_is s n (Meta z us) ts e = never (cc)
  arguments_of_is s n (Abst t) ts e = never (cc)

  is_numbered : (s n d m : ℕ) (t : Term) (cs : List Current) (env : List Entry) (st : List Term) (off : ℕ) (nst : List ℕ) (τ : State) (o : Option Terms)
      → arguments_of s n t ≡ o → or_fails o (λ ts. done (state (currents d (m + 1) ts cs) env st off nst)) ≡ done τ
      → subterm subject m ≡ some t → Numbered cs → NumberedIn τ
  is_numbered s n d m t cs env st off nst τ none a e h k = never (cc)
  is_numbered s n d m t cs env st off nst τ (some ts) a e h k =
      let q : τ ≡ state (currents d (m + 1) ts cs) env st off nst = cc in
      let r = arguments_of_is s n t ts a in
      rw q (numbered_currents d (m + 1) ts cs
      (λ j u f. let z : m + 1 + j ≡ m + suc j = omega arith in rw z (subterm_subterm subject m (suc j) (Sym s ts) u (h ∙ ap some r) f)) k)

  isabst_numbered : (d m : ℕ) (t : Term) (cs : List Current) (env : List Entry) (st : List Term) (off : ℕ) (nst : List ℕ) (τ : State)
      → or_fails (body_of t) (λ u. done (state (current (d + 1) (m + 1) u ∷ cs) env st off nst)) ≡ done τ
      → subterm subject m ≡ some t → Numbered cs → NumberedIn τ
  isabst_numbered d m (Var x) cs env st off nst τ e h k = never (cc)
  isabst_numbered d m (Sym s ts) cs env st off nst τ e h k = never (cc)
  isabst_numbered d m (Meta z ts) cs env st off nst τ e h k = never (cc)
  isabst_numbered d m (Abst u) cs env st off nst τ e h k =
      let q : τ ≡ state (current (d + 1) (m + 1) u ∷ cs) env st off nst = cc in
      rw q (subterm_subterm subject m 1 (Abst u) u h (subterm_root u), k)

  -- a test leaves the state as it is
  tested : (q : Bool) (σ τ : State) → test q σ ≡ done τ → NumberedIn σ → NumberedIn τ
  tested true σ τ e h = let p : σ ≡ τ = cc in rw (← p) h
  tested false σ τ e h = never (cc)

  same_currents : (cs : List Current) (env : List Entry) (st : List Term) (off : ℕ) (nst : List ℕ) (τ : State) → done (state cs env st off nst) ≡ done τ
      → Numbered cs → NumberedIn τ
  same_currents cs env st off nst τ e h = let p : τ ≡ state cs env st off nst = cc in rw p h

  -- with a current term, or no step
  with_current_numbered : (f : ℕ → ℕ → Term → List Current → List Entry → List Term → ℕ → List ℕ → Outcome State) (σ τ : State)
      → ((d m : ℕ) (t : Term) (cs : List Current) (env : List Entry) (st : List Term) (off : ℕ) (nst : List ℕ)
      → f d m t cs env st off nst ≡ done τ → subterm subject m ≡ some t → Numbered cs → NumberedIn τ)
      → with_current f σ ≡ done τ → NumberedIn σ → NumberedIn τ
  with_current_numbered f (state [] env st off nst) τ k e h = never (cc)
  with_current_numbered f (state (current d m t ∷ cs) env st off nst) τ k e h = k d m t cs env st off nst e h.0 h.1

  -- with an entry, or no step; a comparison leaves the state as it is
  with_entry_numbered : (f : Entry → Action) (o : Option Entry) (σ τ : State) → ((a : Entry) → f a σ ≡ done τ → NumberedIn τ) → or_no_step o (λ a. f a σ) ≡ done τ
      → NumberedIn τ
  with_entry_numbered f none σ τ k e = never (cc)
  with_entry_numbered f (some a) σ τ k e = k a e

  eqi_numbered : (D : ℕ) (ps : List (ℕ × ℕ)) (a : Entry) (t : Term) (σ τ : State) → eqi D ps a t σ ≡ done τ → NumberedIn σ → NumberedIn τ
  eqi_numbered D ps (entry b a) t σ τ e h = go (every (placed (firsts ps) b D) (freevars a)) e
    where
      go : (q : Bool) → cond q (test (equal (rename (renaming ps D) a) t) σ) no_step ≡ done τ → NumberedIn τ
      go true e = tested (equal (rename (renaming ps D) a) t) σ τ e h
      go false e = never (cc)

  eqimm_numbered : (a : Entry) (t : Term) (σ τ : State) → eqimm a t σ ≡ done τ → NumberedIn σ → NumberedIn τ
  eqimm_numbered (entry b a) t σ τ e h = tested (equal a t) σ τ e h

  -- each match instruction keeps the numbers right
  pub numbered_step : (i : Instruction) (σ τ : State) → T (is_match i) → exec i σ ≡ done τ → NumberedIn σ → NumberedIn τ
  numbered_step (IS s n) σ τ b =
      with_current_numbered _ σ τ (λ d m t cs env st off nst e. is_numbered s n d m t cs env st off nst τ (arguments_of s n t) refl e)
  numbered_step ISABST σ τ b = with_current_numbered _ σ τ (λ d m t cs env st off nst e. isabst_numbered d m t cs env st off nst τ e)
  numbered_step NEXT σ τ b = with_current_numbered _ σ τ (λ d m t cs env st off nst e h k. same_currents cs env st off nst τ e k)
  numbered_step (CHECK vs) σ τ b = with_current_numbered _ σ τ (λ d m t cs env st off nst e h k.
      tested (every (λ y. not (member vs y)) (freevars t)) (state (current d m t ∷ cs) env st off nst) τ e (h, k))
  numbered_step SET σ τ b = with_current_numbered _ σ τ (λ d m t cs env st off nst e h k. same_currents (current d m t ∷ cs) (entry d t ∷ env) st off nst τ e (h, k))
  numbered_step (EQVAR x) σ τ b = with_current_numbered _ σ τ (λ d m t cs env st off nst e h k. tested (is_var x t) (state (current d m t ∷ cs) env st off nst) τ e (h, k))
  numbered_step (EQIMM n) σ τ b = with_current_numbered _ σ τ (λ d m t cs env st off nst e h k.
      with_entry_numbered (λ a. eqimm a t) (get_elem? env n) (state (current d m t ∷ cs) env st off nst) τ (λ a f. eqimm_numbered a t (state (current d m t ∷ cs) env st off nst) τ f (h, k)) e)
  numbered_step (EQI n D ps) σ τ b = with_current_numbered _ σ τ (λ d m t cs env st off nst e h k.
      with_entry_numbered (λ a. eqi D ps a t) (get_elem? env n) (state (current d m t ∷ cs) env st off nst) τ (λ a f. eqi_numbered D ps a t (state (current d m t ∷ cs) env st off nst) τ f (h, k)) e)
  numbered_step (CELL s n) σ τ b = absurd b
  numbered_step LAMBDA σ τ b = absurd b
  numbered_step ADBMAL σ τ b = absurd b
  numbered_step (PUSHVAR x) σ τ b = absurd b
  numbered_step (PUSHIMM n) σ τ b = absurd b
  numbered_step (PUSHI n D a) σ τ b = absurd b

  pub numbered_start : NumberedIn (start subject)
  numbered_start = (subterm_root subject, tt)
