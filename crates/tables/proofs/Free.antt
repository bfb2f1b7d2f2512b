-- Free variables that are marked, as a walk of a part sees them: at each node, whether one is met before it or behind it. And what the marks of a
-- list, and marks everywhere, say of an index.
use mathlib.Core.Path.{◌≡◌, refl, sym, ap, ◌∙◌, fun_ext}
use Prim.Native.Nat.{ℕ, zero, suc, ◌+◌, ◌-◌, ◌/◌, ◌%◌, ◌≤◌, ◌<◌, min}
use native.Mathlib.Numerals.{add-one}
use native.Mathlib.Omega.{arith}
use mathlib.Core.Bool.{Bool, true, false, not, ◌&&◌, ◌||◌, cond, and-true}
use mathlib.Core.List.{List, [], ◌∷◌, ◌++◌, append_assoc, append-nil}
use lib.Dec.{eqb, ltb}
use lib.ListN.{length, drop, get_or, set, replicate, length-set, length-replicate, get_or-replicate, drop_of_length-le}
use lib.Seq.{get_or-set_same, get_or-set_other, drop-cons}
use borrow.Author.Tests.{lt-ltb, le-ltb, ltb-true, eqb-true, eqb-false}
use Rattle.documents.specs.Lists.{every, member, is_empty}
use Rattle.documents.specs.Terms.{Var, Nil, Cons, Term, Terms}
use Rattle.documents.specs.Rules.{fv, freevars, closed}
use Rattle.documents.proofs.Lists.{on, T_of, of_and, every_append}
use Rattle.tables.specs.Parts.{terms, front, Begins, word_count}
use Rattle.std.specs.Prelude.{Some, None}
use denote.Ref.{Bor}
use Rattle.tables.specs.declared.walk.Node.{Node}
use Rattle.tables.specs.declared.walk.Nodes.{Nodes}
use Rattle.tables.specs.Nodes.{starts, owes, goes_past, node_gives}
use Rattle.tables.proofs.Nodes.{owes_first}
use Rattle.tables.specs.Forbidden.{clear, looked, Small, unmarked, marked, mark_all, marked_with}
use Rattle.tables.proofs.Parts.{join, Step, step, front_term}
use Rattle.tables.proofs.Walks.{at_variable, at_abstraction, Walk, ended, Walking, walking_from, walking_on, walking_abstraction, walking_ended, walked_words, walked_stopped, is_words, is_stopped}

-- ---- A walk of the variables

fv_join : (j : ℕ) (ts us : Terms) → fv j (join ts us) ≡ fv j ts ++ fv j us
fv_join j Nil us = refl
fv_join j (Cons t ts) us = rw (fv_join j ts us, append_assoc (fv j t) (fv j ts) (fv j us))

-- a symbol or a metavariable
fv_applied : {k s c w : ℕ} {ts us : Terms} (j : ℕ) → Step k s c ts us → w / 65536 ≡ k → w % 65536 ≡ s → 65536 ≤ w → ((w ≡ 196608) → ⊥) → fv j ts ≡ fv j us
fv_applied {k = zero} j p e f lo ne = absurd (omega arith)
fv_applied {k = suc zero} j p e f lo ne = rw (p.node, p.inside, fv_join j p.arguments p.later)
fv_applied {k = suc (suc zero)} j p e f lo ne = rw (p.node, p.inside, fv_join j p.arguments p.later)
fv_applied {k = suc (suc (suc zero))} j p e f lo ne = let z = p.shape.0 in absurd (ne (omega arith))
fv_applied {k = suc (suc (suc (suc k)))} j p e f lo ne = absurd p.shape

every_variable : (f : ℕ → Bool) (p : Bool) (y : ℕ) → every f (cond p [] (y ∷ [])) ≡ not (not p && not (f y))
every_variable f true y = refl
every_variable f false y = twice (f y)
  where
    twice : (q : Bool) → q && true ≡ not (not q)
    twice true = refl
    twice false = refl

look_front : {part : List ℕ} (f : ℕ → Bool) (j : ℕ) → Begins 1 part → every f (fv j (terms 1 part)) ≡ every f (fv j (front part))
look_front {part} f j b = rw (front_term part b, append-nil (fv j (front part))) refl

module _ {t : List ℕ} {a n : ℕ} (w : Walk t a n) (h : 0 < n) (marks : List Bool) (j : ℕ) where
  look_variable : get_or t a 0 < 65536
      → every (unmarked marks) (fv j (terms n (drop a t)))
      ≡ not (marked marks j (get_or t a 0)) && every (unmarked marks) (fv j (terms (n - 1) (drop (a + 2) t)))
  look_variable v =
      let p = at_variable t a n w.begins h v in
      rw (
        p.terms_are,
        every_append (unmarked marks) (fv j (Var (get_or t a 0))) (fv j (terms (n - 1) (drop (a + 2) t))),
        every_variable (unmarked marks) (ltb (get_or t a 0) j) (get_or t a 0 - j),
      ) refl

  look_unmarked : get_or t a 0 < 65536 → marked marks j (get_or t a 0) ≡ false
      → every (unmarked marks) (fv j (terms n (drop a t))) ≡ every (unmarked marks) (fv j (terms (n - 1) (drop (a + 2) t)))
  look_unmarked v e = look_variable v ∙ ap (λ (q : Bool). not q && every (unmarked marks) (fv j (terms (n - 1) (drop (a + 2) t)))) e

  look_marked : get_or t a 0 < 65536 → marked marks j (get_or t a 0) ≡ true → every (unmarked marks) (fv j (terms n (drop a t))) ≡ false
  look_marked v e = look_variable v ∙ ap (λ (q : Bool). not q && every (unmarked marks) (fv j (terms (n - 1) (drop (a + 2) t)))) e

  look_abstraction : get_or t a 0 ≡ 196608
      → every (unmarked marks) (fv j (terms n (drop a t)))
      ≡ every (unmarked marks) (fv (j + 1) (front (drop (a + 2) t)))
      && every (unmarked marks) (fv j (terms (n - 1) (drop (a + 2 + word_count (front (drop (a + 2) t))) t)))
  look_abstraction v =
      let p = at_abstraction t a n w.begins h v in
      rw (p.terms_are, add-one j) (every_append (unmarked marks) (fv (suc j) (front (drop (a + 2) t))) _)

  -- nothing is marked in the body
  look_past : get_or t a 0 ≡ 196608 → every (unmarked marks) (fv (j + 1) (front (drop (a + 2) t))) ≡ true
      → every (unmarked marks) (fv j (terms n (drop a t)))
      ≡ every (unmarked marks) (fv j (terms (n - 1) (drop (a + 2 + word_count (front (drop (a + 2) t))) t)))
  look_past v e = rw e at (look_abstraction v)

  look_inside : get_or t a 0 ≡ 196608 → every (unmarked marks) (fv (j + 1) (front (drop (a + 2) t))) ≡ false → every (unmarked marks) (fv j (terms n (drop a t))) ≡ false
  look_inside v e = rw e at (look_abstraction v)

  look_applied : 65536 ≤ get_or t a 0 → (get_or t a 0 ≡ 196608 → ⊥)
      → every (unmarked marks) (fv j (terms n (drop a t))) ≡ every (unmarked marks) (fv j (terms (n - 1 + get_or t (a + 1) 0) (drop (a + 2) t)))
  look_applied lo ne = ap (every (unmarked marks)) (fv_applied j (step t a n w.begins h) refl refl lo ne)

-- ---- A walk that looks through the subterm that a part begins with

-- Whether a marked variable is among the terms still owed is what was asked of the subterm.
pub record Looking (marks : List Bool) (j : ℕ) (part : List ℕ) (s : Nodes) : Type 0 where
  pub whole : s.part.now ≡ part
  pub walk : Walking s.part.now s.owed s.at
  pub same : every (unmarked marks) (fv j (owes s)) ≡ every (unmarked marks) (fv j (front part))

pub looking_from : {marks : List Bool} {j : ℕ} {part : List ℕ} (s : Nodes) → Begins 1 part → starts part s → Looking marks j part s
looking_from {marks} {j} {part} s b h = record {
  whole = h.0;
  walk = rw (h.0, h.1, h.2) (walking_from b);
  same = rw (owes_first part s h) (look_front (unmarked marks) j b);
}

pub looking_ended : {marks : List Bool} {j : ℕ} {part : List ℕ} (s t : Nodes) → Looking marks j part s → node_gives s None t → Some t.at ≡ looked marks j (front part)
looking_ended s t l g =
    let e : s.owed ≤ 0 = omega arith in
    is_words _ (front _) t.at (sym (rw (ended l.walk.walk e) at l.same)) (ap (λ (z : Nodes). z.at) g.1.1 ∙ rw l.whole at (walking_ended l.walk e))

-- a step that gave a node
module _ {marks : List Bool} {j : ℕ} {part : List ℕ} (s t : Nodes) (n : Node) (l : Looking marks j part s) (g : node_gives s (Some n) t) where
  behind_is : owes t ≡ terms (s.owed - 1 + get_or s.part.now (s.at + 1) 0) (drop (s.at + 2) s.part.now)
  behind_is = rw (g.0, g.1.4, g.1.5, g.1.2) refl

  walked_on : Walking t.part.now t.owed t.at
  walked_on = rw (g.0, g.1.4, g.1.5, g.1.2) (walking_on l.walk g.1.0)

  pub variable_marked : n.word < 65536 → marked marks j n.word ≡ true → None ≡ looked marks j (front part)
  variable_marked v e = is_stopped _ (front part) (sym l.same ∙ look_marked l.walk.walk g.1.0 marks j (rw g.1.1 at v) (rw g.1.1 at e))

  pub looking_variable : n.word < 65536 → marked marks j n.word ≡ false → Looking marks j part t
  looking_variable v e =
      let a = at_variable s.part.now s.at s.owed l.walk.walk.begins g.1.0 (rw g.1.1 at v) in
      let z : s.owed - 1 + get_or s.part.now (s.at + 1) 0 ≡ s.owed - 1 = let f = a.leaf in omega arith in
      record {
        whole = ap (λ (p : Bor (List ℕ)). p.now) g.0 ∙ l.whole;
        walk = walked_on;
        same = rw (behind_is, z) (sym (look_unmarked l.walk.walk g.1.0 marks j (rw g.1.1 at v) (rw g.1.1 at e))) ∙ l.same;
      }

  pub looking_applied : 65536 ≤ n.word → (n.word ≡ 196608 → ⊥) → Looking marks j part t
  looking_applied v o = record {
    whole = ap (λ (p : Bor (List ℕ)). p.now) g.0 ∙ l.whole;
    walk = walked_on;
    same = rw behind_is (sym (look_applied l.walk.walk g.1.0 marks j (rw g.1.1 at v) (rw g.1.1 at o))) ∙ l.same;
  }

  -- the body of an abstraction is a part of its own
  module _ (v : n.word ≡ 196608) where
    here : get_or s.part.now s.at 0 ≡ 196608
    here = sym g.1.1 ∙ v

    pub body : Begins 1 n.behind.now
    body = rw g.1.3 (at_abstraction s.part.now s.at s.owed l.walk.walk.begins g.1.0 here).body

    pub body_marked : None ≡ looked marks (j + 1) (front n.behind.now) → None ≡ looked marks j (front part)
    body_marked e =
        is_stopped _ (front part)
        (sym l.same ∙ look_inside l.walk.walk g.1.0 marks j here (walked_stopped _ (front (drop (s.at + 2) s.part.now)) (rw g.1.3 at e)))

    module _ (m : ℕ) (e : Some m ≡ looked marks (j + 1) (front n.behind.now)) where
      inner : (every (unmarked marks) (fv (j + 1) (front (drop (s.at + 2) s.part.now))) ≡ true) × (m ≡ word_count (front (drop (s.at + 2) s.part.now)))
      inner = walked_words _ (front (drop (s.at + 2) s.part.now)) m (rw g.1.3 at e)

      behind : Walking s.part.now (s.owed - 1) (s.at + 2 + m)
      behind = rw inner.1 (walking_abstraction l.walk g.1.0 here)

      pub body_passes : (1 ≤ t.owed) × (t.at + m ≤ length t.part.now)
      body_passes =
          let a = at_abstraction s.part.now s.at s.owed l.walk.walk.begins g.1.0 here in
          let w = behind.walk.within in
          let p : length t.part.now ≡ length s.part.now = ap (λ (p : Bor (List ℕ)). length p.now) g.0 in
          let c = a.one in
          let q = g.1.2 in
          let r = g.1.5 in
          let x = g.1.4 in
          (omega arith, omega arith)

      pub looking_body : (u : Nodes) → goes_past t 1 m u → Looking marks j part u
      looking_body u f =
          let a = at_abstraction s.part.now s.at s.owed l.walk.walk.begins g.1.0 here in
          let c = a.one in
          let o : u.owed ≡ s.owed - 1 = let q = g.1.2 in let r = g.1.5 in let x = f.2 in omega arith in
          let i : u.at ≡ s.at + 2 + m = let x = g.1.4 in let y = f.1 in omega arith in
          record {
            whole = ap (λ (p : Bor (List ℕ)). p.now) (f.0 ∙ g.0) ∙ l.whole;
            walk = rw (f.0, g.0, o, i) behind;
            same = rw (f.0, g.0, o, i, inner.1) (sym (look_past l.walk.walk g.1.0 marks j here inner.0)) ∙ l.same;
          }

-- ---- Marks

-- one more mark
mark_one : (marks : List Bool) (v y : ℕ) → length marks ≡ 65 → v < 64 → unmarked (set marks v true) y ≡ unmarked marks y && not (eqb v y)
mark_one marks v y l h = go (eqb v y) refl
  where
    and-false : (q : Bool) → false ≡ q && false
    and-false true = refl
    and-false false = refl

    go : (q : Bool) → eqb v y ≡ q → unmarked (set marks v true) y ≡ unmarked marks y && not q
    go true e =
        let z : min y 64 ≡ v = let q = eqb-true v y e in omega arith in
        let k : v < length marks = omega arith in
        rw (z, get_or-set_same marks v true false k) (and-false (not (get_or marks v false)))
    go false e =
        let z : (min y 64 ≡ v) → ⊥ = λ q. eqb-false v y e (omega arith) in
        rw (get_or-set_other marks v (min y 64) true false z) (sym (and-true (unmarked marks y)))

mark_all_lem : (vs : List ℕ) (marks : List Bool) (y : ℕ) → length marks ≡ 65 → Small vs → unmarked (mark_all marks vs) y ≡ unmarked marks y && not (member vs y)
mark_all_lem [] marks y l h = sym (and-true (unmarked marks y))
mark_all_lem (v ∷ vs) marks y l h =
    let k = of_and (ltb v 64) (every (λ y. ltb y 64) vs) (T_of _ h) in
    let lt = ltb-true v 64 (on (ltb v 64) k.0) in
    mark_all_lem vs (set marks v true) y (simp length-set l) (on _ k.1) ∙ rw (mark_one marks v y l lt) (neither (unmarked marks y) (eqb v y) (member vs y))
  where
    neither : (p q r : Bool) → (p && not q) && not r ≡ p && not (q || r)
    neither true true r = refl
    neither true false r = refl
    neither false q r = refl

-- the marks of a list are those of its indices
pub marked_list : (vs : List ℕ) (t : Term) → Small vs → every (unmarked (marked_with vs)) (freevars t) ≡ clear vs t
unfolding marked_with clear
marked_list vs t h = ap (λ (f : ℕ → Bool). every f (freevars t)) (fun_ext (λ y. mark_all_lem vs (replicate 65 false) y (length-replicate {A = Bool} 65 false) h ∙ ap (λ (q : Bool). q && not (member vs y)) (none y)))
  where
    none : (y : ℕ) → unmarked (replicate 65 false) y ≡ true
    none y = rw (get_or-replicate {A = Bool} 65 (min y 64) false false (omega arith)) refl

-- where nothing is listed nothing is forbidden
pub clear_empty : (vs : List ℕ) (t : Term) → length vs ≡ 0 → true ≡ clear vs t
unfolding clear
clear_empty [] t e = sym (all_hold (freevars t))
  where
    all_hold : (l : List ℕ) → every (λ y. true) l ≡ true
    all_hold [] = refl
    all_hold (y ∷ l) = all_hold l
clear_empty (v ∷ vs) t e = absurd (omega arith)

-- marks everywhere forbid every free variable
pub marked_everywhere : (t : Term) → every (unmarked (replicate 65 true)) (freevars t) ≡ closed t
marked_everywhere t = go (freevars t)
  where
    go : (l : List ℕ) → every (unmarked (replicate 65 true)) l ≡ is_empty l
    go [] = refl
    go (y ∷ l) = rw (get_or-replicate {A = Bool} 65 (min y 64) true false (omega arith)) refl

-- ---- In the code's form

not_not : (q : Bool) → not (not q) ≡ q
not_not true = refl
not_not false = refl

module _ (marks : List Bool) (n x : ℕ) where
  pub not_free : x < n → false ≡ marked marks n x
  not_free h = rw (lt-ltb x n h) refl

  pub own_mark : n ≤ x → x - n < 64 → get_or marks (x - n) false ≡ marked marks n x
  own_mark h k = let z : min (x - n) 64 ≡ x - n = omega arith in rw (le-ltb x n h, z) (sym (not_not (get_or marks (x - n) false)))

  pub shared_mark : n ≤ x → 64 ≤ x - n → get_or marks 64 false ≡ marked marks n x
  shared_mark h k = let z : min (x - n) 64 ≡ 64 = omega arith in rw (le-ltb x n h, z) (sym (not_not (get_or marks 64 false)))

pub mark_from : (indices : List ℕ) → mark_all (replicate 65 false) indices ≡ marked_with indices
unfolding marked_with
mark_from indices = refl

-- what is left of a list when one index is marked
pub mark_next : (indices : List ℕ) (marks : List Bool) (i : ℕ) → i < length indices → mark_all marks (drop i indices) ≡ mark_all (set marks (get_or indices i 0) true) (drop (i + 1) indices)
mark_next indices marks i h = rw (drop-cons indices i 0 h, add-one i) refl

pub mark_done : (indices : List ℕ) (marks : List Bool) (i : ℕ) → length indices ≤ i → mark_all marks (drop i indices) ≡ marks
mark_done indices marks i h = rw (drop_of_length-le indices h) refl

pub small_next : (indices : List ℕ) (i : ℕ) → i < length indices → Small (drop i indices) → (get_or indices i 0 < 64) × Small (drop (i + 1) indices)
small_next indices i h e =
    let k = of_and (ltb (get_or indices i 0) 64) (every (λ y. ltb y 64) (drop (suc i) indices)) (T_of _ (rw (drop-cons indices i 0 h) at e)) in
    (ltb-true (get_or indices i 0) 64 (on _ k.0), rw (add-one i) (on _ k.1))
