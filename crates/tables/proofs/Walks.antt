-- What a walk sees at a node, in the code's form: places of a whole table and tests of the node's first word. A variable, an abstraction, or a
-- symbol or metavariable with arguments; then for each thing that is asked of terms, what it is before the node and behind it.
use mathlib.Core.Path.{◌≡◌, refl, sym, ap, ap₂, ◌∙◌}
use Prim.Native.Nat.{ℕ, zero, suc, ◌+◌, ◌-◌, ◌*◌, ◌/◌, ◌%◌, ◌≤◌, ◌<◌}
use native.Mathlib.Nat.{zero-add}
use native.Mathlib.Omega.{arith}
use mathlib.Core.Bool.{Bool, true, false}
use mathlib.Core.List.{List}
use lib.ListN.{length, drop, get_or, length-drop}
use lib.Seq.{drop-drop}
use Rattle.documents.specs.Terms.{Sort, Tm, Var, Abst, Nil, Cons, Term, Terms, len}
use Rattle.documents.specs.Tables.{nodes}
use Rattle.documents.proofs.Lists.{never}
use Rattle.std.specs.Prelude
use Rattle.std.specs.Prelude.{Some, None}
use Rattle.std.specs.Option.{is_some}
use Rattle.tables.specs.Parts.{terms, front, Begins, word_count, walked}
use Rattle.tables.proofs.Parts.{join, only, headed, Shape, Step, step, begins_inside, begins_less, passed, front_term, words_fit, from, from_drop}

-- ---- A variable

pub record AtVariable (t : List ℕ) (a n : ℕ) : Type 0 where
  pub terms_are : terms n (drop a t) ≡ Cons (Var (get_or t a 0)) (terms (n - 1) (drop (a + 2) t))
  pub begins : Begins (n - 1) (drop (a + 2) t)
  pub leaf : get_or t (a + 1) 0 ≡ 0

variable_step : {k s c w : ℕ} {ts us : Terms} → Step k s c ts us → w / 65536 ≡ k → w % 65536 ≡ s → w < 65536 → (ts ≡ Cons (Var w) us) × (c ≡ 0)
variable_step {k = zero} {s} {c} {w} {ts} {us} p e f h =
    let q : s ≡ w = omega arith in
    let i : us ≡ p.later = p.inside ∙ ap (λ (x : Terms). join x p.later) p.shape in
    (p.node ∙ rw (q, i) refl, sym p.count ∙ ap len p.shape)
variable_step {k = suc k} p e f h = absurd (omega arith)

pub at_variable : (t : List ℕ) (a n : ℕ) → Begins n (drop a t) → 0 < n → get_or t a 0 < 65536 → AtVariable t a n
at_variable t a n b h v =
    let p = variable_step (step t a n b h) refl refl v in
    let e : n - 1 + get_or t (a + 1) 0 ≡ n - 1 = rw p.1 (omega arith) in
    record { terms_are = rw e at p.0; begins = rw e at (begins_inside t a n b h); leaf = p.1 }

-- ---- An abstraction

pub record AtAbstraction (t : List ℕ) (a n : ℕ) : Type 0 where
  pub terms_are : terms n (drop a t) ≡ Cons (Abst (front (drop (a + 2) t))) (terms (n - 1) (drop (a + 2 + word_count (front (drop (a + 2) t))) t))
  pub body : Begins 1 (drop (a + 2) t)
  pub one : get_or t (a + 1) 0 ≡ 1
  pub begins : Begins (n - 1) (drop (a + 2 + word_count (front (drop (a + 2) t))) t)

abstraction_step : {k s c w : ℕ} {ts us : Terms} → Step k s c ts us → w / 65536 ≡ k → w ≡ 196608
    → (u : Term) × (l : Terms) × (ts ≡ Cons (Abst u) l) × (us ≡ Cons u l) × (c ≡ 1)
abstraction_step {k = zero} p e f = absurd (omega arith)
abstraction_step {k = suc zero} p e f = absurd (omega arith)
abstraction_step {k = suc (suc zero)} p e f = absurd (omega arith)
abstraction_step {k = suc (suc (suc zero))} p e f =
    (only p.arguments, p.later, p.node, p.inside ∙ ap (λ (x : Terms). join x p.later) p.shape.1, sym p.count ∙ ap len p.shape.1)
abstraction_step {k = suc (suc (suc (suc k)))} p e f = absurd p.shape

pub at_abstraction : (t : List ℕ) (a n : ℕ) → Begins n (drop a t) → 0 < n → get_or t a 0 ≡ 196608 → AtAbstraction t a n
at_abstraction t a n b h v =
    let p = abstraction_step (step t a n b h) refl v in
    let e : n - 1 + get_or t (a + 1) 0 ≡ n = rw p.4 (omega arith) in
    let i = rw e at (begins_inside t a n b h) in
    let q = passed n (drop (a + 2) t) i h in
    let w = drop-drop (word_count (front (drop (a + 2) t))) (a + 2) t in
    let l : Cons p.0 p.1 ≡ Cons (front (drop (a + 2) t)) (terms (n - 1) (drop (word_count (front (drop (a + 2) t))) (drop (a + 2) t))) = sym p.3 ∙ rw (ap (λ (m : ℕ). terms m (drop (a + 2) t)) e) q.terms_are in
    let x : p.0 ≡ front (drop (a + 2) t) = cc in
    let y : p.1 ≡ terms (n - 1) (drop (word_count (front (drop (a + 2) t))) (drop (a + 2) t)) = cc in
    record {
      terms_are = p.2 ∙ ap₂ (λ (u : Term) (z : Terms). Cons (Abst u) z) x (y ∙ ap (terms (n - 1)) w);
      body = begins_less 1 (omega arith) i;
      one = p.4;
      begins = rw w at q.begins;
    }

-- ---- Nodes

nodes_join : (ts us : Terms) → nodes (join ts us) ≡ nodes ts + nodes us
nodes_join Nil us = sym (zero-add (nodes us))
nodes_join (Cons t ts) us = let e = nodes_join ts us in omega arith

nodes_headed : (k s : ℕ) (ts : Terms) → Shape k s ts → nodes (headed k s ts) ≡ 1 + nodes ts
nodes_headed zero s ts h = rw h refl
nodes_headed (suc zero) s ts h = omega arith
nodes_headed (suc (suc zero)) s ts h = omega arith
nodes_headed (suc (suc (suc zero))) s ts h =
    let e : nodes ts ≡ nodes (only ts) + 0 = ap (λ (x : Terms). nodes x) h.1 in
    omega arith
nodes_headed (suc (suc (suc (suc k)))) s ts h = absurd h

-- a node is one more than what stands behind it
pub nodes_step : {k s c : ℕ} {ts us : Terms} → Step k s c ts us → nodes ts ≡ 1 + nodes us
nodes_step {k} {s} {c} {ts} {us} p =
    let e = nodes_headed k s p.arguments p.shape in
    let f = nodes_join p.arguments p.later in
    let g : nodes ts ≡ nodes (headed k s p.arguments) + nodes p.later = ap (λ (x : Terms). nodes x) p.node in
    let h : nodes us ≡ nodes (join p.arguments p.later) = ap (λ (x : Terms). nodes x) p.inside in
    omega arith

-- ---- A walk: where it stands, and how many terms it owes

-- n terms begin at place a of the table, and so have words there
pub record Walk (t : List ℕ) (a n : ℕ) : Type 0 where
  pub begins : Begins n (drop a t)
  pub within : a + 2 * n ≤ length t

pub walk_at : {t : List ℕ} {a n : ℕ} → Begins n (drop a t) → a ≤ length t → Walk t a n
walk_at {t} {a} {n} b h = record {
  begins = b;
  within =
      let r = words_fit n (drop a t) b in
      let e = length-drop a t in
      omega arith;
}

-- a walk of n terms begins where they do
pub walk_from : {n : ℕ} {t : List ℕ} → Begins n t → Walk t 0 n
walk_from b = walk_at b (omega arith)

module _ {t : List ℕ} {a n : ℕ} (w : Walk t a n) (h : 0 < n) where
  -- past a node's words
  pub walk_on : Walk t (a + 2) (n - 1 + get_or t (a + 1) 0)
  walk_on = walk_at (begins_inside t a n w.begins h) (let q = w.within in omega arith)

  pub walk_variable : get_or t a 0 < 65536 → Walk t (a + 2) (n - 1)
  walk_variable v = walk_at (at_variable t a n w.begins h v).begins (let q = w.within in omega arith)

  -- the body of an abstraction is a part of its own, and shorter by more than it is deeper
  pub walk_body : get_or t a 0 ≡ 196608 → Begins 1 (from (a + 2) t)
  walk_body v = rw (from_drop (a + 2) t) (at_abstraction t a n w.begins h v).body

  pub body_falls : {s : ℕ} → length t ≡ s → length (from (a + 2) t) < s
  body_falls e = let q = w.within in rw (from_drop (a + 2) t, length-drop (a + 2) t) (omega arith)

  pub body_room : (j k : ℕ) {s : ℕ} → j + length t < s → k ≤ j + 1 → k + length (from (a + 2) t) < s
  body_room j k r d = let q = w.within in rw (from_drop (a + 2) t, length-drop (a + 2) t) (omega arith)

-- at its end
pub ended : {t : List ℕ} {a n : ℕ} → Walk t a n → n ≤ 0 → terms n (drop a t) ≡ Nil
unfolding terms
ended {n = zero} w h = refl
ended {n = suc n} w h = absurd (omega arith)

-- ---- A walk that counts the words of the subterm that a part begins with

pub record Walking (part : List ℕ) (owed at : ℕ) : Type 0 where
  pub walk : Walk part at owed
  -- with the words of the terms still owed the subterm is whole
  pub ends : at + word_count (terms owed (drop at part)) ≡ word_count (front part)
  pub room : word_count (front part) ≤ length part

pub walking_from : {part : List ℕ} → Begins 1 part → Walking part 1 0
walking_from {part} b =
    let e : nodes (terms 1 part) ≡ nodes (front part) + 0 = ap (λ (x : Terms). nodes x) (front_term part b) in
    record { walk = walk_from b; ends = omega arith; room = let f = words_fit 1 part b in omega arith }

module _ {part : List ℕ} {owed at : ℕ} (w : Walking part owed at) (h : 0 < owed) where
  -- past a node's words
  pub walking_on : Walking part (owed - 1 + get_or part (at + 1) 0) (at + 2)
  walking_on = record {
    walk = walk_on w.walk h;
    ends =
        let e = nodes_step (step part at owed w.walk.begins h) in
        let f = w.ends in
        omega arith;
    room = w.room;
  }

  -- past whole terms, of m nodes
  walking_past : (m next : ℕ) → nodes (terms owed (drop at part)) ≡ m + nodes (terms (owed - 1) (drop next part)) → next ≡ at + 2 * m → Begins (owed - 1) (drop next part)
      → Walking part (owed - 1) next
  walking_past m next e k b = record {
    walk = walk_at b (let f = w.ends in let r = w.room in omega arith);
    ends = let f = w.ends in omega arith;
    room = w.room;
  }

  pub walking_variable : get_or part at 0 < 65536 → Walking part (owed - 1) (at + 2)
  walking_variable v =
      let p = at_variable part at owed w.walk.begins h v in
      walking_past 1 (at + 2) (ap (λ (x : Terms). nodes x) p.terms_are) refl p.begins

  pub walking_abstraction : get_or part at 0 ≡ 196608 → Walking part (owed - 1) (at + 2 + word_count (front (drop (at + 2) part)))
  walking_abstraction v =
      let p = at_abstraction part at owed w.walk.begins h v in
      walking_past (suc (nodes (front (drop (at + 2) part)))) _ (ap (λ (x : Terms). nodes x) p.terms_are) (omega arith) p.begins

  -- past a term
  pub walking_term : Walking part (owed - 1) (at + word_count (front (drop at part)))
  walking_term =
      let p = passed owed (drop at part) w.walk.begins h in
      let d = drop-drop (word_count (front (drop at part))) at part in
      walking_past (nodes (front (drop at part))) _ (rw d at (ap (λ (x : Terms). nodes x) p.terms_are)) refl (rw d at p.begins)

pub walking_ended : {part : List ℕ} {owed at : ℕ} → Walking part owed at → owed ≤ 0 → at ≡ word_count (front part)
walking_ended w h =
    let f = rw (ended w.walk h) at w.ends in
    omega arith

-- ---- What a walk's answer says

module _ {s : Sort} (q : Bool) (ts : Tm s) where
  pub walked_words : (n : ℕ) → Some n ≡ walked q ts → (q ≡ true) × (n ≡ word_count ts)
  walked_words n e = go q e
    where
      go : (q : Bool) → Some n ≡ walked q ts → (q ≡ true) × (n ≡ word_count ts)
      go true e = (refl, cc)
      go false e = never (cc)

  pub walked_stopped : None ≡ walked q ts → q ≡ false
  walked_stopped e = go q e
    where
      go : (q : Bool) → None ≡ walked q ts → q ≡ false
      go true e = never (cc)
      go false e = refl

  -- whether there is one is the test
  pub walked_some : (o : Prelude.Option ℕ) → o ≡ walked q ts → is_some o ≡ q
  walked_some o e = rw e (go q)
    where
      go : (q : Bool) → is_some (walked q ts) ≡ q
      go true = refl
      go false = refl

  pub is_words : (n : ℕ) → q ≡ true → n ≡ word_count ts → Some n ≡ walked q ts
  is_words n e k = rw (e, k) refl

  pub is_stopped : q ≡ false → None ≡ walked q ts
  is_stopped e = rw e refl
