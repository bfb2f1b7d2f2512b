-- The comparison under a renaming, as a walk of two parts sees it. As long as the two agree their nodes stand at the same places, and what is
-- compared before a node is what is compared behind it; a difference at the node decides.
use mathlib.Core.Path.{◌≡◌, refl, sym, ap, ap₂, ◌∙◌}
use Prim.Native.Nat.{ℕ, zero, suc, ◌+◌, ◌-◌, ◌/◌, ◌%◌, ◌≤◌, ◌<◌}
use native.Mathlib.Numerals.{add-one}
use native.Mathlib.Omega.{arith}
use mathlib.Core.Bool.{Bool, true, false, ◌&&◌, cond, and-false, and-true, and_assoc}
use mathlib.Core.List.{List, [], ◌∷◌}
use lib.Dec.{eqb, ltb}
use lib.ListN.{length, drop, get_or}
use borrow.Author.Tests.{lt-ltb, le-ltb, ltb-true, ltb-false, eq-eqb, ne_eqb, eqb-true, eqb-false}
use Rattle.documents.specs.Terms.{Sort, Tm, Var, Sym, Meta, Abst, Nil, Cons, Term, Terms, len, rename}
use Rattle.documents.specs.Tables.{nodes}
use Rattle.documents.specs.Instructions.{pairs_in}
use Rattle.documents.specs.Machine.{is_var, equal, renaming, equal_under}
use Rattle.documents.proofs.Lists.{never, both_true}
use Rattle.documents.proofs.Substitution.{rename_ext, rename_id}
use Rattle.documents.proofs.Paper.{equal_is}
use Rattle.tables.specs.Parts.{terms, front, Begins, word_count}
use Rattle.std.specs.Prelude.{Some, None}
use denote.Ref.{Bor}
use Rattle.tables.specs.declared.walk.Node.{Node}
use Rattle.tables.specs.declared.walk.Nodes.{Nodes}
use Rattle.tables.specs.Nodes.{starts, goes_past, node_gives}
use Rattle.tables.specs.Compared.{same_variable, compared}
use Rattle.tables.proofs.Parts.{join, headed, Shape, Step, step, front_term, from, from_drop}
use Rattle.tables.proofs.Nodes.{word_there, count_there, whole_on, owed_on}
use Rattle.tables.proofs.Walks.{at_variable, at_abstraction, Walk, walk_body, body_falls, body_room, ended, Walking, walking_from, walking_on, walking_variable, walking_abstraction, walking_ended, walked_words, walked_stopped, is_words, is_stopped}

module _ (ps : List (ℕ × ℕ)) (D : ℕ) where
  -- ---- Terms that agree, and terms that do not

  equal_nodes : {s : Sort} (j : ℕ) (t u : Tm s) → equal_under ps D j t u ≡ true → nodes t ≡ nodes u
  equal_nodes j (Var x) (Var y) e = refl
  equal_nodes j (Var x) (Sym s us) e = never (cc)
  equal_nodes j (Var x) (Meta z us) e = never (cc)
  equal_nodes j (Var x) (Abst u) e = never (cc)
  equal_nodes j (Sym s ts) (Var y) e = never (cc)
  equal_nodes j (Sym s ts) (Sym r us) e = ap suc (equal_nodes j ts us (both_true (eqb s r) _ e).1)
  equal_nodes j (Sym s ts) (Meta z us) e = never (cc)
  equal_nodes j (Sym s ts) (Abst u) e = never (cc)
  equal_nodes j (Meta z ts) (Var y) e = never (cc)
  equal_nodes j (Meta z ts) (Sym r us) e = never (cc)
  equal_nodes j (Meta z ts) (Meta r us) e = ap suc (equal_nodes j ts us (both_true (eqb z r) _ e).1)
  equal_nodes j (Meta z ts) (Abst u) e = never (cc)
  equal_nodes j (Abst t) (Var y) e = never (cc)
  equal_nodes j (Abst t) (Sym r us) e = never (cc)
  equal_nodes j (Abst t) (Meta z us) e = never (cc)
  equal_nodes j (Abst t) (Abst u) e = ap suc (equal_nodes (suc j) t u e)
  equal_nodes j Nil Nil e = refl
  equal_nodes j Nil (Cons u us) e = never (cc)
  equal_nodes j (Cons t ts) Nil e = never (cc)
  equal_nodes j (Cons t ts) (Cons u us) e =
      let p = both_true (equal_under ps D j t u) _ e in
      ap₂ ◌+◌ (equal_nodes j t u p.0) (equal_nodes j ts us p.1)

  equal_join : (j : ℕ) (ts us xs ys : Terms) → len ts ≡ len us
      → equal_under ps D j (join ts xs) (join us ys) ≡ equal_under ps D j ts us && equal_under ps D j xs ys
  equal_join j Nil Nil xs ys l = refl
  equal_join j Nil (Cons u us) xs ys l = absurd (omega arith)
  equal_join j (Cons t ts) Nil xs ys l = absurd (omega arith)
  equal_join j (Cons t ts) (Cons u us) xs ys l =
      rw (equal_join j ts us xs ys (omega arith)) (sym (and_assoc (equal_under ps D j t u) (equal_under ps D j ts us) (equal_under ps D j xs ys)))

  unequal_length : (j : ℕ) (ts us : Terms) → ((len ts ≡ len us) → ⊥) → equal_under ps D j ts us ≡ false
  unequal_length j Nil Nil h = absurd (h refl)
  unequal_length j Nil (Cons u us) h = refl
  unequal_length j (Cons t ts) Nil h = refl
  unequal_length j (Cons t ts) (Cons u us) h = rw (unequal_length j ts us (λ e. h (ap suc e))) (and-false (equal_under ps D j t u))

  -- two nodes of which the first is no variable
  unequal_applied : (j s r : ℕ) (ts us : Terms) → ((s ≡ r) → (len ts ≡ len us) → ⊥) → eqb s r && equal_under ps D j ts us ≡ false
  unequal_applied j s r ts us h = go (eqb s r) (eqb-true s r)
    where
      go : (q : Bool) → (q ≡ true → s ≡ r) → q && equal_under ps D j ts us ≡ false
      go true f = unequal_length j ts us (h (f refl))
      go false f = refl

  unequal_heads : (j k s l r : ℕ) (ts us : Terms) → 0 < k → Shape k s ts → Shape l r us → ((k ≡ l) → (s ≡ r) → (len ts ≡ len us) → ⊥)
      → equal_under ps D j (headed k s ts) (headed l r us) ≡ false
  unequal_heads j zero s l r ts us z p q h = absurd (omega arith)
  unequal_heads j (suc zero) s zero r ts us z p q h = refl
  unequal_heads j (suc zero) s (suc zero) r ts us z p q h = unequal_applied j s r ts us (h refl)
  unequal_heads j (suc zero) s (suc (suc zero)) r ts us z p q h = refl
  unequal_heads j (suc zero) s (suc (suc (suc l))) r ts us z p q h = refl
  unequal_heads j (suc (suc zero)) s zero r ts us z p q h = refl
  unequal_heads j (suc (suc zero)) s (suc zero) r ts us z p q h = refl
  unequal_heads j (suc (suc zero)) s (suc (suc zero)) r ts us z p q h = unequal_applied j s r ts us (h refl)
  unequal_heads j (suc (suc zero)) s (suc (suc (suc l))) r ts us z p q h = refl
  unequal_heads j (suc (suc (suc zero))) s zero r ts us z p q h = refl
  unequal_heads j (suc (suc (suc zero))) s (suc zero) r ts us z p q h = refl
  unequal_heads j (suc (suc (suc zero))) s (suc (suc zero)) r ts us z p q h = refl
  unequal_heads j (suc (suc (suc zero))) s (suc (suc (suc zero))) r ts us z p q h =
      absurd (h refl (p.0 ∙ sym q.0) (ap len p.1 ∙ sym (ap len q.1)))
  unequal_heads j (suc (suc (suc zero))) s (suc (suc (suc (suc l)))) r ts us z p q h = absurd q
  unequal_heads j (suc (suc (suc (suc k)))) s l r ts us z p q h = absurd p

  -- two terms that begin with the same symbol or metavariable
  equal_applied : {k s c l r d : ℕ} {ts us xs ys : Terms} (j : ℕ) → Step k s c ts us → Step l r d xs ys → k ≡ l → s ≡ r → c ≡ d → 0 < k → ((k ≡ 3) → ⊥)
      → equal_under ps D j ts xs ≡ equal_under ps D j us ys
  equal_applied {k = zero} j p q e f g z n = absurd (omega arith)
  equal_applied {k = suc zero} {s} {c} {l = suc zero} {r} j p q e f g z n =
      rw (p.node, q.node, p.inside, q.inside, equal_join j p.arguments q.arguments p.later q.later (p.count ∙ g ∙ sym q.count), f, eq-eqb r r refl) refl
  equal_applied {k = suc (suc zero)} {s} {c} {l = suc (suc zero)} {r} j p q e f g z n =
      rw (p.node, q.node, p.inside, q.inside, equal_join j p.arguments q.arguments p.later q.later (p.count ∙ g ∙ sym q.count), f, eq-eqb r r refl) refl
  equal_applied {k = suc (suc (suc zero))} j p q e f g z n = absurd (n refl)
  equal_applied {k = suc (suc (suc (suc k)))} j p q e f g z n = absurd p.shape
  equal_applied {k = suc zero} {l = zero} j p q e f g z n = absurd (omega arith)
  equal_applied {k = suc zero} {l = suc (suc l)} j p q e f g z n = absurd (omega arith)
  equal_applied {k = suc (suc zero)} {l = zero} j p q e f g z n = absurd (omega arith)
  equal_applied {k = suc (suc zero)} {l = suc zero} j p q e f g z n = absurd (omega arith)
  equal_applied {k = suc (suc zero)} {l = suc (suc (suc l))} j p q e f g z n = absurd (omega arith)

  -- ---- In the code's form: place a of two tables, with n terms beginning there in both

  module _ {t u : List ℕ} {a n : ℕ} (w : Walk t a n) (v : Walk u a n) (h : 0 < n) (j : ℕ) where
    -- a variable, and the word that should be its
    compare_variable : get_or t a 0 < 65536 → get_or u a 0 < 65536
        → equal_under ps D j (terms n (drop a t)) (terms n (drop a u))
        ≡ same_variable ps D j (get_or t a 0) (get_or u a 0) && equal_under ps D j (terms (n - 1) (drop (a + 2) t)) (terms (n - 1) (drop (a + 2) u))
    unfolding same_variable
    compare_variable x y =
        rw ((at_variable t a n w.begins h x).terms_are, (at_variable u a n v.begins h y).terms_are, lt-ltb (get_or u a 0) 65536 y) refl

    same_is_variable : same_variable ps D j (get_or t a 0) (get_or u a 0) ≡ true → get_or u a 0 < 65536
    unfolding same_variable
    same_is_variable e = ltb-true (get_or u a 0) 65536 (both_true (ltb (get_or u a 0) 65536) _ e).0

    same_variable_lem : get_or t a 0 < 65536 → same_variable ps D j (get_or t a 0) (get_or u a 0) ≡ true
        → (get_or u a 0 < 65536)
        × (equal_under ps D j (terms n (drop a t)) (terms n (drop a u))
        ≡ equal_under ps D j (terms (n - 1) (drop (a + 2) t)) (terms (n - 1) (drop (a + 2) u)))
    same_variable_lem x e = (same_is_variable e, rw e at (compare_variable x (same_is_variable e)))

    -- what is no variable is not one renamed
    no_variable : get_or t a 0 < 65536 → 65536 ≤ get_or u a 0 → equal_under ps D j (terms n (drop a t)) (terms n (drop a u)) ≡ false
    no_variable x y =
        let p = step u a n v.begins h in
        rw ((at_variable t a n w.begins h x).terms_are, p.node, other (get_or u a 0 / 65536) (get_or u a 0 % 65536) p.arguments (omega arith)) refl
      where
        other : (k s : ℕ) (ts : Terms) → 0 < k → is_var (cond (ltb (get_or t a 0) j) (get_or t a 0) (renaming ps D (get_or t a 0 - j) + j)) (headed k s ts) ≡ false
        other zero s ts z = absurd (omega arith)
        other (suc zero) s ts z = refl
        other (suc (suc zero)) s ts z = refl
        other (suc (suc (suc k))) s ts z = refl

    other_variable : get_or t a 0 < 65536 → same_variable ps D j (get_or t a 0) (get_or u a 0) ≡ false → equal_under ps D j (terms n (drop a t)) (terms n (drop a u)) ≡ false
    other_variable x e = go (ltb (get_or u a 0) 65536) refl
      where
        go : (q : Bool) → ltb (get_or u a 0) 65536 ≡ q → equal_under ps D j (terms n (drop a t)) (terms n (drop a u)) ≡ false
        go true q = rw e at (compare_variable x (ltb-true (get_or u a 0) 65536 q))
        go false q = no_variable x (ltb-false (get_or u a 0) 65536 q)

    -- another node than the first, which is no variable
    other_node : 65536 ≤ get_or t a 0 → ((get_or t a 0 ≡ get_or u a 0) → (get_or t (a + 1) 0 ≡ get_or u (a + 1) 0) → ⊥)
        → equal_under ps D j (terms n (drop a t)) (terms n (drop a u)) ≡ false
    other_node x d =
        let p = step t a n w.begins h in
        let q = step u a n v.begins h in
        rw (
          p.node,
          q.node,
          unequal_heads j (get_or t a 0 / 65536) (get_or t a 0 % 65536) (get_or u a 0 / 65536) (get_or u a 0 % 65536) p.arguments q.arguments (omega arith) p.shape q.shape
              (λ k s l. d (omega arith) (sym p.count ∙ l ∙ q.count)),
        ) refl

    other_word : 65536 ≤ get_or t a 0 → ((get_or u a 0 ≡ get_or t a 0) → ⊥) → equal_under ps D j (terms n (drop a t)) (terms n (drop a u)) ≡ false
    other_word x d = other_node x (λ e l. d (sym e))

    other_count : 65536 ≤ get_or t a 0 → ((get_or u (a + 1) 0 ≡ get_or t (a + 1) 0) → ⊥) → equal_under ps D j (terms n (drop a t)) (terms n (drop a u)) ≡ false
    other_count x d = other_node x (λ e l. d (sym l))

    same_applied : 65536 ≤ get_or t a 0 → ((get_or t a 0 ≡ 196608) → ⊥) → get_or u a 0 ≡ get_or t a 0 → get_or u (a + 1) 0 ≡ get_or t (a + 1) 0
        → equal_under ps D j (terms n (drop a t)) (terms n (drop a u))
        ≡ equal_under ps D j (terms (n - 1 + get_or t (a + 1) 0) (drop (a + 2) t)) (terms (n - 1 + get_or u (a + 1) 0) (drop (a + 2) u))
    same_applied x y e f =
        let p = step t a n w.begins h in
        equal_applied j p (step u a n v.begins h) (omega arith) (omega arith) (sym f) (omega arith) (no_abstraction (get_or t a 0) p refl refl y)
      where
        no_abstraction : {k s c : ℕ} {ts us : Terms} (x : ℕ) → Step k s c ts us → x / 65536 ≡ k → x % 65536 ≡ s → ((x ≡ 196608) → ⊥) → (k ≡ 3) → ⊥
        no_abstraction {k = zero} x p e f g z = omega arith
        no_abstraction {k = suc zero} x p e f g z = omega arith
        no_abstraction {k = suc (suc zero)} x p e f g z = omega arith
        no_abstraction {k = suc (suc (suc zero))} x p e f g z = let s = p.shape.0 in g (omega arith)
        no_abstraction {k = suc (suc (suc (suc k)))} x p e f g z = p.shape

    compare_abstraction : get_or t a 0 ≡ 196608 → get_or u a 0 ≡ 196608
        → equal_under ps D j (terms n (drop a t)) (terms n (drop a u))
        ≡ equal_under ps D (j + 1) (front (drop (a + 2) t)) (front (drop (a + 2) u))
        && equal_under ps D j (terms (n - 1) (drop (a + 2 + word_count (front (drop (a + 2) t))) t)) (terms (n - 1) (drop (a + 2 + word_count (front (drop (a + 2) u))) u))
    compare_abstraction x y = rw ((at_abstraction t a n w.begins h x).terms_are, (at_abstraction u a n v.begins h y).terms_are, add-one j) refl

    -- the bodies agree, so they are equally long
    same_body : get_or t a 0 ≡ 196608 → get_or u a 0 ≡ 196608 → equal_under ps D (j + 1) (front (drop (a + 2) t)) (front (drop (a + 2) u)) ≡ true
        → (word_count (front (drop (a + 2) u)) ≡ word_count (front (drop (a + 2) t)))
        × (equal_under ps D j (terms n (drop a t)) (terms n (drop a u))
        ≡ equal_under ps D j (terms (n - 1) (drop (a + 2 + word_count (front (drop (a + 2) t))) t)) (terms (n - 1) (drop (a + 2 + word_count (front (drop (a + 2) u))) u)))
    same_body x y e = (let k = equal_nodes (j + 1) (front (drop (a + 2) t)) (front (drop (a + 2) u)) e in omega arith, rw e at (compare_abstraction x y))

    other_body : get_or t a 0 ≡ 196608 → get_or u a 0 ≡ 196608 → equal_under ps D (j + 1) (front (drop (a + 2) t)) (front (drop (a + 2) u)) ≡ false
        → equal_under ps D j (terms n (drop a t)) (terms n (drop a u)) ≡ false
    other_body x y e = rw e at (compare_abstraction x y)

  compare_front : {t u : List ℕ} (j : ℕ) → Begins 1 t → Begins 1 u → equal_under ps D j (terms 1 t) (terms 1 u) ≡ equal_under ps D j (front t) (front u)
  compare_front {t} {u} j b d = rw (front_term t b, front_term u d) (and-true (equal_under ps D j (front t) (front u)))

-- ---- A walk that compares the subterms that two parts begin with

-- It stands at the same place of both and owes as many terms; whether those agree is what was asked of the subterms.
pub record Comparing (pairs : List ℕ) (D j : ℕ) (old new : List ℕ) (owed at : ℕ) : Type 0 where
  pub walk : Walking old owed at
  pub other : Walking new owed at
  pub same : equal_under (pairs_in pairs) D j (terms owed (drop at old)) (terms owed (drop at new)) ≡ equal_under (pairs_in pairs) D j (front old) (front new)

pub comparing_from : {pairs : List ℕ} {D j : ℕ} {old new : List ℕ} → Begins 1 old → Begins 1 new → Comparing pairs D j old new 1 0
comparing_from {pairs} {D} {j} b d = record { walk = walking_from b; other = walking_from d; same = compare_front (pairs_in pairs) D j b d }

pub comparing_ended : {pairs : List ℕ} {D j : ℕ} {old new : List ℕ} {owed at : ℕ} → Comparing pairs D j old new owed at → owed ≤ 0
    → Some at ≡ compared pairs D j (front old) (front new)
comparing_ended {old = old} {at = at} c h =
    is_words _ (front old) at (sym (rw (ended c.walk.walk h, ended c.other.walk h) at c.same)) (walking_ended c.walk h)

module _ {pairs : List ℕ} {D j : ℕ} {old new : List ℕ} {owed at : ℕ} (c : Comparing pairs D j old new owed at) (h : 0 < owed) where
  -- a difference at the node
  differs : equal_under (pairs_in pairs) D j (terms owed (drop at old)) (terms owed (drop at new)) ≡ false → None ≡ compared pairs D j (front old) (front new)
  differs e = is_stopped _ (front old) (sym c.same ∙ e)

  pub comparing_variable : get_or old at 0 < 65536 → same_variable (pairs_in pairs) D j (get_or old at 0) (get_or new at 0) ≡ true
      → Comparing pairs D j old new (owed - 1) (at + 2)
  comparing_variable v e =
      let p = same_variable_lem (pairs_in pairs) D c.walk.walk c.other.walk h j v e in
      record { walk = walking_variable c.walk h v; other = walking_variable c.other h p.0; same = sym p.1 ∙ c.same }

  pub variable_differs : get_or old at 0 < 65536 → same_variable (pairs_in pairs) D j (get_or old at 0) (get_or new at 0) ≡ false
      → None ≡ compared pairs D j (front old) (front new)
  variable_differs v e = differs (other_variable (pairs_in pairs) D c.walk.walk c.other.walk h j v e)

  pub word_differs : 65536 ≤ get_or old at 0 → ((get_or new at 0 ≡ get_or old at 0) → ⊥) → None ≡ compared pairs D j (front old) (front new)
  word_differs v e = differs (other_word (pairs_in pairs) D c.walk.walk c.other.walk h j v e)

  pub count_differs : 65536 ≤ get_or old at 0 → ((get_or new (at + 1) 0 ≡ get_or old (at + 1) 0) → ⊥) → None ≡ compared pairs D j (front old) (front new)
  count_differs v e = differs (other_count (pairs_in pairs) D c.walk.walk c.other.walk h j v e)

  pub comparing_applied : 65536 ≤ get_or old at 0 → ((get_or old at 0 ≡ 196608) → ⊥) → get_or new at 0 ≡ get_or old at 0 → get_or new (at + 1) 0 ≡ get_or old (at + 1) 0
      → Comparing pairs D j old new (owed - 1 + get_or old (at + 1) 0) (at + 2)
  comparing_applied v n e f = record {
    walk = walking_on c.walk h;
    other = rw f at (walking_on c.other h);
    same = sym (rw f at (same_applied (pairs_in pairs) D c.walk.walk c.other.walk h j v n e f)) ∙ c.same;
  }

  -- an abstraction in both: the bodies are parts of their own
  pub bodies : get_or old at 0 ≡ 196608 → get_or new at 0 ≡ get_or old at 0 → Begins 1 (from (at + 2) old) × Begins 1 (from (at + 2) new)
  bodies v w = (walk_body c.walk.walk h v, walk_body c.other.walk h (w ∙ v))

  pub comparing_body : (n : ℕ) → get_or old at 0 ≡ 196608 → get_or new at 0 ≡ get_or old at 0 → Some n ≡ compared pairs D (j + 1) (front (from (at + 2) old)) (front (from (at + 2) new))
      → Comparing pairs D j old new (owed - 1) (at + (2 + n))
  comparing_body n v w e =
      let body = front (drop (at + 2) old) in
      let d = walked_words (equal_under (pairs_in pairs) D (j + 1) body (front (drop (at + 2) new))) body n (rw (from_drop (at + 2) old, from_drop (at + 2) new) at e) in
      let g = same_body (pairs_in pairs) D c.walk.walk c.other.walk h j v (w ∙ v) d.0 in
      let k : at + (2 + n) ≡ at + 2 + word_count body = let q = d.1 in omega arith in
      rw k (record {
        walk = walking_abstraction c.walk h v;
        other = rw g.0 at (walking_abstraction c.other h (w ∙ v));
        same = sym (rw g.0 at g.1) ∙ c.same;
      })

  pub body_differs : get_or old at 0 ≡ 196608 → get_or new at 0 ≡ get_or old at 0 → None ≡ compared pairs D (j + 1) (front (from (at + 2) old)) (front (from (at + 2) new))
      → None ≡ compared pairs D j (front old) (front new)
  body_differs v w e =
      differs
      (other_body (pairs_in pairs) D c.walk.walk c.other.walk h j v (w ∙ v)
      (walked_stopped _ (front (drop (at + 2) old)) (rw (from_drop (at + 2) old, from_drop (at + 2) new) at e)))

-- ---- The same, where the places are those of a walk of the old part

pub record Abreast (pairs : List ℕ) (D j : ℕ) (old new : List ℕ) (s : Nodes) : Type 0 where
  pub whole : s.part.now ≡ old
  pub both : Comparing pairs D j old new s.owed s.at

pub abreast_from : {pairs : List ℕ} {D j : ℕ} {old new : List ℕ} (s : Nodes) → Begins 1 old → Begins 1 new → starts old s → Abreast pairs D j old new s
abreast_from s b d h = record { whole = h.0; both = rw (h.1, h.2) (comparing_from b d) }

pub abreast_ended : {pairs : List ℕ} {D j : ℕ} {old new : List ℕ} (s t : Nodes) → Abreast pairs D j old new s → node_gives s None t
    → Some t.at ≡ compared pairs D j (front old) (front new)
abreast_ended s t c g = ap (λ (z : Nodes). Some z.at) g.1.1 ∙ comparing_ended c.both (omega arith)

-- a step that gave a node: it stood before place b
module _ {pairs : List ℕ} {D j : ℕ} {old new : List ℕ} (s t : Nodes) (n : Node) (c : Abreast pairs D j old new s) (g : node_gives s (Some n) t) (b : ℕ) (e : b ≡ t.at) where
  word : n.word ≡ get_or old s.at 0
  word = word_there s t n c.whole c.both.walk.walk g

  count : n.count ≡ get_or old (s.at + 1) 0
  count = count_there s t n c.whole c.both.walk.walk g

  place : b ≡ s.at + 2
  place = let k = g.1.4 in omega arith

  first : b - 2 ≡ s.at
  first = let k = g.1.4 in omega arith

  second : b - 1 ≡ s.at + 1
  second = let k = g.1.4 in omega arith

  inside : n.behind.now ≡ from (s.at + 2) old
  inside = g.1.3 ∙ ap (λ (p : List ℕ). drop (s.at + 2) p) c.whole ∙ sym (from_drop (s.at + 2) old)

  pub abreast_room : (2 ≤ b) × (b ≤ length new)
  abreast_room = let k = place in let w = c.both.other.walk.within in let h = g.1.0 in (omega arith, omega arith)

  pub variable_apart : n.word < 65536 → same_variable (pairs_in pairs) D j n.word (get_or new (b - 2) 0) ≡ false → None ≡ compared pairs D j (front old) (front new)
  variable_apart v d = variable_differs c.both g.1.0 (rw word at v) (rw (word, first) at d)

  pub variable_abreast : n.word < 65536 → same_variable (pairs_in pairs) D j n.word (get_or new (b - 2) 0) ≡ true → Abreast pairs D j old new t
  variable_abreast v d = record {
    whole = whole_on s t n c.whole c.both.walk.walk g;
    both =
        let l = (at_variable old s.at s.owed c.both.walk.walk.begins g.1.0 (rw word at v)).leaf in
        let o : t.owed ≡ s.owed - 1 = let k = g.1.5 in let m = count in omega arith in
        rw (g.1.4, o) (comparing_variable c.both g.1.0 (rw word at v) (rw (word, first) at d));
  }

  pub word_apart : 65536 ≤ n.word → ((get_or new (b - 2) 0 ≡ n.word) → ⊥) → None ≡ compared pairs D j (front old) (front new)
  word_apart v d = word_differs c.both g.1.0 (rw word at v) (rw (word, first) at d)

  pub count_apart : 65536 ≤ n.word → ((get_or new (b - 1) 0 ≡ n.count) → ⊥) → None ≡ compared pairs D j (front old) (front new)
  count_apart v d = count_differs c.both g.1.0 (rw word at v) (rw (count, second) at d)

  pub applied_abreast : 65536 ≤ n.word → ((n.word ≡ 196608) → ⊥) → get_or new (b - 2) 0 ≡ n.word → get_or new (b - 1) 0 ≡ n.count → Abreast pairs D j old new t
  applied_abreast v d f k = record {
    whole = whole_on s t n c.whole c.both.walk.walk g;
    both =
        rw (g.1.4, owed_on s t n c.whole c.both.walk.walk g)
        (comparing_applied c.both g.1.0 (rw word at v) (rw word at d) (rw (word, first) at f) (rw (count, second) at k));
  }

  -- an abstraction in both
  module _ (v : n.word ≡ 196608) (f : get_or new (b - 2) 0 ≡ n.word) where
    here : get_or old s.at 0 ≡ 196608
    here = sym word ∙ v

    there : get_or new s.at 0 ≡ get_or old s.at 0
    there = rw (word, first) at f

    pub bodies_begin : Begins 1 n.behind.now × Begins 1 (from b new)
    bodies_begin = rw (inside, place) (bodies c.both g.1.0 here there)

    pub bodies_fall : {m : ℕ} → length old ≡ m → length n.behind.now < m
    bodies_fall k = rw inside (body_falls c.both.walk.walk g.1.0 k)

    pub bodies_room : {m : ℕ} → j + length old < m → j + 1 + length n.behind.now < m
    bodies_room k = rw inside (body_room c.both.walk.walk g.1.0 j (j + 1) k (omega arith))

    pub bodies_apart : None ≡ compared pairs D (j + 1) (front n.behind.now) (front (from b new)) → None ≡ compared pairs D j (front old) (front new)
    bodies_apart d = body_differs c.both g.1.0 here there (rw (inside, place) at d)

    module _ (m : ℕ) (d : Some m ≡ compared pairs D (j + 1) (front n.behind.now) (front (from b new))) where
      behind : Comparing pairs D j old new (s.owed - 1) (s.at + (2 + m))
      behind = comparing_body c.both g.1.0 m here there (rw (inside, place) at d)

      one : n.count ≡ 1
      one = count ∙ (at_abstraction old s.at s.owed c.both.walk.walk.begins g.1.0 here).one

      pub bodies_pass : (1 ≤ t.owed) × (t.at + m ≤ length t.part.now)
      bodies_pass =
          let w = behind.walk.walk.within in
          let l = ap (λ (p : List ℕ). length p) (whole_on s t n c.whole c.both.walk.walk g) in
          let a = g.1.4 in
          let o = g.1.5 in
          let k = one in
          (omega arith, omega arith)

      pub bodies_abreast : (u : Nodes) → goes_past t 1 m u → Abreast pairs D j old new u
      bodies_abreast u p =
          let o : u.owed ≡ s.owed - 1 = let q = g.1.5 in let k = one in let x = p.2 in omega arith in
          let i : u.at ≡ s.at + (2 + m) = let q = g.1.4 in let x = p.1 in omega arith in
          record {
            whole = ap (λ (p : Bor (List ℕ)). p.now) p.0 ∙ whole_on s t n c.whole c.both.walk.walk g;
            both = rw (o, i) behind;
          }

-- ---- A free variable's new index: the first pair, and those behind it

module _ (D y : ℕ) where
  module _ (a b : ℕ) (ps : List (ℕ × ℕ)) where
    pub pair_found : a ≡ y → renaming ((a, b) ∷ ps) D y ≡ b
    pair_found e = rw (eq-eqb a y e) refl

    pub pair_passed : ((a ≡ y) → ⊥) → renaming ((a, b) ∷ ps) D y ≡ renaming ps D y
    pair_passed e = rw (ne_eqb a y e) refl

  pub no_pair : renaming [] D y ≡ y + D - 64
  no_pair = refl

-- ---- A variable's word and another

module _ (ps : List (ℕ × ℕ)) (D j w v : ℕ) where
  pub same_outside : 65536 ≤ v → false ≡ same_variable ps D j w v
  unfolding same_variable
  same_outside h = rw (le-ltb v 65536 h) refl

  pub same_bound : v < 65536 → w < j → eqb w v ≡ same_variable ps D j w v
  unfolding same_variable
  same_bound h k = rw (lt-ltb v 65536 h, lt-ltb w j k) refl

  pub same_captured : v < 65536 → j ≤ w → v < j → false ≡ same_variable ps D j w v
  unfolding same_variable
  same_captured h k l = rw (lt-ltb v 65536 h, le-ltb w j k, ne_eqb (renaming ps D (w - j) + j) v (λ e. omega arith)) refl

  pub same_free : v < 65536 → j ≤ w → j ≤ v → eqb (renaming ps D (w - j)) (v - j) ≡ same_variable ps D j w v
  unfolding same_variable
  same_free h k l = rw (lt-ltb v 65536 h, le-ltb w j k) (moved (renaming ps D (w - j)))
    where
      moved : (x : ℕ) → eqb x (v - j) ≡ eqb (x + j) v
      moved x = go (eqb x (v - j)) refl
        where
          go : (q : Bool) → eqb x (v - j) ≡ q → q ≡ eqb (x + j) v
          go true e = sym (eq-eqb (x + j) v (let z = eqb-true x (v - j) e in omega arith))
          go false e = sym (ne_eqb (x + j) v (λ z. eqb-false x (v - j) e (omega arith)))

-- ---- The whole comparison

-- above all abstractions it is that of the renamed term
pub compare_whole : (ps : List (ℕ × ℕ)) (D : ℕ) (t u : Term) → equal_under ps D 0 t u ≡ equal (rename (renaming ps D) t) u
compare_whole ps D t u = ap (λ (f : Term → Bool). f u) (equal_is ps D 0 t)

-- without pairs, and with d = 0, nothing is renamed
pub not_renamed : (t : Term) → rename (renaming [] 64) t ≡ t
not_renamed t = rename_ext (renaming [] 64) (λ y. y) t (λ y. omega arith) ∙ rename_id t
