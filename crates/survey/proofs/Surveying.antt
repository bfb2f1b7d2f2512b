-- The walk of a good subject that notes places. A level is a word: the terms owed there x 65,536 + the place of their roots. Levels stand in a list, the
-- innermost first; one without terms is not kept.
use mathlib.Core.Path.{◌≡◌, refl, sym, ap, ◌∙◌}
use Prim.Native.Nat.{ℕ, zero, suc, ◌+◌, ◌-◌, ◌*◌, ◌/◌, ◌%◌, ◌≤◌, ◌<◌, max}
use native.Mathlib.Nat.{add-zero}
use native.Mathlib.Numerals.{add-one}
use native.Mathlib.Omega.{arith}
use mathlib.Core.Bool.{Bool, true, false, ◌&&◌, cond, and-false, and_assoc, and-true}
use mathlib.Core.List.{List, [], ◌∷◌, ◌++◌, append_assoc, append-nil}
use lib.Dec.{eqb, leb, ltb, leb-suc-suc}
use lib.ListN.{length, take, drop, get_or, set, replicate, length-set}
use lib.Seq.{length-take-le, get_or-set_same, take-suc-set}
use borrow.Author.Tests.{leb-true, leb-false, le-leb, lt-leb, lt-ltb, le-ltb, ltb-true, ltb-false, eqb-true, eqb-false, eq-eqb, ne_eqb}
use Rattle.documents.specs.Limits.{plan_limit}
use Rattle.documents.specs.Lists.{is_empty}
use Rattle.documents.specs.Terms.{Nil, Cons, Term, Terms}
use Rattle.documents.specs.Tables.{terms_in, depth}
use Rattle.documents.specs.Rules.{metas}
use Rattle.documents.specs.Numbers.{table_in, subject_in}
use Rattle.documents.proofs.Lists.{never, on, T_of, of_and, leb_max}
use Rattle.std.specs.Prelude.{Ok, Err}
use Rattle.tables.specs.Answers.{sized, is_good, in_layout}
use Rattle.tables.specs.Parts.{held, first_terms, terms, front, Begins}
use Rattle.tables.proofs.Parts.{only, headed, Shape, Opened, opened, front_term, begins_less, no_terms}
use Rattle.tables.proofs.Walks.{Walk, walk_from, walk_on}
use Rattle.tables.proofs.Sides.{metas_front, metas_here, metas_behind}
use Rattle.documents.proofs.Nodes.{depth_positive}
use Rattle.tables.proofs.Accepted.{layout_variable, layout_applied, layout_abstraction, layout_other, holds, good_start, good_node, good_outside, good_more, good_odd, good_end, listed, listed_set, depth_headed, first_arguments, drop_arguments, good_begins, accept_long, accept_bad, accept_deep, accept_good, accepted_table, subject_refused, subject_metavariable, subject_plain}
use Rattle.documents.specs.declared.Refusal.{Refusal}
use Rattle.survey.proofs.Places.{length_places}
use Rattle.survey.specs.Places.{place, places_of, Surveyed, Unfit, goes_in, may_stand, whole_of, below, levels}
use Rattle.documents.specs.declared.Refusal.TheVariants as refusal

-- ---- Levels

abbrev pub owed : ℕ → ℕ
owed w = w / 65536

abbrev pub depth_at : ℕ → ℕ
depth_at w = w % 65536 / 256

abbrev pub under_at : ℕ → ℕ
under_at w = w % 256

abbrev pub owing : List ℕ → ℕ
owing [] = 0
owing (w ∷ ws) = owed w + owing ws

-- the places of the terms that are owed, level by level
abbrev pub places_at : List ℕ → List Term → List ℕ
places_at [] us = []
places_at (w ∷ ws) us = places_of (depth_at w) (under_at w) (first_terms (owed w) us) ++ places_at ws (drop (owed w) us)

-- none of them is deeper than 64
abbrev pub shallow_at : List ℕ → List Term → Bool
shallow_at [] us = true
shallow_at (w ∷ ws) us = leb (depth (first_terms (owed w) us) + depth_at w) 65 && shallow_at ws (drop (owed w) us)

-- each owes a term, and is deeper than there are levels further out and abstractions above it
abbrev pub Ordered : List ℕ → Type 0
Ordered [] = Unit {0}
Ordered (w ∷ ws) = (65536 ≤ w) × (length ws < depth_at w) × (depth_at w ≤ 64) × (under_at w < depth_at w) × Ordered ws

-- the levels that are left when a node is passed
abbrev pub behind : ℕ → List ℕ → List ℕ
behind w ws = cond (ltb w 131072) ws ((w - 65536) ∷ ws)

module _ (w : ℕ) (ws : List ℕ) (h : 65536 ≤ w) where
  behind_places : (us : List Term) → places_at (behind w ws) us ≡ places_of (depth_at w) (under_at w) (first_terms (owed w - 1) us) ++ places_at ws (drop (owed w - 1) us)
  behind_places us = go (ltb w 131072) (ltb-true w 131072) (ltb-false w 131072)
    where
      go : (q : Bool) → (q ≡ true → w < 131072) → (q ≡ false → 131072 ≤ w)
          → places_at (cond q ws ((w - 65536) ∷ ws)) us ≡ places_of (depth_at w) (under_at w) (first_terms (owed w - 1) us) ++ places_at ws (drop (owed w - 1) us)
      go true f g = let l = f refl in let z : owed w - 1 ≡ 0 = omega arith in rw z refl
      go false f g =
          let l = g refl in
          let a : owed (w - 65536) ≡ owed w - 1 = omega arith in
          let b : depth_at (w - 65536) ≡ depth_at w = omega arith in
          let c : under_at (w - 65536) ≡ under_at w = omega arith in
          rw (a, b, c) refl

  behind_shallow : (us : List Term) → depth_at w ≤ 64 → shallow_at (behind w ws) us ≡ leb (depth (first_terms (owed w - 1) us) + depth_at w) 65 && shallow_at ws (drop (owed w - 1) us)
  behind_shallow us d = go (ltb w 131072) (ltb-true w 131072) (ltb-false w 131072)
    where
      go : (q : Bool) → (q ≡ true → w < 131072) → (q ≡ false → 131072 ≤ w)
          → shallow_at (cond q ws ((w - 65536) ∷ ws)) us ≡ leb (depth (first_terms (owed w - 1) us) + depth_at w) 65 && shallow_at ws (drop (owed w - 1) us)
      go true f g = let l = f refl in let z : owed w - 1 ≡ 0 = omega arith in rw (z, le-leb (0 + depth_at w) 65 (omega arith)) refl
      go false f g =
          let l = g refl in
          let a : owed (w - 65536) ≡ owed w - 1 = omega arith in
          let b : depth_at (w - 65536) ≡ depth_at w = omega arith in
          rw (a, b) refl

  behind_owing : owing (behind w ws) ≡ owed w - 1 + owing ws
  behind_owing = go (ltb w 131072) (ltb-true w 131072) (ltb-false w 131072)
    where
      go : (q : Bool) → (q ≡ true → w < 131072) → (q ≡ false → 131072 ≤ w) → owing (cond q ws ((w - 65536) ∷ ws)) ≡ owed w - 1 + owing ws
      go true f g = let l = f refl in omega arith
      go false f g = let l = g refl in omega arith

  behind_ordered : Ordered (w ∷ ws) → Ordered (behind w ws) × (length (behind w ws) ≤ suc (length ws))
  behind_ordered o = go (ltb w 131072) (ltb-false w 131072)
    where
      go : (q : Bool) → (q ≡ false → 131072 ≤ w) → Ordered (cond q ws ((w - 65536) ∷ ws)) × (length (cond q ws ((w - 65536) ∷ ws)) ≤ suc (length ws))
      go true g = (o.4, omega arith)
      go false g =
          let l = g refl in
          let b : depth_at (w - 65536) ≡ depth_at w = omega arith in
          let c : under_at (w - 65536) ≡ under_at w = omega arith in
          ((omega arith, rw b o.1, rw b o.2, rw (b, c) o.3, o.4), omega arith)

-- ---- A node

-- what an abstraction adds to those above its body
abbrev pub binds : ℕ → ℕ
binds zero = 0
binds (suc zero) = 0
binds (suc (suc zero)) = 0
binds (suc (suc (suc k))) = 1

places_headed : (kind s d k : ℕ) (ts : Terms) → Shape kind s ts → places_of d k (headed kind s ts) ≡ place d k ∷ places_of (suc d) (k + binds kind) ts
places_headed zero s d k ts h = rw h refl
places_headed (suc zero) s d k ts h = rw (add-zero k) refl
places_headed (suc (suc zero)) s d k ts h = rw (add-zero k) refl
places_headed (suc (suc (suc zero))) s d k ts h =
    let e : places_of (suc d) (k + 1) ts ≡ places_of (suc d) (k + 1) (only ts) ++ [] = ap (λ (x : Terms). places_of (suc d) (k + 1) x) h.1 in
    let f : k + 1 ≡ suc k = omega arith in
    sym (ap (λ (l : List ℕ). place d k ∷ l) (e ∙ append-nil (places_of (suc d) (k + 1) (only ts)) ∙ ap (λ (m : ℕ). places_of (suc d) m (only ts)) f))
places_headed (suc (suc (suc (suc kind)))) s d k ts h = absurd h

module _ {kind s c : ℕ} {us vs : List Term} (o : Opened kind s c us vs) (n d : ℕ) where
  opened_places : (k : ℕ) (ws : List ℕ) → places_of d k (first_terms (suc n) us) ++ places_at ws (drop (suc n) us)
      ≡ place d k ∷ (places_of (suc d) (k + binds kind) (first_terms c vs) ++ (places_of d k (first_terms n (drop c vs)) ++ places_at ws (drop n (drop c vs))))
  opened_places k ws =
      rw (o.node, o.inside, ← o.count, first_arguments o.arguments o.rest, drop_arguments o.arguments o.rest, places_headed kind s d k o.arguments o.shape)
      (ap (λ (l : List ℕ). place d k ∷ l) (append_assoc (places_of (suc d) (k + binds kind) o.arguments) (places_of d k (first_terms n o.rest)) (places_at ws (drop n o.rest))))

  opened_shallow : (ws : List ℕ) → leb (depth (first_terms (suc n) us) + d) 65 && shallow_at ws (drop (suc n) us)
      ≡ leb (depth (first_terms c vs) + suc d) 65 && (leb (depth (first_terms n (drop c vs)) + d) 65 && shallow_at ws (drop n (drop c vs)))
  opened_shallow ws =
      let x = depth o.arguments in
      let y = depth (first_terms n o.rest) in
      let e : max (1 + x) y + d ≡ max (x + suc d) (y + d) = omega arith in
      rw (
        o.node,
        o.inside,
        ← o.count,
        first_arguments o.arguments o.rest,
        drop_arguments o.arguments o.rest,
        depth_headed kind s o.arguments o.shape,
        e,
        leb_max (x + suc d) (y + d) 65,
      )
      (and_assoc (leb (x + suc d) 65) (leb (y + d) 65) (shallow_at ws (drop n o.rest)))

-- ---- The tests of the code

module _ (word count here : ℕ) where
  -- a leaf
  layout_leaf : word < 131072 → count ≡ 0 → in_layout word count ≡ true
  layout_leaf h z = go (ltb word 65536) (ltb-true word 65536) (ltb-false word 65536)
    where
      go : (q : Bool) → (q ≡ true → word < 65536) → (q ≡ false → 65536 ≤ word) → in_layout word count ≡ true
      go true f g = layout_variable word count (f refl) ∙ eq-eqb count 0 z
      go false f g = layout_applied word count (g refl) (omega arith) ∙ le-leb count 8 (omega arith)

  -- an abstraction or a symbol, with arguments
  pub record GoesIn : Type 0 where
    pub above : here < 16384
    pub layout : in_layout word count ≡ true
    pub narrow : count ≤ 8
    pub plain : 131072 ≤ word → word < 196608 → ⊥

  pub goes_in_lem : goes_in word count here ≡ true → GoesIn
  unfolding goes_in
  goes_in_lem e =
      let a = of_and (ltb here 16384) _ (T_of _ e) in
      go (eqb word 196608) (eqb-true word 196608) (ltb-true here 16384 (on _ a.0)) (on _ a.1)
    where
      go : (q : Bool) → (q ≡ true → word ≡ 196608) → here < 16384 → cond q (eqb count 1) (leb 65536 word && (ltb word 131072 && leb count 8)) ≡ true → GoesIn
      go true f h e =
          let w = f refl in
          let c = eqb-true count 1 e in
          record { above = h; layout = layout_abstraction word count w ∙ e; narrow = omega arith; plain = λ lo hi. omega arith }
      go false f h e =
          let a = of_and (leb 65536 word) _ (T_of _ e) in
          let b = of_and (ltb word 131072) (leb count 8) a.1 in
          let lo = leb-true 65536 word (on _ a.0) in
          let hi = ltb-true word 131072 (on _ b.0) in
          record { above = h; layout = layout_applied word count lo (omega arith) ∙ on _ b.1; narrow = leb-true count 8 (on _ b.1); plain = λ p q. omega arith }

  pub goes_abstraction : here < 16384 → word ≡ 196608 → goes_in word count here ≡ eqb count 1
  unfolding goes_in
  goes_abstraction h e = rw (lt-ltb here 16384 h, eq-eqb word 196608 e) refl

  goes_other : here < 16384 → (word ≡ 196608 → ⊥) → goes_in word count here ≡ leb 65536 word && (ltb word 131072 && leb count 8)
  unfolding goes_in
  goes_other h e = rw (lt-ltb here 16384 h, ne_eqb word 196608 e) refl

  pub goes_symbol : here < 16384 → (word ≡ 196608 → ⊥) → 65536 ≤ word → word < 131072 → goes_in word count here ≡ leb count 8
  goes_symbol h e v m = goes_other h e ∙ rw (le-leb 65536 word v, lt-ltb word 131072 m) refl

  -- a node in the layout that is no abstraction, no variable and no symbol is a metavariable
  is_metavariable : in_layout word count ≡ true → (word ≡ 196608 → ⊥) → word < 196608
  is_metavariable y e = go (ltb word 196608) (ltb-true word 196608) (ltb-false word 196608)
    where
      go : (q : Bool) → (q ≡ true → word < 196608) → (q ≡ false → 196608 ≤ word) → word < 196608
      go true f g = f refl
      go false f g = let q : true ≡ false = sym y ∙ layout_other word count (g refl) e in never (cc)

  leaf_metavariable : in_layout word count ≡ true → count ≡ 0 → word < 196608
  leaf_metavariable y z = is_metavariable y (λ e. let o = eqb-true count 1 (sym (layout_abstraction word count e) ∙ y) in omega arith)

  -- a node with arguments that is not gone into
  stays : {P : Type 0} → in_layout word count ≡ true → (count ≡ 0 → ⊥) → goes_in word count here ≡ false → (131072 ≤ word → word < 196608 → P) → (16384 ≤ here → P) → P
  stays {P} y c e f g = go (ltb here 16384) (eqb word 196608) (ltb-true here 16384) (ltb-false here 16384) (eqb-true word 196608) (eqb-false word 196608)
    where
      no : goes_in word count here ≡ true → P
      no t = let q : true ≡ false = sym t ∙ e in never (cc)

      more : here < 16384 → (word ≡ 196608 → ⊥) → (a b : Bool) → (a ≡ true → word < 65536) → (a ≡ false → 65536 ≤ word) → (b ≡ true → 131072 ≤ word) → (b ≡ false → word < 131072) → P
      more h n true b k l m i = let z = eqb-true count 0 (sym (layout_variable word count (k refl)) ∙ y) in absurd (c z)
      more h n false true k l m i = f (m refl) (is_metavariable y n)
      more h n false false k l m i = no (goes_symbol h n (l refl) (i refl) ∙ sym (layout_applied word count (l refl) (let j = i refl in omega arith)) ∙ y)

      go : (a b : Bool) → (a ≡ true → here < 16384) → (a ≡ false → 16384 ≤ here) → (b ≡ true → word ≡ 196608) → (b ≡ false → word ≡ 196608 → ⊥) → P
      go false b k l m i = g (l refl)
      go true true k l m i = no (goes_abstraction (k refl) (m refl) ∙ sym (layout_abstraction word count (m refl)) ∙ y)
      go true false k l m i = more (k refl) (i refl) (ltb word 65536) (leb 131072 word) (ltb-true word 65536) (ltb-false word 65536) (leb-true 131072 word) (leb-false 131072 word)

-- a node that may stand there, by its count
module _ (word count here : ℕ) (e : may_stand word count here ≡ true) where
  pub stands_in : (count ≡ 0 → ⊥) → goes_in word count here ≡ true
  unfolding may_stand
  stands_in n = rw (ne_eqb count 0 n) at e

  pub stands_leaf : count ≡ 0 → word < 131072
  unfolding may_stand
  stands_leaf z = let l = rw (eq-eqb count 0 z) at e in ltb-true word 131072 l

module _ (words n : ℕ) where
  pub whole_all : words ≡ 2 * n → whole_of words n ≡ Ok n
  unfolding whole_of
  whole_all e = rw (eq-eqb words (2 * n) e) refl

  pub whole_more : (words ≡ 2 * n → ⊥) → whole_of words n ≡ Err refusal.TableNotGood
  unfolding whole_of
  whole_more e = rw (ne_eqb words (2 * n) e) refl

pub below_abstraction : (here word : ℕ) → word ≡ 196608 → below here word ≡ here + 257
unfolding below
below_abstraction here word e = rw (eq-eqb word 196608 e) refl

pub below_most : (here word : ℕ) → below here word ≤ here + 257
unfolding below
below_most here word = go (eqb word 196608)
  where
    go : (q : Bool) → cond q (here + 257) (here + 256) ≤ here + 257
    go true = omega arith
    go false = omega arith

below_binds : {c : ℕ} {us vs : List Term} (here word : ℕ) → Opened (word / 65536) (word % 65536) c us vs → below here word ≡ here + 256 + binds (word / 65536)
unfolding below
below_binds here word o = go (word / 65536) refl o.shape
  where
    go : (kind : ℕ) → word / 65536 ≡ kind → Shape kind (word % 65536) o.arguments → cond (eqb word 196608) (here + 257) (here + 256) ≡ here + 256 + binds kind
    go zero e h = rw (ne_eqb word 196608 (λ q. omega arith)) (omega arith)
    go (suc zero) e h = rw (ne_eqb word 196608 (λ q. omega arith)) (omega arith)
    go (suc (suc zero)) e h = rw (ne_eqb word 196608 (λ q. omega arith)) (omega arith)
    go (suc (suc (suc zero))) e h = let z = h.0 in rw (eq-eqb word 196608 (omega arith)) (omega arith)
    go (suc (suc (suc (suc kind)))) e h = absurd h

-- the level of a node's arguments
down_level : (w v c b : ℕ) → v ≡ c * 65536 + (w % 65536 + 256 + b) → b ≤ 1 → w % 65536 < 16384 → under_at w < depth_at w
    → (owed v ≡ c) × (depth_at v ≡ suc (depth_at w)) × (under_at v ≡ under_at w + b)
down_level w v c b e h k o = (omega arith, omega arith, omega arith)

below_some : (here word : ℕ) → (b : ℕ) × (b ≤ 1) × (below here word ≡ here + 256 + b)
unfolding below
below_some here word = go (eqb word 196608)
  where
    go : (q : Bool) → (b : ℕ) × (b ≤ 1) × (cond q (here + 257) (here + 256) ≡ here + 256 + b)
    go true = (1, omega arith, omega arith)
    go false = (0, omega arith, omega arith)

module _ (w : ℕ) (ws : List ℕ) (o : Ordered (w ∷ ws)) where
  leaf_owing : (c : ℕ) → c ≡ 0 → owing (behind w ws) ≡ owing (w ∷ ws) - 1 + c
  leaf_owing c z = let h = o.0 in let b = behind_owing w ws h in omega arith

  down_ordered : (c word : ℕ) → w % 65536 < 16384 → 0 < c
      → Ordered ((c * 65536 + below (w % 65536) word) ∷ behind w ws) × (owing ((c * 65536 + below (w % 65536) word) ∷ behind w ws) ≡ owing (w ∷ ws) - 1 + c)
  down_ordered c word p z =
      let b = below_some (w % 65536) word in
      let v = c * 65536 + below (w % 65536) word in
      let l = down_level w v c b.0 (ap (λ (x : ℕ). c * 65536 + x) b.2) b.1 p o.3 in
      let r = behind_ordered w ws o.0 o in
      let q = behind_owing w ws o.0 in
      go v l.0 l.1 l.2 b.1 r.1 q
    where
      go : (v : ℕ) {b : ℕ} → owed v ≡ c → depth_at v ≡ suc (depth_at w) → under_at v ≡ under_at w + b → b ≤ 1 → length (behind w ws) ≤ suc (length ws) → owing (behind w ws) ≡ owed w - 1 + owing ws
          → Ordered (v ∷ behind w ws) × (owing (v ∷ behind w ws) ≡ owing (w ∷ ws) - 1 + c)
      go v a d u k n q =
          let h = o.0 in
          let i = o.1 in
          let j = o.3 in
          ((omega arith, omega arith, omega arith, omega arith, (behind_ordered w ws o.0 o).0), omega arith)

-- ---- Where the walk stands

pub record Standing (subject places : List ℕ) (node : ℕ) (ws : List ℕ) : Type 0 where
  pub walk : Walk subject (2 * node) (owing ws)
  pub done : take node places ++ places_at ws (held (drop (2 * node) subject)) ≡ places_of 1 0 (front subject)
  pub shallow : shallow_at ws (held (drop (2 * node) subject)) ≡ leb (depth (front subject)) 64
  pub plain : is_empty (metas (terms (owing ws) (drop (2 * node) subject))) ≡ is_empty (metas (front subject))
  pub ordered : Ordered ws

standing_from : (subject places : List ℕ) → Begins 1 subject → Standing subject places 0 (65792 ∷ [])
unfolding terms
standing_from subject places b =
    let t : first_terms 1 (held subject) ≡ Cons (front subject) Nil = front_term subject b in
    record {
      walk = walk_from b;
      done = rw t (append-nil _ ∙ append-nil (places_of 1 0 (front subject)));
      shallow = rw t (and-true _ ∙ one_more (depth (front subject)));
      plain = ap is_empty (metas_front b);
      ordered = (omega arith, omega arith, omega arith, omega arith, tt);
    }
  where
    one_more : (x : ℕ) → leb (max x 0 + 1) 65 ≡ leb x 64
    one_more x = let e : max x 0 + 1 ≡ suc x = omega arith in rw e (leb-suc-suc x 64)

stored : (places : List ℕ) (node w p : ℕ) (rest all : List ℕ) → node < length places → w ≡ p → take node places ++ (p ∷ rest) ≡ all
    → take (node + 1) (set places node w) ++ rest ≡ all
stored places node w p rest all h e t = rw (add-one node, take-suc-set places node w h, append_assoc (take node places) (w ∷ []) rest, e) t

some_depth : (n : ℕ) (us : List Term) → 0 < n → n ≤ length us → 0 < depth (first_terms n us)
some_depth zero us h k = absurd (omega arith)
some_depth (suc n) [] h k = absurd (omega arith)
some_depth (suc n) (u ∷ us) h k = let d = depth_positive u in omega arith

binds_few : (k : ℕ) → binds k ≤ 1
binds_few zero = omega arith
binds_few (suc zero) = omega arith
binds_few (suc (suc zero)) = omega arith
binds_few (suc (suc (suc k))) = omega arith

module _ {subject places : List ℕ} {node here : ℕ} {ws : List ℕ} (s : Standing subject places node (here ∷ ws)) where
  abbrev word : ℕ
  word = get_or subject (2 * node) 0

  abbrev count : ℕ
  count = get_or subject (2 * node + 1) 0

  some_owed : 0 < owing (here ∷ ws)
  some_owed = let o = s.ordered.0 in omega arith

  node_opened : Opened (word / 65536) (word % 65536) count (held (drop (2 * node) subject)) (held (drop (2 * node + 2) subject))
  node_opened = (opened subject (2 * node) s.walk.begins some_owed).1

  next : 2 * (node + 1) ≡ 2 * node + 2
  next = omega arith

  -- what the places come to when the node's is noted
  noted : node < length places
      → take (node + 1) (set places node (here % 65536)) ++ (places_of (suc (depth_at here)) (under_at here + binds (word / 65536)) (first_terms count (held (drop (2 * node + 2) subject))) ++ places_at (behind here ws) (drop count (held (drop (2 * node + 2) subject)))) ≡ places_of 1 0 (front subject)
  noted h =
      let o = s.ordered.0 in
      let f : owed here ≡ suc (owed here - 1) = omega arith in
      let g = opened_places node_opened (owed here - 1) (depth_at here) (under_at here) ws in
      stored places node (here % 65536) (place (depth_at here) (under_at here)) _ _ h (omega arith)
      (rw (behind_places here ws o (drop count (held (drop (2 * node + 2) subject))))
      (ap (λ (l : List ℕ). take node places ++ l) (sym g ∙ ap (λ (n : ℕ). places_of (depth_at here) (under_at here) (first_terms n (held (drop (2 * node) subject))) ++ places_at ws (drop n (held (drop (2 * node) subject)))) (sym f)) ∙ s.done))

  looked : leb (depth (first_terms count (held (drop (2 * node + 2) subject))) + suc (depth_at here)) 65 && shallow_at (behind here ws) (drop count (held (drop (2 * node + 2) subject))) ≡ leb (depth (front subject)) 64
  looked =
      let o = s.ordered.0 in
      let f : owed here ≡ suc (owed here - 1) = omega arith in
      let g = opened_shallow node_opened (owed here - 1) (depth_at here) ws in
      rw (behind_shallow here ws o (drop count (held (drop (2 * node + 2) subject))) s.ordered.2)
      (sym g ∙ ap (λ (n : ℕ). leb (depth (first_terms n (held (drop (2 * node) subject))) + depth_at here) 65 && shallow_at ws (drop n (held (drop (2 * node) subject)))) (sym f) ∙ s.shallow)

  -- past the node
  onward : (vs : List ℕ) → (131072 ≤ word → word < 196608 → ⊥) → owing vs ≡ owing (here ∷ ws) - 1 + count
      → take (node + 1) (set places node (here % 65536)) ++ places_at vs (held (drop (2 * node + 2) subject)) ≡ places_of 1 0 (front subject)
      → shallow_at vs (held (drop (2 * node + 2) subject)) ≡ leb (depth (front subject)) 64 → Ordered vs
      → Standing subject (set places node (here % 65536)) (node + 1) vs
  onward vs m n d l o = record {
    walk = rw (next, n) (walk_on s.walk some_owed);
    done = rw next d;
    shallow = rw next l;
    plain = rw (next, n) (ap is_empty (sym (metas_behind s.walk some_owed m)) ∙ s.plain);
    ordered = o;
  }

  standing_leaf : node < length places → (131072 ≤ word → word < 196608 → ⊥) → count ≡ 0
      → Standing subject (set places node (here % 65536)) (node + 1) (behind here ws)
  standing_leaf h m z =
      let o = s.ordered in
      onward (behind here ws) m (leaf_owing here ws o count z) (rw z at (noted h))
      (rw (z, le-leb (0 + suc (depth_at here)) 65 (let q = o.2 in omega arith)) at looked) (behind_ordered here ws o.0 o).0

  standing_down : node < length places → (131072 ≤ word → word < 196608 → ⊥) → here % 65536 < 16384 → 0 < count
      → Standing subject (set places node (here % 65536)) (node + 1) ((count * 65536 + below (here % 65536) word) ∷ behind here ws)
  standing_down h m p z =
      let o = s.ordered in
      let r = down_ordered here ws o count word p z in
      let l = down_level here _ count (binds (word / 65536)) (ap (λ (x : ℕ). count * 65536 + x) (below_binds (here % 65536) word node_opened)) (binds_few (word / 65536)) p o.3 in
      onward _ m r.1 (rw (l.0, l.1, l.2) (noted h)) (rw (l.0, l.1) looked) r.0

  standing_deep : 16384 ≤ here % 65536 → 0 < count → leb (depth (front subject)) 64 ≡ false
  standing_deep p z =
      let b = begins_less count (let o = some_owed in omega arith) (walk_on s.walk some_owed).begins in
      let d = some_depth count (held (drop (2 * node + 2) subject)) z b.enough in
      sym looked ∙ rw (lt-leb (depth (first_terms count (held (drop (2 * node + 2) subject))) + suc (depth_at here)) 65 (omega arith)) refl

  standing_metavariable : 131072 ≤ word → word < 196608 → is_empty (metas (front subject)) ≡ false
  standing_metavariable lo hi = sym s.plain ∙ ap is_empty (metas_here s.walk some_owed lo hi)

-- ---- The answers

pub surveyed_refused : {subject : List ℕ} (places : List ℕ) (r : Refusal) → Err r ≡ sized (subject_in subject) → Surveyed subject places (Err r)
surveyed_refused places r e = record { size = e; table = λ n f. never (cc) }

pub surveyed_long : (subject places : List ℕ) → 8192 < length subject → Surveyed subject places (Err refusal.TooManyWords)
surveyed_long subject places h = surveyed_refused places _ (sym (subject_refused subject _ (sym (accept_long plan_limit subject h))))

pub refused_bad : (subject : List ℕ) → length subject ≤ 8192 → is_good subject ≡ false → Err refusal.TableNotGood ≡ sized (subject_in subject)
refused_bad subject h g = sym (subject_refused subject _ (sym (accept_bad plan_limit subject h g)))

module _ (subject : List ℕ) (g : is_good subject ≡ true) (l : length subject ≤ 8192) where
  pub refused_deep : leb (depth (front subject)) 64 ≡ false → Err refusal.TooDeep ≡ sized (subject_in subject)
  refused_deep d = sym (subject_refused subject refusal.TooDeep (sym (accept_deep plan_limit subject l g d)))

  accepted : leb (depth (front subject)) 64 ≡ true → Ok (length subject / 2) ≡ sized (table_in plan_limit subject)
  accepted d = sym (accept_good plan_limit subject l g d)

  refused_metavariable : leb (depth (front subject)) 64 ≡ true → is_empty (metas (front subject)) ≡ false → Err refusal.MetavariableInSubject ≡ sized (subject_in subject)
  refused_metavariable d m = sym (subject_metavariable (accepted_table plan_limit subject _ (accepted d)) m)

  pub refused_unfit : Unfit subject → leb (depth (front subject)) 64 ≡ true → Err refusal.MetavariableInSubject ≡ sized (subject_in subject)
  refused_unfit u d = refused_metavariable d (rw d at (u g))

  surveyed_whole : (places : List ℕ) (n : ℕ) → n ≤ length places → Standing subject places n [] → Surveyed subject places (Ok n)
  surveyed_whole places n h s =
      let t : take n places ≡ places_of 1 0 (front subject) = sym (append-nil (take n places)) ∙ s.done in
      let a = ap (λ (x : List ℕ). length x) t in
      let b = length-take-le n places h in
      let c = length_places 1 0 (front subject) in
      let w = (good_begins subject g).2 in
      let e : n ≡ length subject / 2 = omega arith in
      record {
        size =
            ap Ok e
            ∙ sym (subject_plain (accepted_table plan_limit subject _ (accepted (sym s.shallow))) (sym s.plain ∙ ap (λ (x : Terms). is_empty (metas x)) (no_terms (drop (2 * n) subject))));
        table = λ m f. let q : n ≡ m = cc in rw q at t;
      }

-- ---- The levels in an array

-- Whether the table is good is not known yet: it is if the words behind the node hold as many terms as are owed. If it is, the walk stands so.
pub record Surveying (subject places waiting : List ℕ) (kept here node : ℕ) : Type 0 where
  pub good : holds (owing (here ∷ listed waiting kept)) (terms_in (drop (2 * node) subject)) ≡ is_good subject
  pub standing : is_good subject ≡ true → Standing subject places node (here ∷ listed waiting kept)
  pub ordered : Ordered (here ∷ listed waiting kept)
  pub short : length subject ≤ 8192
  pub wide : 4096 ≤ length places
  pub room : length waiting ≡ 64
  pub within : 2 * node ≤ length subject
  pub owes : 65536 ≤ here
  pub few : kept < 64

length_listed : (l : List ℕ) (k : ℕ) → length (listed l k) ≡ k
length_listed l zero = refl
length_listed l (suc k) = ap suc (length_listed l k)

surveying_at : {subject places waiting : List ℕ} {kept here node : ℕ} (ws : List ℕ) → here ∷ listed waiting kept ≡ ws → holds (owing ws) (terms_in (drop (2 * node) subject)) ≡ is_good subject
    → (is_good subject ≡ true → Standing subject places node ws) → Ordered ws → length subject ≤ 8192 → 4096 ≤ length places → length waiting ≡ 64 → 2 * node ≤ length subject
    → Surveying subject places waiting kept here node
surveying_at {waiting = waiting} {kept} {here} ws e g s o l p r w =
    let q = rw (← e) at o in
    record {
      good = rw (← e) at g;
      standing = rw (← e) at s;
      ordered = q;
      short = l;
      wide = p;
      room = r;
      within = w;
      owes = q.0;
      few = let n = length_listed waiting kept in let i = q.1 in let j = q.2 in omega arith;
    }

pub surveying_from : {subject : List ℕ} (places : List ℕ) → (length subject ≤ 8192) × (4096 ≤ length places) → Surveying subject places (replicate 64 0) 0 65792 0
surveying_from {subject} places h =
    surveying_at (65792 ∷ []) refl (sym (good_start subject)) (λ g. standing_from subject places (good_begins subject g).0) (omega arith, omega arith, omega arith, omega arith, tt) h.0 h.1 refl
    (omega arith)

module _ {subject places waiting : List ℕ} {kept here node : ℕ} (s : Surveying subject places waiting kept here node) where
  -- the words run out
  pub surveying_short : length subject ≤ 2 * node + 1 → Err refusal.TableNotGood ≡ sized (subject_in subject)
  surveying_short h = refused_bad subject s.short (sym s.good ∙ go (leb (length subject) (2 * node)) (leb-true (length subject) (2 * node)) (leb-false (length subject) (2 * node)))
    where
      n : ℕ
      n = owing (here ∷ listed waiting kept)

      go : (q : Bool) → (q ≡ true → length subject ≤ 2 * node) → (q ≡ false → 2 * node < length subject) → holds n (terms_in (drop (2 * node) subject)) ≡ false
      go true f g = good_end subject (2 * node) n (f refl) ∙ ne_eqb n 0 (λ e. let o = s.owes in omega arith)
      go false f g = good_odd subject (2 * node) n (let k = g refl in omega arith)

  module _ (h : 2 * node + 1 < length subject) where
    abbrev word' : ℕ
    word' = get_or subject (2 * node) 0

    abbrev count' : ℕ
    count' = get_or subject (2 * node + 1) 0

    outside : in_layout word' count' ≡ false → is_good subject ≡ false
    outside e = sym s.good ∙ good_outside subject (2 * node) _ (omega arith) e

    -- a node of a good table is in the layout
    in_good : is_good subject ≡ true → in_layout word' count' ≡ true
    in_good g = go (in_layout word' count') refl
      where
        go : (q : Bool) → in_layout word' count' ≡ q → q ≡ true
        go true e = refl
        go false e = let q : true ≡ false = sym g ∙ outside e in never (cc)

    abbrev Refusable : Type 0
    Refusable = (length subject ≤ 8192) × Unfit subject × (in_layout word' count' ≡ false → is_good subject ≡ false)

    with_metavariable : is_good subject ≡ true → 131072 ≤ word' → word' < 196608 → leb (depth (front subject)) 64 && is_empty (metas (front subject)) ≡ false
    with_metavariable g lo hi = rw (standing_metavariable (s.standing g) lo hi) (and-false (leb (depth (front subject)) 64))

    refused_leaf : count' ≡ 0 → 131072 ≤ word' → Refusable
    refused_leaf z lo = (s.short, λ g. with_metavariable g lo (leaf_metavariable word' count' 0 (in_good g) z), outside)

    refused_stays : (count' ≡ 0 → ⊥) → goes_in word' count' (here % 65536) ≡ false → Refusable
    refused_stays c e =
        (s.short, λ g. stays word' count' (here % 65536) (in_good g) c e (with_metavariable g) (λ p. rw (standing_deep (s.standing g) p (omega arith)) refl), outside)

    pub refused_here : may_stand word' count' (here % 65536) ≡ false → Refusable
    unfolding may_stand
    refused_here e = go (eqb count' 0) (eqb-true count' 0) (eqb-false count' 0) e
      where
        go : (q : Bool) → (q ≡ true → count' ≡ 0) → (q ≡ false → count' ≡ 0 → ⊥) → cond q (ltb word' 131072) (goes_in word' count' (here % 65536)) ≡ false → Refusable
        go true z n e = refused_leaf (z refl) (ltb-false word' 131072 e)
        go false z n e = refused_stays (n refl) e

    spot : node < length places
    spot = let l = s.short in let p = s.wide in omega arith

    wide_on : (w : ℕ) → 4096 ≤ length (set places node w)
    wide_on w = simp length-set s.wide

    module _ (y : in_layout word' count' ≡ true) where
      good_on : (vs : List ℕ) → owing vs ≡ owing (here ∷ listed waiting kept) - 1 + count' → holds (owing vs) (terms_in (drop (2 * (node + 1)) subject)) ≡ is_good subject
      good_on vs e =
          let o = s.owes in
          let n : 2 * (node + 1) ≡ 2 * node + 2 = omega arith in
          rw (e, n) (sym (good_node subject (2 * node) (owing (here ∷ listed waiting kept)) (omega arith) (omega arith) y) ∙ s.good)

      -- a node with arguments
      surveying_in : GoesIn word' count' (here % 65536) → (count' ≡ 0 → ⊥)
          → Surveying subject (set places node (here % 65536)) (set waiting kept (here - 65536)) (levels kept here) (count' * 65536 + below (here % 65536) word') (node + 1)
      unfolding levels
      surveying_in i c =
          let p = i.above in
          let r = down_ordered here (listed waiting kept) s.ordered count' word' p (omega arith) in
          surveying_at _ (ap (λ (l : List ℕ). (count' * 65536 + below (here % 65536) word') ∷ l) kept_behind) (good_on ((count' * 65536 + below (here % 65536) word') ∷ behind here (listed waiting kept)) r.1)
          (λ g. standing_down (s.standing g) spot i.plain p (omega arith)) r.0 s.short (wide_on _) (simp length-set s.room) (omega arith)
        where
          kept_behind : listed (set waiting kept (here - 65536)) (levels kept here) ≡ behind here (listed waiting kept)
          kept_behind = go (ltb here 131072)
            where
              e : listed (set waiting kept (here - 65536)) kept ≡ listed waiting kept
              e = listed_set waiting kept kept (here - 65536) (omega arith)

              go : (q : Bool) → listed (set waiting kept (here - 65536)) (cond q kept (kept + 1)) ≡ cond q (listed waiting kept) ((here - 65536) ∷ listed waiting kept)
              go true = e
              go false = rw (add-one kept, get_or-set_same waiting kept (here - 65536) 0 (let r = s.room in let f = s.few in omega arith), e) refl

    pub surveying_down : goes_in word' count' (here % 65536) ≡ true → (count' ≡ 0 → ⊥)
        → Surveying subject (set places node (here % 65536)) (set waiting kept (here - 65536)) (levels kept here) (count' * 65536 + below (here % 65536) word') (node + 1)
    surveying_down e c = let i = goes_in_lem word' count' (here % 65536) e in surveying_in i.layout i c

    module _ (z : count' ≡ 0) (v : word' < 131072) where
      leaf_good : holds (owing (behind here (listed waiting kept))) (terms_in (drop (2 * (node + 1)) subject)) ≡ is_good subject
      leaf_good = good_on (layout_leaf word' count' 0 v z) (behind here (listed waiting kept)) (leaf_owing here (listed waiting kept) s.ordered count' z)

      leaf_standing : is_good subject ≡ true → Standing subject (set places node (here % 65536)) (node + 1) (behind here (listed waiting kept))
      leaf_standing g = standing_leaf (s.standing g) spot (λ lo hi. omega arith) z

      leaf_ordered : Ordered (behind here (listed waiting kept))
      leaf_ordered = (behind_ordered here (listed waiting kept) s.owes s.ordered).0

      -- a node without arguments, of which more are owed at its level
      pub surveying_more : 131072 ≤ here → Surveying subject (set places node (here % 65536)) waiting kept (here - 65536) (node + 1)
      surveying_more k =
          surveying_at (behind here (listed waiting kept)) (rw (le-ltb here 131072 k) refl) leaf_good leaf_standing leaf_ordered s.short (wide_on _) s.room (omega arith)

      -- the last of its level: the next level that waits
      pub surveying_up : here < 131072 → (kept ≡ 0 → ⊥) → Surveying subject (set places node (here % 65536)) waiting (kept - 1) (get_or waiting (kept - 1) 0) (node + 1)
      surveying_up k f =
          surveying_at (behind here (listed waiting kept)) (rw (lt-ltb here 131072 k) (sym (go kept f))) leaf_good leaf_standing leaf_ordered s.short (wide_on _) s.room (omega arith)
        where
          go : (k : ℕ) → (k ≡ 0 → ⊥) → listed waiting k ≡ get_or waiting (k - 1) 0 ∷ listed waiting (k - 1)
          go zero f = absurd (f refl)
          go (suc k) f = let q : suc k - 1 ≡ k = omega arith in rw q refl

      -- the last of all
      pub surveying_end : here < 131072 → kept ≡ 0 → Surveyed subject (set places node (here % 65536)) (whole_of (length subject) (node + 1))
      surveying_end k f = go (eqb (length subject) (2 * (node + 1))) (eqb-true (length subject) (2 * (node + 1))) (eqb-false (length subject) (2 * (node + 1)))
        where
          e : behind here (listed waiting kept) ≡ []
          e = rw (lt-ltb here 131072 k, f) refl

          left : holds 0 (terms_in (drop (2 * (node + 1)) subject)) ≡ is_good subject
          left = rw e at leaf_good

          no_good : (q : Bool) → (q ≡ true → length subject ≡ 2 * (node + 1) + 1) → (q ≡ false → length subject ≡ 2 * (node + 1) + 1 → ⊥) → (length subject ≡ 2 * (node + 1) → ⊥) → is_good subject ≡ false
          no_good true a c n = sym left ∙ good_odd subject (2 * (node + 1)) 0 (sym (a refl))
          no_good false a c n = sym left ∙ good_more subject (2 * (node + 1)) 0 (let i = c refl in omega arith) refl

          go : (q : Bool) → (q ≡ true → length subject ≡ 2 * (node + 1)) → (q ≡ false → length subject ≡ 2 * (node + 1) → ⊥)
              → Surveyed subject (set places node (here % 65536)) (whole_of (length subject) (node + 1))
          go true a c =
              let g : is_good subject ≡ true = sym left ∙ good_end subject (2 * (node + 1)) 0 (let i = a refl in omega arith) in
              rw (whole_all (length subject) (node + 1) (a refl)) (surveyed_whole subject g s.short _ (node + 1) (simp length-set (let p = spot in omega arith)) (rw e at (leaf_standing g)))
          go false a c =
              rw (whole_more (length subject) (node + 1) (c refl))
              (surveyed_refused _ _ (refused_bad subject s.short (no_good (eqb (length subject) (2 * (node + 1) + 1)) (eqb-true (length subject) (2 * (node + 1) + 1)) (eqb-false (length subject) (2 * (node + 1) + 1)) (c refl))))
