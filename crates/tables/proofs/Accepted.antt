-- The table check. `term_in` reads a table from its end; `holds` counts the terms, so that a walk from the front, with a running count of those
-- still owed, decides the same. Then the depth, level by level, and what an accepted table holds.
use mathlib.Core.Path.{◌≡◌, refl, sym, ap, ap₂, ◌∙◌}
use Prim.Native.Nat.{ℕ, zero, suc, ◌+◌, ◌-◌, ◌*◌, ◌/◌, ◌%◌, ◌≤◌, ◌<◌, max}
use native.Mathlib.Nat.{add-zero}
use native.Mathlib.Numerals.{add-one}
use native.Mathlib.Omega.{arith}
use mathlib.Core.Bool.{Bool, true, false, ◌&&◌, cond, and-true, and_assoc}
use mathlib.Core.Option.{Option, none, some}
use mathlib.Core.List.{List, [], ◌∷◌, ◌++◌, append-nil}
use lib.Dec.{eqb, leb, ltb, leb-suc-suc, eqb-suc-suc, eqb-zero-suc}
use lib.ListN.{length, drop, get_or, set, replicate, length-drop, length-set}
use lib.Seq.{drop_at, get_or-set_same, get_or-set_other}
use borrow.Author.Tests.{le-leb, lt-leb, ne_eqb, eqb-true, leb-true}
use Rattle.documents.specs.Limits.{argument_limit, plan_limit, depth_limit}
use Rattle.documents.specs.Lists.{need, and_then, is_empty}
use Rattle.documents.specs.Terms.{Sort, many, Tm, Var, Sym, Meta, Abst, Nil, Cons, Term, Terms, len}
use Rattle.documents.specs.Tables.{kind_of, grab, abstract, node, terms_in, single, term_in, table_of, Fits, nodes, depth, subterm}
use Rattle.documents.specs.declared.Refusal.{Refusal}
use Rattle.documents.specs.Rules.{metas}
use Rattle.documents.specs.Numbers.{Answer, answered, refused, unless, or_refuse, with, table_in, subject_in}
use Rattle.documents.proofs.Lists.{chunk_two, never, on, T_of, of_and, and_then_is}
use Rattle.documents.proofs.Lists.{leb_max}
use Rattle.documents.proofs.Nodes.{depth_positive}
use Rattle.documents.proofs.Tables.{before, table_of_term_in, length_table_of, terms_in_table_of, terms_in_tables_of, subterm_place}
use Rattle.documents.proofs.Numbers.{table_in_held, subject_in_held}
use Rattle.tables.specs.Parts.{held, first_terms, terms, front, Begins, word_count}
use Rattle.std.specs.Prelude.{Result, Ok, Err}
use Rattle.tables.specs.Answers.{sized, is_there, is_good, fits_kind, in_layout}
use Rattle.tables.proofs.Parts.{join, only, headed, Shape, Opened, opened, first_before, two, front_term, begins_less}
use Rattle.tables.proofs.Walks.{Walk, walk_from, walk_on}
use Rattle.documents.specs.declared.Refusal.TheVariants as refusal

-- ---- The layout of a node

module _ (w c : ℕ) where
  pub layout_variable : w < 65536 → in_layout w c ≡ eqb c 0
  unfolding in_layout
  layout_variable h = let e : w / 65536 ≡ 0 = omega arith in rw e

  pub layout_applied : 65536 ≤ w → w < 196608 → in_layout w c ≡ leb c argument_limit
  unfolding in_layout
  layout_applied h k = go (w / 65536) (omega arith) (omega arith)
    where
      go : (k : ℕ) → 1 ≤ k → k < 3 → fits_kind (kind_of k) (w % 65536) c ≡ leb c argument_limit
      go zero p q = absurd (omega arith)
      go (suc zero) p q = refl
      go (suc (suc zero)) p q = refl
      go (suc (suc (suc k))) p q = absurd (omega arith)

  pub layout_abstraction : w ≡ 196608 → in_layout w c ≡ eqb c 1
  unfolding in_layout
  layout_abstraction h = rw h

  pub layout_other : 196608 ≤ w → ((w ≡ 196608) → ⊥) → in_layout w c ≡ false
  unfolding in_layout
  layout_other h k = go (w / 65536) (w % 65536) (omega arith) (omega arith)
    where
      go : (k s : ℕ) → 3 ≤ k → ((k ≡ 3) → (s ≡ 0) → ⊥) → fits_kind (kind_of k) s c ≡ false
      go zero s p q = absurd (omega arith)
      go (suc zero) s p q = absurd (omega arith)
      go (suc (suc zero)) s p q = absurd (omega arith)
      go (suc (suc (suc zero))) s p q = rw (ne_eqb s 0 (q refl)) refl
      go (suc (suc (suc (suc k)))) s p q = refl

  pub layout_narrow : in_layout w c ≡ true → c ≤ argument_limit
  unfolding in_layout
  layout_narrow e = go (w / 65536) (w % 65536) e
    where
      go : (k s : ℕ) → fits_kind (kind_of k) s c ≡ true → c ≤ argument_limit
      go zero s e = let z = eqb-true c 0 e in omega arith
      go (suc zero) s e = leb-true c argument_limit e
      go (suc (suc zero)) s e = leb-true c argument_limit e
      go (suc (suc (suc zero))) s e = let z = eqb-true c 1 (on (eqb c 1) (of_and (eqb s 0) (eqb c 1) (T_of _ e)).1) in omega arith
      go (suc (suc (suc (suc k)))) s e = never (cc)

-- ---- Terms that are held, counted

abbrev pub holds : ℕ → Option (List Term) → Bool
holds n none = false
holds n (some us) = eqb n (length us)

pub good_start : (t : List ℕ) → is_good t ≡ holds 1 (terms_in t)
unfolding is_good
good_start t = go (terms_in t)
  where
    go : (o : Option (List Term)) → is_there (and_then o single) ≡ holds 1 o
    go none = refl
    go (some []) = refl
    go (some (u ∷ [])) = refl
    go (some (u ∷ v ∷ us)) = sym (ne_eqb 1 (suc (suc (length us))) (λ e. omega arith))

grab_holds : (c m : ℕ) (vs : List Term) (f : Terms → Term) → holds (suc m) (grab c vs (λ ts rest. some (f ts ∷ rest))) ≡ eqb (m + c) (length vs)
grab_holds zero m vs f = rw (eqb-suc-suc m (length vs), add-zero) refl
grab_holds (suc c) m [] f = sym (ne_eqb (m + suc c) 0 (λ e. omega arith))
grab_holds (suc c) m (v ∷ vs) f =
    let e : m + suc c ≡ suc (m + c) = omega arith in
    grab_holds c m vs (λ ts. f (Cons v ts)) ∙ rw (e, eqb-suc-suc (m + c) (length vs)) refl

node_counted : (k s c m : ℕ) (vs : List Term) → fits_kind (kind_of k) s c ≡ true → holds (suc m) (node (kind_of k) s c vs) ≡ eqb (m + c) (length vs)
node_counted zero s c m vs e = let z = eqb-true c 0 e in rw (e, z, eqb-suc-suc m (length vs), add-zero) refl
node_counted (suc zero) s c m vs e = rw e (grab_holds c m vs (Sym s))
node_counted (suc (suc zero)) s c m vs e = rw e (grab_holds c m vs (Meta s))
node_counted (suc (suc (suc zero))) s c m vs e = go (eqb s 0) (eqb c 1) e (eqb-true c 1) vs
  where
    go : (p q : Bool) → (p && q) ≡ true → (q ≡ true → c ≡ 1) → (vs : List Term) → holds (suc m) (need p (need q (abstract vs))) ≡ eqb (m + c) (length vs)
    go true true e f [] = rw (f refl) (sym (ne_eqb (m + 1) 0 (λ e. omega arith)))
    go true true e f (v ∷ vs) =
        let z : m + 1 ≡ suc m = omega arith in
        rw (f refl, z) refl
    go true false e f vs = never (cc)
    go false q e f vs = never (cc)
node_counted (suc (suc (suc (suc k)))) s c m vs e = never (cc)

node_outside : (k s c n : ℕ) (vs : List Term) → fits_kind (kind_of k) s c ≡ false → holds n (node (kind_of k) s c vs) ≡ false
node_outside zero s c n vs e = rw e refl
node_outside (suc zero) s c n vs e = rw e refl
node_outside (suc (suc zero)) s c n vs e = rw e refl
node_outside (suc (suc (suc zero))) s c n vs e = go (eqb s 0) (eqb c 1) e
  where
    go : (p q : Bool) → (p && q) ≡ false → holds n (need p (need q (abstract vs))) ≡ false
    go true true e = never (cc)
    go true false e = refl
    go false q e = refl
node_outside (suc (suc (suc (suc k)))) s c n vs e = refl

grab_some : (c : ℕ) (vs : List Term) (f : Terms → Term) → holds 0 (grab c vs (λ ts rest. some (f ts ∷ rest))) ≡ false
grab_some zero vs f = eqb-zero-suc (length vs)
grab_some (suc c) [] f = refl
grab_some (suc c) (v ∷ vs) f = grab_some c vs (λ ts. f (Cons v ts))

need_false : (q : Bool) (o : Option (List Term)) → holds 0 o ≡ false → holds 0 (need q o) ≡ false
need_false true o e = e
need_false false o e = refl

-- a node is the start of a term
node_some : (k s c : ℕ) (vs : List Term) → holds 0 (node (kind_of k) s c vs) ≡ false
node_some zero s c vs = need_false (eqb c 0) (some (Var s ∷ vs)) (eqb-zero-suc (length vs))
node_some (suc zero) s c vs = need_false (leb c argument_limit) _ (grab_some c vs (Sym s))
node_some (suc (suc zero)) s c vs = need_false (leb c argument_limit) _ (grab_some c vs (Meta s))
node_some (suc (suc (suc zero))) s c vs = need_false (eqb s 0) _ (need_false (eqb c 1) (abstract vs) (one_more vs))
  where
    one_more : (vs : List Term) → holds 0 (abstract vs) ≡ false
    one_more [] = refl
    one_more (v ∷ vs) = eqb-zero-suc (length vs)
node_some (suc (suc (suc (suc k)))) s c vs = refl

-- ---- The walk from the front, in the code's form

module _ (t : List ℕ) (a : ℕ) where
  pub good_node : (n : ℕ) → a + 2 ≤ length t → 0 < n → in_layout (get_or t a 0) (get_or t (a + 1) 0) ≡ true
      → holds n (terms_in (drop a t)) ≡ holds (n - 1 + get_or t (a + 1) 0) (terms_in (drop (a + 2) t))
  unfolding in_layout
  good_node n l h e = rw (two t a l) (go n h (terms_in (drop (a + 2) t)))
    where
      go : (n : ℕ) → 0 < n → (o : Option (List Term))
          → holds n (and_then o (node (kind_of (get_or t a 0 / 65536)) (get_or t a 0 % 65536) (get_or t (a + 1) 0))) ≡ holds (n - 1 + get_or t (a + 1) 0) o
      go zero h o = absurd (omega arith)
      go (suc n) h none = refl
      go (suc n) h (some vs) =
          let m : suc n - 1 + get_or t (a + 1) 0 ≡ n + get_or t (a + 1) 0 = omega arith in
          rw m (node_counted (get_or t a 0 / 65536) (get_or t a 0 % 65536) (get_or t (a + 1) 0) n vs e)

  pub good_outside : (n : ℕ) → a + 2 ≤ length t → in_layout (get_or t a 0) (get_or t (a + 1) 0) ≡ false → holds n (terms_in (drop a t)) ≡ false
  unfolding in_layout
  good_outside n l e = rw (two t a l) (go (terms_in (drop (a + 2) t)))
    where
      go : (o : Option (List Term)) → holds n (and_then o (node (kind_of (get_or t a 0 / 65536)) (get_or t a 0 % 65536) (get_or t (a + 1) 0))) ≡ false
      go none = refl
      go (some vs) = node_outside (get_or t a 0 / 65536) (get_or t a 0 % 65536) (get_or t (a + 1) 0) n vs e

  -- words are left, and no term is owed any more
  pub good_more : (n : ℕ) → a + 2 ≤ length t → n ≡ 0 → holds n (terms_in (drop a t)) ≡ false
  good_more n l z = rw (z, two t a l) (go (terms_in (drop (a + 2) t)))
    where
      go : (o : Option (List Term)) → holds 0 (and_then o (node (kind_of (get_or t a 0 / 65536)) (get_or t a 0 % 65536) (get_or t (a + 1) 0))) ≡ false
      go none = refl
      go (some vs) = node_some (get_or t a 0 / 65536) (get_or t a 0 % 65536) (get_or t (a + 1) 0) vs

  -- one word is left
  pub good_odd : (n : ℕ) → a + 1 ≡ length t → holds n (terms_in (drop a t)) ≡ false
  good_odd n e = go (drop a t) (rw (length-drop a t) (omega arith))
    where
      go : (ws : List ℕ) → length ws ≡ 1 → holds n (terms_in ws) ≡ false
      go [] e = absurd (omega arith)
      go (w ∷ []) e = refl
      go (w ∷ c ∷ ws) e = absurd (omega arith)

  pub good_end : (n : ℕ) → length t ≤ a → holds n (terms_in (drop a t)) ≡ eqb n 0
  good_end n e = go (drop a t) (rw (length-drop a t) (omega arith))
    where
      go : (ws : List ℕ) → length ws ≡ 0 → holds n (terms_in ws) ≡ eqb n 0
      go [] e = refl
      go (w ∷ ws) e = absurd (omega arith)

-- the same, by chunks of two words
module _ (x r : List ℕ) (l : length x ≡ 2) where
  pub chunk_length : length (x ++ r) ≡ 2 + length r
  chunk_length = let e : length (x ++ r) ≡ suc (suc (length r)) = ap length (chunk_two x r l) in omega arith

  pub chunk_node : (n : ℕ) → 0 < n → in_layout (get_or x 0 0) (get_or x 1 0) ≡ true → holds n (terms_in (x ++ r)) ≡ holds (n - 1 + get_or x 1 0) (terms_in r)
  chunk_node n h e = rw (chunk_two x r l) (good_node (get_or x 0 0 ∷ get_or x 1 0 ∷ r) 0 n (omega arith) h e)

  pub chunk_outside : (n : ℕ) → in_layout (get_or x 0 0) (get_or x 1 0) ≡ false → holds n (terms_in (x ++ r)) ≡ false
  chunk_outside n e = rw (chunk_two x r l) (good_outside (get_or x 0 0 ∷ get_or x 1 0 ∷ r) 0 n (omega arith) e)

  pub chunk_more : (n : ℕ) → n ≡ 0 → holds n (terms_in (x ++ r)) ≡ false
  chunk_more n z = rw (chunk_two x r l) (good_more (get_or x 0 0 ∷ get_or x 1 0 ∷ r) 0 n (omega arith) z)

-- ---- What a good table holds

pub good_begins : (t : List ℕ) → is_good t ≡ true → Begins 1 t × (term_in t ≡ some (front t)) × (word_count (front t) ≡ length t)
unfolding is_good front held
good_begins t e = go (terms_in t) refl e
  where
    go : (o : Option (List Term)) → terms_in t ≡ o → is_there (and_then o single) ≡ true → Begins 1 t × (term_in t ≡ some (front t)) × (word_count (front t) ≡ length t)
    go none p e = never (cc)
    go (some []) p e = never (cc)
    go (some (u ∷ [])) p e =
        let r : term_in t ≡ some u = rw p refl in
        let w = (table_of_term_in t u r).0 in
        let l = length_table_of u in
        (record { whole = rw p refl; enough = rw p (omega arith) }, rw p refl, rw p (rw w at (sym l)))
    go (some (u ∷ v ∷ us)) p e = never (cc)

-- ---- Depth, level by level

pub depth_headed : (k s : ℕ) (ts : Terms) → Shape k s ts → depth (headed k s ts) ≡ 1 + depth ts
depth_headed zero s ts h = rw h refl
depth_headed (suc zero) s ts h = omega arith
depth_headed (suc (suc zero)) s ts h = omega arith
depth_headed (suc (suc (suc zero))) s ts h =
    let e : depth ts ≡ max (depth (only ts)) 0 = ap (λ (x : Terms). depth x) h.1 in
    omega arith
depth_headed (suc (suc (suc (suc k)))) s ts h = absurd h

-- terms that are owed level by level, the innermost first, are not deeper than the levels that are left for them
abbrev pub shallow : List ℕ → ℕ → List Term → Bool
shallow [] levels us = true
shallow (n ∷ ns) levels us = leb (depth (first_terms n us)) levels && shallow ns (suc levels) (drop n us)

join_nil : (ts : Terms) → join ts Nil ≡ ts
join_nil Nil = refl
join_nil (Cons t ts) = ap (Cons t) (join_nil ts)

pub first_arguments : (ts : Terms) (us : List Term) → first_terms (len ts) (before many ts us) ≡ ts
first_arguments ts us = rw (add-zero (len ts)) at (first_before ts us 0 ∙ join_nil ts)

pub drop_arguments : (ts : Terms) (us : List Term) → drop (len ts) (before many ts us) ≡ us
drop_arguments Nil us = refl
drop_arguments (Cons t ts) us = drop_arguments ts us

leb_one : (x l : ℕ) → leb (1 + x) (suc l) ≡ leb x l
leb_one x l = let e : 1 + x ≡ suc x = omega arith in rw e (leb-suc-suc x l)

-- a node: its arguments are owed one level further in
opened_shallow : {k s c : ℕ} {us vs : List Term} (n levels : ℕ) (ns : List ℕ) → Opened k s c us vs → shallow (suc n ∷ ns) (suc levels) us ≡ shallow (c ∷ n ∷ ns) levels vs
opened_shallow {k} {s} {c} {us} {vs} n levels ns o =
    rw (
      o.node,
      o.inside,
      ← o.count,
      first_arguments o.arguments o.rest,
      drop_arguments o.arguments o.rest,
      depth_headed k s o.arguments o.shape,
      leb_max (1 + depth o.arguments) (depth (first_terms n o.rest)) (suc levels),
      leb_one (depth o.arguments) levels,
    )
    (and_assoc (leb (depth o.arguments) levels) (leb (depth (first_terms n o.rest)) (suc levels)) (shallow ns (suc (suc levels)) (drop n o.rest)))

-- the numbers at the front of an array, the last of them first
abbrev pub listed : List ℕ → ℕ → List ℕ
listed above zero = []
listed above (suc k) = get_or above k 0 ∷ listed above k

pub listed_set : (above : List ℕ) (k m v : ℕ) → k ≤ m → listed (set above m v) k ≡ listed above k
listed_set above zero m v h = refl
listed_set above (suc k) m v h = ap₂ (λ (x : ℕ) (l : List ℕ). x ∷ l) (get_or-set_other above m k v 0 (λ e. omega arith)) (listed_set above k m v (omega arith))

abbrev pub total : List ℕ → ℕ
total [] = 0
total (n ∷ ns) = n + total ns

-- Where the walk of a table's levels stands: `owed` terms at the innermost level, and above it those of each open one.
pub record Levels (table : List ℕ) (above : List ℕ) (level owed at : ℕ) : Type 0 where
  pub walk : Walk table at (owed + total (listed above level))
  pub same : shallow (owed ∷ listed above level) (64 - level) (held (drop at table)) ≡ leb (depth (front table)) 64
  pub few : level ≤ 63
  pub room : length above ≡ 64

pub levels_from_lem : {table : List ℕ} → Begins 1 table → Levels table (replicate 64 0) 0 1 0
unfolding terms
levels_from_lem {table} b = record {
  walk = walk_from b;
  same =
      let e : depth (terms 1 table) ≡ depth (front table) = let f : depth (terms 1 table) ≡ max (depth (front table)) 0 = ap (λ (x : Terms). depth x) (front_term table b) in omega arith in
      rw e (and-true (leb (depth (front table)) 64));
  few = omega arith;
  room = refl;
}

module _ {table above : List ℕ} {level owed at : ℕ} (l : Levels table above level owed at) where
  -- a level is done
  pub levels_up : owed ≡ 0 → 0 < level → Levels table above (level - 1) (get_or above (level - 1) 0) at
  levels_up z h = go level h l
    where
      go : (level : ℕ) → 0 < level → Levels table above level owed at → Levels table above (level - 1) (get_or above (level - 1) 0) at
      go zero h l = absurd (omega arith)
      go (suc k) h l =
          let e : suc k - 1 ≡ k = omega arith in
          let f : suc (64 - suc k) ≡ 64 - k = let q = l.few in omega arith in
          let w : owed + total (listed above (suc k)) ≡ get_or above k 0 + total (listed above k) = omega arith in
          rw e (record { walk = rw w at l.walk; same = rw (z, le-leb 0 (64 - suc k) (omega arith), f) at l.same; few = let q = l.few in omega arith; room = l.room })

  pub levels_end : owed ≡ 0 → level ≡ 0 → true ≡ leb (depth (front table)) 64
  levels_end z e = rw (z, e) at l.same

  -- the terms behind a node's words
  inside : (h : 0 < owed) → shallow (get_or table (at + 1) 0 ∷ (owed - 1) ∷ listed above level) (63 - level) (held (drop (at + 2) table)) ≡ leb (depth (front table)) 64
  inside h =
      let o = (opened table at l.walk.begins (omega arith)).1 in
      let e : owed ≡ suc (owed - 1) = omega arith in
      let f : 64 - level ≡ suc (63 - level) = let q = l.few in omega arith in
      sym (opened_shallow (owed - 1) (63 - level) (listed above level) o) ∙ rw (e, f) at l.same

  levels_inside : (above' : List ℕ) (level' owed' : ℕ) → 0 < owed → owed' + total (listed above' level') ≡ owed + total (listed above level) - 1 + get_or table (at + 1) 0
      → shallow (owed' ∷ listed above' level') (64 - level') (held (drop (at + 2) table)) ≡ leb (depth (front table)) 64
      → level' ≤ 63 → length above' ≡ 64 → Levels table above' level' owed' (at + 2)
  levels_inside above' level' owed' h n s f r = record {
    walk = rw n (walk_on l.walk (omega arith));
    same = s;
    few = f;
    room = r;
  }

  -- a node without arguments
  pub levels_leaf : 0 < owed → get_or table (at + 1) 0 ≡ 0 → Levels table above level (owed - 1) (at + 2)
  levels_leaf h z =
      let f : 64 - level ≡ suc (63 - level) = let q = l.few in omega arith in
      levels_inside above level (owed - 1) h (omega arith) (rw f (rw (z, le-leb 0 (63 - level) (omega arith)) at (inside h))) l.few l.room

  -- a node with arguments, which are owed one level further in
  pub levels_down : 0 < owed → level < 63 → Levels table (set above level (owed - 1)) (level + 1) (get_or table (at + 1) 0) (at + 2)
  levels_down h k =
      let g : level < length above = let q = l.room in omega arith in
      let e : listed (set above level (owed - 1)) (level + 1) ≡ (owed - 1) ∷ listed above level =
      rw (add-one level, get_or-set_same above level (owed - 1) 0 g, listed_set above level level (owed - 1) (omega arith)) refl in
      let f : 64 - (level + 1) ≡ 63 - level = omega arith in
      levels_inside (set above level (owed - 1)) (level + 1) (get_or table (at + 1) 0) h (rw e (omega arith)) (rw (e, f) (inside h)) (omega arith) (simp length-set l.room)

  -- no level is left for a node's arguments
  pub levels_deep : 0 < owed → level ≡ 63 → (get_or table (at + 1) 0 ≡ 0 → ⊥) → false ≡ leb (depth (front table)) 64
  levels_deep h e c =
      let z : 63 - level ≡ 0 = omega arith in
      let b = begins_less (get_or table (at + 1) 0) (omega arith) (walk_on l.walk (omega arith)).begins in
      rw (some_depth (get_or table (at + 1) 0) (held (drop (at + 2) table)) (omega arith) b.enough) at (rw z at (inside h))
    where
      some_depth : (n : ℕ) (us : List Term) → 0 < n → n ≤ length us → leb (depth (first_terms n us)) 0 ≡ false
      some_depth zero us h k = absurd (omega arith)
      some_depth (suc n) [] h k = absurd (omega arith)
      some_depth (suc n) (u ∷ us) h k = let d = depth_positive u in lt-leb (max (depth u) (depth (first_terms n us))) 0 (omega arith)

-- ---- The whole check

module _ (limit : ℕ) (t : List ℕ) where
  pub accept_long : 2 * limit < length t → sized (table_in limit t) ≡ Err refusal.TooManyWords
  unfolding table_in
  accept_long h = rw (lt-leb (length t) (2 * limit) h) refl

  pub accept_bad : length t ≤ 2 * limit → is_good t ≡ false → sized (table_in limit t) ≡ Err refusal.TableNotGood
  unfolding table_in is_good
  accept_bad h e = rw (le-leb (length t) (2 * limit) h) (go (term_in t) e)
    where
      go : (o : Option Term) → is_there o ≡ false
          → sized (with (or_refuse o refusal.TableNotGood) (λ u. unless (leb (depth u) depth_limit) refusal.TooDeep (answered u))) ≡ Err refusal.TableNotGood
      go none e = refl
      go (some u) e = never (cc)

  good_answer : length t ≤ 2 * limit → is_good t ≡ true → table_in limit t ≡ unless (leb (depth (front t)) depth_limit) refusal.TooDeep (answered (front t))
  unfolding table_in
  good_answer h e = rw (le-leb (length t) (2 * limit) h, (good_begins t e).1) refl

  pub accept_deep : length t ≤ 2 * limit → is_good t ≡ true → leb (depth (front t)) depth_limit ≡ false → sized (table_in limit t) ≡ Err refusal.TooDeep
  accept_deep h e d = rw (good_answer h e, d) refl

  pub accept_good : length t ≤ 2 * limit → is_good t ≡ true → leb (depth (front t)) depth_limit ≡ true → sized (table_in limit t) ≡ Ok (length t / 2)
  accept_good h e d =
      let w = (good_begins t e).2 in
      let n : nodes (front t) ≡ length t / 2 = omega arith in
      rw (good_answer h e, d) (ap Ok n)

-- ---- What callers know of an accepted table

pub table_begins : (u : Term) (t : List ℕ) → table_of u ≡ t → Fits u → Begins 1 t × (front t ≡ u)
unfolding front held
table_begins u t e f =
    let p : terms_in t ≡ some (u ∷ []) = rw (← e, ← (append-nil (table_of u))) (terms_in_tables_of (u ∷ []) (f, tt)) in
    (record { whole = rw p refl; enough = rw p (omega arith) }, rw p refl)

-- an accepted subject's table begins with it
pub subject_there : (subject : List ℕ) {n : ℕ} {r : Result ℕ Refusal} → r ≡ sized (subject_in subject) → r ≡ Ok n
    → (subject_in subject ≡ answered (front subject)) × (n ≡ nodes (front subject))
subject_there subject e f = go (subject_in subject) refl (sym f ∙ e)
  where
    go : {n : ℕ} (a : Answer Term) → subject_in subject ≡ a → Ok n ≡ sized a → (subject_in subject ≡ answered (front subject)) × (n ≡ nodes (front subject))
    go (refused w) q e = never (cc)
    go {n} (answered u) q e =
        let h = (subject_in_held subject u q).0 in
        let z : front subject ≡ u = (table_begins u subject h.table h.fits).1 in
        let k : n ≡ nodes u = cc in
        (q ∙ ap answered (sym z), k ∙ ap (λ (v : Term). nodes v) (sym z))

pub record AcceptedTable (limit : ℕ) (t : List ℕ) (n : ℕ) : Type 0 where
  pub begins : Begins 1 t
  pub term : table_in limit t ≡ answered (front t)
  pub count : n ≡ nodes (front t)
  pub table : table_of (front t) ≡ t
  pub fits : Fits (front t)

pub accepted_table : (limit : ℕ) (t : List ℕ) (n : ℕ) → Ok n ≡ sized (table_in limit t) → AcceptedTable limit t n
accepted_table limit t n e = go (table_in limit t) refl e
  where
    go : (a : Answer Term) → table_in limit t ≡ a → Ok n ≡ sized a → AcceptedTable limit t n
    go (refused r) p e = never (cc)
    go (answered u) p e =
        let h = table_in_held limit t u p in
        let b = table_begins u t h.table h.fits in
        record {
          begins = b.0;
          term = p ∙ ap answered (sym b.1);
          count = rw b.1 (cc);
          table = rw b.1 h.table;
          fits = rw b.1 h.fits;
        }

pub fits_subterm : {s : Sort} (t : Tm s) (n : ℕ) (u : Term) → Fits t → subterm t n ≡ some u → Fits u
fits_subterm (Var x) zero u f e = let q : Var x ≡ u = cc in rw (← q) f
fits_subterm (Var x) (suc n) u f e = never (cc)
fits_subterm (Sym s ts) zero u f e = let q : Sym s ts ≡ u = cc in rw (← q) f
fits_subterm (Sym s ts) (suc n) u f e = fits_subterm ts n u f.2 e
fits_subterm (Meta z ts) zero u f e = let q : Meta z ts ≡ u = cc in rw (← q) f
fits_subterm (Meta z ts) (suc n) u f e = fits_subterm ts n u f.2 e
fits_subterm (Abst t) zero u f e = let q : Abst t ≡ u = cc in rw (← q) f
fits_subterm (Abst t) (suc n) u f e = fits_subterm t n u f e
fits_subterm Nil n u f e = never (cc)
fits_subterm (Cons t ts) n u f e = go (ltb n (nodes t)) (fits_subterm t n u f.0) (fits_subterm ts (n - nodes t) u f.1) e
  where
    go : (q : Bool) → (subterm t n ≡ some u → Fits u) → (subterm ts (n - nodes t) ≡ some u → Fits u)
        → cond q (subterm t n) (subterm ts (n - nodes t)) ≡ some u → Fits u
    go true f g e = f e
    go false f g e = g e

-- behind whole nodes the words hold terms, if all of them do
behind_held : (before ws : List ℕ) (n : ℕ) (us : List Term) → length before ≡ 2 * n → terms_in (before ++ ws) ≡ some us → (vs : List Term) × (terms_in ws ≡ some vs)
behind_held [] ws n us l e = (us, e)
behind_held (w ∷ []) ws n us l e = absurd (omega arith)
behind_held (w ∷ c ∷ before) ws zero us l e = absurd (omega arith)
behind_held (w ∷ c ∷ before) ws (suc n) us l e =
    let p = and_then_is (terms_in (before ++ ws)) _ us e in
    behind_held before ws n p.0 (omega arith) p.1

front_is : (u : Term) (ws : List ℕ) (vs : List Term) → Fits u → terms_in (table_of u ++ ws) ≡ some vs → Begins 1 (table_of u ++ ws) × (front (table_of u ++ ws) ≡ u)
unfolding front held
front_is u ws vs f e =
    let p = and_then_is (terms_in ws) _ vs (sym (terms_in_table_of u ws f) ∙ e) in
    let q : terms_in (table_of u ++ ws) ≡ some (u ∷ p.0) = terms_in_table_of u ws f ∙ ap (λ (o : Option (List Term)). and_then o (λ us. some (u ∷ us))) p.1 in
    (record { whole = rw q refl; enough = rw q (omega arith) }, rw q refl)

-- The part that starts at a node begins with the subterm there: what each walk asks of its caller.
pub part_begins : {t : List ℕ} (n : ℕ) (u : Term) → table_of (front t) ≡ t → Fits (front t) → subterm (front t) n ≡ some u
    → Begins 1 (drop (2 * n) t) × (front (drop (2 * n) t) ≡ u)
part_begins {t} n u table fits e =
    let p = subterm_place (front t) n u e in
    let w : t ≡ p.before ++ (table_of u ++ p.behind) = sym table ∙ p.whole in
    let d : drop (2 * n) t ≡ table_of u ++ p.behind = ap (drop (2 * n)) w ∙ (drop_at p.before (table_of u ++ p.behind) (2 * n) p.start) in
    let b = table_begins (front t) t table fits in
    let v = behind_held p.before (table_of u ++ p.behind) n (held t) p.start (ap terms_in (sym w) ∙ b.0.whole) in
    rw d (front_is u p.behind v.0 (fits_subterm (front t) n u fits e) v.1)

pub accepted_part : {limit : ℕ} {t : List ℕ} {k : ℕ} (n : ℕ) (u : Term) → AcceptedTable limit t k → subterm (front t) n ≡ some u
    → Begins 1 (drop (2 * n) t) × (front (drop (2 * n) t) ≡ u)
accepted_part n u a e = part_begins n u a.table a.fits e

-- ---- A subject

pub subject_refused : (t : List ℕ) (r : Refusal) → Err r ≡ sized (table_in plan_limit t) → sized (subject_in t) ≡ Err r
unfolding subject_in
subject_refused t r e = go (table_in plan_limit t) e
  where
    go : (a : Answer Term) → Err r ≡ sized a → sized (with a (λ u. unless (is_empty (metas u)) refusal.MetavariableInSubject (answered u))) ≡ Err r
    go (answered u) e = never (cc)
    go (refused q) e = sym e

module _ {t : List ℕ} {n : ℕ} (a : AcceptedTable plan_limit t n) where
  pub subject_metavariable : is_empty (metas (front t)) ≡ false → sized (subject_in t) ≡ Err refusal.MetavariableInSubject
  unfolding subject_in
  subject_metavariable e = rw (a.term, e) refl

  pub subject_plain : is_empty (metas (front t)) ≡ true → sized (subject_in t) ≡ Ok n
  unfolding subject_in
  subject_plain e = rw (a.term, e) (ap Ok (sym a.count))
