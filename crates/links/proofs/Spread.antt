-- What a walk of an entry's nodes adds up is what `Trees` says of the entry's term, and what the walk needs of each node's place.
use mathlib.Core.Path.{◌≡◌, refl, sym, ap, ◌∙◌}
use Prim.Native.Nat.{ℕ, zero, suc, ◌+◌, ◌-◌, ◌*◌, ◌/◌, ◌≤◌, ◌<◌, max}
use native.Mathlib.Omega.{arith}
use mathlib.Core.Bool.{Bool, true, false, ◌&&◌, cond}
use mathlib.Core.Option.{Option, none, some}
use mathlib.Core.List.{List, [], ◌∷◌, ◌++◌}
use lib.Dec.{leb, ltb}
use lib.ListN.{length, get_or, drop, length-append, length-drop, get_or-append}
use lib.Seq.{get_or-append-add}
use borrow.Author.Tests.{ltb-true, ltb-false, lt-ltb, le-leb, lt-leb}
use Rattle.documents.specs.Terms.{Sort, Tm, Var, Sym, Meta, Abst, Nil, Cons}
use Rattle.documents.specs.Tables.{node_word, table_of, Fits, nodes, depth}
use Rattle.documents.proofs.Lists.{at_cons}
use Rattle.documents.proofs.Nodes.{nodes_positive}
use Rattle.trees.specs.Trees.{or_one, or_moved, spread_nodes, spread_depth, spread_reach}
use Rattle.survey.specs.Places.{place, places_of}
use Rattle.survey.proofs.Places.{length_places}
use Rattle.links.specs.Links.{capped}
use Rattle.links.specs.Nodewise.{is_free, total, levels_in, inside_of, node_nodes, node_depth, node_reach, node_seen}
use Rattle.links.specs.Standing.{entry_place, entry_at}
use Rattle.links.proofs.Variables.{no_variable}
use Rattle.links.proofs.Gathered.{gathered, total_is}
use Rattle.links.proofs.Entered.{Entered}

-- ---- A node's place below a root's

-- i levels and k abstractions below it
pub record Below (r d n i k : ℕ) : Type 0 where
  pub level : ℕ
  pub above : ℕ
  pub root : r ≡ place level above
  pub levels : d ≡ level + i
  pub inside : n ≡ above + k
  pub few : n < 256

module _ {r d n i k : ℕ} (b : Below r d n i k) where
  pub inside_at : inside_of r (place d n) ≡ k
  inside_at = omega arith

  pub levels_at : levels_in r (place d n) ≡ i
  levels_at = omega arith

  pub below_node : Below r (suc d) n (suc i) k
  below_node = record { level = b.level; above = b.above; root = b.root; levels = omega arith; inside = b.inside; few = b.few }

  pub below_abstraction : n + 1 < 256 → Below r (suc d) (suc n) (suc i) (suc k)
  below_abstraction h = record { level = b.level; above = b.above; root = b.root; levels = omega arith; inside = omega arith; few = omega arith }

-- ---- Its first word

-- a variable of a table is free where it is not bound
pub free_or_bound : {A : Type 0} (w x n : ℕ) (free : ℕ → A) (bound : A) → w ≡ x → x ≤ 65535
    → cond (is_free w n) (free (w - n)) bound ≡ cond (ltb x n) bound (free (x - n))
unfolding is_free
free_or_bound {A} w x n free bound e h = rw e (go (ltb x n) refl)
  where
    small : ltb x 65536 ≡ true
    small = lt-ltb x 65536 (omega arith)

    go : (q : Bool) → ltb x n ≡ q → cond (ltb x 65536 && leb n x) (free (x - n)) bound ≡ cond q bound (free (x - n))
    go true q = let k = ltb-true x n q in rw (small, lt-leb n x k)
    go false q = let k = ltb-false x n q in rw (small, le-leb n x k)

-- ---- Term by term

pub nodes_at : {s : Sort} (f : ℕ → Option ℕ) (t : Tm s) {r d n i k : ℕ} → Below r d n i k → n + depth t < 256 → Fits t
    → gathered ◌+◌ 0 (node_nodes f r) d n t ≡ spread_nodes f k t
nodes_at f (Var x) {k = k} b h fit =
    ap (λ m. cond (is_free (node_word 0 x) m) (or_one (f (node_word 0 x - m))) 1) (inside_at b)
    ∙ free_or_bound (node_word 0 x) x k (λ y. or_one (f y)) 1 (omega arith) fit
nodes_at f (Sym s ts) {r} {d} {n} b h fit =
    rw (← no_variable (node_word 1 s) (inside_of r (place d n)) (omega arith), nodes_at f ts (below_node b) (omega arith) fit.2) (omega arith)
nodes_at f (Meta z ts) {r} {d} {n} b h fit =
    rw (← no_variable (node_word 2 z) (inside_of r (place d n)) (omega arith), nodes_at f ts (below_node b) (omega arith) fit.2) (omega arith)
nodes_at f (Abst t) {r} {d} {n} b h fit =
    rw (← no_variable (node_word 3 0) (inside_of r (place d n)) (omega arith), nodes_at f t (below_abstraction b (omega arith)) (omega arith) fit) (omega arith)
nodes_at f Nil b h fit = refl
nodes_at f (Cons t ts) b h fit = rw (nodes_at f t b (omega arith) fit.0, nodes_at f ts b (omega arith) fit.1)

-- the levels passed count in any case
pub depth_at_lem : {s : Sort} (f : ℕ → Option ℕ) (t : Tm s) {r d n i k : ℕ} → Below r d n i k → n + depth t < 256 → Fits t
    → max i (gathered max 0 (node_depth f r) d n t) ≡ i + spread_depth f k t
depth_at_lem f (Var x) {r} {d} {n} {i} {k} b h fit =
    let e =
    ap (λ m. cond (is_free (node_word 0 x) m) (or_one (f (node_word 0 x - m))) 1) (inside_at b)
    ∙ free_or_bound (node_word 0 x) x k (λ y. or_one (f y)) 1 (omega arith) fit
    in
    rw (levels_at b, e) (omega arith)
depth_at_lem f (Sym s ts) {r} {d} {n} b h fit =
    let g = depth_at_lem f ts (below_node b) (omega arith) fit.2 in
    rw (← no_variable (node_word 1 s) (inside_of r (place d n)) (omega arith), levels_at b) (omega arith)
depth_at_lem f (Meta z ts) {r} {d} {n} b h fit =
    let g = depth_at_lem f ts (below_node b) (omega arith) fit.2 in
    rw (← no_variable (node_word 2 z) (inside_of r (place d n)) (omega arith), levels_at b) (omega arith)
depth_at_lem f (Abst t) {r} {d} {n} b h fit =
    let g = depth_at_lem f t (below_abstraction b (omega arith)) (omega arith) fit in
    rw (← no_variable (node_word 3 0) (inside_of r (place d n)) (omega arith), levels_at b) (omega arith)
depth_at_lem f Nil b h fit = omega arith
depth_at_lem f (Cons t ts) b h fit =
    let g = depth_at_lem f t b (omega arith) fit.0 in
    let j = depth_at_lem f ts b (omega arith) fit.1 in
    omega arith

pub reach_at : {s : Sort} (f : ℕ → Option ℕ) (D : ℕ) (t : Tm s) {r d n i k : ℕ} → Below r d n i k → n + depth t < 256 → Fits t
    → gathered max 0 (node_reach f D r) d n t ≡ spread_reach f D k t
reach_at f D (Var x) {k = k} b h fit =
    let w : node_word 0 x ≡ x = omega arith in
    ap (λ m. cond (is_free (node_word 0 x) m) (or_moved (f (node_word 0 x - m)) D m (node_word 0 x)) 0) (inside_at b)
    ∙ ap (λ v. cond (is_free v k) (or_moved (f (v - k)) D k v) 0) w
    ∙ free_or_bound x x k (λ y. or_moved (f y) D k x) 0 refl fit
reach_at f D (Sym s ts) {r} {d} {n} b h fit =
    rw (← no_variable (node_word 1 s) (inside_of r (place d n)) (omega arith), reach_at f D ts (below_node b) (omega arith) fit.2) (omega arith)
reach_at f D (Meta z ts) {r} {d} {n} b h fit =
    rw (← no_variable (node_word 2 z) (inside_of r (place d n)) (omega arith), reach_at f D ts (below_node b) (omega arith) fit.2) (omega arith)
reach_at f D (Abst t) {r} {d} {n} b h fit =
    rw (← no_variable (node_word 3 0) (inside_of r (place d n)) (omega arith), reach_at f D t (below_abstraction b (omega arith)) (omega arith) fit) (omega arith)
reach_at f D Nil b h fit = refl
reach_at f D (Cons t ts) b h fit = rw (reach_at f D t b (omega arith) fit.0, reach_at f D ts b (omega arith) fit.1)

-- ---- An entry

module _ {subject entries places : List ℕ} {e : ℕ} (en : Entered subject entries places e) where
  pub entry_root : Below (get_or places (entry_place entries e / 2) 0) en.level en.above 0 0
  entry_root = record { level = en.level; above = en.above; root = en.root; levels = omega arith; inside = omega arith; few = omega arith }

  -- its words and places are those of its term's nodes
  pub entry_total : {A : Type 0} (op : A → A → A) (u : A) (g : ℕ → ℕ → ℕ → A) → ((a b c : A) → op (op a b) c ≡ op a (op b c)) → ((a : A) → op u a ≡ a)
      → ((a : A) → op a u ≡ a)
      → total op u g (nodes (entry_at subject entries e)) (drop (entry_place entries e) subject) (drop (entry_place entries e / 2) places)
      ≡ gathered op u g en.level en.above (entry_at subject entries e)
  entry_total op u g assoc left right =
      let a = entry_at subject entries e in
      ap (λ (ws : List ℕ). total op u g (nodes a) ws (drop (entry_place entries e / 2) places)) en.words
      ∙ ap (λ (hs : List ℕ). total op u g (nodes a) (table_of a ++ en.later) hs) en.placed_so
      ∙ total_is op u g assoc left right a en.level en.above en.later en.later_places

  module _ (f : ℕ → Option ℕ) where
    pub spread_nodes_lem : total ◌+◌ 0 (node_nodes f (get_or places (entry_place entries e / 2) 0)) (nodes (entry_at subject entries e)) (drop (entry_place entries e) subject)
        (drop (entry_place entries e / 2) places)
        ≡ spread_nodes f 0 (entry_at subject entries e)
    spread_nodes_lem =
        entry_total ◌+◌ 0 _ (λ a b c. omega arith) (λ a. omega arith) (λ a. omega arith)
        ∙ nodes_at f (entry_at subject entries e) entry_root (omega arith) en.fits

    pub spread_depth_lem : total max 0 (node_depth f (get_or places (entry_place entries e / 2) 0)) (nodes (entry_at subject entries e)) (drop (entry_place entries e) subject)
        (drop (entry_place entries e / 2) places)
        ≡ spread_depth f 0 (entry_at subject entries e)
    spread_depth_lem =
        let g = depth_at_lem f (entry_at subject entries e) entry_root (omega arith) en.fits in
        entry_total max 0 _ (λ a b c. omega arith) (λ a. omega arith) (λ a. omega arith) ∙ omega arith

    pub spread_reach_lem : (D : ℕ)
        → total max 0 (node_reach f D (get_or places (entry_place entries e / 2) 0)) (nodes (entry_at subject entries e)) (drop (entry_place entries e) subject)
        (drop (entry_place entries e / 2) places)
        ≡ spread_reach f D 0 (entry_at subject entries e)
    spread_reach_lem D =
        entry_total max 0 _ (λ a b c. omega arith) (λ a. omega arith) (λ a. omega arith)
        ∙ reach_at f D (entry_at subject entries e) entry_root (omega arith) en.fits

-- ---- The places of its nodes

-- a place, between the root's and the deepest
pub record Among (d n deep h : ℕ) : Type 0 where
  pub levels : ℕ
  pub inside : ℕ
  pub is : h ≡ place (d + levels) (n + inside)
  pub fewer : inside ≤ levels
  pub higher : levels < deep

among_root : (d n deep : ℕ) → Among d n (suc deep) (place d n)
among_root d n deep = record { levels = 0; inside = 0; is = omega arith; fewer = omega arith; higher = omega arith }

among_below : {d n m deep h : ℕ} → Among (suc d) m deep h → n ≤ m → m ≤ suc n → Among d n (suc deep) h
among_below {d} {n} {m} a p q = record {
  levels = suc a.levels;
  inside = m - n + a.inside;
  is = omega arith;
  fewer = omega arith;
  higher = omega arith;
}

among_deeper : {d n deep more h : ℕ} → Among d n deep h → deep ≤ more → Among d n more h
among_deeper a p = record { levels = a.levels; inside = a.inside; is = a.is; fewer = a.fewer; higher = omega arith }

pub among : {s : Sort} (d n : ℕ) (t : Tm s) (j : ℕ) → j < nodes t → Among d n (depth t) (get_or (places_of d n t) j 0)
among d n (Var x) zero h = among_root d n _
among d n (Var x) (suc j) h = absurd (omega arith)
among d n (Sym s ts) zero h = among_root d n _
among d n (Sym s ts) (suc j) h = among_below (among (suc d) n ts j (omega arith)) (omega arith) (omega arith)
among d n (Meta z ts) zero h = among_root d n _
among d n (Meta z ts) (suc j) h = among_below (among (suc d) n ts j (omega arith)) (omega arith) (omega arith)
among d n (Abst t) zero h = among_root d n _
among d n (Abst t) (suc j) h = among_below (among (suc d) (suc n) t j (omega arith)) (omega arith) (omega arith)
among d n Nil j h = absurd (omega arith)
among d n (Cons t ts) j h = go (ltb j (nodes t)) refl (λ k. among d n t j k) (λ k. among d n ts (j - nodes t) k)
  where
    go : (q : Bool) → ltb j (nodes t) ≡ q → (j < nodes t → Among d n (depth t) (get_or (places_of d n t) j 0))
        → (j - nodes t < nodes ts → Among d n (depth ts) (get_or (places_of d n ts) (j - nodes t) 0))
        → Among d n (max (depth t) (depth ts)) (get_or (places_of d n t ++ places_of d n ts) j 0)
    go true q f g =
        let k = ltb-true j (nodes t) q in
        let l = length_places d n t in
        rw (get_or-append (places_of d n t) (places_of d n ts) 0 j (omega arith)) (among_deeper (f k) (omega arith))
    go false q f g =
        let k = ltb-false j (nodes t) q in
        let l = length_places d n t in
        let z : j ≡ length (places_of d n t) + (j - nodes t) = omega arith in
        let e = ap (λ i. get_or (places_of d n t ++ places_of d n ts) i 0) z ∙ get_or-append-add (places_of d n t) (places_of d n ts) (j - nodes t) 0 in
        rw e (among_deeper (g (omega arith)) (omega arith))

-- a node below its entry's root: what a walk needs of its place
pub record PlaceOf (r h : ℕ) : Type 0 where
  pub low : r ≤ h
  pub high : h < 16448
  pub inside : inside_of r h < 64
  pub levels : levels_in r h ≤ 63

module _ {subject entries places : List ℕ} {e : ℕ} (en : Entered subject entries places e) where
  pub place_of : (j : ℕ) → j < nodes (entry_at subject entries e)
      → PlaceOf (get_or places (entry_place entries e / 2) 0) (get_or (drop (entry_place entries e / 2) places) j 0)
  place_of j h =
      let a = entry_at subject entries e in
      let l = length_places en.level en.above a in
      let z = ap (λ (hs : List ℕ). get_or hs j 0) en.placed_so ∙ get_or-append (places_of en.level en.above a) en.later_places 0 j (omega arith) in
      let m = among en.level en.above a j h in
      rw (z, en.root) (record { low = omega arith; high = omega arith; inside = omega arith; levels = omega arith })

  -- the table holds them all
  pub places_within : entry_place entries e / 2 + nodes (entry_at subject entries e) ≤ length places
  places_within =
      let a = entry_at subject entries e in
      let l = length_places en.level en.above a in
      let n = nodes_positive a in
      let z = simp (length-append, length-drop) at (ap (λ (hs : List ℕ). length hs) en.placed_so) in
      omega arith

-- ---- A walk of the nodes

module _ {A : Type 0} (op : A → A → A) (u : A) (g : ℕ → ℕ → ℕ → A) where
  pub total_none : (ws hs : List ℕ) → total op u g 0 ws hs ≡ u
  unfolding total
  total_none ws hs = refl

  -- of words and places from a node on
  module _ (ws hs : List ℕ) (at i : ℕ) (h : at + 2 ≤ length ws) (l : i < length hs) where
    pub total_step : (k : ℕ)
        → total op u g (suc k) (drop at ws) (drop i hs)
        ≡ op (g (get_or ws at 0) (get_or ws (at + 1) 0) (get_or hs i 0)) (total op u g k (drop (at + 2) ws) (drop (i + 1) hs))
    unfolding total
    total_step k =
        let z : at + 1 + 1 ≡ at + 2 = omega arith in
        rw (at_cons ws at (omega arith), at_cons ws (at + 1) (omega arith), at_cons hs i l, z)

    -- the same for a number of nodes that is not 0
    pub total_on : (k : ℕ) → 0 < k
        → total op u g k (drop at ws) (drop i hs)
        ≡ op (g (get_or ws at 0) (get_or ws (at + 1) 0) (get_or hs i 0)) (total op u g (k - 1) (drop (at + 2) ws) (drop (i + 1) hs))
    total_on zero q = absurd (omega arith)
    total_on (suc k) q = let z : suc k - 1 ≡ k = omega arith in rw z (total_step k)

-- ---- Depths over the limit

abbrev pub capped_in : Option ℕ → Option ℕ
capped_in none = none
capped_in (some d) = some (capped d)

capped_max : (a b : ℕ) → capped (max a b) ≡ max (capped a) (capped b)
capped_max a b = omega arith

pub capped_both : (a b c d : ℕ) → capped a ≡ capped c → capped b ≡ capped d → capped (max a b) ≡ capped (max c d)
capped_both a b c d p q = capped_max a b ∙ ap (λ x. max x (capped b)) p ∙ ap (λ x. max (capped c) x) q ∙ sym (capped_max c d)

capped_one : (o : Option ℕ) → capped (or_one o) ≡ capped (or_one (capped_in o))
capped_one none = refl
capped_one (some d) = omega arith

capped_if : (q : Bool) (o : Option ℕ) → capped (cond q 1 (or_one o)) ≡ capped (cond q 1 (or_one (capped_in o)))
capped_if true o = refl
capped_if false o = capped_one o

module _ (f : ℕ → Option ℕ) where
  pub capped_spread : {s : Sort} (n : ℕ) (t : Tm s) → capped (spread_depth f n t) ≡ capped (spread_depth (λ y. capped_in (f y)) n t)
  capped_spread n (Var x) = capped_if (ltb x n) (f (x - n))
  capped_spread n (Sym s ts) = let e = capped_spread n ts in omega arith
  capped_spread n (Meta z ts) = let e = capped_spread n ts in omega arith
  capped_spread n (Abst t) = let e = capped_spread (suc n) t in omega arith
  capped_spread n Nil = refl
  capped_spread n (Cons t ts) = capped_both _ _ _ _ (capped_spread n t) (capped_spread n ts)

-- ---- Every body was measured

and_both : {a b : Bool} → a ≡ true → b ≡ true → a && b ≡ true
and_both p q = rw (p, q)

module _ (s : ℕ → Bool) (r : ℕ) where
  -- node j of these words and places, if it is a free variable, passes the test
  abbrev pub Passes : List ℕ → List ℕ → ℕ → Type 0
  Passes ws hs j =
      is_free (get_or ws (2 * j) 0) (inside_of r (get_or hs j 0)) ≡ true → s (get_or ws (2 * j) 0 - inside_of r (get_or hs j 0)) ≡ true

  seen_if : (q p : Bool) → (q ≡ true → p ≡ true) → cond q p true ≡ true
  seen_if true p f = f refl
  seen_if false p f = refl

  later_node : (w c h : ℕ) (ws hs : List ℕ) (j : ℕ) → Passes (w ∷ c ∷ ws) (h ∷ hs) (suc j) → Passes ws hs j
  later_node w c h ws hs j f = let z : 2 * suc j ≡ suc (suc (2 * j)) = omega arith in rw z at f

  pub seen_all : (k : ℕ) (ws hs : List ℕ) → ((j : ℕ) → j < k → Passes ws hs j) → total ◌&&◌ true (node_seen s r) k ws hs ≡ true
  unfolding total
  seen_all zero ws hs f = refl
  seen_all (suc k) [] hs f = refl
  seen_all (suc k) (w ∷ []) hs f = refl
  seen_all (suc k) (w ∷ c ∷ ws) [] f = refl
  seen_all (suc k) (w ∷ c ∷ ws) (h ∷ hs) f =
      and_both (seen_if _ _ (f 0 (omega arith))) (seen_all k ws hs (λ j l. later_node w c h ws hs j (f (suc j) (omega arith))))
