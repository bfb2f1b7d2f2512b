-- The walk of an entry: what was added up over the nodes that were passed, and what those still to come add.
use mathlib.Core.Path.{◌≡◌, refl, sym, ap, ap₂, ◌∙◌}
use Prim.Native.Nat.{ℕ, zero, suc, ◌+◌, ◌-◌, ◌*◌, ◌/◌, ◌≤◌, ◌<◌, max}
use native.Mathlib.Nat.{max-le}
use native.Mathlib.Omega.{arith}
use mathlib.Core.Bool.{Bool, true, false, ◌&&◌, not, cond}
use mathlib.Core.Option.{Option, none, some}
use Rattle.std.specs.Prelude.{Some}
use mathlib.Core.List.{List}
use lib.Dec.{ltb, eqb}
use lib.ListN.{length, get_or, set, drop, length-drop}
use lib.Seq.{get_or-drop}
use borrow.Author.Tests.{ltb-true, ltb-false, ne_eqb}
use Rattle.documents.specs.Terms.{Term}
use Rattle.documents.specs.Tables.{nodes}
use Rattle.documents.proofs.Lists.{never}
use Rattle.tables.specs.Parts.{front}
use Rattle.tables.proofs.Walks.{Walking, walking_from, walking_on, walking_ended}
use Rattle.instructions.specs.Bodies.{key_place, place_behind}
use Rattle.instructions.proofs.Bodies.{behind_low}
use Rattle.trees.specs.Trees.{Pushed, or_one, or_moved, spread_nodes, spread_depth, spread_reach}
use Rattle.trees.proofs.Sizes.{depth_positive_of}
use Rattle.links.specs.Links.{capped}
use Rattle.links.specs.Nodewise.{is_free, total, levels_in, inside_of, node_nodes, node_depth, node_reach, node_seen, seen_at}
use Rattle.links.specs.Standing.{entry_place, entry_at, Scene, Seen, held, Stands}
use Rattle.links.specs.Sequences.{keys_at, trees_at}
use Rattle.links.proofs.Variables.{free_low}
use Rattle.links.proofs.Entered.{Entered, entered}
use Rattle.links.proofs.Spread.{capped_in, total_none, total_on, capped_spread, spread_nodes_lem, spread_depth_lem, spread_reach_lem, Passes, seen_all, PlaceOf, place_of, places_within}
use Rattle.links.proofs.Keyed.{key_at}
use Rattle.measurer.specs.Measuring.{Kept, near, Memos, push_end, nodes_for, depth_for, reach_for, Spreading, Spreads, Free, Meets}
use Rattle.measurer.proofs.Kept.{kept_none, kept_then, kept_set, set_here, scene_kept}
use Rattle.measurer.proofs.Memos.{memos_same, memos_stand}

capped_one : (o : Option ℕ) → capped (or_one o) ≡ or_one (capped_in o)
capped_one none = refl
capped_one (some d) = refl

-- of two places the higher has the greater depth
higher_deeper : (k x : ℕ) → max k x / 256 ≡ max (k / 256) (x / 256)
higher_deeper k x = omega arith

-- so that a place which is passed counts as its depth does
higher_on : (b k x : ℕ) → max b (max k x / 256 + 1) ≡ max (max b (k / 256 + 1)) (x / 256 + 1)
higher_on b k x = rw (higher_deeper k x) (omega arith)

-- and so if a body then makes it deeper
higher_both : (b k x d : ℕ) → 1 ≤ d → max (max b (x / 256 + d)) (max k x / 256 + 1) ≡ max (max b (k / 256 + 1)) (x / 256 + d)
higher_both b k x d h = rw (higher_deeper k x) (omega arith)

-- a node's number goes from those still to come to those that were passed
greatest_on : {t g x' y total : ℕ} (t' x : ℕ) → t ≡ max g t' → g ≡ y → x' ≡ max x y → max x t ≡ total → max x' t' ≡ total
greatest_on t' x et eg ex e = omega arith

test_of : {A : Type 0} (q : Bool) (x y : A) (p : Bool) → q ≡ p → cond q x y ≡ cond p x y
test_of q x y p e = rw e

module _ (code : List ℕ) (push c D : ℕ) (part : List ℕ) (places : ℕ) (subject entries work₀ : List ℕ) (most : ℕ) where
  abbrev a₀ : Term
  a₀ = entry_at subject entries (get_or code (push + 1) 0)

  abbrev hs₀ : List ℕ
  hs₀ = drop (entry_place entries (get_or code (push + 1) 0) / 2) (drop 4096 work₀)

  abbrev r₀ : ℕ
  r₀ = get_or (drop 4096 work₀) (entry_place entries (get_or code (push + 1) 0) / 2) 0

  abbrev fN₀ : ℕ → Option ℕ
  fN₀ = nodes_for code subject entries (push + 4) c

  abbrev fD₀ : ℕ → Option ℕ
  fD₀ y = capped_in (depth_for code subject entries (push + 4) c y)

  abbrev fR₀ : ℕ → Option ℕ
  fR₀ = reach_for code subject entries (push + 4) c

  -- `node` nodes were passed: `highest` is the greatest of their places below the root's, `deepest` the greatest depth through a body
  pub record Spanned (work : List ℕ) (owed node more highest deepest far : ℕ) : Type 0 where
    pub walk : Walking part owed (2 * node)
    pub size : node + more + total ◌+◌ 0 (node_nodes fN₀ r₀) (nodes a₀ - node) (drop (2 * node) part) (drop node hs₀) ≡ spread_nodes fN₀ 0 a₀
    pub few : more ≤ most
    pub deep : max (max deepest (highest / 256 + 1)) (total max 0 (node_depth fD₀ r₀) (nodes a₀ - node) (drop (2 * node) part) (drop node hs₀))
        ≡ spread_depth fD₀ 0 a₀
    pub low : highest / 256 ≤ 63
    pub reach : max far (total max 0 (node_reach fR₀ D r₀) (nodes a₀ - node) (drop (2 * node) part) (drop node hs₀)) ≡ spread_reach fR₀ D 0 a₀
    pub close : far ≤ near (push_end code push c - push)
    pub memos : Memos code subject entries work (push + 4) c
    pub kept : Kept (push + 4) (push_end code push c) work₀ work
    pub scene : Scene code subject entries work
    pub seen : (i : ℕ) → i < node → Passes (λ y. seen_at work (key_place code (push + 4) c y)) r₀ part hs₀ i

module _ {code : List ℕ} {push c D : ℕ} {part : List ℕ} {places : ℕ} {subject entries work₀ : List ℕ} {most : ℕ}
    (sp : Spreading code push c D part places subject entries work₀ most) where
  abbrev e : ℕ
  e = get_or code (push + 1) 0

  abbrev a : Term
  a = entry_at subject entries e

  abbrev p : ℕ
  p = entry_place entries e

  abbrev PL : List ℕ
  PL = drop 4096 work₀

  abbrev hs : List ℕ
  hs = drop (p / 2) PL

  abbrev r : ℕ
  r = get_or PL (p / 2) 0

  pub en : Entered subject entries PL e
  en = entered sp.scene e sp.entry

  abbrev f_n : ℕ → Option ℕ
  f_n = nodes_for code subject entries (push + 4) c

  abbrev f_d : ℕ → Option ℕ
  f_d y = capped_in (depth_for code subject entries (push + 4) c y)

  abbrev f_r : ℕ → Option ℕ
  f_r = reach_for code subject entries (push + 4) c

  abbrev is_seen : List ℕ → ℕ → Bool
  is_seen work y = seen_at work (key_place code (push + 4) c y)

  abbrev Spans : List ℕ → ℕ → ℕ → ℕ → ℕ → ℕ → ℕ → Type 0
  Spans = Spanned code push c D part places subject entries work₀ most

  front_is : front part ≡ a
  front_is = ap front sp.part_is ∙ en.is

  -- at least the root's level
  some_depth : 1 ≤ spread_depth f_d 0 a
  some_depth =
      let d = depth_positive_of (entry_at subject entries) (Pushed e D (keys_at code (push + 4) c) (trees_at code (push + 4) c)) in
      let k = capped_spread (depth_for code subject entries (push + 4) c) 0 a in
      omega arith

  pub span_from : Spans work₀ 1 0 0 0 0 0
  span_from =
      let z : nodes a - 0 ≡ nodes a = omega arith in
      let y : 0 + 0 + total ◌+◌ 0 (node_nodes f_n r) (nodes a) part hs ≡ total ◌+◌ 0 (node_nodes f_n r) (nodes a) part hs = omega arith in
      let w : max 0 (total max 0 (node_reach f_r D r) (nodes a) part hs) ≡ total max 0 (node_reach f_r D r) (nodes a) part hs = omega arith in
      let d = ap (λ (l : List ℕ). total max 0 (node_depth f_d r) (nodes a) l hs) sp.part_is ∙ spread_depth_lem en f_d in
      let o = some_depth in
      record {
        walk = walking_from (rw sp.part_is en.begins);
        size = rw z (y ∙ ap (λ (l : List ℕ). total ◌+◌ 0 (node_nodes f_n r) (nodes a) l hs) sp.part_is ∙ spread_nodes_lem en f_n);
        few = omega arith;
        deep = rw z (omega arith);
        low = omega arith;
        reach = rw z (w ∙ ap (λ (l : List ℕ). total max 0 (node_reach f_r D r) (nodes a) l hs) sp.part_is ∙ spread_reach_lem en f_r D);
        close = omega arith;
        memos = sp.memos;
        kept = kept_none;
        scene = sp.scene;
        seen = λ i h. absurd (omega arith);
      }

  module _ {work : List ℕ} {owed node more highest deepest far : ℕ} (s : Spans work owed node more highest deepest far) (lo : 0 < owed) where
    -- the node that is passed
    abbrev w : ℕ
    w = get_or part (2 * node) 0

    abbrev h : ℕ
    h = get_or hs node 0

    inner : node < nodes a
    inner = let k = (walking_on s.walk lo).ends in let f = ap (λ (t : Term). nodes t) front_is in omega arith

    in_part : 2 * node + 2 ≤ length part
    in_part = let k = s.walk.walk.within in omega arith

    places_in : p / 2 + nodes a ≤ length PL
    places_in = places_within en

    in_places : node < length hs
    in_places = let k = places_in in let l = length-drop (p / 2) PL in let i = inner in omega arith

    pub node_place : get_or work (places + node) 0 ≡ h
    node_place =
        let z : places + node ≡ 4096 + (p / 2 + node) = let x = sp.places_are in omega arith in
        rw z (sym (get_or-drop 4096 work (p / 2 + node) 0) ∙ ap (λ (l : List ℕ). get_or l (p / 2 + node) 0) s.kept.places ∙ sym (get_or-drop (p / 2) PL node 0))

    pub place_bounds : PlaceOf r h
    place_bounds = place_of en node inner

    pub place_room : places + node < length work
    place_room =
        let x = sp.places_are in
        let k = en.within in
        let f = sp.scene.few in
        let i = inner in
        let l = s.scene.work_long in
        omega arith

    low_on : {k' : ℕ} → k' ≡ max highest (h - r) → k' / 256 ≤ 63
    low_on ek = let l = s.low in let b = place_bounds.levels in rw (ek, higher_deeper highest (h - r)) (omega arith)

    -- past it
    walk_next : Walking part (owed - 1 + get_or part (2 * node + 1) 0) (2 * (node + 1))
    walk_next = let z : 2 * node + 2 ≡ 2 * (node + 1) = omega arith in rw z at (walking_on s.walk lo)

    step : {A : Type 0} (op : A → A → A) (u : A) (g : ℕ → ℕ → ℕ → A)
        → total op u g (nodes a - node) (drop (2 * node) part) (drop node hs)
        ≡ op (g w (get_or part (2 * node + 1) 0) h) (total op u g (nodes a - (node + 1)) (drop (2 * (node + 1)) part) (drop (node + 1) hs))
    step op u g =
        let z : nodes a - node - 1 ≡ nodes a - (node + 1) = omega arith in
        let y : 2 * node + 2 ≡ 2 * (node + 1) = omega arith in
        total_on op u g part hs (2 * node) node in_part in_places (nodes a - node) (let i = inner in omega arith)
        ∙ ap₂ (λ (k l : ℕ). op (g w (get_or part (2 * node + 1) 0) h) (total op u g k (drop l part) (drop (node + 1) hs))) z y

    -- ---- A node that is no free variable

    here_or_before : {A : Type 0} (i : ℕ) → i < node + 1 → (i < node → A) → (i ≡ node → A) → A
    here_or_before {A} i l f g = go (ltb i node) refl
      where
        go : (q : Bool) → ltb i node ≡ q → A
        go true q = f (ltb-true i node q)
        go false q = g (let k = ltb-false i node q in omega arith)

    module _ (no : is_free w (inside_of r h) ≡ false) where
      pub span_on : {k' : ℕ} → k' ≡ max highest (h - r) → Spans work (owed - 1 + get_or part (2 * node + 1) 0) (node + 1) more k' deepest far
      span_on ek =
          let n1 : node_nodes f_n r w (get_or part (2 * node + 1) 0) h ≡ 1 = test_of _ _ _ false no in
          let n2 : node_depth f_d r w (get_or part (2 * node + 1) 0) h ≡ levels_in r h + 1 = ap (λ (x : ℕ). levels_in r h + x) (test_of _ _ _ false no) in
          let n3 : node_reach f_r D r w (get_or part (2 * node + 1) 0) h ≡ 0 = test_of _ _ _ false no in
          let t1 = step ◌+◌ 0 (node_nodes f_n r) in
          let t2 = step max 0 (node_depth f_d r) in
          let t3 = step max 0 (node_reach f_r D r) in
          record {
            walk = walk_next;
            size = sizes_on _ _ _ _ _ t1 n1 s.size;
            few = s.few;
            deep = greatest_on _ _ t2 n2 (ap (λ (x : ℕ). max deepest (x / 256 + 1)) ek ∙ higher_on deepest highest (h - r)) s.deep;
            low = low_on ek;
            reach = greatest_on _ _ t3 n3 (omega arith) s.reach;
            close = s.close;
            memos = s.memos;
            kept = s.kept;
            scene = s.scene;
            seen = λ i l. here_or_before i l (s.seen i) (λ e f. let k = contra i e f in never (cc));
          }
        where
          sizes_on : (t t' g m total : ℕ) → t ≡ g + t' → g ≡ 1 → node + m + t ≡ total → node + 1 + m + t' ≡ total
          sizes_on t t' g m total a b c = omega arith

          contra : (i : ℕ) → i ≡ node → is_free (get_or part (2 * i) 0) (inside_of r (get_or hs i 0)) ≡ true → true ≡ false
          contra i e f = sym f ∙ ap (λ (k : ℕ). is_free (get_or part (2 * k) 0) (inside_of r (get_or hs k 0))) e ∙ no

    -- ---- A free variable

    module _ (yes : is_free w (inside_of r h) ≡ true) where
      abbrev y : ℕ
      y = w - inside_of r h

      n1 : node_nodes f_n r w (get_or part (2 * node + 1) 0) h ≡ or_one (f_n y)
      n1 = test_of _ _ _ true yes

      n2 : node_depth f_d r w (get_or part (2 * node + 1) 0) h ≡ levels_in r h + or_one (f_d y)
      n2 = ap (λ (x : ℕ). levels_in r h + x) (test_of _ _ _ true yes)

      n3 : node_reach f_r D r w (get_or part (2 * node + 1) 0) h ≡ or_moved (f_r y) D (inside_of r h) w
      n3 = test_of _ _ _ true yes

      pub span_free : Free code push c D w (inside_of r h) subject entries work most
      span_free =
          let f = free_low w (inside_of r h) yes in
          record {
            scene = s.scene;
            few = sp.few;
            words = sp.words;
            variable = f.0;
            free = f.1;
            shallow = place_bounds.inside;
            low = sp.low;
            makes = sp.makes;
            memos = s.memos;
          }

      -- too many nodes already
      pub span_large : most < or_one (f_n y) → most < spread_nodes f_n 0 a
      span_large l =
          let t = step ◌+◌ 0 (node_nodes f_n r) in
          let z = s.size in
          let k = n1 in
          large _ _ _ _ t k z l
        where
          large : (t g t' m : ℕ) → t ≡ g + t' → g ≡ or_one (f_n y) → node + more + t ≡ m → most < or_one (f_n y) → most < m
          large t g t' m x y z l = omega arith

      pub span_larger : (n : ℕ) → n ≡ or_one (f_n y) → most < more + (n - 1) → most < spread_nodes f_n 0 a
      span_larger n e l = large _ _ _ _ (step ◌+◌ 0 (node_nodes f_n r)) (n1 ∙ sym e) s.size
        where
          large : (t g t' m : ℕ) → t ≡ g + t' → g ≡ n → node + more + t ≡ m → most < m
          large t g t' m x y z = omega arith

      pub span_met : {work' : List ℕ} {n d f more' k' d' far' : ℕ} → Kept (push + 4) (push_end code push c) work work'
          → Meets code subject entries work work' push c D w (inside_of r h) most n d f
          → more' ≡ more + (n - 1) → more' ≤ most → k' ≡ max highest (h - r) → d' ≡ max deepest (levels_in r h + d) → far' ≡ max far f
          → Spans work' (owed - 1 + get_or part (2 * node + 1) 0) (node + 1) more' k' d' far'
      span_met {work'} {n} {d} {f} k m em hm ek ed ef =
          let t1 = step ◌+◌ 0 (node_nodes f_n r) in
          let t2 = step max 0 (node_depth f_d r) in
          let t3 = step max 0 (node_reach f_r D r) in
          let d1 : d ≡ or_one (f_d y) = m.deep ∙ capped_one (depth_for code subject entries (push + 4) c y) in
          record {
            walk = walk_next;
            size = sizes_met _ _ _ _ _ t1 (n1 ∙ sym m.size) m.some_nodes em s.size;
            few = hm;
            deep = greatest_on _ _ t2 (n2 ∙ ap (λ (x : ℕ). levels_in r h + x) (sym d1))
                (ap₂ (λ (x z : ℕ). max x (z / 256 + 1)) ed ek ∙ higher_both deepest highest (h - r) d m.some_depth) s.deep;
            low = low_on ek;
            reach = greatest_on _ _ t3 (n3 ∙ sym m.reach) ef s.reach;
            close = rw ef (max-le s.close m.close);
            memos = m.memos;
            kept = kept_then s.kept k (omega arith) (omega arith) (omega arith) (omega arith);
            scene = scene_kept k s.scene;
            seen = λ i l. here_or_before i l (λ b q. m.still _ (s.seen i b q)) (λ e q. here i e);
          }
        where
          sizes_met : (t t' g total m' : ℕ) → t ≡ g + t' → g ≡ n → 1 ≤ n → m' ≡ more + (n - 1) → node + more + t ≡ total → node + 1 + m' + t' ≡ total
          sizes_met t t' g total m' a b c e z = omega arith

          here : (i : ℕ) → i ≡ node → is_seen work' (get_or part (2 * i) 0 - inside_of r (get_or hs i 0)) ≡ true
          here i e =
              ap (λ (k : ℕ). is_seen work' (get_or part (2 * k) 0 - inside_of r (get_or hs k 0))) e ∙ m.seen

  -- ---- The end

  pub end_low : push + 2 ≤ push_end code push c
  unfolding push_end
  end_low = go c
    where
      go : (c : ℕ) → push + 2 ≤ cond (eqb c 0) (push + 2) (place_behind code (push + 4) c)
      go zero = omega arith
      go (suc c) = let l = behind_low code (push + 4) (suc c) in rw (ne_eqb (suc c) 0 (λ q. omega arith)) (omega arith)

  behind_end : (lo : ℕ) (work : List ℕ) → lo ≤ push + 4 → Memos code subject entries work (push + 4) c
      → Stands code subject entries (drop 4096 work) lo (push_end code push c) work (trees_at code (push + 4) c) (held (keys_at code (push + 4) c) (push + 4))
  unfolding push_end trees_at
  behind_end lo work l m = go c m
    where
      go : (c : ℕ) → Memos code subject entries work (push + 4) c
          → Stands code subject entries (drop 4096 work) lo (cond (eqb c 0) (push + 2) (place_behind code (push + 4) c)) work (trees_at code (push + 4) c) (held (keys_at code (push + 4) c) (push + 4))
      go zero m = tt
      go (suc c) m = rw (ne_eqb (suc c) 0 (λ q. omega arith)) (memos_stand code subject entries work lo _ (push + 4) (suc c) l (omega arith) m)

  module _ {work : List ℕ} {owed node more highest deepest far : ℕ} (s : Spans work owed node more highest deepest far) (done : owed ≤ 0) where
    pub all : node ≡ nodes a
    all = let k = walking_ended s.walk done in let f = ap (λ (t : Term). nodes t) front_is in omega arith

    none_left : nodes a - node ≡ 0
    none_left = let k = all in omega arith

    nothing : {A : Type 0} (op : A → A → A) (u : A) (g : ℕ → ℕ → ℕ → A) → total op u g (nodes a - node) (drop (2 * node) part) (drop node hs) ≡ u
    nothing op u g = ap (λ (k : ℕ). total op u g k (drop (2 * node) part) (drop node hs)) none_left ∙ total_none op u g (drop (2 * node) part) (drop node hs)

    module _ {v n d₁ d : ℕ} (ev : v ≡ 2 * (places - 4096 + node)) (enn : n ≡ node + more) (e₁ : d₁ ≡ max deepest (highest / 256 + 1)) (ed : d ≡ capped d₁) where
      abbrev work' : List ℕ
      work' = set work (push + 1) v

      short : push + 1 < 4096
      short = let w = sp.words in let c = sp.scene.code_short in omega arith

      room : push + 1 < length work
      room = let h = short in let l = s.scene.work_long in omega arith

      k' : Kept (push + 1) (push + 2) work work'
      k' = kept_set work (push + 1) v (omega arith) (omega arith) short

      places_same : drop 4096 work' ≡ PL
      places_same = k'.places ∙ s.kept.places

      memos' : Memos code subject entries work' (push + 4) c
      memos' = memos_same code subject entries work work' (push + 4) c k'.places (λ i l. k'.high i (omega arith)) s.memos

      seen_same : (y : ℕ) → is_seen work' y ≡ is_seen work y
      seen_same y = go (key_place code (push + 4) c y) refl
        where
          go : (o : Option ℕ) → key_place code (push + 4) c y ≡ o → seen_at work' o ≡ seen_at work o
          go none q = refl
          go (some k) q = let l = (key_at code (push + 4) c y k q).low in ap (λ (x : ℕ). not (eqb x 0)) (k'.high k (omega arith))

      seen' : Seen code subject entries (drop 4096 work') (push + 1) (push_end code push c) work' push e c
      seen' =
          let q = seen_all (is_seen work') r (nodes a) part hs (λ i l f. seen_same _ ∙ s.seen i (let k = all in omega arith) f) in
          rw places_same (ap (λ (l : List ℕ). total ◌&&◌ true (node_seen (is_seen work') r) (nodes a) l hs) (sym sp.part_is) ∙ q)

      pub span_end : Spreads code push c D part places subject entries work₀ work' most (Some (record { nodes = n; depth = d; reach = far }))
      span_end =
          let z = all in
          let o = end_low in
          record {
            kept = kept_then s.kept k' (omega arith) (omega arith) (omega arith) (omega arith);
            says = record {
              size = sizes_end _ _ (nothing ◌+◌ 0 (node_nodes f_n r)) s.size;
              deep = ed ∙ ap capped (e₁ ∙ deep_end _ _ (nothing max 0 (node_depth f_d r)) ∙ s.deep) ∙ sym (capped_spread (depth_for code subject entries (push + 4) c) 0 a);
              reach = deep_end far _ (nothing max 0 (node_reach f_r D r)) ∙ s.reach;
              close = s.close;
              walked = record {
                named = record {
                  operand = refl;
                  there = sp.entry;
                  end = set_here work (push + 1) v room ∙ ev ∙ (let x = sp.places_are in let y = en.even in omega arith);
                };
                seen = seen';
                bodies = behind_end (push + 1) work' (omega arith) memos';
              };
            };
          }
        where
          sizes_end : (t m : ℕ) → t ≡ 0 → node + more + t ≡ m → n ≡ m
          sizes_end t m x y = omega arith

          deep_end : (x t : ℕ) → t ≡ 0 → x ≡ max x t
          deep_end x t e = omega arith
