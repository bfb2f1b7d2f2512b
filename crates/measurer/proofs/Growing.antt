-- Measuring a sequence: the trees made so far stand on a stack, their nodes are counted and their reach is known. Each instruction makes one of them.
use mathlib.Core.Path.{◌≡◌, refl, sym, ap, ap₂, ◌∙◌}
use mathlib.Core.Logic.{◌⊎◌, inl, inr}
use Prim.Native.Nat.{ℕ, suc, ◌+◌, ◌-◌, ◌≤◌, ◌<◌, max}
use native.Mathlib.Nat.{add-zero, max_comm, max-le, max-zero}
use native.Mathlib.Omega.{arith}
use mathlib.Core.Bool.{Bool, true, false}
use mathlib.Core.List.{List, [], ◌∷◌}
use lib.Dec.{eqb}
use lib.ListN.{length, get_or, set, drop}
use borrow.Author.Tests.{eq-eqb, ne_eqb, eqb-true, eqb-false}
use Rattle.documents.specs.Terms.{Sort, one, many, Term}
use Rattle.documents.specs.Instructions.{Program, Instruction, fixed_after, CELL, ADBMAL, PUSHVAR, PUSHIMM, PUSHI}
use Rattle.instructions.proofs.Bodies.{behind_low}
use Rattle.trees.specs.Trees.{Tree, Cell, Block, Bound, Whole, Pushed, Leaf, count, taken, left, blocked, top_of, grown, nodes_of, depth_of, reach_of}
use Rattle.trees.proofs.Growing.{length_left}
use Rattle.links.specs.Links.{link_of, before_in, over_in, capped}
use Rattle.links.specs.Standing.{entry_at, Scene, back, Spot, root, last, held, Rooted, Named, Seen, Stands}
use Rattle.links.specs.Sequences.{tree_at, keys_at, trees_at}
use Rattle.links.proofs.Links.{link_before, link_over, link_depth}
use Rattle.links.proofs.Ran.{Follows, Next, cell_next, lambda_next, adbmal_next, pushvar_next, pushimm_next, pushi_next, follows_done, follows_build}
use Rattle.links.proofs.Safe.{count_taken}
use Rattle.links.proofs.Keyed.{tree_here, held_trees, count_trees}
use Rattle.links.proofs.Stacks.{sizes, reaches, cell_sizes, cell_reaches, blocked_sizes, grown_top, grown_one}
use Rattle.measurer.specs.Linking.{deepest_back, over_link, plain_link, place_next}
use Rattle.measurer.specs.Measuring.{Kept, near, Sequence, Measure, Push, Pushing, push_tree, Walked}
use Rattle.measurer.proofs.Linking.{link_pushvar, link_adbmal, link_cell, next_whole, next_push}
use Rattle.measurer.proofs.Kept.{kept_none, kept_then, kept_wide, kept_set, set_here, set_there, scene_kept}
use Rattle.measurer.proofs.Standing.{stands_kept, seen_all_kept}
use Rattle.measurer.proofs.Stacking.{Stack, stands_deep, stands_falls, back_falls, stack_taken, deepest_taken, stack_kept}

over_link_is : (work : List ℕ) (n z : ℕ) → over_link work n z ≡ link_of (back work n z) z (capped (deepest_back work n z + 1))
unfolding over_link
over_link_is work n z = refl

-- ---- A root's link, stored

module _ (work : List ℕ) (at : ℕ) (room : at < length work) (short : at < 4096) where
  before_in_lem : (v w o d : ℕ) → v ≡ link_of w o d → w < at → before_in (get_or (set work at v) at 0) ≡ w
  before_in_lem v w o d ev lw = rw (set_here work at v room, ev) (link_before w o d (omega arith))

  over_in_lem : (v w o d : ℕ) → v ≡ link_of w o d → w < at → o < at → over_in (get_or (set work at v) at 0) ≡ o
  over_in_lem v w o d ev lw lo = rw (set_here work at v room, ev) (link_over w o d (omega arith) (omega arith))

module _ (code subject entries work : List ℕ) (from at : ℕ) (room : at < length work) (short : at < 4096) where
  rooted_in : (op b o d v w : ℕ) (p : Tree one) → v ≡ link_of w o d → w < at → o < at → from ≤ at → at + 1 + fixed_after op ≤ b → get_or code at 0 ≡ op
      → d ≡ capped (depth_of (entry_at subject entries) p) → Rooted code subject entries (drop 4096 (set work at v)) from b (set work at v) at op p
  rooted_in op b o d v w p ev lw lo fa hb is ed =
      let here = set_here work at v room in
      record {
        low = fa;
        high = hb;
        is = is;
        over_falls = rw (here, ev, link_over w o d (omega arith) (omega arith)) lo;
        before_falls = rw (here, ev, link_before w o d (omega arith)) lw;
        deep = rw (here, ev, link_depth w o d (omega arith) (omega arith)) ed;
      }

module _ (code subject entries work₀ : List ℕ) (from end most : ℕ) where
  abbrev ent : ℕ → Term
  ent = entry_at subject entries

  pub record Growing (work : List ℕ) (at z n far : ℕ) : Type 0 where
    pub rest : Program
    pub st : List (Tree one)
    pub follows : Follows code at end (length entries) (length st) rest
    pub same : top_of (grown rest st) ≡ tree_at code from end
    pub stack : Stack code subject entries (drop 4096 work) from at work st z
    pub size : n ≡ sizes ent st
    pub fits : n ≤ most
    pub reach : far ≡ reaches ent st
    pub close : far ≤ near (at - from)
    pub kept : Kept from at work₀ work
    pub low : from ≤ at
    pub high : at ≤ end
    pub root_low : z < at
    pub scene : Scene code subject entries work

  module _ (sq : Sequence code from end subject entries work₀ most) where
    pub growing_from : Growing work₀ from 0 0 0
    growing_from =
        record {
          rest = sq.makes.program;
          st = [];
          follows = record { here = sq.makes.here; runs = sq.makes.runs };
          same = tree_here code from end sq.makes.here;
          stack = tt;
          size = refl;
          fits = omega arith;
          reach = refl;
          close = omega arith;
          kept = kept_none;
          low = omega arith;
          high = sq.ordered;
          root_low = let h = sq.positive in omega arith;
          scene = sq.scene;
        }

    module _ {work : List ℕ} {at z n far : ℕ} (g : Growing work at z n far) (lo : at < end) where
      inside : end ≤ length code
      inside = sq.inside

      pub build_op : (8 ≤ get_or code at 0) × (get_or code at 0 ≤ 13)
      build_op = follows_build g.follows lo inside

      -- as many nodes as were counted, and one more for a tree that is still to come, are not more than the tree has
      pub at_least : (i : Instruction) (b k : ℕ) (st' : List (Tree one)) → Next code end (length entries) g.rest i b k → grown i g.st ≡ st' → length st' ≡ k
          → sizes ent st' ≤ nodes_of ent (tree_at code from end)
      at_least i b k st' nx e l =
          rw (← g.same, nx.is, e) (grown_top ent (length entries) nx.rest st' (rw l nx.behind.runs))

      -- the next tree stands at `at`, over the stack st'
      pub grow : (i : Instruction) (b k m : ℕ) (p : Tree one) (st' : List (Tree one)) (work' : List ℕ) (far' : ℕ)
          → Next code end (length entries) g.rest i b k → grown i g.st ≡ p ∷ st' → length (p ∷ st') ≡ k
          → Kept at b work work' → at < b
          → Stands code subject entries (drop 4096 work') from b work' p (root at)
          → Stack code subject entries (drop 4096 work') from b work' st' (before_in (get_or work' at 0))
          → m ≡ sizes ent (p ∷ st') → m ≤ most → far' ≡ reaches ent (p ∷ st') → far' ≤ near (b - from) → Growing work' b at m far'
      grow i b k m p st' work' far' nx e l kp lt s t em fm ef cf =
          record {
            rest = nx.rest;
            st = p ∷ st';
            follows = rw l nx.behind;
            same = let q = g.same in rw (nx.is, e) at q;
            stack = (s, t);
            size = em;
            fits = fm;
            reach = ef;
            close = cf;
            kept = kept_then g.kept kp (omega arith) (let h = g.low in omega arith) (omega arith) (omega arith);
            low = let h = g.low in omega arith;
            high = nx.within;
            root_low = lt;
            scene = scene_kept kp g.scene;
          }

      pub growing_lambda : get_or code at 0 ≡ 9 → Growing work (at + 1) z n far
      growing_lambda e =
          let nx = lambda_next g.follows lo inside e in
          record {
            rest = nx.rest;
            st = g.st;
            follows = nx.behind;
            same = let q = g.same in rw nx.is at q;
            stack = stack_kept code subject entries (drop 4096 work) work work from at from (at + 1) (λ i a b. refl) (omega arith) (omega arith) g.st z g.stack;
            size = g.size;
            fits = g.fits;
            reach = g.reach;
            close = let h = g.close in let l = g.low in omega arith;
            kept = kept_wide g.kept (omega arith) (omega arith);
            low = let h = g.low in omega arith;
            high = nx.within;
            root_low = let h = g.root_low in omega arith;
            scene = g.scene;
          }

      -- ---- CELL, ADBMAL, PUSHVAR

      short : at < 4096
      short = let h = inside in let c = g.scene.code_short in omega arith

      room : at < length work
      room = let h = g.scene.work_long in let s = short in omega arith

      abbrev linked : ℕ → List ℕ
      linked v = set work at v

      agree : (v i : ℕ) → from ≤ i → i < at → get_or (linked v) i 0 ≡ get_or work i 0
      agree v i a b = set_there work at i v (λ e. omega arith)

      places_same : (v : ℕ) → drop 4096 (linked v) ≡ drop 4096 work
      places_same v = (kept_set {lo = at} {hi = suc at} work at v (omega arith) (omega arith) short).places

      -- the stack stands in the new table
      restack : (v b : ℕ) → at ≤ b → (st : List (Tree one)) (y : ℕ) → Stack code subject entries (drop 4096 work) from at work st y
          → Stack code subject entries (drop 4096 (linked v)) from b (linked v) st y
      restack v b h st y s =
          rw (places_same v) (stack_kept code subject entries (drop 4096 work) work (linked v) from at from b (agree v) (omega arith) h st y s)

      rooted : (op b o d v w : ℕ) (p : Tree one) → v ≡ link_of w o d → w < at → o < at → b ≡ at + 1 + fixed_after op → get_or code at 0 ≡ op
          → d ≡ capped (depth_of ent p) → Rooted code subject entries (drop 4096 (linked v)) from b (linked v) at op p
      rooted op b o d v w p ev lw lo' eb is ed = rooted_in code subject entries work from at room short op b o d v w p ev lw lo' g.low (omega arith) is ed

      before_is : (v w o d : ℕ) → v ≡ link_of w o d → w < at → before_in (get_or (linked v) at 0) ≡ w
      before_is = before_in_lem work at room short

      over_is : (v w o d : ℕ) → v ≡ link_of w o d → w < at → o < at → over_in (get_or (linked v) at 0) ≡ o
      over_is = over_in_lem work at room short

      pub growing_pushvar : get_or code at 0 ≡ 11 → n < most → Growing (set work at (plain_link code at work z)) (at + 2) at (n + 1) far
      growing_pushvar e h =
          let v = plain_link code at work z in
          let ev : v ≡ link_of z 0 1 = sym (link_pushvar code at work z e) in
          let lz = g.root_low in
          let lf = g.low in
          let nx = pushvar_next g.follows lo inside e in
          grow (PUSHVAR (get_or code (at + 1) 0)) (at + 2) (length g.st + 1) (n + 1) (Bound (get_or code (at + 1) 0)) g.st (linked v) far nx refl (omega arith)
          (kept_set work at v (omega arith) (omega arith) short) (omega arith)
          (rooted 11 (at + 2) 0 1 v z (Bound (get_or code (at + 1) 0)) ev lz (omega arith) (omega arith) e refl, refl)
          (rw (before_is v z 0 1 ev lz) (restack v (at + 2) (omega arith) g.st z g.stack))
          (let s = g.size in omega arith) (omega arith) (g.reach ∙ sym (max-zero _)) (let c = g.close in let l = g.low in omega arith)
        where
          max-zero : (x : ℕ) → max 0 x ≡ x
          max-zero x = omega arith

      restands : (v b : ℕ) → at ≤ b → {s : Sort} (p : Tree s) (spot : Spot s) → Stands code subject entries (drop 4096 work) from at work p spot
          → Stands code subject entries (drop 4096 (linked v)) from b (linked v) p spot
      restands v b h p spot s =
          rw (places_same v) (stands_kept code subject entries (drop 4096 work) work (linked v) from at from b (agree v) (omega arith) h p spot s)

      pub growing_adbmal : get_or code at 0 ≡ 10 → n < most → Growing (set work at (plain_link code at work z)) (at + 1) at (n + 1) far
      growing_adbmal e h =
          let nx = adbmal_next g.follows lo inside e in
          go g.st refl nx.0 nx.1 g.stack g.size g.reach
        where
          one_deeper : (d dp : ℕ) → d ≡ capped dp → capped (max d 0 + 1) ≡ capped (suc dp)
          one_deeper d dp e = omega arith

          go : (st : List (Tree one)) → g.st ≡ st → 1 ≤ length g.st → Next code end (length entries) g.rest ADBMAL (at + 1) (length g.st)
              → Stack code subject entries (drop 4096 work) from at work g.st z → n ≡ sizes ent g.st → far ≡ reaches ent g.st
              → Growing (set work at (plain_link code at work z)) (at + 1) at (n + 1) far
          go [] q l nx s en ef = absurd (let k = ap length q in omega arith)
          go (p ∷ st) q l nx s en ef =
              let v = plain_link code at work z in
              let s' = rw q at s in
              let w = before_in (get_or work z 0) in
              let d = capped (deepest_back work 1 z + 1) in
              let ev : v ≡ link_of w z d = sym (link_adbmal code at work z e) ∙ over_link_is work 1 z in
              let lz = g.root_low in
              let lw : w < at = let k = stands_falls code subject entries (drop 4096 work) work from at p z s'.0 in omega arith in
              let dp = stands_deep code subject entries (drop 4096 work) work from at p z s'.0 in
              let en' = rw q at en in
              let ef' = rw q at ef in
              let lq = ap length q in
              grow ADBMAL (at + 1) (length g.st) (n + 1) (Block p) st (linked v) far nx (ap (λ (x : List (Tree one)). grown ADBMAL x) q) (sym lq)
              (kept_set work at v (omega arith) (omega arith) short) (omega arith) (
                rooted 10 (at + 1) z d v w (Block p) ev lw lz (omega arith) e (one_deeper _ _ dp),
                rw (over_is v w z d ev lw lz) (restands v (at + 1) (omega arith) p (root z) s'.0),
              )
              (rw (before_is v w z d ev lw) (restack v (at + 1) (omega arith) st w s'.1))
              (omega arith) (omega arith) ef' (let c = g.close in let l = g.low in omega arith)

      pub growing_cell : get_or code at 0 ≡ 8 → n < most → Growing (set work at (plain_link code at work z)) (at + 3) at (n + 1) far
      growing_cell e h =
          let nx = cell_next g.follows lo inside e in
          let k = get_or code (at + 2) 0 in
          let s = get_or code (at + 1) 0 in
          let v = plain_link code at work z in
          let w = back work k z in
          let d = capped (deepest_back work k z + 1) in
          let ev : v ≡ link_of w z d = sym (link_cell code at work z (λ q. omega arith) (λ q. omega arith)) ∙ over_link_is work k z in
          let lz = g.root_low in
          let lw : w < at = back_falls code subject entries (drop 4096 work) work from at k g.st z at nx.0 g.stack lz in
          let t = stack_taken code subject entries (drop 4096 work) work from at k Leaf g.st z nx.0 tt g.stack in
          let ps = taken k Leaf g.st in
          let dd = deepest_taken code subject entries (drop 4096 work) work from at k Leaf g.st z 0 nx.0 g.stack refl in
          let ll = length_left k g.st in
          let ct = count_taken k Leaf g.st nx.0 in
          let ck : count ps ≡ k = omega arith in
          grow (CELL s k) (at + 3) (length g.st - k + 1) (n + 1) (Cell s ps) (left k g.st) (linked v) far nx.1 refl (omega arith)
          (kept_set work at v (omega arith) (omega arith) short) (omega arith) (
            rooted 8 (at + 3) z d v w (Cell s ps) ev lw lz (omega arith) e (one_deeper _ _ dd),
            refl,
            sym ck,
            rw (over_is v w z d ev lw lz) (restands v (at + 3) (omega arith) ps (last z) t.args),
          )
          (rw (before_is v w z d ev lw) (restack v (at + 3) (omega arith) (left k g.st) w t.rest))
          (let cs = cell_sizes ent s k g.st in let en = g.size in omega arith) (omega arith) (g.reach ∙ sym (cell_reaches ent s k g.st))
          (let c = g.close in let l = g.low in omega arith)
        where
          one_deeper : (x y : ℕ) → capped (max 0 x) ≡ capped y → capped (x + 1) ≡ capped (suc y)
          one_deeper x y e = omega arith

      -- ---- PUSHIMM, PUSHI

      -- the instruction, and the tree that it makes
      pub record Pushable : Type 0 where
        pub instr : Instruction
        pub next : Next code end (length entries) g.rest instr (place_next code at) (length g.st + 1)
        pub grows : grown instr g.st ≡ push_tree code at ∷ g.st
        pub wide : at + 2 ≤ place_next code at
        pub push : Push code at subject entries work most

      pushable_whole : get_or code at 0 ≡ 12 → Pushable
      unfolding push_tree
      pushable_whole e =
          let nx = pushimm_next g.follows lo inside e in
          let h = inside in
          let q = next_whole code at e in
          record {
            instr = PUSHIMM (get_or code (at + 1) 0);
            next = rw q at nx.1;
            grows = rw (eq-eqb (get_or code at 0) 12 e);
            wide = omega arith;
            push = record {
              scene = g.scene;
              few = sq.few;
              op = inl e;
              words = let w = nx.1.within in omega arith;
              entry = nx.0;
              bodies = λ f. absurd (omega arith);
            };
          }

      pushable_bodies : get_or code at 0 ≡ 13 → Pushable
      unfolding push_tree
      pushable_bodies e =
          let nx = pushi_next g.follows lo inside e in
          let h = inside in
          let t = held_trees nx.held h in
          let q = next_push code at (λ f. omega arith) in
          let l = behind_low code (at + 4) (get_or code (at + 3) 0) in
          record {
            instr = PUSHI (get_or code (at + 1) 0) (get_or code (at + 2) 0) nx.bodies;
            next = rw q at nx.next;
            grows = rw (ne_eqb (get_or code at 0) 12 (λ f. omega arith), t.0, t.1);
            wide = omega arith;
            push = record {
              scene = g.scene;
              few = sq.few;
              op = inr e;
              words = let w = nx.words in omega arith;
              entry = nx.entry;
              bodies = λ f. ((let w = nx.words in omega arith), nx.low, t.2);
            };
          }

      pub pushable : 12 ≤ get_or code at 0 → Pushable
      pushable h = let b = build_op in go (eqb (get_or code at 0) 12) refl
        where
          thirteen : (x : ℕ) → 12 ≤ x → x ≤ 13 → (x ≡ 12 → ⊥) → x ≡ 13
          thirteen x a b n = omega arith

          go : (q : Bool) → eqb (get_or code at 0) 12 ≡ q → Pushable
          go true q = pushable_whole (eqb-true (get_or code at 0) 12 q)
          go false q = let n = eqb-false (get_or code at 0) 12 q in let b = build_op in pushable_bodies (thirteen (get_or code at 0) h b.1 n)

      -- what is left of a walk of the entry, in the table with the new link
      module _ (work₁ : List ℕ) (k₁ : Kept (at + 1) (place_next code at) work work₁) (wide : at + 2 ≤ place_next code at) (v : ℕ) where
        room₁ : at < length work₁
        room₁ = let h = room in let e = k₁.long in omega arith

        places₁ : drop 4096 (set work₁ at v) ≡ drop 4096 work
        places₁ = (kept_set {lo = at} {hi = suc at} work₁ at v (omega arith) (omega arith) short).places ∙ k₁.places

        before₁ : (i : ℕ) → from ≤ i → i < at → get_or (set work₁ at v) i 0 ≡ get_or work i 0
        before₁ i a b = set_there work₁ at i v (λ e. omega arith) ∙ k₁.low i (omega arith)

        behind₁ : (i : ℕ) → at + 1 ≤ i → i < place_next code at → get_or (set work₁ at v) i 0 ≡ get_or work₁ i 0
        behind₁ i a b = set_there work₁ at i v (λ e. omega arith)

        kept₁ : Kept at (place_next code at) work (set work₁ at v)
        kept₁ = kept_then k₁ (kept_set {lo = at} {hi = suc at} work₁ at v (omega arith) (omega arith) short) (omega arith) (omega arith) (omega arith) (omega arith)

        stack₁ : Stack code subject entries (drop 4096 (set work₁ at v)) from (place_next code at) (set work₁ at v) g.st z
        stack₁ = rw places₁ (stack_kept code subject entries (drop 4096 work) work (set work₁ at v) from at from (place_next code at) before₁ (omega arith) (omega arith) g.st z g.stack)

        named₁ : {e : ℕ} → Named code subject entries (drop 4096 work₁) (at + 1) (place_next code at) work₁ at e
            → Named code subject entries (drop 4096 (set work₁ at v)) from (place_next code at) (set work₁ at v) at e
        named₁ n = record { operand = n.operand; there = n.there; end = behind₁ (at + 1) (omega arith) (omega arith) ∙ n.end }

        -- bodies, and that each was seen that is met
        bodies₁ : (ps : Tree many) (ks : List ℕ) (q : ℕ) → Stands code subject entries (drop 4096 work₁) (at + 1) (place_next code at) work₁ ps (held ks q)
            → Stands code subject entries (drop 4096 (set work₁ at v)) from (place_next code at) (set work₁ at v) ps (held ks q)
        bodies₁ ps ks q s =
            let h = g.low in
            rw (places₁ ∙ sym k₁.places)
            (stands_kept code subject entries (drop 4096 work₁) work₁ (set work₁ at v) (at + 1) (place_next code at) from (place_next code at) behind₁ (omega arith) (omega arith) ps (held ks q) s)

        seen₁ : (e : ℕ) (ps : Tree many) (ks : List ℕ) → Stands code subject entries (drop 4096 work₁) (at + 1) (place_next code at) work₁ ps (held ks (at + 4))
            → Seen code subject entries (drop 4096 work₁) (at + 1) (place_next code at) work₁ at e (count ps)
            → Seen code subject entries (drop 4096 (set work₁ at v)) from (place_next code at) (set work₁ at v) at e (count ps)
        seen₁ e ps ks s h =
            let l = g.low in
            rw (places₁ ∙ sym k₁.places)
            (seen_all_kept code subject entries (drop 4096 work₁) work₁ (set work₁ at v) (at + 1) (place_next code at) from (place_next code at) behind₁ (omega arith) (omega arith) e at ps ks s h)

        module _ (d : ℕ) (ev : v ≡ link_of z 0 d) where
          whole₁ : get_or code at 0 ≡ 12 → d ≡ capped (depth_of ent (push_tree code at)) → Walked code subject entries work₁ (at + 1) (place_next code at) most at 0
              → Stands code subject entries (drop 4096 (set work₁ at v)) from (place_next code at) (set work₁ at v) (push_tree code at) (root at)
          unfolding push_tree
          whole₁ e ed w =
              let q = eq-eqb (get_or code at 0) 12 e in
              let ed' = rw q at ed in
              let lz = g.root_low in
              rw q (rooted_in code subject entries work₁ from at room₁ short 12 (place_next code at) 0 d v z (Whole (get_or code (at + 1) 0)) ev lz (omega arith) g.low (omega arith) e ed', named₁ w.named)

          pushed₁ : get_or code at 0 ≡ 13 → at + 4 ≤ place_next code at → get_or code (at + 2) 0 ≤ 127 → d ≡ capped (depth_of ent (push_tree code at))
              → Walked code subject entries work₁ (at + 1) (place_next code at) most at (get_or code (at + 3) 0)
              → Stands code subject entries (drop 4096 (set work₁ at v)) from (place_next code at) (set work₁ at v) (push_tree code at) (root at)
          unfolding push_tree
          pushed₁ e far low ed w =
              let q = ne_eqb (get_or code at 0) 12 (λ f. omega arith) in
              let ed' = rw q at ed in
              let lz = g.root_low in
              let c = get_or code (at + 3) 0 in
              let ks = keys_at code (at + 4) c in
              let ps = trees_at code (at + 4) c in
              let ec : count ps ≡ c = count_trees code (at + 4) c in
              rw q (
                rooted_in code subject entries work₁ from at room₁ short 13 (place_next code at) 0 d v z (Pushed (get_or code (at + 1) 0) (get_or code (at + 2) 0) ks ps) ev lz (omega arith) g.low (omega arith) e ed',
                named₁ w.named,
                record { shift = refl; low = low; keys = sym ec },
                seen₁ (get_or code (at + 1) 0) ps ks w.bodies (rw ec w.seen),
                bodies₁ ps ks (at + 4) w.bodies,
              )

      module _ (pu : Pushable) {work₁ : List ℕ} (k₁ : Kept (at + 1) (place_next code at) work work₁) where
        pub growing_push : {n' d f v far' : ℕ} → Pushing code subject entries work₁ most at n' d f → n + n' ≤ most → v ≡ link_of z 0 d → far' ≡ max far f
            → Growing (set work₁ at v) (place_next code at) at (n + n') far'
        growing_push {n'} {d} {f} {v} {far'} r h ev ef =
            let lz = g.root_low in
            grow pu.instr (place_next code at) (length g.st + 1) (n + n') (push_tree code at) g.st (set work₁ at v) far' pu.next pu.grows (omega arith)
            (kept₁ work₁ k₁ pu.wide v) (let w = pu.wide in omega arith)
            (go pu.push.op)
            (rw (before_in_lem work₁ at (room₁ work₁ k₁ pu.wide v) short v z 0 d ev lz) (stack₁ work₁ k₁ pu.wide v))
            (let a = g.size in let b = r.size in omega arith) h (ef ∙ max_comm far f ∙ ap₂ max r.reach g.reach)
            (let a = g.close in let b = r.close in let c = g.low in let w = pu.wide in rw ef (max-le (omega arith) (omega arith)))
          where
            go : (get_or code at 0 ≡ 12) ⊎ (get_or code at 0 ≡ 13)
                → Stands code subject entries (drop 4096 (set work₁ at v)) from (place_next code at) (set work₁ at v) (push_tree code at) (root at)
            go (inl e) = whole₁ work₁ k₁ pu.wide v d ev e r.deep (rw (eq-eqb (get_or code at 0) 12 e) at r.walked)
            go (inr e) =
                let ne = ne_eqb (get_or code at 0) 12 (λ x. omega arith) in
                let l = behind_low code (at + 4) (get_or code (at + 3) 0) in
                let q = next_push code at (λ x. omega arith) in
                pushed₁ work₁ k₁ pu.wide v d ev e (omega arith) (pu.push.bodies e).1 r.deep (rw ne at r.walked)

      -- ---- Too many nodes

      pub full_push : Pushable → (m : ℕ) → m ≤ nodes_of ent (push_tree code at) → most < n + m → most < nodes_of ent (tree_at code from end)
      full_push pu m a b =
          let h = at_least pu.instr (place_next code at) (length g.st + 1) (push_tree code at ∷ g.st) pu.next pu.grows (omega arith) in
          let e = g.size in
          omega arith

      pub full_plain : most ≤ n → get_or code at 0 < 12 → (get_or code at 0 ≡ 9 → ⊥) → most < nodes_of ent (tree_at code from end)
      full_plain h l ne = go (get_or code at 0) refl
        where
          more : (m k : ℕ) → k ≡ suc (sizes ent g.st) → k ≤ m → most < m
          more m k e a = let s = g.size in omega arith

          go : (x : ℕ) → get_or code at 0 ≡ x → most < nodes_of ent (tree_at code from end)
          go x e =
              cases x (let b = build_op in omega arith) (omega arith) (λ q. ne (e ∙ q))
              (λ q. let nx = cell_next g.follows lo inside (e ∙ q) in let ll = length_left (get_or code (at + 2) 0) g.st in
              more _ _ (cell_sizes ent (get_or code (at + 1) 0) (get_or code (at + 2) 0) g.st)
              (at_least (CELL (get_or code (at + 1) 0) (get_or code (at + 2) 0)) _ _ _ nx.1 refl (omega arith)))
              (λ q. let nx = adbmal_next g.follows lo inside (e ∙ q) in
              more _ _ (blocked_sizes ent g.st nx.0) (at_least ADBMAL _ _ _ nx.1 refl (blocked_length g.st)))
              (λ q. let nx = pushvar_next g.follows lo inside (e ∙ q) in
              more _ _ (one_more _) (at_least (PUSHVAR (get_or code (at + 1) 0)) _ _ (Bound (get_or code (at + 1) 0) ∷ g.st) nx refl (omega arith)))
            where
              one_more : (k : ℕ) → 1 + k ≡ suc k
              one_more k = omega arith

              blocked_length : (st : List (Tree one)) → length (blocked st) ≡ length st
              blocked_length [] = refl
              blocked_length (p ∷ st) = refl

              cases : {A : Type 0} (x : ℕ) → 8 ≤ x → x < 12 → (x ≡ 9 → ⊥) → (x ≡ 8 → A) → (x ≡ 10 → A) → (x ≡ 11 → A) → A
              cases {A} x a b n f g h = pick (eqb x 8) refl (eqb x 10) refl
                where
                  pick : (p : Bool) → eqb x 8 ≡ p → (q : Bool) → eqb x 10 ≡ q → A
                  pick true e q k = f (eqb-true x 8 e)
                  pick false e true k = g (eqb-true x 10 k)
                  pick false e false k = h (let i = eqb-false x 8 e in let j = eqb-false x 10 k in omega arith)

    -- ---- The end

    near_end : (a b f : ℕ) → a ≡ b → f ≤ near (a - from) → f ≤ near (b - from)
    near_end a b f e h = rw e at h

    alone : (work : List ℕ) (a b z : ℕ) (st : List (Tree one)) (p q : Tree one) → Stack code subject entries (drop 4096 work) from a work st z → st ≡ p ∷ [] → a ≡ b → p ≡ q
        → Stands code subject entries (drop 4096 work) from b work q (root z)
    alone work a b z st p q s e f t = let k = rw (e, f, t) at s in k.0

    pub growing_end : {work : List ℕ} {at z n far : ℕ} → Growing work at z n far → end ≤ at → Measure code subject entries work most from end n far z
    growing_end {work} {at} {z} {n} {far} g h =
        let e : at ≡ end = let k = g.high in omega arith in
        let d = follows_done g.follows e in
        let o = grown_one (length entries) g.rest g.st g.follows.runs d.0 in
        let p = o.0 in
        let t : p ≡ tree_at code from end = sym (ap top_of o.1) ∙ ap (λ (c : Program). top_of (grown c g.st)) (sym d.0) ∙ g.same in
        record {
          size = g.size ∙ ap (sizes ent) o.1 ∙ add-zero _ ∙ ap (λ (q : Tree one). nodes_of ent q) t;
          fits = g.fits;
          reach = g.reach ∙ ap (reaches ent) o.1 ∙ max-zero _ ∙ ap (λ (q : Tree one). reach_of ent q) t;
          close = near_end at end far e g.close;
          stands = alone work at end z g.st p _ g.stack o.1 e t;
        }
