-- The walk that writes: what holds at each of its calls, and from turn to turn of its two loops.
use mathlib.Core.Path.{◌≡◌, refl, sym, ap, ◌∙◌}
use Prim.Native.Nat.{ℕ, zero, suc, ◌+◌, ◌-◌, ◌*◌, ◌/◌, ◌%◌, ◌≤◌, ◌<◌}
use native.Mathlib.Omega.{arith}
use native.Mathlib.Decide.{ℕ_discrete}
use mathlib.Core.Bool.{true, false}
use mathlib.Core.Option.{some}
use mathlib.Core.List.{List, [], ◌∷◌, ◌++◌}
use lib.ListN.{length, get_or, set, take, length-set}
use lib.Seq.{get_or-set_same, get_or-set_other}
use Rattle.documents.specs.Tables.{nodes}
use Rattle.instructions.specs.Bodies.{key_place}
use Rattle.trees.proofs.Sizes.{depth_positive_of}
use Rattle.links.specs.Links.{before_in, over_in}
use Rattle.links.specs.Nodewise.{is_free, inside_of}
use Rattle.links.specs.Standing.{entry_at, Known}
use Rattle.links.proofs.Scenes.{scene_of, placed_of}
use Rattle.writer.specs.Written.{Wrote, Writes, Room, Same, nstack}
use Rattle.writer.specs.Wanted.{Ready, Going, arguments_at, lambdas_in, lambdas_around, is_constant, head_at, TreeAt, EntryPart, FreeAt, Met}
use Rattle.writer.proofs.Writings.{wrote_none, Splits, Exactly, writes_from, room_from, writes_then, room_last, room_rest, writes_below, writes_exactly}
use Rattle.writer.proofs.Opened.{opened_same, nstack_same, nstack_raised, nstack_at, same_none, same_then, same_fewer, same_one, same_opened}
use Rattle.writer.proofs.Nodes.{cell_arguments, constant_is, in_least, around_in, in_some}
use Rattle.writer.proofs.Spreading.{Below}
use Rattle.writer.proofs.Rooting.{CellAt, tree_root, tree_cell, trees_none, tree_bound, bound_words}
use Rattle.writer.proofs.Waiting.{Inner, node_inner, node_few, node_parts, Owed, owed_kept, owed_one, owed_none, owed_high, owed_last, owed_opened, owed_held, owed_closed}
use Rattle.writer.proofs.Entries.{PartAt, NodeAt, Parted, named_parted, parted_length, parted_root, tree_named, tree_part, part_none, part_split, part_met, node_within, place_below, node_free, node_kept}
use Rattle.writer.proofs.Freed.{free_falls, free_body}

-- ---- The setting

-- what is known of the parts, and what a call says
pub ready_of : {code subject entries work d o : List ℕ} {end offset l words : ℕ} → Known code subject entries → l ≤ 63 → offset + 64 * words ≤ 1048576
    → Going subject work d o end offset l → Ready code subject entries work d o end offset l words
ready_of k f m g = record { scene = scene_of k g.placed; inside = g.inside; lambdas = f; long = g.long; low = g.low; small = m }

pub going_of : {code subject entries work d o : List ℕ} {end offset l words : ℕ} → Ready code subject entries work d o end offset l words → Going subject work d o end offset l
going_of y = record { placed = placed_of y.scene; inside = y.inside; long = y.long; low = y.low }

module _ {code subject entries work d o : List ℕ} {end offset l words : ℕ} (y : Ready code subject entries work d o end offset l words) where
  -- further on
  pub ready_on : {e p : List ℕ} {to : ℕ} → length e ≡ length d → length p ≡ length o → take l p ≡ take l o → to ≤ end
      → Ready code subject entries work e p to offset l words
  ready_on {e = e} {p = p} n m s h = record {
    scene = y.scene;
    inside = let i = y.inside in omega arith;
    lambdas = y.lambdas;
    long = m ∙ y.long;
    low = λ i j. rw (opened_same l i o p s j) (y.low i j);
    small = y.small;
  }

  -- around a node
  pub ready_fewer : {e : List ℕ} {to outer : ℕ} → length e ≡ length d → outer ≤ l → to ≤ end → Ready code subject entries work e o to offset outer words
  ready_fewer n h k = record {
    scene = y.scene;
    inside = let i = y.inside in omega arith;
    lambdas = let i = y.lambdas in omega arith;
    long = y.long;
    low = λ i j. y.low i (omega arith);
    small = y.small;
  }

  -- in what a CELL or ADBMAL took
  pub ready_inner : {inner : ℕ} → Inner l inner → Ready code subject entries work d (set o l offset) end offset inner words
  ready_inner {inner = inner} n = record {
    scene = y.scene;
    inside = y.inside;
    lambdas = n.low;
    long = length-set o l offset ∙ y.long;
    low = λ i j. go i j (ℕ_discrete l i);
    small = y.small;
  }
    where
      go : (i : ℕ) → i < inner → Dec (l ≡ i) → get_or (set o l offset) i 0 ≤ offset
      go i j (yes q) =
          let m = y.long in
          let h = y.lambdas in
          let k : get_or (set o i offset) i 0 ≡ offset = get_or-set_same o i offset 0 (omega arith) in
          rw (q, k) (omega arith)
      go i j (no q) = let h = n.most in rw (get_or-set_other o l i offset 0 (λ z. q (sym z))) (y.low i (omega arith))

  -- in a body under n abstractions of its entry
  ready_body : (n body : ℕ) → n < 64 → body + 2 ≤ words → Ready code subject entries work d o end (offset + n) l body
  ready_body n body h k = record {
    scene = y.scene;
    inside = y.inside;
    lambdas = y.lambdas;
    long = y.long;
    low = λ i j. let q = y.low i j in omega arith;
    small = let q = y.small in omega arith;
  }

  -- a variable of an open LAMBDA
  pub ready_bound : {x : ℕ} → x < l → (x < l) × (l ≤ length o) × (l ≤ 63) × (get_or o (l - 1 - x) 0 ≤ offset) × (offset ≤ 1048576)
  ready_bound {x = x} h =
      let n = y.long in
      let k = y.lambdas in
      let q = y.small in
      (h, omega arith, k, y.low (l - 1 - x) (omega arith), omega arith)

-- ---- A symbol without arguments

module _ {code subject entries work : List ℕ} (o : List ℕ) {words l level offset z : ℕ} (c : is_constant code z ≡ true) (h : l < length o) where
  constant_as : (ws : List ℕ) → TreeAt code subject entries work words l level offset (nstack offset l o) z ws → ws ≡ head_at code z ∷ 0 ∷ []
  constant_as ws t =
      let b = constant_is code z c in
      let n = sym b.1 ∙ cell_arguments code z b.0 in
      let p = (node_parts (omega arith) o h n refl refl refl).parts ws t in
      p.2 ∙ ap (λ (us : List ℕ). us ++ p.1) p.3 ∙ ap (λ (vs : List ℕ). head_at code z ∷ 0 ∷ vs) (trees_none p.1 (omega arith) p.4)

  pub constant_fits : {end : ℕ} → Room (TreeAt code subject entries work words l level offset (nstack offset l o) z) end → 2 ≤ end
  constant_fits m = let n = ap length (constant_as m.words m.wanted) in let f = m.fit in omega arith

  pub constant_written : {d e : List ℕ} {x r end : ℕ} → x ≡ head_at code z → Wrote d e r end (x ∷ 0 ∷ [])
      → Writes (TreeAt code subject entries work words l level offset (nstack offset l o) z) d e r end
  constant_written q w = writes_exactly (λ ws t. constant_as ws t ∙ ap (λ y. y ∷ 0 ∷ []) (sym q)) w

-- ---- A PUSHVAR

-- its index, moved by the abstractions that were added since its LAMBDA
abbrev bound_word : (code o : List ℕ) (l offset z : ℕ) → ℕ
bound_word code o l offset z = get_or code (z + 1) 0 + (offset - get_or o (l - 1 - get_or code (z + 1) 0) 0)

module _ {code subject entries work : List ℕ} (o : List ℕ) {words l level offset z : ℕ} (op : get_or code z 0 ≡ 11) where
  bound_as : (ws : List ℕ) → TreeAt code subject entries work words l level offset (nstack offset l o) z ws → ws ≡ bound_word code o l offset z ∷ 0 ∷ []
  bound_as ws t =
      bound_words op ws t ∙ ap (λ y. (get_or code (z + 1) 0 + y) ∷ 0 ∷ []) (nstack_at offset l (get_or code (z + 1) 0) o (tree_bound op t).low)

  pub bound_fits : {end : ℕ} → Room (TreeAt code subject entries work words l level offset (nstack offset l o) z) end → 2 ≤ end
  bound_fits m = let n = ap length (bound_as m.words m.wanted) in let f = m.fit in omega arith

  pub bound_written : {d e : List ℕ} {x r end : ℕ} → x ≡ bound_word code o l offset z → Wrote d e r end (x ∷ 0 ∷ [])
      → Writes (TreeAt code subject entries work words l level offset (nstack offset l o) z) d e r end
  bound_written q w = writes_exactly (λ ws t. bound_as ws t ∙ ap (λ y. y ∷ 0 ∷ []) (sym q)) w

-- ---- The body of a variable that is free in an entry, run with the abstractions that were crossed there

module _ {code subject entries work d o : List ℕ} {end offset l level words z x n : ℕ} (y : Ready code subject entries work d o end offset l words)
    (m : Met code work z x n) {key : ℕ} (k : key_place code (z + 4) (get_or code (z + 3) 0) (x - n) ≡ some key) {lifted : ℕ} (up : lifted ≡ offset + n) where
  pub body_tree : (ws : List ℕ) → FreeAt code subject entries work words l level offset (nstack offset l o) z x n ws
      → TreeAt code subject entries work (get_or code (key + 1) 0) l level lifted (nstack lifted l o) (get_or work key 0) ws
  body_tree ws t = rw up (free_body m key k (nstack (offset + n) l o) (nstack_raised offset n l o y.low) ws t)

  pub body_ready : {ws : List ℕ} → FreeAt code subject entries work words l level offset (nstack offset l o) z x n ws
      → Ready code subject entries work d o end lifted l (get_or code (key + 1) 0)
  body_ready t = rw up (ready_body y n (get_or code (key + 1) 0) m.shallow (free_falls m key k t).1)

-- ---- From tree to tree

-- of the tree at `root` before `end`, there are `left` trees to write before `to`, the last at `at`, and j nodes that wait
pub record Writing (code subject entries work d e o p : List ℕ) (end to root at left lambdas kept offset l level words : ℕ) : Type 0 where
  pub same_length : length e ≡ length d
  pub opened_long : length p ≡ length o
  pub same : Same l level o p
  pub ready : Ready code subject entries work e p to offset lambdas words
  pub least : l ≤ lambdas
  pub few : left ≤ 15
  pub j : ℕ
  pub kept_is : kept ≡ level + j
  pub room : Room (Owed code subject entries work words l level offset p j lambdas left at) to
  pub rest : (f : List ℕ) (r : ℕ) → Writes (Owed code subject entries work words l level offset p j lambdas left at) e f r to
      → Writes (TreeAt code subject entries work words l level offset (nstack offset l o) root) d f r end

pub writing_from : {code subject entries work d o : List ℕ} {end root offset l level words : ℕ} → Ready code subject entries work d o end offset l words
    → Room (TreeAt code subject entries work words l level offset (nstack offset l o) root) end
    → Writing code subject entries work d d o o end end root root 1 l level offset l level words
writing_from {o = o} y m = record {
  same_length = refl;
  opened_long = refl;
  same = same_none;
  ready = y;
  least = omega arith;
  few = omega arith;
  j = 0;
  kept_is = omega arith;
  room = room_from (λ ws t. owed_one o ws t) m;
  rest = λ f r w. writes_from (λ ws t. owed_one o ws t) w;
}

module _ {code subject entries work d e o p : List ℕ} {end to root at left lambdas kept offset l level words : ℕ}
    (w : Writing code subject entries work d e o p end to root at left lambdas kept offset l level words) where
  pub writing_high : kept ≤ 64
  writing_high = let h = owed_high w.room.wanted in let k = w.kept_is in omega arith

  pub writing_ended : left ≤ 0 → kept ≡ level → Writes (TreeAt code subject entries work words l level offset (nstack offset l o) root) d e to end
  writing_ended h k = let i = w.kept_is in w.rest e to (writes_exactly (λ ws t. owed_none ws (omega arith) h t) (wrote_none e to))

  -- a tree is left
  module _ (h : 0 < left) where
    writing_room : Room (TreeAt code subject entries work words lambdas (level + w.j) offset (nstack offset lambdas p) at) to
    writing_room = room_last (owed_last h) w.room

    pub writing_at : at < length code
    writing_at = tree_root writing_room.wanted

    pub leaf_room : Room (TreeAt code subject entries work words lambdas kept offset (nstack offset lambdas p) at) to
    leaf_room = rw w.kept_is writing_room

    pub leaf_below : {f : List ℕ} {r : ℕ} → Writes (TreeAt code subject entries work words lambdas kept offset (nstack offset lambdas p) at) e f r to → r ≤ to
    leaf_below v = writes_below leaf_room v

    pub writing_leaf : {f q : List ℕ} {r next : ℕ} → Writes (TreeAt code subject entries work words lambdas kept offset (nstack offset lambdas p) at) e f r to
        → Same lambdas kept p q → length f ≡ length e → length q ≡ length p → next ≡ before_in (get_or work at 0)
        → Writing code subject entries work d f o q end r root next (left - 1) lambdas kept offset l level words
    writing_leaf {f = f} {q = q} {r = r} {next = next} v s n m b =
        let k = w.kept_is in
        let i = w.few in
        let u : Writes (TreeAt code subject entries work words lambdas (level + w.j) offset (nstack offset lambdas p) at) e f r to = rw k at v in
        let t : Same lambdas (level + w.j) p q = rw k at s in
        record {
          same_length = n ∙ w.same_length;
          opened_long = m ∙ w.opened_long;
          same = same_then w.same (same_fewer w.least (omega arith) s);
          ready = ready_on w.ready n m s.lambdas (leaf_below v);
          least = w.least;
          few = omega arith;
          j = w.j;
          kept_is = k;
          room = rw b (room_from (owed_kept t) (room_rest (owed_last h) w.room u));
          rest = λ g c x. w.rest g c (writes_then (owed_last h) u (writes_from (owed_kept t) (rw b at x)));
        }

    -- a node
    module _ (below : get_or code at 0 < 11) where
      pub node_cell : get_or code at 0 ≡ 8 → at + 2 < length code
      node_cell op = (tree_cell op writing_room.wanted).within

      pub opened_high : kept ≤ 63
      opened_high =
          let k = w.kept_is in
          let d = depth_positive_of (entry_at subject entries) writing_room.wanted.tree in
          let e = writing_room.wanted.shallow in
          omega arith

      pub opened_few : arguments_at code at ≤ 8
      opened_few = node_few below writing_room.wanted

      pub writing_opened : {v inner count next : ℕ} → v ≡ at * 16 + (left - 1) → inner ≡ lambdas_in code at lambdas → count ≡ arguments_at code at
          → next ≡ over_in (get_or work at 0)
          → Writing code subject entries work d e o (set (set p (64 + kept) v) lambdas offset) end to root next count inner (kept + 1) offset l level words
      writing_opened {v} {inner} {count} {next} s i c b =
          let k = w.kept_is in
          let n = w.ready.long in
          let low = w.ready.lambdas in
          let few = w.few in
          let high = opened_high in
          let fewer = opened_few in
          let least = w.least in
          let g = node_inner below low i writing_room.wanted in
          let one = same_one p lambdas kept v offset low in
          let all = same_opened p lambdas kept v offset low in
          let u : length (set p (64 + kept) v) ≡ length p = length-set p (64 + kept) v in
          let to-owed : (ws : List ℕ) → Owed code subject entries work words l level offset p w.j lambdas left at ws
          → Owed code subject entries work words l level offset (set (set p (64 + kept) v) lambdas offset) (suc w.j) inner count next ws =
          owed_opened code subject entries work words l level offset p w.j lambdas left at v below low n w.least k high (omega arith) (omega arith) i c b h
          in
          record {
            same_length = w.same_length;
            opened_long = length-set (set p (64 + kept) v) lambdas offset ∙ u ∙ w.opened_long;
            same = same_then w.same (same_fewer w.least (omega arith) all);
            ready = ready_inner (ready_on w.ready refl u one.lambdas (omega arith)) g;
            least = let y = g.least in omega arith;
            few = omega arith;
            j = suc w.j;
            kept_is = omega arith;
            room = room_from to-owed w.room;
            rest = λ f r x. w.rest f r (writes_from to-owed x);
          }

  -- no tree is left, but a node waits
  module _ (h : left ≤ 0) (k : kept ≡ level → ⊥) where
    abbrev node : ℕ
    node = get_or p (64 + (kept - 1)) 0 / 16

    some_wait : w.j ≡ suc (w.j - 1)
    some_wait = more w.j w.kept_is
      where
        more : (j : ℕ) → kept ≡ level + j → j ≡ suc (j - 1)
        more zero e = absurd (k (e ∙ omega arith))
        more (suc j) e = omega arith

    place : kept - 1 ≡ level + (w.j - 1)
    place = let i = w.kept_is in let j = some_wait in omega arith

    closed_room : Room (Owed code subject entries work words l level offset p (suc (w.j - 1)) lambdas left at) to
    closed_room = rw some_wait at w.room

    closed_split : {outer next word count : ℕ} → outer ≡ lambdas_around code node lambdas → next ≡ before_in (get_or work node 0) → word ≡ head_at code node → count ≡ arguments_at code node
        → Splits (Owed code subject entries work words l level offset p (suc (w.j - 1)) lambdas left at)
        (Owed code subject entries work words l level offset p (w.j - 1) outer (get_or p (64 + (kept - 1)) 0 % 16) next) (Exactly (word ∷ count ∷ []))
    closed_split a b x c = owed_closed place h a b x c

    pub closed_kept : (1 ≤ kept) × (kept ≤ 64)
    closed_kept = let i = w.kept_is in let j = some_wait in (omega arith, writing_high)

    pub closed_within : node < length code
    closed_within = (owed_held place closed_room.wanted).within

    pub closed_cell : get_or code node 0 ≡ 8 → CellAt code node
    closed_cell = (owed_held place closed_room.wanted).cell

    pub closed_some : (get_or code node 0 ≡ 8 → ⊥) → 1 ≤ lambdas
    closed_some op = in_some code node (owed_held place closed_room.wanted).outer (owed_held place closed_room.wanted).inner op

    pub closed_fit : 2 ≤ to
    closed_fit =
        let m = room_last (closed_split refl refl refl refl) closed_room in
        let f = m.fit in
        let n = ap length m.wanted in
        omega arith

    pub writing_closed : {f : List ℕ} {r outer next word count : ℕ} → outer ≡ lambdas_around code node lambdas → next ≡ before_in (get_or work node 0) → word ≡ head_at code node
        → count ≡ arguments_at code node → Wrote e f r to (word ∷ count ∷ []) → length f ≡ length e
        → Writing code subject entries work d f o p end r root next (get_or p (64 + (kept - 1)) 0 % 16) outer (kept - 1) offset l level words
    writing_closed {f = f} {r = r} {outer = outer} {next = next} a b x c v n =
        let g = owed_held place closed_room.wanted in
        let t = a ∙ around_in code node g.outer g.inner in
        let i = in_least code node g.outer g.inner in
        let q = g.least in
        let y = v.ends in
        let u = writes_exactly {All = Exactly _} (λ ws z. z) v in
        record {
          same_length = n ∙ w.same_length;
          opened_long = w.opened_long;
          same = w.same;
          ready = ready_fewer w.ready n (omega arith) (omega arith);
          least = omega arith;
          few = omega arith;
          j = w.j - 1;
          kept_is = place;
          room = room_rest (closed_split a b x c) closed_room u;
          rest = λ s z m. w.rest s z (rw some_wait (writes_then (closed_split a b x c) u m));
        }

-- ---- From node to node of an entry

-- of the entry of a PUSHI at `push`, the first `left` nodes are to be written before `to`
pub record Entering (code subject entries work part d e o p : List ℕ) (end to push places left offset l level words : ℕ) : Type 0 where
  pub same_length : length e ≡ length d
  pub opened_long : length p ≡ length o
  pub same : Same l level o p
  pub lower : to ≤ end
  pub parted : Parted subject entries part places (get_or code (push + 1) 0)
  pub few : left ≤ nodes (entry_at subject entries (get_or code (push + 1) 0))
  pub room : Room (PartAt code subject entries work words l level offset (nstack offset l p) (get_or code (push + 1) 0) push left) to
  pub rest : (f : List ℕ) (r : ℕ) → Writes (PartAt code subject entries work words l level offset (nstack offset l p) (get_or code (push + 1) 0) push left) e f r to
      → Writes (TreeAt code subject entries work words l level offset (nstack offset l o) push) d f r end

module _ {code subject entries work part d o : List ℕ} {end push places offset l level words : ℕ} (y : Ready code subject entries work d o end offset l words)
    (m : Room (TreeAt code subject entries work words l level offset (nstack offset l o) push) end) (op : get_or code push 0 ≡ 13)
    (b : EntryPart code push part places subject entries work) where
  entry_parted : Parted subject entries part places (get_or code (push + 1) 0)
  entry_parted = named_parted (tree_named (omega arith) (λ q. omega arith) m.wanted) b

  pub entry_root : places < 8192
  entry_root = parted_root y.scene entry_parted

  pub entering_from : Entering code subject entries work part d d o o end end push places (length part / 2) offset l level words
  entering_from = rw half (record {
    same_length = refl;
    opened_long = refl;
    same = same_none;
    lower = omega arith;
    parted = entry_parted;
    few = omega arith;
    room = room_from (tree_part y.scene op) m;
    rest = λ e r w. writes_from (tree_part y.scene op) w;
  })
    where
      half : length part / 2 ≡ nodes (entry_at subject entries (get_or code (push + 1) 0))
      half = let n = parted_length y.scene entry_parted in omega arith

module _ {code subject entries work part d e o p : List ℕ} {end to push places left offset l level words : ℕ}
    (y : Ready code subject entries work d o end offset l words) (w : Entering code subject entries work part d e o p end to push places left offset l level words) where
  pub entering_ended : left ≤ 0 → Writes (TreeAt code subject entries work words l level offset (nstack offset l o) push) d e to end
  entering_ended h = w.rest e to (writes_exactly (λ ws t. part_none ws left (omega arith) t) (wrote_none e to))

  pub entering_ready : Ready code subject entries work e p to offset l words
  entering_ready = ready_on y w.same_length w.opened_long w.same.lambdas w.lower

  module _ (h : 0 < left) where
    abbrev inside : ℕ
    inside = inside_of (get_or work places 0) (get_or work (places + (left - 1)) 0)

    fewer : left - 1 < nodes (entry_at subject entries (get_or code (push + 1) 0))
    fewer = let j = w.few in omega arith

    one_more : suc (left - 1) ≡ left
    one_more = omega arith

    pub entering_within : (2 * (left - 1) + 1 < length part) × (places + (left - 1) < 8192)
    entering_within = node_within y.scene w.parted fewer

    pub entering_below : Below (get_or work places 0) (get_or work (places + (left - 1)) 0)
    entering_below = place_below y.scene w.parted fewer

    entering_split : Splits (PartAt code subject entries work words l level offset (nstack offset l p) (get_or code (push + 1) 0) push left)
        (PartAt code subject entries work words l level offset (nstack offset l p) (get_or code (push + 1) 0) push (left - 1))
        (NodeAt code subject entries work words l level offset (nstack offset l p) (get_or code (push + 1) 0) push (get_or part (2 * (left - 1)) 0) (get_or part (2 * (left - 1) + 1) 0) inside)
    entering_split = ap_splits one_more (part_split y.scene w.parted fewer)
      where
        ap_splits : {m k : ℕ} → m ≡ k → {Fore Rear : List ℕ → Type 0}
            → Splits (PartAt code subject entries work words l level offset (nstack offset l p) (get_or code (push + 1) 0) push m) Fore Rear
            → Splits (PartAt code subject entries work words l level offset (nstack offset l p) (get_or code (push + 1) 0) push k) Fore Rear
        ap_splits e s = rw e at s

    entering_node : {f q : List ℕ} {r : ℕ}
        → Writes (NodeAt code subject entries work words l level offset (nstack offset l p) (get_or code (push + 1) 0) push (get_or part (2 * (left - 1)) 0) (get_or part (2 * (left - 1) + 1) 0) inside) e f r to
        → Same l level p q → length f ≡ length e → length q ≡ length p → Entering code subject entries work part d f o q end r push places (left - 1) offset l level words
    entering_node {f = f} {q = q} {r = r} v t n m =
        let s = nstack_same offset l p q t.lambdas in
        let i = w.lower in
        let j = writes_below (room_last entering_split w.room) v in
        let z = fewer in
        record {
          same_length = n ∙ w.same_length;
          opened_long = m ∙ w.opened_long;
          same = same_then w.same t;
          lower = omega arith;
          parted = w.parted;
          few = omega arith;
          room = rw s (room_rest entering_split w.room v);
          rest = λ g c x. w.rest g c (writes_then entering_split v (rw s at x));
        }

    -- a variable that is free in the entry
    module _ (free : is_free (get_or part (2 * (left - 1)) 0) inside ≡ true) where
      pub entering_met : Met code work push (get_or part (2 * (left - 1)) 0) inside
      entering_met = part_met y.scene w.parted fewer left w.room.wanted free

      pub entering_room : Room (FreeAt code subject entries work words l level offset (nstack offset l p) push (get_or part (2 * (left - 1)) 0) inside) to
      entering_room = room_from (λ ws t. node_free ws free t) (room_last entering_split w.room)

      pub entering_free : {f q : List ℕ} {r : ℕ} → Writes (FreeAt code subject entries work words l level offset (nstack offset l p) push (get_or part (2 * (left - 1)) 0) inside) e f r to
          → Same l level p q → length f ≡ length e → length q ≡ length p → Entering code subject entries work part d f o q end r push places (left - 1) offset l level words
      entering_free v = entering_node (writes_from (λ ws t. node_free ws free t) v)

    -- any other node
    module _ (kept : is_free (get_or part (2 * (left - 1)) 0) inside ≡ false) where
      pub entering_fit : 2 ≤ to
      entering_fit =
          let r = room_last entering_split w.room in
          let f = r.fit in
          let n = ap length (node_kept r.words kept r.wanted) in
          omega arith

      pub entering_kept : {f : List ℕ} {r : ℕ} → Wrote e f r to (get_or part (2 * (left - 1)) 0 ∷ get_or part (2 * (left - 1) + 1) 0 ∷ []) → length f ≡ length e
          → Entering code subject entries work part d f o p end r push places (left - 1) offset l level words
      entering_kept v n = entering_node (writes_exactly (λ ws t. node_kept ws kept t) v) same_none n refl
