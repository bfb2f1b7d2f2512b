-- What the measuring walk asks, and what it says of a tree: nodes, depth and reach, as `Trees` has them; 13 as soon as there are too many nodes. It leaves
-- the tree standing in the working table (`Standing`).
use Rattle.std.specs.Prelude.{◌≡◌, ◌⊎◌, ℕ, zero, suc, ◌+◌, ◌-◌, ◌*◌, ◌/◌, ◌≤◌, ◌<◌, true, cond, List, eqb, length, get_or, drop}
use Rattle.std.specs.Prelude.{Option, Some, None}
use Rattle.std.proofs.Math.Option as math
use Rattle.documents.specs.Lists.{assoc, pairlists}
use Rattle.documents.specs.Terms.{one}
use Rattle.documents.specs.Instructions.{op_pushimm, op_pushi}
use Rattle.instructions.specs.Bodies.{body_end, key_place, place_behind}
use Rattle.trees.specs.Trees.{Tree, Whole, Pushed, or_one, or_moved, spread_nodes, spread_depth, spread_reach, nodes_of, depth_of, reach_of}
use Rattle.links.specs.Links.{capped, note_of}
use Rattle.links.specs.Nodewise.{seen_at}
use Rattle.links.specs.Standing.{entry_place, entry_at, Scene, Placed, root, held, Named, Seen, Stands}
use Rattle.links.specs.Sequences.{tree_at, Sequenced, Bodied, keys_at, trees_at}
use Rattle.measurer.specs.Linking.{place_next}
use Rattle.measurer.specs.declared.Measured.{Measured}
use Rattle.measurer.specs.declared.Span.{Span}

-- between lo and hi the working table may have changed, elsewhere not
pub record Kept (lo hi : ℕ) (work work' : List ℕ) : Type 0 where
  pub low : (i : ℕ) → i < lo → get_or work' i 0 ≡ get_or work i 0
  pub high : (i : ℕ) → hi ≤ i → get_or work' i 0 ≡ get_or work i 0
  pub places : drop 4096 work' ≡ drop 4096 work
  pub long : length work' ≡ length work

-- what n words of code can reach: an index of a subject, moved by at most 63, and at most 63 further in each body
abbrev pub near : ℕ → ℕ
near n = 65664 + 64 * n

-- ---- A sequence

pub record Sequence (code : List ℕ) (from end : ℕ) (subject entries work : List ℕ) (most : ℕ) : Type 0 where
  pub scene : Scene code subject entries work
  pub few : most ≤ 4096
  pub positive : 1 ≤ from
  pub ordered : from ≤ end
  pub inside : end ≤ length code
  pub makes : Sequenced code from end (length entries)

-- .. what of it is not known of the parts themselves
pub record AsksSequence (code : List ℕ) (from end : ℕ) (subject entries work : List ℕ) : Type 0 where
  pub placed : Placed subject work
  pub positive : 1 ≤ from
  pub ordered : from ≤ end
  pub inside : end ≤ length code
  pub makes : Sequenced code from end (length entries)

module _ (code subject entries work' : List ℕ) (most : ℕ) where
  pub record Measure (from end : ℕ) (n far z : ℕ) : Type 0 where
    pub size : n ≡ nodes_of (entry_at subject entries) (tree_at code from end)
    pub fits : n ≤ most
    pub reach : far ≡ reach_of (entry_at subject entries) (tree_at code from end)
    pub close : far ≤ near (end - from)
    pub stands : Stands code subject entries (drop 4096 work') from end work' (tree_at code from end) (root z)

  abbrev pub MeasuredAs : ℕ → ℕ → Option Measured → Type 0
  MeasuredAs from end (Some m) = Measure from end m.nodes m.reach m.root
  MeasuredAs from end None = most < nodes_of (entry_at subject entries) (tree_at code from end)

pub record Measures (code : List ℕ) (from end : ℕ) (subject entries work work' : List ℕ) (most : ℕ) (r : Option Measured) : Type 0 where
  pub kept : Kept from end work work'
  pub says : MeasuredAs code subject entries work' most from end r

-- ---- A PUSHIMM or PUSHI

-- its tree
unfoldable pub push_tree : List ℕ → ℕ → Tree one
push_tree code at =
    cond (eqb (get_or code at 0) op_pushimm) (Whole (get_or code (at + 1) 0))
    (Pushed (get_or code (at + 1) 0) (get_or code (at + 2) 0) (keys_at code (at + 4) (get_or code (at + 3) 0)) (trees_at code (at + 4) (get_or code (at + 3) 0)))

pub record Push (code : List ℕ) (at : ℕ) (subject entries work : List ℕ) (most : ℕ) : Type 0 where
  pub scene : Scene code subject entries work
  pub few : most ≤ 4096
  pub op : (get_or code at 0 ≡ op_pushimm) ⊎ (get_or code at 0 ≡ op_pushi)
  pub words : at + 2 ≤ length code
  pub entry : get_or code (at + 1) 0 < length entries
  pub bodies : get_or code at 0 ≡ op_pushi → (at + 4 ≤ length code) × (get_or code (at + 2) 0 ≤ 127) × Bodied code (at + 4) (get_or code (at + 3) 0) (length entries)

-- .. what of it is not known of the parts themselves
pub record AsksPush (code : List ℕ) (at : ℕ) (subject entries work : List ℕ) : Type 0 where
  pub placed : Placed subject work
  pub op : (get_or code at 0 ≡ op_pushimm) ⊎ (get_or code at 0 ≡ op_pushi)
  pub words : at + 2 ≤ length code
  pub entry : get_or code (at + 1) 0 < length entries
  pub bodies : get_or code at 0 ≡ op_pushi → (at + 4 ≤ length code) × (get_or code (at + 2) 0 ≤ 127) × Bodied code (at + 4) (get_or code (at + 3) 0) (length entries)

-- A body behind its key at q that was measured: its tree stands within its words, and nodes and reach are noted.
pub record Noted (code subject entries work : List ℕ) (q : ℕ) : Type 0 where
  pub note : get_or work (q + 1) 0
      ≡ note_of (nodes_of (entry_at subject entries) (tree_at code (q + 2) (body_end code q))) (reach_of (entry_at subject entries) (tree_at code (q + 2) (body_end code q)))
  pub few : nodes_of (entry_at subject entries) (tree_at code (q + 2) (body_end code q)) ≤ 4096
  pub close : reach_of (entry_at subject entries) (tree_at code (q + 2) (body_end code q)) ≤ near (body_end code q - (q + 2))
  pub stands : Stands code subject entries (drop 4096 work) (q + 2) (body_end code q) work (tree_at code (q + 2) (body_end code q)) (root (get_or work q 0))

-- not measured yet, or so
abbrev pub Memo : List ℕ → List ℕ → List ℕ → List ℕ → ℕ → Type 0
Memo code subject entries work q = (get_or work q 0 ≡ 0) ⊎ Noted code subject entries work q

-- c bodies from q on
abbrev pub Memos : List ℕ → List ℕ → List ℕ → List ℕ → ℕ → ℕ → Type 0
Memos code subject entries work q zero = Unit {0}
Memos code subject entries work q (suc c) = Memo code subject entries work q × Memos code subject entries work (body_end code q) c

module _ (code subject entries work' : List ℕ) (lo hi most : ℕ) where
  -- an entry's end is noted, and each body of a variable of it was measured
  pub record Walked (push c : ℕ) : Type 0 where
    pub named : Named code subject entries (drop 4096 work') lo hi work' push (get_or code (push + 1) 0)
    pub seen : Seen code subject entries (drop 4096 work') lo hi work' push (get_or code (push + 1) 0) c
    pub bodies : Stands code subject entries (drop 4096 work') lo hi work' (trees_at code (push + 4) c) (held (keys_at code (push + 4) c) (push + 4))

module _ (code subject entries work' : List ℕ) (most : ℕ) where
  pub record Pushing (at n d far : ℕ) : Type 0 where
    pub size : n ≡ nodes_of (entry_at subject entries) (push_tree code at)
    pub deep : d ≡ capped (depth_of (entry_at subject entries) (push_tree code at))
    pub reach : far ≡ reach_of (entry_at subject entries) (push_tree code at)
    pub close : far ≤ near (place_next code at - at)
    pub walked : Walked code subject entries work' (at + 1) (place_next code at) most at (cond (eqb (get_or code at 0) op_pushimm) 0 (get_or code (at + 3) 0))

  abbrev pub PushedAs : ℕ → Option Span → Type 0
  PushedAs at (Some s) = Pushing at s.nodes s.depth s.reach
  PushedAs at None = most < nodes_of (entry_at subject entries) (push_tree code at)

pub record Pushes (code : List ℕ) (at : ℕ) (subject entries work work' : List ℕ) (most : ℕ) (r : Option Span) : Type 0 where
  pub kept : Kept (at + 1) (place_next code at) work work'
  pub says : PushedAs code subject entries work' most at r

-- ---- The walk of an entry

-- what is known of the body of a variable
abbrev pub nodes_for : List ℕ → List ℕ → List ℕ → ℕ → ℕ → ℕ → math.Option ℕ
nodes_for code subject entries q c = assoc (pairlists (keys_at code q c) (nodes_of (entry_at subject entries) (trees_at code q c)))

abbrev pub depth_for : List ℕ → List ℕ → List ℕ → ℕ → ℕ → ℕ → math.Option ℕ
depth_for code subject entries q c = assoc (pairlists (keys_at code q c) (depth_of (entry_at subject entries) (trees_at code q c)))

abbrev pub reach_for : List ℕ → List ℕ → List ℕ → ℕ → ℕ → ℕ → math.Option ℕ
reach_for code subject entries q c = assoc (pairlists (keys_at code q c) (reach_of (entry_at subject entries) (trees_at code q c)))

-- the place behind a PUSHIMM or PUSHI with c bodies
unfoldable pub push_end : List ℕ → ℕ → ℕ → ℕ
push_end code push c = cond (eqb c 0) (push + 2) (place_behind code (push + 4) c)

pub record Spreading (code : List ℕ) (push c D : ℕ) (part : List ℕ) (places : ℕ) (subject entries work : List ℕ) (most : ℕ) : Type 0 where
  pub scene : Scene code subject entries work
  pub few : most ≤ 4096
  pub words : push + 2 ≤ length code
  pub entry : get_or code (push + 1) 0 < length entries
  pub part_is : part ≡ drop (entry_place entries (get_or code (push + 1) 0)) subject
  pub places_are : places ≡ 4096 + entry_place entries (get_or code (push + 1) 0) / 2
  pub low : D ≤ 127
  pub makes : Bodied code (push + 4) c (length entries)
  pub memos : Memos code subject entries work (push + 4) c

-- .. what of it is not known of the parts themselves
pub record AsksSpread (code : List ℕ) (push c : ℕ) (part : List ℕ) (places : ℕ) (subject entries work : List ℕ) : Type 0 where
  pub placed : Placed subject work
  pub words : push + 2 ≤ length code
  pub entry : get_or code (push + 1) 0 < length entries
  pub part_is : part ≡ drop (entry_place entries (get_or code (push + 1) 0)) subject
  pub places_are : places ≡ 4096 + entry_place entries (get_or code (push + 1) 0) / 2
  pub makes : Bodied code (push + 4) c (length entries)
  pub memos : Memos code subject entries work (push + 4) c

module _ (code subject entries work' : List ℕ) (push c D most : ℕ) where
  pub record Spanning (n d far : ℕ) : Type 0 where
    pub size : n ≡ spread_nodes (nodes_for code subject entries (push + 4) c) 0 (entry_at subject entries (get_or code (push + 1) 0))
    pub deep : d ≡ capped (spread_depth (depth_for code subject entries (push + 4) c) 0 (entry_at subject entries (get_or code (push + 1) 0)))
    pub reach : far ≡ spread_reach (reach_for code subject entries (push + 4) c) D 0 (entry_at subject entries (get_or code (push + 1) 0))
    pub close : far ≤ near (push_end code push c - push)
    pub walked : Walked code subject entries work' (push + 1) (push_end code push c) most push c

  abbrev pub SpreadAs : Option Span → Type 0
  SpreadAs (Some s) = Spanning s.nodes s.depth s.reach
  SpreadAs None = most < spread_nodes (nodes_for code subject entries (push + 4) c) 0 (entry_at subject entries (get_or code (push + 1) 0))

pub record Spreads (code : List ℕ) (push c D : ℕ) (part : List ℕ) (places : ℕ) (subject entries work work' : List ℕ) (most : ℕ) (r : Option Span) : Type 0 where
  pub kept : Kept (push + 1) (push_end code push c) work work'
  pub says : SpreadAs code subject entries work' push c D most r

-- ---- A variable of it

pub record Free (code : List ℕ) (push c D w inside : ℕ) (subject entries work : List ℕ) (most : ℕ) : Type 0 where
  pub scene : Scene code subject entries work
  pub few : most ≤ 4096
  pub words : push + 2 ≤ length code
  pub variable : w < 65536
  pub free : inside ≤ w
  pub shallow : inside < 64
  pub low : D ≤ 127
  pub makes : Bodied code (push + 4) c (length entries)
  pub memos : Memos code subject entries work (push + 4) c

-- .. what of it is not known of the parts themselves
pub record AsksFree (code : List ℕ) (push c w inside : ℕ) (subject entries work : List ℕ) : Type 0 where
  pub placed : Placed subject work
  pub words : push + 2 ≤ length code
  pub variable : w < 65536
  pub free : inside ≤ w
  pub shallow : inside < 64
  pub makes : Bodied code (push + 4) c (length entries)
  pub memos : Memos code subject entries work (push + 4) c

module _ (code subject entries work work' : List ℕ) (push c D w inside most : ℕ) where
  pub record Meets (n d far : ℕ) : Type 0 where
    pub size : n ≡ or_one (nodes_for code subject entries (push + 4) c (w - inside))
    pub some_nodes : 1 ≤ n
    pub few_nodes : n ≤ 4096
    pub deep : d ≡ capped (or_one (depth_for code subject entries (push + 4) c (w - inside)))
    pub some_depth : 1 ≤ d
    pub reach : far ≡ or_moved (reach_for code subject entries (push + 4) c (w - inside)) D inside w
    pub close : far ≤ near (push_end code push c - push)
    pub memos : Memos code subject entries work' (push + 4) c
    pub seen : seen_at work' (key_place code (push + 4) c (w - inside)) ≡ true
    pub still : (y : ℕ) → seen_at work (key_place code (push + 4) c y) ≡ true → seen_at work' (key_place code (push + 4) c y) ≡ true

  abbrev pub MetAs : Option Span → Type 0
  MetAs (Some s) = Meets s.nodes s.depth s.reach
  MetAs None = most < or_one (nodes_for code subject entries (push + 4) c (w - inside))

pub record Frees (code : List ℕ) (push c D w inside : ℕ) (subject entries work work' : List ℕ) (most : ℕ) (r : Option Span) : Type 0 where
  pub kept : Kept (push + 4) (push_end code push c) work work'
  pub says : MetAs code subject entries work work' push c D w inside most r
