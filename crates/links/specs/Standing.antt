-- A tree that stands in the code, with its links in the working table: what the walk that measures a result leaves for the walk that writes it.
use Rattle.std.specs.Prelude.{◌≡◌, ◌⊎◌, ℕ, zero, suc, ◌+◌, ◌-◌, ◌*◌, ◌/◌, ◌≤◌, ◌<◌, true, ◌&&◌, cond, List, [], ◌∷◌, ltb, length, get_or, take, drop}
use Rattle.std.proofs.Math.Option.{some}
use Rattle.documents.specs.Terms.{Sort, one, many, Var, Term}
use Rattle.documents.specs.Tables.{table_of, Fits, nodes, depth, subterm}
use Rattle.documents.specs.Instructions.{op_cell, op_adbmal, op_pushvar, op_pushimm, op_pushi, fixed_after}
use Rattle.tables.specs.Parts.{front}
use Rattle.instructions.specs.Bodies.{body_end, key_place}
use Rattle.trees.specs.Trees.{Tree, Cell, Block, Bound, Whole, Pushed, Leaf, More, count, nodes_of, depth_of, reach_of}
use Rattle.survey.specs.Places.{places_of}
use Rattle.links.specs.Links.{before_in, over_in, depth_in, capped, note_of}
use Rattle.links.specs.Nodewise.{total, seen_at, node_seen}

-- where an entry, counted from the newest, begins in the subject; the newest stands last
abbrev pub entry_place : List ℕ → ℕ → ℕ
entry_place entries e = get_or entries (length entries - 1 - e) 0

-- its term
abbrev pub entry_at : List ℕ → List ℕ → ℕ → Term
entry_at subject entries e = cond (ltb e (length entries)) (front (drop (entry_place entries e) subject)) (Var 0)

-- the root that is k trees before the one at z
abbrev pub back : List ℕ → ℕ → ℕ → ℕ
back work zero z = z
back work (suc k) z = back work k (before_in (get_or work z 0))

-- The setting of a walk: code, an accepted subject, entries that are subterms of it, and the places of its nodes behind a word for each word of code.
pub record Scene (code subject entries work : List ℕ) : Type 0 where
  pub code_short : length code ≤ 4096
  pub work_long : 8192 ≤ length work
  pub table : table_of (front subject) ≡ subject
  pub fits : Fits (front subject)
  pub few : length subject ≤ 8192
  pub shallow : depth (front subject) ≤ 64
  pub places : take (nodes (front subject)) (drop 4096 work) ≡ places_of 1 0 (front subject)
  pub entries_few : length entries ≤ 16
  pub stands : (e : ℕ) → e < length entries → (m : ℕ) × (entry_place entries e ≡ 2 * m) × (subterm (front subject) m ≡ some (entry_at subject entries e))

-- .. what of it does not change while the working table does: what `Given` keeps
pub record Known (code subject entries : List ℕ) : Type 0 where
  pub code_short : length code ≤ 4096
  pub table : table_of (front subject) ≡ subject
  pub fits : Fits (front subject)
  pub few : length subject ≤ 8192
  pub shallow : depth (front subject) ≤ 64
  pub entries_few : length entries ≤ 16
  pub stands : (e : ℕ) → e < length entries → (m : ℕ) × ((entry_place entries e ≡ 2 * m) × (subterm (front subject) m ≡ some (entry_at subject entries e)))

-- .. and what there is of it in the working table
pub record Placed (subject work : List ℕ) : Type 0 where
  pub work_long : 8192 ≤ length work
  pub places : take (nodes (front subject)) (drop 4096 work) ≡ places_of 1 0 (front subject)

-- A tree that the check has passed, with l open LAMBDAs: names and counts fit, and what it binds is open.
abbrev pub Safe : {s : Sort} → ℕ → Tree s → Type 0
Safe l (Cell s ps) = (s ≤ 65535) × (count ps ≤ 8) × Safe l ps
Safe l (Block p) = (l < 63) × Safe (suc l) p
Safe l (Bound x) = x < l
Safe l (Whole e) = Unit {0}
Safe l (Pushed e D ks ps) = (length ks ≡ count ps) × Safe l ps
Safe l Leaf = Unit {0}
Safe l (More p ps) = Safe l p × Safe l ps

-- a tree at its root; trees one before the other, the root of the last given; bodies behind their keys, from a place on
pub data Spot : Sort → Type 0 where
  root : ℕ → Spot one
  last : ℕ → Spot many
  held : List ℕ → ℕ → Spot many

module _ (code subject entries places : List ℕ) (lo hi : ℕ) (work : List ℕ) where
  -- an instruction of this opcode, between lo and hi, that is the root of the tree p
  pub record Rooted (z op : ℕ) (p : Tree one) : Type 0 where
    pub low : lo ≤ z
    pub high : z + 1 + fixed_after op ≤ hi
    pub is : get_or code z 0 ≡ op
    pub over_falls : over_in (get_or work z 0) < z
    pub before_falls : before_in (get_or work z 0) < z
    pub deep : depth_in (get_or work z 0) ≡ capped (depth_of (entry_at subject entries) p)

  -- a PUSHIMM or PUSHI of an entry, whose end in the subject is noted
  pub record Named (z e : ℕ) : Type 0 where
    pub operand : get_or code (z + 1) 0 ≡ e
    pub there : e < length entries
    pub end : get_or work (z + 1) 0 ≡ entry_place entries e + 2 * nodes (entry_at subject entries e)

  -- the body of each variable of the entry that has one was measured
  abbrev pub Seen : ℕ → ℕ → ℕ → Type 0
  Seen z e c =
      total ◌&&◌ true (node_seen (λ y. seen_at work (key_place code (z + 4) c y)) (get_or places (entry_place entries e / 2) 0))
      (nodes (entry_at subject entries e)) (drop (entry_place entries e) subject) (drop (entry_place entries e / 2) places) ≡ true

  pub record Behind (z D c : ℕ) : Type 0 where
    pub shift : get_or code (z + 2) 0 ≡ D
    pub low : D ≤ 127
    pub keys : get_or code (z + 3) 0 ≡ c

  pub record Body (q k : ℕ) : Type 0 where
    pub low : lo ≤ q
    pub high : body_end code q ≤ hi
    pub key : get_or code q 0 ≡ k

-- The tree of a body stands among the body's own words.
abbrev pub Stands : (code subject entries places : List ℕ) (lo hi : ℕ) (work : List ℕ) {s : Sort} → Tree s → Spot s → Type 0
Stands code subject entries places lo hi work (Cell s ps) (root z) =
    Rooted code subject entries places lo hi work z op_cell (Cell s ps) × (get_or code (z + 1) 0 ≡ s) × (get_or code (z + 2) 0 ≡ count ps)
    × Stands code subject entries places lo hi work ps (last (over_in (get_or work z 0)))
Stands code subject entries places lo hi work (Block p) (root z) =
    Rooted code subject entries places lo hi work z op_adbmal (Block p) × Stands code subject entries places lo hi work p (root (over_in (get_or work z 0)))
Stands code subject entries places lo hi work (Bound x) (root z) = Rooted code subject entries places lo hi work z op_pushvar (Bound x) × (get_or code (z + 1) 0 ≡ x)
Stands code subject entries places lo hi work (Whole e) (root z) =
    Rooted code subject entries places lo hi work z op_pushimm (Whole e) × Named code subject entries places lo hi work z e
Stands code subject entries places lo hi work (Pushed e D ks ps) (root z) =
    Rooted code subject entries places lo hi work z op_pushi (Pushed e D ks ps) × Named code subject entries places lo hi work z e
    × Behind code subject entries places lo hi work z D (count ps) × Seen code subject entries places lo hi work z e (count ps)
    × Stands code subject entries places lo hi work ps (held ks (z + 4))
Stands code subject entries places lo hi work Leaf (last z) = Unit {0}
Stands code subject entries places lo hi work (More p ps) (last z) =
    Stands code subject entries places lo hi work ps (last z) × Stands code subject entries places lo hi work p (root (back work (count ps) z))
Stands code subject entries places lo hi work Leaf (held ks q) = Unit {0}
Stands code subject entries places lo hi work (More p ps) (held [] q) = ⊥
Stands code subject entries places lo hi work (More p ps) (held (k ∷ ks) q) =
    Body code subject entries places lo hi work q k
    × ((get_or work q 0 ≡ 0) ⊎ ((get_or work (q + 1) 0 ≡ note_of (nodes_of (entry_at subject entries) p) (reach_of (entry_at subject entries) p)) × Stands code subject entries places (q + 2) (body_end code q) work p (root (get_or work q 0))))
    × Stands code subject entries places lo hi work ps (held ks (body_end code q))
