-- What was measured is what the definitions ask of the term: each refusal that is due, and where none is, a tree that stands ready to be written.
use mathlib.Core.Path.{◌≡◌, sym, ◌∙◌}
use Prim.Native.Nat.{ℕ, ◌+◌, ◌*◌, ◌-◌, ◌≤◌, ◌<◌}
use native.Mathlib.Omega.{arith}
use mathlib.Core.Bool.{Bool, true, false}
use mathlib.Core.List.{List}
use lib.Dec.{leb}
use lib.ListN.{length, get_or, drop}
use borrow.Author.Tests.{le-leb, lt-leb, leb-true}
use Rattle.documents.specs.declared.Refusal.{Refusal}
use Rattle.documents.specs.declared.Refusal.TheVariants.{ResultTooLarge, ResultTooDeep, ResultIndexTooLarge}
use Rattle.documents.specs.Limits.{index_limit}
use Rattle.documents.specs.Lists.{every}
use Rattle.documents.specs.Terms.{one, Term}
use Rattle.documents.specs.Tables.{table_of, nodes, indices}
use Rattle.documents.specs.Numbers.{answered, refused}
use Rattle.documents.proofs.Numbers.{unless_is}
use Rattle.documents.proofs.Tables.{length_table_of}
use Rattle.trees.specs.Trees.{Tree, Cell, Block, Bound, Whole, Pushed, nodes_of, depth_of, reach_of}
use Rattle.trees.proofs.Made.{Told}
use Rattle.links.specs.Links.{depth_in, capped}
use Rattle.links.specs.Standing.{entry_at, Scene, root, Stands}
use Rattle.links.specs.Sequences.{tree_at}
use Rattle.measurer.specs.declared.Measured.{Measured}
use Rattle.std.specs.Prelude.{Option, Some, None, Ok, Err}
use Rattle.measurer.specs.Measuring.{Sequence, Measure, Measures}
use Rattle.writer.specs.Written.{Wrote, Writes, Room, nstack}
use Rattle.writer.specs.Wanted.{Going, TreeAt}
use Rattle.writer.proofs.Walking.{going_of}
use Rattle.writer.proofs.Calling.{nstack_empty, ready_whole}
use Rattle.builder.specs.Weighing.{Building, weighed_for, Built, Weighs}
use Rattle.builder.proofs.Readied.{scene_of, sequence, safe, term, ends, told}

-- ---- 13, 14, 15 of a term, told from its tree

module _ {ent : ℕ → Term} {p : Tree one} {u : Term} (t : Told ent p u) (room level : ℕ) where
  pub weighed_large : room < nodes_of ent p → weighed_for room level u ≡ refused ResultTooLarge
  unfolding weighed_for
  weighed_large h = rw (t.size, lt-leb (nodes_of ent p) room h)

  module _ (small : nodes_of ent p ≤ room) where
    pub weighed_deep : 65 < level + depth_of ent p → weighed_for room level u ≡ refused ResultTooDeep
    unfolding weighed_for
    weighed_deep h = rw (t.size, le-leb (nodes_of ent p) room small, t.deep, lt-leb (level + depth_of ent p) 65 h)

    module _ (shallow : level + depth_of ent p ≤ 65) (positive : 1 ≤ level) where
      indices_so : (q : Bool) → leb (reach_of ent p) 65536 ≡ q → every (λ x. leb x index_limit) (indices u) ≡ q
      indices_so q e = t.indices_fit (let d = t.deep in omega arith) ∙ e

      pub weighed_far : 65536 < reach_of ent p → weighed_for room level u ≡ refused ResultIndexTooLarge
      unfolding weighed_for
      weighed_far h = rw (
        t.size,
        le-leb (nodes_of ent p) room small,
        t.deep,
        le-leb (level + depth_of ent p) 65 shallow,
        indices_so false (lt-leb (reach_of ent p) 65536 h),
      )

      pub weighed_fits : reach_of ent p ≤ 65536 → weighed_for room level u ≡ answered (table_of u)
      unfolding weighed_for
      weighed_fits h = rw (
        t.size,
        le-leb (nodes_of ent p) room small,
        t.deep,
        le-leb (level + depth_of ent p) 65 shallow,
        indices_so true (le-leb (reach_of ent p) 65536 h),
      )

-- what keeps them has room
pub weighed_small : (room level : ℕ) (u : Term) (ws : List ℕ) → weighed_for room level u ≡ answered ws → nodes u ≤ room
unfolding weighed_for
weighed_small room level u ws e = leb-true (nodes u) room (unless_is (leb (nodes u) room) _ _ ws e).0

-- ---- As it was measured

-- where a tree's root stands, and the depth in its link
root_is : (code subject entries places : List ℕ) (lo hi : ℕ) (work : List ℕ) (p : Tree one) (z : ℕ) → Stands code subject entries places lo hi work p (root z)
    → (z < hi) × (depth_in (get_or work z 0) ≡ capped (depth_of (entry_at subject entries) p))
root_is code subject entries places lo hi work (Cell s ps) z h = let k = h.0.high in (omega arith, h.0.deep)
root_is code subject entries places lo hi work (Block p) z h = let k = h.0.high in (omega arith, h.0.deep)
root_is code subject entries places lo hi work (Bound x) z h = let k = h.0.high in (omega arith, h.0.deep)
root_is code subject entries places lo hi work (Whole e) z h = let k = h.0.high in (omega arith, h.0.deep)
root_is code subject entries places lo hi work (Pushed e D ks ps) z h = let k = h.0.high in (omega arith, h.0.deep)

module _ {code : List ℕ} {at : ℕ} {subject entries work : List ℕ} (b : Building code at subject entries work) {room level : ℕ} (few : room ≤ 4096) (first : 1 ≤ level) where
  pub asks : Sequence code at (length code) subject entries work room
  asks = sequence b room few

  module _ {work' : List ℕ} {r : Option Measured} (s : Measures code at (length code) subject entries work work' room r) where
    weighs_refused : (w : Refusal) → weighed_for room level (term b) ≡ refused w → Weighs code subject entries work work' room level (Err w)
    weighs_refused w e = record { long = s.kept.long; term = term b; ends = ends b; says = e }

    pub too_large : r ≡ None → Weighs code subject entries work work' room level (Err ResultTooLarge)
    too_large e =
        let h : room < nodes_of (entry_at subject entries) (tree_at code at (length code)) = rw e at s.says in
        weighs_refused ResultTooLarge (weighed_large (told b) room level h)

    module _ {m : Measured} (e : r ≡ Some m) where
      abbrev n : ℕ
      n = m.nodes

      abbrev far : ℕ
      far = m.reach

      abbrev z : ℕ
      z = m.root

      measure : Measure code subject entries work' room at (length code) n far z
      measure = rw e at s.says

      scene' : Scene code subject entries work'
      scene' = scene_of b s.kept.long s.kept.places

      small : nodes_of (entry_at subject entries) (tree_at code at (length code)) ≤ room
      small = let k = measure.size in let f = measure.fits in omega arith

      root_told : (z < length code) × (depth_in (get_or work' z 0) ≡ capped (depth_of (entry_at subject entries) (tree_at code at (length code))))
      root_told = root_is code subject entries (drop 4096 work') at (length code) work' (tree_at code at (length code)) z measure.stands

      pub root_within : (z < 4096) × (z < length work')
      root_within = let k = root_told.0 in let c = scene'.code_short in let w = scene'.work_long in (omega arith, omega arith)

      module _ {d : ℕ} (read : d ≡ depth_in (get_or work' z 0)) where
        pub too_deep : 65 < level + d → Weighs code subject entries work work' room level (Err ResultTooDeep)
        too_deep h = let k = root_told.1 in weighs_refused ResultTooDeep (weighed_deep (told b) room level small (omega arith))

        module _ (low : level + d ≤ 65) where
          shallow : level + depth_of (entry_at subject entries) (tree_at code at (length code)) ≤ 65
          shallow = let k = root_told.1 in omega arith

          pub too_far : 65536 < far → Weighs code subject entries work work' room level (Err ResultIndexTooLarge)
          too_far h = weighs_refused ResultIndexTooLarge (weighed_far (told b) room level small shallow first (rw measure.reach at h))

          pub fits : far ≤ 65536 → Weighs code subject entries work work' room level (Ok (record { nodes = n; root = z }))
          fits h = record {
            long = s.kept.long;
            term = term b;
            ends = ends b;
            says = (
              measure.size ∙ sym (told b).size,
              weighed_fits (told b) room level small shallow first (rw measure.reach at h),
              record {
                scene = scene';
                tree = record {
                  tree = tree_at code at (length code);
                  standing = record { lo = at; hi = length code; stands = measure.stands; safe = safe b; short = omega arith; few = omega arith };
                  shallow = omega (arith, shallow);
                  these = (told b).words;
                };
              },
            );
          }

-- ---- As it is written

module _ {code subject entries work : List ℕ} {z : ℕ} {u : Term} (b : Built code subject entries work z u) (opened : List ℕ) where
  wanted : TreeAt code subject entries work (length code) 0 0 0 (nstack 0 0 opened) z (table_of u)
  wanted = rw (nstack_empty 0 opened) b.tree

  pub may_write : (table : List ℕ) (end : ℕ) → length opened ≡ 128 → 2 * nodes u ≤ end → end ≤ length table
      → Going subject work table opened end 0 0 × Room (TreeAt code subject entries work (length code) 0 0 0 (nstack 0 0 opened) z) end
  may_write table end l fit h = (going_of (ready_whole opened b.scene h l), record { words = table_of u; wanted = wanted; fit = omega (arith, length_table_of u) })

  pub written : {table table' : List ℕ} {r end : ℕ} → 2 * nodes u ≤ end
      → Writes (TreeAt code subject entries work (length code) 0 0 0 (nstack 0 0 opened) z) table table' r end
      → Wrote table table' (end - 2 * nodes u) end (table_of u)
  written {r = r} {end = end} fit w =
      let y = w.does (table_of u) wanted (omega (arith, length_table_of u)) in
      let e : r ≡ end - 2 * nodes u = let i = y.ends in omega (arith, length_table_of u) in
      rw e at y
