-- The trees that stand in the code, from the last to the first, and each by its root.
use mathlib.Core.Path.{◌≡◌, refl, sym, ap, ◌∙◌}
use Prim.Native.Nat.{ℕ, suc, ◌+◌, ◌-◌, ◌*◌, ◌≤◌, ◌<◌}
use native.Mathlib.Omega.{arith}
use mathlib.Core.List.{List, [], ◌∷◌, ◌++◌, append_assoc, append-nil}
use lib.ListN.{length, get_or, drop}
use Rattle.documents.specs.Terms.{Term, one, many}
use Rattle.trees.specs.Trees.{Tree, Cell, Block, Bound, Whole, Pushed, Leaf, More, count, greatest, depth_of, in_order, words_of}
use Rattle.links.specs.Links.{before_in, over_in}
use Rattle.links.specs.Standing.{entry_at, Safe, root, last, back, Stands}
use Rattle.writer.specs.Wanted.{Standing, TreeAt}
use Rattle.writer.proofs.Writings.{Splits, Exactly}

-- the words of n trees, the root of the last given
module _ (code subject entries work : List ℕ) (words l level offset : ℕ) (nst : List ℕ) where
  pub record TreesAt (n z : ℕ) (ws : List ℕ) : Type 0 where
    pub trees : Tree many
    pub counted : count trees ≡ n
    pub standing : Standing code subject entries work words l trees (last z)
    pub shallow : level + greatest (depth_of (entry_at subject entries) trees) ≤ 64
    pub these : ws ≡ in_order (words_of (entry_at subject entries) trees) offset nst

-- ---- The last of trees, and those before it

abbrev last_of : Tree one → Tree many → Tree one
last_of p Leaf = p
last_of p (More q qs) = last_of q qs

abbrev put_first : Tree one → Tree many → Tree many
put_first p Leaf = Leaf
put_first p (More q qs) = More p (put_first q qs)

first_count : (p : Tree one) (ps : Tree many) → count (put_first p ps) ≡ count ps
first_count p Leaf = refl
first_count p (More q qs) = ap suc (first_count q qs)

first_safe : (l : ℕ) (p : Tree one) (ps : Tree many) → Safe l p → Safe l ps → Safe l (put_first p ps) × Safe l (last_of p ps)
first_safe l p Leaf h k = (tt, h)
first_safe l p (More q qs) h k = let r = first_safe l q qs k.0 k.1 in ((h, r.0), r.1)

first_deep : (ent : ℕ → Term) (p : Tree one) (ps : Tree many)
    → (greatest (depth_of ent (put_first p ps)) ≤ greatest (depth_of ent (More p ps))) × (depth_of ent (last_of p ps) ≤ greatest (depth_of ent (More p ps)))
first_deep ent p Leaf = (omega arith, omega arith)
first_deep ent p (More q qs) = let r = first_deep ent q qs in (omega (arith, r.0), omega (arith, r.1))

first_words : (ent : ℕ → Term) (p : Tree one) (ps : Tree many) (off : ℕ) (nst : List ℕ)
    → in_order (words_of ent (More p ps)) off nst ≡ in_order (words_of ent (put_first p ps)) off nst ++ words_of ent (last_of p ps) off nst
first_words ent p Leaf off nst = append-nil (words_of ent p off nst)
first_words ent p (More q qs) off nst =
    ap (λ (l : List ℕ). words_of ent p off nst ++ l) (first_words ent q qs off nst) ∙ sym (append_assoc (words_of ent p off nst) _ _)

module _ (code subject entries places : List ℕ) (lo hi : ℕ) (work : List ℕ) where
  first_stands : (p : Tree one) (ps : Tree many) (z : ℕ) → Stands code subject entries places lo hi work ps (last z)
      → Stands code subject entries places lo hi work p (root (back work (count ps) z))
      → Stands code subject entries places lo hi work (put_first p ps) (last (before_in (get_or work z 0))) × Stands code subject entries places lo hi work (last_of p ps) (root z)
  first_stands p Leaf z h k = (tt, k)
  first_stands p (More q qs) z h k =
      let r = first_stands q qs z h.0 h.1 in
      ((r.0, rw (first_count q qs) k), r.1)

pub record CellAt (code : List ℕ) (z : ℕ) : Type 0 where
  pub within : z + 2 < length code
  pub name : get_or code (z + 1) 0 ≤ 65535
  pub few : get_or code (z + 2) 0 ≤ 8

pub record BoundAt (code : List ℕ) (l z : ℕ) : Type 0 where
  pub within : z + 1 < length code
  pub low : get_or code (z + 1) 0 < l

module _ {code subject entries work : List ℕ} {words l level offset : ℕ} {nst : List ℕ} where
  pub trees_none : {n z : ℕ} (ws : List ℕ) → n ≤ 0 → TreesAt code subject entries work words l level offset nst n z ws → ws ≡ []
  trees_none {n = n} {z = z} ws h t = go t.trees t.counted t.these
    where
      go : (ps : Tree many) → count ps ≡ n → ws ≡ in_order (words_of (entry_at subject entries) ps) offset nst → ws ≡ []
      go Leaf c e = e
      go (More p ps) c e = absurd (omega arith)

  pub trees_split : {n z : ℕ} → 0 < n
      → Splits (TreesAt code subject entries work words l level offset nst n z) (TreesAt code subject entries work words l level offset nst (n - 1) (before_in (get_or work z 0)))
      (TreeAt code subject entries work words l level offset nst z)
  trees_split {n = n} {z = z} h = record { parts = λ ws t. go ws t.trees t.counted t.standing t.shallow t.these }
    where
      go : (ws : List ℕ) (ps : Tree many) → count ps ≡ n → Standing code subject entries work words l ps (last z)
          → level + greatest (depth_of (entry_at subject entries) ps) ≤ 64 → ws ≡ in_order (words_of (entry_at subject entries) ps) offset nst
          → (us : List ℕ) × (vs : List ℕ) × (ws ≡ us ++ vs) × TreesAt code subject entries work words l level offset nst (n - 1) (before_in (get_or work z 0)) us
          × TreeAt code subject entries work words l level offset nst z vs
      go ws Leaf c s d e = absurd (omega arith)
      go ws (More p ps) c s d e =
          let r = first_stands code subject entries (drop 4096 work) s.lo s.hi work p ps z s.stands.0 s.stands.1 in
          let k = first_safe l p ps s.safe.0 s.safe.1 in
          let i = first_deep (entry_at subject entries) p ps in
          let m = first_count p ps in (
            _,
            _,
            e ∙ first_words (entry_at subject entries) p ps offset nst,
            record {
              trees = put_first p ps;
              counted = omega arith;
              standing = record { lo = s.lo; hi = s.hi; stands = r.0; safe = k.0; short = s.short; few = s.few };
              shallow = omega (arith, d, i.0);
              these = refl;
            },
            record {
              tree = last_of p ps;
              standing = record { lo = s.lo; hi = s.hi; stands = r.1; safe = k.1; short = s.short; few = s.few };
              shallow = omega (arith, d, i.1);
              these = refl;
            },
          )

  -- one tree
  pub trees_one : {z : ℕ} {ws : List ℕ} → TreeAt code subject entries work words l level offset nst z ws → TreesAt code subject entries work words l level offset nst 1 z ws
  trees_one t =
      let s = t.standing in
      let d = t.shallow in
      record {
        trees = More t.tree Leaf;
        counted = refl;
        standing = record { lo = s.lo; hi = s.hi; stands = (tt, s.stands); safe = (s.safe, tt); short = s.short; few = s.few };
        shallow = omega arith;
        these = t.these ∙ sym (append-nil _);
      }

  -- ---- A root

  pub tree_root : {z : ℕ} {ws : List ℕ} → TreeAt code subject entries work words l level offset nst z ws → z < length code
  tree_root {z = z} t = go t.tree t.standing
    where
      go : (p : Tree one) → Standing code subject entries work words l p (root z) → z < length code
      go (Cell x ps) s = omega (arith, s.stands.0.high, s.short)
      go (Block p) s = omega (arith, s.stands.0.high, s.short)
      go (Bound x) s = omega (arith, s.stands.0.high, s.short)
      go (Whole e) s = omega (arith, s.stands.0.high, s.short)
      go (Pushed e D ks ps) s = omega (arith, s.stands.0.high, s.short)

  -- ---- A CELL

  module _ {z : ℕ} (op : get_or code z 0 ≡ 8) where
    pub tree_cell : {ws : List ℕ} → TreeAt code subject entries work words l level offset nst z ws → CellAt code z
    tree_cell t = go t.tree t.standing
      where
        go : (p : Tree one) → Standing code subject entries work words l p (root z) → CellAt code z
        go (Cell x ps) s =
            let r = s.stands.0 in
            record { within = omega (arith, r.high, s.short); name = omega (arith, s.stands.1, s.safe.0); few = omega (arith, s.stands.2, s.safe.1) }
        go (Block p) s = absurd (omega (arith, op, s.stands.0.is))
        go (Bound x) s = absurd (omega (arith, op, s.stands.0.is))
        go (Whole e) s = absurd (omega (arith, op, s.stands.0.is))
        go (Pushed e D ks ps) s = absurd (omega (arith, op, s.stands.0.is))

    pub cell_split : Splits (TreeAt code subject entries work words l level offset nst z) (Exactly ((65536 + get_or code (z + 1) 0) ∷ get_or code (z + 2) 0 ∷ []))
        (TreesAt code subject entries work words l (level + 1) offset nst (get_or code (z + 2) 0) (over_in (get_or work z 0)))
    cell_split = record { parts = λ ws t. go ws t.tree t.standing t.shallow t.these }
      where
        go : (ws : List ℕ) (p : Tree one) → Standing code subject entries work words l p (root z) → level + depth_of (entry_at subject entries) p ≤ 64
            → ws ≡ words_of (entry_at subject entries) p offset nst
            → (us : List ℕ) × (vs : List ℕ) × (ws ≡ us ++ vs) × Exactly ((65536 + get_or code (z + 1) 0) ∷ get_or code (z + 2) 0 ∷ []) us
            × TreesAt code subject entries work words l (level + 1) offset nst (get_or code (z + 2) 0) (over_in (get_or work z 0)) vs
        go ws (Cell x ps) s d e = (
          (65536 + get_or code (z + 1) 0) ∷ get_or code (z + 2) 0 ∷ [],
          in_order (words_of (entry_at subject entries) ps) offset nst,
          e ∙ rw (s.stands.1, s.stands.2),
          refl,
          record {
            trees = ps;
            counted = sym s.stands.2;
            standing = record { lo = s.lo; hi = s.hi; stands = s.stands.3; safe = s.safe.2; short = s.short; few = s.few };
            shallow = omega arith;
            these = refl;
          },
        )
        go ws (Block p) s d e = absurd (omega (arith, op, s.stands.0.is))
        go ws (Bound x) s d e = absurd (omega (arith, op, s.stands.0.is))
        go ws (Whole x) s d e = absurd (omega (arith, op, s.stands.0.is))
        go ws (Pushed x D ks ps) s d e = absurd (omega (arith, op, s.stands.0.is))

  -- ---- An ADBMAL

  module _ {z : ℕ} (below : get_or code z 0 < 11) (op : get_or code z 0 ≡ 8 → ⊥) where
    pub tree_block : {ws : List ℕ} → TreeAt code subject entries work words l level offset nst z ws → l < 63
    tree_block t = go t.tree t.standing
      where
        go : (p : Tree one) → Standing code subject entries work words l p (root z) → l < 63
        go (Cell x ps) s = absurd (op s.stands.0.is)
        go (Block p) s = s.safe.0
        go (Bound x) s = absurd (omega (arith, below, s.stands.0.is))
        go (Whole e) s = absurd (omega (arith, below, s.stands.0.is))
        go (Pushed e D ks ps) s = absurd (omega (arith, below, s.stands.0.is))

    pub block_split : (opened : List ℕ) → opened ≡ 0 ∷ nst → Splits (TreeAt code subject entries work words l level offset nst z) (Exactly (196608 ∷ 1 ∷ []))
        (TreesAt code subject entries work words (l + 1) (level + 1) offset opened 1 (over_in (get_or work z 0)))
    block_split opened q = record { parts = λ ws t. go ws t.tree t.standing t.shallow t.these }
      where
        go : (ws : List ℕ) (p : Tree one) → Standing code subject entries work words l p (root z) → level + depth_of (entry_at subject entries) p ≤ 64
            → ws ≡ words_of (entry_at subject entries) p offset nst
            → (us : List ℕ) × (vs : List ℕ) × (ws ≡ us ++ vs) × Exactly (196608 ∷ 1 ∷ []) us
            × TreesAt code subject entries work words (l + 1) (level + 1) offset opened 1 (over_in (get_or work z 0)) vs
        go ws (Cell x ps) s d e = absurd (op s.stands.0.is)
        go ws (Block p) s d e =
            let y : l + 1 ≡ suc l = omega arith in (
              196608 ∷ 1 ∷ [],
              words_of (entry_at subject entries) p offset (0 ∷ nst),
              e,
              refl,
              record {
                trees = More p Leaf;
                counted = refl;
                standing = record { lo = s.lo; hi = s.hi; stands = (tt, s.stands.1); safe = rw y (s.safe.1, tt); short = s.short; few = s.few };
                shallow = omega arith;
                these = rw q (sym (append-nil (words_of (entry_at subject entries) p offset (0 ∷ nst))));
              },
            )
        go ws (Bound x) s d e = absurd (omega (arith, below, s.stands.0.is))
        go ws (Whole x) s d e = absurd (omega (arith, below, s.stands.0.is))
        go ws (Pushed x D ks ps) s d e = absurd (omega (arith, below, s.stands.0.is))

  -- ---- A PUSHVAR, PUSHIMM or PUSHI

  pub leaf_within : {z : ℕ} {ws : List ℕ} → 11 ≤ get_or code z 0 → TreeAt code subject entries work words l level offset nst z ws → z + 1 < length code
  leaf_within {z = z} above t = go t.tree t.standing
    where
      go : (p : Tree one) → Standing code subject entries work words l p (root z) → z + 1 < length code
      go (Cell x ps) s = absurd (omega (arith, above, s.stands.0.is))
      go (Block p) s = absurd (omega (arith, above, s.stands.0.is))
      go (Bound x) s = omega (arith, s.stands.0.high, s.short)
      go (Whole e) s = omega (arith, s.stands.0.high, s.short)
      go (Pushed e D ks ps) s = omega (arith, s.stands.0.high, s.short)

  module _ {z : ℕ} (op : get_or code z 0 ≡ 11) where
    pub tree_bound : {ws : List ℕ} → TreeAt code subject entries work words l level offset nst z ws → BoundAt code l z
    tree_bound t = go t.tree t.standing
      where
        go : (p : Tree one) → Standing code subject entries work words l p (root z) → BoundAt code l z
        go (Cell x ps) s = absurd (omega (arith, op, s.stands.0.is))
        go (Block p) s = absurd (omega (arith, op, s.stands.0.is))
        go (Bound x) s = record { within = omega (arith, s.stands.0.high, s.short); low = omega (arith, s.stands.1, s.safe) }
        go (Whole e) s = absurd (omega (arith, op, s.stands.0.is))
        go (Pushed e D ks ps) s = absurd (omega (arith, op, s.stands.0.is))

    pub bound_words : (ws : List ℕ) → TreeAt code subject entries work words l level offset nst z ws
        → ws ≡ (get_or code (z + 1) 0 + get_or nst (get_or code (z + 1) 0) 0) ∷ 0 ∷ []
    bound_words ws t = go t.tree t.standing t.these
      where
        go : (p : Tree one) → Standing code subject entries work words l p (root z) → ws ≡ words_of (entry_at subject entries) p offset nst
            → ws ≡ (get_or code (z + 1) 0 + get_or nst (get_or code (z + 1) 0) 0) ∷ 0 ∷ []
        go (Cell x ps) s e = absurd (omega (arith, op, s.stands.0.is))
        go (Block p) s e = absurd (omega (arith, op, s.stands.0.is))
        go (Bound x) s e = let y : 0 * 65536 + (x + get_or nst x 0) ≡ x + get_or nst x 0 = omega arith in e ∙ rw (s.stands.1, y)
        go (Whole x) s e = absurd (omega (arith, op, s.stands.0.is))
        go (Pushed x D ks ps) s e = absurd (omega (arith, op, s.stands.0.is))
