-- What is still to be written: trees, and before them the nodes that wait, each with the trees before it.
use mathlib.Core.Path.{◌≡◌, refl, sym, ap, ◌∙◌}
use Prim.Native.Nat.{ℕ, zero, suc, ◌+◌, ◌-◌, ◌/◌, ◌%◌, ◌≤◌, ◌<◌}
use native.Mathlib.Omega.{arith}
use native.Mathlib.Decide.{ℕ_discrete}
use mathlib.Core.List.{List, [], ◌∷◌, ◌++◌, append_assoc, append-nil}
use lib.ListN.{length, get_or, set, take, length-set}
use lib.Seq.{take-set-le}
use Rattle.links.specs.Links.{before_in, over_in}
use Rattle.writer.specs.Written.{Same, nstack}
use Rattle.writer.specs.Wanted.{arguments_at, lambdas_in, lambdas_around, head_at, TreeAt}
use Rattle.writer.proofs.Writings.{Splits, Exactly}
use Rattle.writer.proofs.Opened.{fewer_same, nstack_same, nstack_open, same_fewer, above_same, same_one, same_opened, opened_one}
use Rattle.writer.proofs.Nodes.{cell_arguments, cell_lambdas, cell_head, block_arguments, block_lambdas, block_head, in_least, around_in}
use Rattle.writer.proofs.Rooting.{TreesAt, CellAt, tree_root, tree_cell, trees_none, trees_split, trees_one, cell_split, tree_block, block_split}

-- ---- A CELL or ADBMAL: its own two words, then those of what it took

-- how many LAMBDAs are open in what a CELL or ADBMAL took, under l
pub record Inner (l inner : ℕ) : Type 0 where
  pub least : l ≤ inner
  pub most : inner ≤ l + 1
  pub low : inner ≤ 63

nstack_block : (offset l : ℕ) (o : List ℕ) → l < length o → nstack offset (l + 1) (set o l offset) ≡ 0 ∷ nstack offset l o
nstack_block offset l o h = let z : l + 1 ≡ suc l = omega arith in ap (λ k. nstack offset k (set o l offset)) z ∙ nstack_open offset l o h

module _ {code subject entries work : List ℕ} {words l level offset z : ℕ} (below : get_or code z 0 < 11) where
  pub node_inner : {nst ws : List ℕ} {inner : ℕ} → l ≤ 63 → inner ≡ lambdas_in code z l → TreeAt code subject entries work words l level offset nst z ws → Inner l inner
  node_inner {inner = inner} h i t = go (ℕ_discrete (get_or code z 0) 8)
    where
      go : Dec (get_or code z 0 ≡ 8) → Inner l inner
      go (yes op) = let e = i ∙ sym (cell_lambdas code z op l) in record { least = omega arith; most = omega arith; low = omega arith }
      go (no op) =
          let e = i ∙ sym (block_lambdas code z op l) in
          let b = tree_block below op t in
          record { least = omega arith; most = omega arith; low = omega arith }

  pub node_few : {nst ws : List ℕ} → TreeAt code subject entries work words l level offset nst z ws → arguments_at code z ≤ 8
  node_few t = go (ℕ_discrete (get_or code z 0) 8)
    where
      go : Dec (get_or code z 0 ≡ 8) → arguments_at code z ≤ 8
      go (yes op) = let e = cell_arguments code z op in let f = (tree_cell op t).few in omega arith
      go (no op) = let e = block_arguments code z op in omega arith

  pub node_parts : (o : List ℕ) → l < length o → {count inner word last : ℕ} → count ≡ arguments_at code z → inner ≡ lambdas_in code z l → word ≡ head_at code z
      → last ≡ over_in (get_or work z 0) → Splits (TreeAt code subject entries work words l level offset (nstack offset l o) z) (Exactly (word ∷ count ∷ []))
      (TreesAt code subject entries work words inner (level + 1) offset (nstack offset inner (set o l offset)) count last)
  node_parts o h {count} {inner} {word} {last} n i w e = go (ℕ_discrete (get_or code z 0) 8)
    where
      go : Dec (get_or code z 0 ≡ 8)
          → Splits (TreeAt code subject entries work words l level offset (nstack offset l o) z) (Exactly (word ∷ count ∷ []))
          (TreesAt code subject entries work words inner (level + 1) offset (nstack offset inner (set o l offset)) count last)
      go (yes op) =
          let same : nstack offset l (set o l offset) ≡ nstack offset l o = nstack_same offset l o (set o l offset) (take-set-le l o l offset (omega arith)) in
          rw (n ∙ sym (cell_arguments code z op), i ∙ sym (cell_lambdas code z op l), w ∙ sym (cell_head code z op), e, same) (cell_split op)
      go (no op) =
          rw (n ∙ sym (block_arguments code z op), i ∙ sym (block_lambdas code z op l), w ∙ sym (block_head code z op), e)
          (block_split below op (nstack offset (l + 1) (set o l offset)) (nstack_block offset l o h))

-- ---- The nodes that wait

module _ (code subject entries work : List ℕ) (words l level offset : ℕ) (o : List ℕ) where
  -- the words up to a node that waits, `lambdas` open in what it takes: first those before its level, then the m trees before it, then its own
  pub record Held (Outer : ℕ → List ℕ → Type 0) (p m k lambdas : ℕ) (us : List ℕ) : Type 0 where
    pub outer : ℕ
    pub fore : List ℕ
    pub trees : List ℕ
    pub these : us ≡ (fore ++ trees) ++ (head_at code p ∷ arguments_at code p ∷ [])
    pub least : l ≤ outer
    pub inner : lambdas ≡ lambdas_in code p outer
    pub within : p < length code
    pub cell : get_or code p 0 ≡ 8 → CellAt code p
    pub around : Outer outer fore
    pub here : TreesAt code subject entries work words outer k offset (nstack offset outer o) m (before_in (get_or work p 0)) trees

  -- j nodes wait, the newest last
  pub Above : ℕ → ℕ → List ℕ → Type 0
  Above zero lambdas us = us ≡ []
  Above (suc j) lambdas us = Held (λ m vs. Above j m vs) (get_or o (64 + (level + j)) 0 / 16) (get_or o (64 + (level + j)) 0 % 16) (level + j) lambdas us

  -- behind them stand n trees, the root of the last given
  pub record Owed (j lambdas n z : ℕ) (ws : List ℕ) : Type 0 where
    pub fore : List ℕ
    pub trees : List ℕ
    pub these : ws ≡ fore ++ trees
    pub above : Above j lambdas fore
    pub here : TreesAt code subject entries work words lambdas (level + j) offset (nstack offset lambdas o) n z trees

-- ---- It hangs only on what is noted of open LAMBDAs and of nodes above

trees_kept : {code subject entries work : List ℕ} {words offset lambdas k n z : ℕ} {ws : List ℕ} (o q : List ℕ) → take lambdas q ≡ take lambdas o
    → TreesAt code subject entries work words lambdas k offset (nstack offset lambdas o) n z ws
    → TreesAt code subject entries work words lambdas k offset (nstack offset lambdas q) n z ws
trees_kept {offset = offset} {lambdas = lambdas} o q e t = rw (nstack_same offset lambdas o q e) t

module _ (code subject entries work : List ℕ) (words l level offset : ℕ) (o q : List ℕ) where
  held_kept : {A B : ℕ → List ℕ → Type 0} {p p' m m' k lambdas : ℕ} {us : List ℕ} → p' ≡ p → m' ≡ m → take lambdas q ≡ take lambdas o
      → Held code subject entries work words l level offset o A p m k lambdas us → ((i : ℕ) (vs : List ℕ) → i ≤ lambdas → A i vs → B i vs)
      → Held code subject entries work words l level offset q B p' m' k lambdas us
  held_kept {p = p} e f s h g =
      let i = in_least code p h.outer h.inner in
      rw (e, f)
      (record {
        outer = h.outer;
        fore = h.fore;
        trees = h.trees;
        these = h.these;
        least = h.least;
        inner = h.inner;
        within = h.within;
        cell = h.cell;
        around = g h.outer h.fore i h.around;
        here = trees_kept o q (fewer_same i o q s) h.here;
      })

  above_kept : (j : ℕ) {lambdas : ℕ} (us : List ℕ) → Same lambdas (level + j) o q → Above code subject entries work words l level offset o j lambdas us
      → Above code subject entries work words l level offset q j lambdas us
  unfolding Above
  above_kept zero us s h = h
  above_kept (suc j) us s h =
      let e = above_same {i = level + j} s (omega arith) in
      held_kept (ap (λ v. v / 16) e) (ap (λ v. v % 16) e) s.lambdas h (λ i vs k a. above_kept j vs (same_fewer k (omega arith) s) a)

module _ {code subject entries work : List ℕ} {words l level offset : ℕ} where
  pub owed_kept : {j lambdas n z : ℕ} {o q : List ℕ} → Same lambdas (level + j) o q → (ws : List ℕ)
      → Owed code subject entries work words l level offset o j lambdas n z ws → Owed code subject entries work words l level offset q j lambdas n z ws
  owed_kept {j = j} {o = o} {q = q} s ws h = record {
    fore = h.fore;
    trees = h.trees;
    these = h.these;
    above = above_kept code subject entries work words l level offset o q j h.fore s h.above;
    here = trees_kept o q s.lambdas h.here;
  }

  -- ---- From the one tree that is asked for to none

  pub owed_one : {z : ℕ} (o ws : List ℕ) → TreeAt code subject entries work words l level offset (nstack offset l o) z ws
      → Owed code subject entries work words l level offset o 0 l 1 z ws
  unfolding Above
  owed_one o ws t = let z : level + 0 ≡ level = omega arith in record { fore = []; trees = ws; these = refl; above = refl; here = rw z (trees_one t) }

  pub owed_none : {j lambdas n z : ℕ} {o : List ℕ} (ws : List ℕ) → j ≡ 0 → n ≤ 0 → Owed code subject entries work words l level offset o j lambdas n z ws → ws ≡ []
  unfolding Above
  owed_none {j = zero} ws e k h = h.these ∙ ap (λ (us : List ℕ). us ++ h.trees) h.above ∙ trees_none h.trees k h.here
  owed_none {j = suc j} ws e k h = absurd (omega arith)

  module _ {j lambdas n z : ℕ} {o : List ℕ} where
    pub owed_high : {ws : List ℕ} → Owed code subject entries work words l level offset o j lambdas n z ws → level + j ≤ 64
    owed_high h = let d = h.here.shallow in omega arith

    -- the last tree
    pub owed_last : 0 < n
        → Splits (Owed code subject entries work words l level offset o j lambdas n z) (Owed code subject entries work words l level offset o j lambdas (n - 1) (before_in (get_or work z 0)))
        (TreeAt code subject entries work words lambdas (level + j) offset (nstack offset lambdas o) z)
    owed_last k = record {
      parts = λ ws h.
          let p = (trees_split k).parts h.trees h.here in (
            h.fore ++ p.0,
            p.1,
            h.these ∙ ap (λ (vs : List ℕ). h.fore ++ vs) p.2 ∙ sym (append_assoc h.fore p.0 p.1),
            record { fore = h.fore; trees = p.0; these = refl; above = h.above; here = p.3 },
            p.4,
          );
    }

-- a node at the last root waits from now on
module _ (code subject entries work : List ℕ) (words l level offset : ℕ) (o : List ℕ) (j lambdas n z v : ℕ) {kept inner count next : ℕ} (below : get_or code z 0 < 11)
    (low : lambdas ≤ 63) (long : length o ≡ 128) (least : l ≤ lambdas) (at : kept ≡ level + j) (few : kept ≤ 63) (place : v / 16 ≡ z) (left : v % 16 ≡ n - 1)
    (i : inner ≡ lambdas_in code z lambdas) (c : count ≡ arguments_at code z) (b : next ≡ over_in (get_or work z 0)) where
  abbrev opened : List ℕ
  opened = set (set o (64 + kept) v) lambdas offset

  opened_same : Same lambdas (level + j) o opened
  opened_same = same_fewer (omega arith) (omega arith) (same_opened o lambdas kept v offset low)

  above_opened : {us vs : List ℕ} → Owed code subject entries work words l level offset o j lambdas (n - 1) (before_in (get_or work z 0)) us
      → TreeAt code subject entries work words lambdas (level + j) offset (nstack offset lambdas o) z vs
      → Above code subject entries work words l level offset opened (suc j) inner (us ++ (head_at code z ∷ arguments_at code z ∷ []))
  unfolding Above
  above_opened f t =
      let e = opened_one o lambdas kept v offset low (omega arith) at in
      rw (ap (λ x. x / 16) e ∙ place, ap (λ x. x % 16) e ∙ left)
      (record {
        outer = lambdas;
        fore = f.fore;
        trees = f.trees;
        these = ap (λ (us : List ℕ). us ++ (head_at code z ∷ arguments_at code z ∷ [])) f.these;
        least = least;
        inner = i;
        within = tree_root t;
        cell = λ op. tree_cell op t;
        around = above_kept code subject entries work words l level offset o opened j f.fore opened_same f.above;
        here = trees_kept o opened opened_same.lambdas f.here;
      })

  node_opened : Splits (TreeAt code subject entries work words lambdas (level + j) offset (nstack offset lambdas o) z) (Exactly (head_at code z ∷ arguments_at code z ∷ []))
      (TreesAt code subject entries work words inner (level + suc j) offset (nstack offset inner opened) count next)
  node_opened =
      let k : level + suc j ≡ level + j + 1 = omega arith in
      let same = nstack_same offset lambdas o (set o (64 + kept) v) (same_one o lambdas kept v offset low).lambdas in
      rw (k, ← same, ← c) (node_parts below (set o (64 + kept) v) (omega (arith, low, long, length-set o (64 + kept) v)) c i refl b)

  pub owed_opened : 0 < n → (ws : List ℕ) → Owed code subject entries work words l level offset o j lambdas n z ws
      → Owed code subject entries work words l level offset opened (suc j) inner count next ws
  owed_opened k ws h =
      let p = (owed_last k).parts ws h in
      let s = node_opened.parts p.1 p.4 in
      record {
        fore = p.0 ++ (head_at code z ∷ arguments_at code z ∷ []);
        trees = s.1;
        these =
            p.2 ∙ ap (λ (vs : List ℕ). p.0 ++ vs) (s.2 ∙ ap (λ (us : List ℕ). us ++ s.1) s.3)
            ∙ sym (append_assoc p.0 (head_at code z ∷ arguments_at code z ∷ []) s.1);
        above = above_opened p.3 p.4;
        here = s.4;
      }

module _ {code subject entries work : List ℕ} {words l level offset : ℕ} where
  -- ---- The innermost node that waits

  module _ {i lambdas n z : ℕ} {o : List ℕ} {x : ℕ} (at : x ≡ level + i) where
    pub owed_held : {ws : List ℕ} (h : Owed code subject entries work words l level offset o (suc i) lambdas n z ws)
        → Held code subject entries work words l level offset o (λ m vs. Above code subject entries work words l level offset o i m vs)
        (get_or o (64 + x) 0 / 16) (get_or o (64 + x) 0 % 16) (level + i) lambdas h.fore
    unfolding Above
    owed_held h = rw at h.above

    pub owed_closed : n ≤ 0 → {outer next word count : ℕ} → outer ≡ lambdas_around code (get_or o (64 + x) 0 / 16) lambdas
        → next ≡ before_in (get_or work (get_or o (64 + x) 0 / 16) 0) → word ≡ head_at code (get_or o (64 + x) 0 / 16) → count ≡ arguments_at code (get_or o (64 + x) 0 / 16)
        → Splits (Owed code subject entries work words l level offset o (suc i) lambdas n z)
        (Owed code subject entries work words l level offset o i outer (get_or o (64 + x) 0 % 16) next) (Exactly (word ∷ count ∷ []))
    owed_closed k {outer} {next} {word} {count} a b w c = record {
      parts = λ ws h.
          let g = owed_held h in
          let e : outer ≡ g.outer = a ∙ around_in code (get_or o (64 + x) 0 / 16) g.outer g.inner in
          let none = trees_none h.trees k h.here in (
            g.fore ++ g.trees,
            word ∷ count ∷ [],
            h.these ∙ ap (λ (vs : List ℕ). h.fore ++ vs) none ∙ append-nil h.fore ∙ g.these ∙ rw (w, c),
            record { fore = g.fore; trees = g.trees; these = refl; above = rw e g.around; here = rw (e, b) g.here },
            refl,
          );
    }
