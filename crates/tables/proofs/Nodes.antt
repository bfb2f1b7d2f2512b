-- A loop over the nodes of a term, in the form of the laws of a walk: where it stood, and what it owes behind a node.
use Rattle.std.proofs.Common.{◌≡◌, refl, sym, ap, ◌∙◌, ℕ, ◌+◌, ◌-◌, ◌%◌, ◌≤◌, ◌<◌, true, false, ◌&&◌, List, ◌∷◌, length, get_or, leb, ltb, arith}
use borrow.Author.Tests.{le-leb, lt-ltb, leb-true, ltb-true}
use Rattle.documents.specs.Rules.{metas, simple}
use Rattle.documents.proofs.Lists.{T_of, of_and, on, never}
use Rattle.std.specs.Prelude.{drop, Some, None}
use denote.Ref.{Bor}
use Rattle.documents.specs.Terms.{Terms, Nil}
use Rattle.tables.specs.declared.walk.Node.{Node}
use Rattle.tables.specs.declared.walk.Nodes.{Nodes}
use Rattle.tables.specs.Parts.{terms, front, Begins, word_count}
use Rattle.tables.specs.Nodes.{Stands, starts, part_at, is_metavariable, node_gives, goes_past, owes}
use Rattle.tables.specs.Side.{distinct}
use Rattle.tables.proofs.Parts.{two}
use Rattle.tables.proofs.Walks.{Walk, walk_at, ended, Walking, walking_from, walking_on, walking_ended}
use Rattle.tables.proofs.Sides.{metas_front, metas_here, metas_behind, simple_front, simple_here, simple_behind}

pub metavariable_range : {w : ℕ} → is_metavariable w ≡ true → (131072 ≤ w) × (w < 196608)
metavariable_range {w} e = let k = of_and (leb 131072 w) (ltb w 196608) (T_of _ e) in (leb-true 131072 w (on _ k.0), ltb-true w 196608 (on _ k.1))

pub metavariable_none : {w : ℕ} → is_metavariable w ≡ false → 131072 ≤ w → w < 196608 → ⊥
metavariable_none {w} e lo hi = never (cc (rw (le-leb 131072 w lo, lt-ltb w 196608 hi) at e))

pub owes_first : (part : List ℕ) (s : Nodes) → starts part s → owes s ≡ terms 1 part
owes_first part s b = rw (b.0, b.1, b.2) refl

-- a step that gave a node
module _ (s t : Nodes) (n : Node) (b : Stands s) (g : node_gives s (Some n) t) where
  pub stood : Walk s.part.now s.at s.owed
  stood = walk_at b.0 b.1

  pub owes_behind : owes t ≡ terms (s.owed - 1 + get_or s.part.now (s.at + 1) 0) (drop (s.at + 2) s.part.now)
  owes_behind = rw (g.0, g.1.4, g.1.5, g.1.2) refl

-- a step that gave none
pub owes_none : (s t : Nodes) → Stands s → node_gives s None t → owes s ≡ Nil
owes_none s t b g = ended (walk_at b.0 b.1) (omega arith)

-- and where it stands then, in the words of the part that it walks
module _ {part : List ℕ} (s t : Nodes) (n : Node) (whole : s.part.now ≡ part) (w : Walk part s.at s.owed) (g : node_gives s (Some n) t) where
  pub word_there : n.word ≡ get_or part s.at 0
  word_there = g.1.1 ∙ ap (λ (p : List ℕ). get_or p s.at 0) whole

  pub count_there : n.count ≡ get_or part (s.at + 1) 0
  count_there = g.1.2 ∙ ap (λ (p : List ℕ). get_or p (s.at + 1) 0) whole

  pub whole_on : t.part.now ≡ part
  whole_on = ap (λ (p : Bor (List ℕ)). p.now) g.0 ∙ whole

  pub owed_on : t.owed ≡ s.owed - 1 + get_or part (s.at + 1) 0
  owed_on = g.1.5 ∙ ap (λ (k : ℕ). s.owed - 1 + k) count_there

  pub part_there : part_at n ≡ drop s.at part
  part_there =
      let k = w.within in
      let h = g.1.0 in
      rw (word_there, count_there, g.1.3, whole) (sym (two part s.at (omega arith)))

  -- on behind the node's arguments, of so many words
  pub arguments_pass : (m : ℕ) → s.at + (2 + m) ≤ length part → (n.count ≤ t.owed) × (t.at + m ≤ length t.part.now)
  arguments_pass m h =
      let o = g.1.5 in
      let a = g.1.4 in
      let p = ap (λ (l : List ℕ). length l) whole_on in
      (omega arith, omega arith)

  module _ (m : ℕ) (u : Nodes) (f : goes_past t n.count m u) where
    pub whole_past : u.part.now ≡ part
    whole_past = ap (λ (p : Bor (List ℕ)). p.now) f.0 ∙ whole_on

    pub at_past : u.at ≡ s.at + (2 + m)
    at_past = let a = g.1.4 in let b = f.1 in omega arith

    pub owed_past : u.owed ≡ s.owed - 1
    owed_past = let o = g.1.5 in let b = f.2 in omega arith

-- ---- A walk of the subterm that a part begins with, and of nothing else

pub record Going (part : List ℕ) (s : Nodes) : Type 0 where
  pub whole : s.part.now ≡ part
  pub walk : Walking part s.owed s.at

pub going_from : {part : List ℕ} (s : Nodes) → Begins 1 part → starts part s → Going part s
going_from s b h = record { whole = h.0; walk = rw (h.1, h.2) (walking_from b) }

pub going_on : {part : List ℕ} (s t : Nodes) (n : Node) → Going part s → node_gives s (Some n) t → Going part t
going_on s t n w g = record {
  whole = whole_on s t n w.whole w.walk.walk g;
  walk = rw (g.1.4, owed_on s t n w.whole w.walk.walk g) (walking_on w.walk g.1.0);
}

pub going_ended : {part : List ℕ} (s t : Nodes) → Going part s → node_gives s None t → t.at ≡ word_count (front part)
going_ended s t w g = ap (λ (z : Nodes). z.at) g.1.1 ∙ walking_ended w.walk (omega arith)

-- ---- Metavariables

pub metas_first : (part : List ℕ) (s : Nodes) → Begins 1 part → starts part s → metas (owes s) ≡ metas (front part)
metas_first part s b h = ap (λ (ts : Terms). metas ts) (owes_first part s h) ∙ metas_front b

pub simple_first : (part : List ℕ) (s : Nodes) → Begins 1 part → starts part s → simple (owes s) ≡ simple (front part)
simple_first part s b h = ap (λ (ts : Terms). simple ts) (owes_first part s h) ∙ simple_front b

module _ (s t : Nodes) (n : Node) (b : Stands s) (g : node_gives s (Some n) t) where
  pub metas_at : is_metavariable n.word ≡ true → metas (owes s) ≡ (n.word % 65536, n.count) ∷ metas (owes t)
  metas_at e = let r = metavariable_range (rw g.1.1 at e) in rw (owes_behind s t n b g, g.1.1, g.1.2) (metas_here (stood s t n b g) g.1.0 r.0 r.1)

  pub metas_past : is_metavariable n.word ≡ false → metas (owes s) ≡ metas (owes t)
  metas_past e = rw (owes_behind s t n b g) (metas_behind (stood s t n b g) g.1.0 (metavariable_none (rw g.1.1 at e)))

  pub simple_at : is_metavariable n.word ≡ true → simple (owes s) ≡ distinct (terms n.count n.behind.now) && simple (owes t)
  simple_at e = let r = metavariable_range (rw g.1.1 at e) in rw (owes_behind s t n b g, g.1.2, g.1.3) (simple_here (stood s t n b g) g.1.0 r.0 (λ e. omega arith))

  pub simple_past : is_metavariable n.word ≡ false → simple (owes s) ≡ simple (owes t)
  simple_past e = rw (owes_behind s t n b g) (simple_behind (stood s t n b g) g.1.0 (metavariable_none (rw g.1.1 at e)))
