-- A tree stands as long as the words between its bounds are as they were, and within wider bounds too.
use mathlib.Core.Path.{◌≡◌, refl, ap, ◌∙◌, fun_ext}
use mathlib.Core.Logic.{◌⊎◌, inl, inr}
use Prim.Native.Nat.{ℕ, zero, suc, ◌+◌, ◌/◌, ◌≤◌, ◌<◌}
use native.Mathlib.Omega.{arith}
use mathlib.Core.Bool.{Bool, true, false, ◌&&◌, cond}
use mathlib.Core.Option.{Option, none, some}
use mathlib.Core.List.{List, [], ◌∷◌}
use lib.Dec.{eqb}
use lib.ListN.{get_or, drop}
use Rattle.documents.specs.Terms.{Sort, one, many}
use Rattle.documents.specs.Tables.{nodes}
use Rattle.documents.proofs.Lists.{never}
use Rattle.instructions.specs.Bodies.{body_end, key_place}
use Rattle.trees.specs.Trees.{Tree, Cell, Block, Bound, Whole, Pushed, Leaf, More, count, nodes_of, reach_of}
use Rattle.links.specs.Links.{before_in, over_in, note_of}
use Rattle.links.specs.Nodewise.{total, seen_at, node_seen}
use Rattle.links.specs.Standing.{entry_place, entry_at, back, Spot, root, last, held, Rooted, Named, Seen, Stands}

module _ (code subject entries places work work' : List ℕ) (lo hi lo' hi' : ℕ)
    (agree : (i : ℕ) → lo ≤ i → i < hi → get_or work' i 0 ≡ get_or work i 0) (wide : lo' ≤ lo) (far : hi ≤ hi') where
  abbrev Here : {s : Sort} → Tree s → Spot s → Type 0
  Here p s = Stands code subject entries places lo hi work p s

  rooted_kept : {z op : ℕ} {p : Tree one} → Rooted code subject entries places lo hi work z op p → Rooted code subject entries places lo' hi' work' z op p
  rooted_kept {z} {op} {p} r =
      let e = agree z r.low (let h = r.high in omega arith) in
      record {
        low = let h = r.low in omega arith;
        high = let h = r.high in omega arith;
        is = r.is;
        over_falls = rw e r.over_falls;
        before_falls = rw e r.before_falls;
        deep = rw e r.deep;
      }

  link_kept : {z op : ℕ} {p : Tree one} → Rooted code subject entries places lo hi work z op p → get_or work' z 0 ≡ get_or work z 0
  link_kept {z} r = agree z r.low (let h = r.high in omega arith)

  named_kept : {z op e : ℕ} {p : Tree one} → Rooted code subject entries places lo hi work z op p → z + 2 ≤ hi → Named code subject entries places lo hi work z e
      → Named code subject entries places lo' hi' work' z e
  named_kept {z} r h n =
      let l = r.low in
      record { operand = n.operand; there = n.there; end = rw (agree (z + 1) (omega arith) (omega arith)) n.end }

  -- the roots of n trees, the last at z, lie within the bounds
  abbrev In : ℕ → ℕ → Type 0
  In zero z = Unit {0}
  In (suc n) z = (lo ≤ z) × (z < hi) × In n (before_in (get_or work z 0))

  in_more : (n z : ℕ) → In n z → lo ≤ back work n z → back work n z < hi → In (suc n) z
  in_more zero z i l h = (l, h, tt)
  in_more (suc n) z i l h = (i.0, i.1, in_more n (before_in (get_or work z 0)) i.2 l h)

  pub root_in : (p : Tree one) (z : ℕ) → Here p (root z) → (lo ≤ z) × (z < hi)
  root_in (Cell s ps) z h = let r = h.0 in (r.low, let k = r.high in omega arith)
  root_in (Block p) z h = let r = h.0 in (r.low, let k = r.high in omega arith)
  root_in (Bound x) z h = let r = h.0 in (r.low, let k = r.high in omega arith)
  root_in (Whole e) z h = let r = h.0 in (r.low, let k = r.high in omega arith)
  root_in (Pushed e D ks ps) z h = let r = h.0 in (r.low, let k = r.high in omega arith)

  roots_in : (ps : Tree many) (z : ℕ) → Here ps (last z) → In (count ps) z
  roots_in Leaf z h = tt
  roots_in (More p ps) z h = let r = root_in p _ h.1 in in_more (count ps) z (roots_in ps z h.0) r.0 r.1

  back_kept : (n z : ℕ) → In n z → back work' n z ≡ back work n z
  back_kept zero z i = refl
  back_kept (suc n) z i = rw (agree z i.0 i.1) (back_kept n (before_in (get_or work z 0)) i.2)

  -- a key that is found stands within the bounds
  key_in : (ps : Tree many) (ks : List ℕ) (q y k : ℕ) → Here ps (held ks q) → key_place code q (count ps) y ≡ some k → (lo ≤ k) × (k < hi)
  unfolding key_place
  key_in Leaf ks q y k h e = never (cc)
  key_in (More p ps) [] q y k h e = absurd h
  key_in (More p ps) (x ∷ ks) q y k h e = go (eqb (get_or code q 0) y) e (key_in ps ks (body_end code q) y k h.2)
    where
      go : (t : Bool) → cond t (some q) (key_place code (body_end code q) (count ps) y) ≡ some k
          → (key_place code (body_end code q) (count ps) y ≡ some k → (lo ≤ k) × (k < hi)) → (lo ≤ k) × (k < hi)
      go true e f = let z : q ≡ k = cc in let b = h.0 in let l = b.low in let j = b.high in (omega arith, omega arith)
      go false e f = f e

  seen_kept : (ps : Tree many) (ks : List ℕ) (q : ℕ) → Here ps (held ks q) → (y : ℕ) → seen_at work' (key_place code q (count ps) y) ≡ seen_at work (key_place code q (count ps) y)
  seen_kept ps ks q h y = go (key_place code q (count ps) y) refl
    where
      go : (o : Option ℕ) → key_place code q (count ps) y ≡ o → seen_at work' o ≡ seen_at work o
      go none e = refl
      go (some k) e = let i = key_in ps ks q y k h e in rw (agree k i.0 i.1)

  pub seen_all_kept : (e z : ℕ) (ps : Tree many) (ks : List ℕ) → Here ps (held ks (z + 4)) → Seen code subject entries places lo hi work z e (count ps)
      → Seen code subject entries places lo' hi' work' z e (count ps)
  seen_all_kept e z ps ks h s =
      ap
      (λ (f : ℕ → Bool). total ◌&&◌ true (node_seen f (get_or places (entry_place entries e / 2) 0))
      (nodes (entry_at subject entries e)) (drop (entry_place entries e) subject) (drop (entry_place entries e / 2) places))
      (fun_ext (seen_kept ps ks (z + 4) h))
      ∙ s

-- a body that is not measured yet, or stands among its own words
memo_kept : (code subject entries places work work' : List ℕ) (p : Tree one) (q : ℕ) → get_or work' q 0 ≡ get_or work q 0 → get_or work' (q + 1) 0 ≡ get_or work (q + 1) 0
    → (Stands code subject entries places (q + 2) (body_end code q) work p (root (get_or work q 0)) → Stands code subject entries places (q + 2) (body_end code q) work' p (root (get_or work q 0)))
    → (get_or work q 0 ≡ 0)
    ⊎ ((get_or work (q + 1) 0 ≡ note_of (nodes_of (entry_at subject entries) p) (reach_of (entry_at subject entries) p)) × Stands code subject entries places (q + 2) (body_end code q) work p (root (get_or work q 0)))
    → (get_or work' q 0 ≡ 0)
    ⊎ ((get_or work' (q + 1) 0 ≡ note_of (nodes_of (entry_at subject entries) p) (reach_of (entry_at subject entries) p)) × Stands code subject entries places (q + 2) (body_end code q) work' p (root (get_or work' q 0)))
memo_kept code subject entries places work work' p q a b f (inl e) = inl (a ∙ e)
memo_kept code subject entries places work work' p q a b f (inr (n, s)) = inr (b ∙ n, rw a (f s))

pub stands_kept : (code subject entries places work work' : List ℕ) (lo hi lo' hi' : ℕ) → ((i : ℕ) → lo ≤ i → i < hi → get_or work' i 0 ≡ get_or work i 0) → lo' ≤ lo → hi ≤ hi'
    → {s : Sort} (p : Tree s) (spot : Spot s) → Stands code subject entries places lo hi work p spot → Stands code subject entries places lo' hi' work' p spot
stands_kept code subject entries places work work' lo hi lo' hi' agree wide far (Cell s ps) (root z) h =
    let r = rooted_kept code subject entries places work work' lo hi lo' hi' agree wide far h.0 in
    (r, h.1, h.2, rw (link_kept code subject entries places work work' lo hi lo' hi' agree wide far h.0) (stands_kept code subject entries places work work' lo hi lo' hi' agree wide far ps (last (over_in (get_or work z 0))) h.3))
stands_kept code subject entries places work work' lo hi lo' hi' agree wide far (Block p) (root z) h =
    let r = rooted_kept code subject entries places work work' lo hi lo' hi' agree wide far h.0 in
    (r, rw (link_kept code subject entries places work work' lo hi lo' hi' agree wide far h.0) (stands_kept code subject entries places work work' lo hi lo' hi' agree wide far p (root (over_in (get_or work z 0))) h.1))
stands_kept code subject entries places work work' lo hi lo' hi' agree wide far (Bound x) (root z) h =
    (rooted_kept code subject entries places work work' lo hi lo' hi' agree wide far h.0, h.1)
stands_kept code subject entries places work work' lo hi lo' hi' agree wide far (Whole e) (root z) h =
    (rooted_kept code subject entries places work work' lo hi lo' hi' agree wide far h.0, named_kept code subject entries places work work' lo hi lo' hi' agree wide far h.0 (let k = h.0.high in omega arith) h.1)
stands_kept code subject entries places work work' lo hi lo' hi' agree wide far (Pushed e D ks ps) (root z) h = (
  rooted_kept code subject entries places work work' lo hi lo' hi' agree wide far h.0,
  named_kept code subject entries places work work' lo hi lo' hi' agree wide far h.0 (let k = h.0.high in omega arith) h.1,
  (let b = h.2 in record { shift = b.shift; low = b.low; keys = b.keys }),
  seen_all_kept code subject entries places work work' lo hi lo' hi' agree wide far e z ps ks h.4 h.3,
  stands_kept code subject entries places work work' lo hi lo' hi' agree wide far ps (held ks (z + 4)) h.4,
)
stands_kept code subject entries places work work' lo hi lo' hi' agree wide far Leaf (last z) h = tt
stands_kept code subject entries places work work' lo hi lo' hi' agree wide far (More p ps) (last z) h = (
  stands_kept code subject entries places work work' lo hi lo' hi' agree wide far ps (last z) h.0,
  rw (back_kept code subject entries places work work' lo hi lo' hi' agree wide far (count ps) z (roots_in code subject entries places work work' lo hi lo' hi' agree wide far ps z h.0))
      (stands_kept code subject entries places work work' lo hi lo' hi' agree wide far p (root (back work (count ps) z)) h.1),
)
stands_kept code subject entries places work work' lo hi lo' hi' agree wide far Leaf (held ks q) h = tt
stands_kept code subject entries places work work' lo hi lo' hi' agree wide far (More p ps) (held [] q) h = absurd h
stands_kept code subject entries places work work' lo hi lo' hi' agree wide far (More p ps) (held (k ∷ ks) q) h =
    let b = h.0 in
    let l = b.low in
    let j = b.high in (
      record { low = omega arith; high = omega arith; key = b.key },
      memo_kept code subject entries places work work' p q (agree q (omega arith) (omega arith)) (agree (q + 1) (omega arith) (omega arith))
          (stands_kept code subject entries places work work' (q + 2) (body_end code q) (q + 2) (body_end code q) (λ i a b. agree i (omega arith) (omega arith)) (omega arith) (omega arith) p (root (get_or work q 0)))
          h.1,
      stands_kept code subject entries places work work' lo hi lo' hi' agree wide far ps (held ks (body_end code q)) h.2,
    )
