-- A PUSHIMM or PUSHI, from the walk of its entry.
use mathlib.Core.Path.{◌≡◌, refl, ap, ap₂, ◌∙◌}
use mathlib.Core.Logic.{◌⊎◌, inl, inr}
use Prim.Native.Nat.{ℕ, suc, ◌+◌, ◌-◌, ◌*◌, ◌/◌, ◌≤◌, ◌<◌, max}
use native.Mathlib.Omega.{arith}
use mathlib.Core.Bool.{Bool, true, false, cond}
use mathlib.Core.Option.{none}
use Rattle.std.specs.Prelude.{Option, Some, None}
use mathlib.Core.List.{List}
use lib.Dec.{eqb, ltb}
use lib.ListN.{length, get_or, drop}
use borrow.Author.Tests.{eq-eqb, ne_eqb}
use Rattle.documents.specs.Terms.{Sort, Tm, Var, Sym, Meta, Abst, Nil, Cons, Term}
use Rattle.documents.specs.Tables.{nodes, depth}
use Rattle.documents.proofs.Nodes.{nodes_positive}
use Rattle.instructions.specs.Bodies.{Readable, place_behind}
use Rattle.instructions.proofs.Bodies.{behind_low}
use Rattle.trees.specs.Trees.{nodes_of, depth_of, reach_of, spread_nodes, spread_depth, spread_reach}
use Rattle.links.specs.Links.{capped}
use Rattle.links.specs.Standing.{entry_place, entry_at, held}
use Rattle.links.specs.Sequences.{Bodied, keys_at, trees_at}
use Rattle.links.proofs.Entered.{entered}
use Rattle.links.proofs.Keyed.{bodied_readable}
use Rattle.measurer.specs.declared.Span.{Span}
use Rattle.measurer.specs.Linking.{place_next, forgotten}
use Rattle.measurer.specs.Measuring.{Kept, Memos, Walked, Push, PushedAs, Pushes, push_tree, push_end, nodes_for, depth_for, reach_for, Spreading, SpreadAs, Spreads}
use Rattle.measurer.proofs.Linking.{next_whole, next_push}
use Rattle.measurer.proofs.Kept.{kept_then, scene_kept}
use Rattle.measurer.proofs.Memos.{memos_none}
use Rattle.measurer.proofs.Standing.{stands_kept}

-- ---- Without bodies a walk counts the entry itself

if_same : {A : Type 0} (q : Bool) (x : A) → cond q x x ≡ x
if_same true x = refl
if_same false x = refl

no_bodies_nodes : {s : Sort} (n : ℕ) (t : Tm s) → spread_nodes (λ y. none) n t ≡ nodes t
no_bodies_nodes n (Var x) = if_same (ltb x n) 1
no_bodies_nodes n (Sym s ts) = ap suc (no_bodies_nodes n ts)
no_bodies_nodes n (Meta z ts) = ap suc (no_bodies_nodes n ts)
no_bodies_nodes n (Abst t) = ap suc (no_bodies_nodes (suc n) t)
no_bodies_nodes n Nil = refl
no_bodies_nodes n (Cons t ts) = ap₂ ◌+◌ (no_bodies_nodes n t) (no_bodies_nodes n ts)

no_bodies_depth : {s : Sort} (n : ℕ) (t : Tm s) → spread_depth (λ y. none) n t ≡ depth t
no_bodies_depth n (Var x) = if_same (ltb x n) 1
no_bodies_depth n (Sym s ts) = ap suc (no_bodies_depth n ts)
no_bodies_depth n (Meta z ts) = ap suc (no_bodies_depth n ts)
no_bodies_depth n (Abst t) = ap suc (no_bodies_depth (suc n) t)
no_bodies_depth n Nil = refl
no_bodies_depth n (Cons t ts) = ap₂ max (no_bodies_depth n t) (no_bodies_depth n ts)

module _ {code : List ℕ} {at : ℕ} {subject entries work : List ℕ} {most : ℕ} (pu : Push code at subject entries work most) where
  abbrev e : ℕ
  e = get_or code (at + 1) 0

  abbrev a : Term
  a = entry_at subject entries e

  pub first_low : entry_place entries e + 2 ≤ length subject
  first_low = let k = entered pu.scene e pu.entry in let w = k.within in let n = nodes_positive a in omega arith

  -- ---- PUSHIMM

  module _ (is : get_or code at 0 ≡ 12) where
    end_whole : push_end code at 0 ≡ place_next code at
    unfolding push_end
    end_whole = next_whole code at is

    pub whole_spreading : {part : List ℕ} {places : ℕ} → part ≡ drop (entry_place entries e) subject → places ≡ 4096 + entry_place entries e / 2
        → Spreading code at 0 64 part places subject entries work most
    whole_spreading p q =
        record {
          scene = pu.scene;
          few = pu.few;
          words = pu.words;
          entry = pu.entry;
          part_is = p;
          places_are = q;
          low = omega arith;
          makes = tt;
          memos = tt;
        }

    pub whole_falls : (t : ℕ) → 4 * (place_next code at - at) + 2 ≡ t → 4 * (push_end code at 0 - at) + 1 < t
    whole_falls t e = let q = end_whole in omega arith

    size_whole : spread_nodes (nodes_for code subject entries (at + 4) 0) 0 a ≡ nodes_of (entry_at subject entries) (push_tree code at)
    unfolding push_tree keys_at
    size_whole = rw (eq-eqb (get_or code at 0) 12 is) (no_bodies_nodes 0 a)

    depth_whole : spread_depth (depth_for code subject entries (at + 4) 0) 0 a ≡ depth_of (entry_at subject entries) (push_tree code at)
    unfolding push_tree keys_at
    depth_whole = rw (eq-eqb (get_or code at 0) 12 is) (no_bodies_depth 0 a)

    reach_whole : 0 ≡ reach_of (entry_at subject entries) (push_tree code at)
    unfolding push_tree
    reach_whole = rw (eq-eqb (get_or code at 0) 12 is)

    pub whole_pushes : {part : List ℕ} {places : ℕ} {work' : List ℕ} {found : Span} → Spreads code at 0 64 part places subject entries work work' most (Some found)
        → Pushes code at subject entries work work' most (Some (record found { reach = 0 }))
    whole_pushes s =
        let m = s.says in
        record {
          kept = rw (← end_whole) s.kept;
          says = record {
            size = m.size ∙ size_whole;
            deep = m.deep ∙ ap capped depth_whole;
            reach = reach_whole;
            close = omega arith;
            walked = rw (eq-eqb (get_or code at 0) 12 is, ← end_whole) m.walked;
          };
        }

    pub whole_large : {part : List ℕ} {places : ℕ} {work' : List ℕ} → Spreads code at 0 64 part places subject entries work work' most None
        → Pushes code at subject entries work work' most None
    whole_large s = record { kept = rw (← end_whole) s.kept; says = rw (← size_whole) s.says }

  -- ---- PUSHI

  module _ (no : get_or code at 0 ≡ 12 → ⊥) where
    pub is_pushi : get_or code at 0 ≡ 13
    is_pushi = go pu.op
      where
        go : (get_or code at 0 ≡ 12) ⊎ (get_or code at 0 ≡ 13) → get_or code at 0 ≡ 13
        go (inl x) = absurd (no x)
        go (inr x) = x

    abbrev c : ℕ
    c = get_or code (at + 3) 0

    pub bodies_pre : (at + 4 ≤ length code) × (get_or code (at + 2) 0 ≤ 127) × Bodied code (at + 4) c (length entries)
    bodies_pre = pu.bodies is_pushi

    pub bodies_read : Readable code (at + 4) c
    bodies_read = bodied_readable code (at + 4) c (length entries) bodies_pre.2

    fresh : Memos code subject entries (forgotten code work (at + 4) c) (at + 4) c × Kept (at + 4) (place_behind code (at + 4) c) work (forgotten code work (at + 4) c)
    fresh =
        let x = pu.scene.code_short in
        let y = pu.scene.work_long in
        memos_none code subject entries work (at + 4) c (omega arith) bodies_read x

    end_is : place_behind code (at + 4) c ≡ place_next code at
    end_is = next_push code at no

    end_low : push_end code at c ≤ place_next code at
    unfolding push_end
    end_low = let l = behind_low code (at + 4) c in let q = end_is in go (eqb c 0) l q
      where
        go : (q : Bool) → at + 4 ≤ place_behind code (at + 4) c → place_behind code (at + 4) c ≡ place_next code at
            → cond q (at + 2) (place_behind code (at + 4) c) ≤ place_next code at
        go true l e = omega arith
        go false l e = omega arith

    pub push_spreading : {part : List ℕ} {places : ℕ} {work₁ : List ℕ} → work₁ ≡ forgotten code work (at + 4) c → part ≡ drop (entry_place entries e) subject
        → places ≡ 4096 + entry_place entries e / 2 → Spreading code at c (get_or code (at + 2) 0) part places subject entries work₁ most
    push_spreading f p q =
        record {
          scene = rw f (scene_kept fresh.1 pu.scene);
          few = pu.few;
          words = pu.words;
          entry = pu.entry;
          part_is = p;
          places_are = q;
          low = bodies_pre.1;
          makes = bodies_pre.2;
          memos = rw f fresh.0;
        }

    pub bodies_fall : (t : ℕ) → 4 * (place_next code at - at) + 2 ≡ t → 4 * (push_end code at c - at) + 1 < t
    bodies_fall t e = let q = end_low in omega arith

    size_push : spread_nodes (nodes_for code subject entries (at + 4) c) 0 a ≡ nodes_of (entry_at subject entries) (push_tree code at)
    unfolding push_tree
    size_push = rw (ne_eqb (get_or code at 0) 12 no)

    depth_push : spread_depth (depth_for code subject entries (at + 4) c) 0 a ≡ depth_of (entry_at subject entries) (push_tree code at)
    unfolding push_tree
    depth_push = rw (ne_eqb (get_or code at 0) 12 no)

    reach_push : spread_reach (reach_for code subject entries (at + 4) c) (get_or code (at + 2) 0) 0 a ≡ reach_of (entry_at subject entries) (push_tree code at)
    unfolding push_tree
    reach_push = rw (ne_eqb (get_or code at 0) 12 no)

    kept_push : {work₁ work' : List ℕ} → work₁ ≡ forgotten code work (at + 4) c → Kept (at + 1) (push_end code at c) work₁ work' → Kept (at + 1) (place_next code at) work work'
    kept_push f k =
        let l = end_low in
        let q = end_is in
        kept_then fresh.1 (rw f at k) (omega arith) (omega arith) (omega arith) (omega arith)

    wider : {work' : List ℕ} → Walked code subject entries work' (at + 1) (push_end code at c) most at c → Walked code subject entries work' (at + 1) (place_next code at) most at c
    wider {work'} w =
        let n = w.named in
        record {
          named = record { operand = n.operand; there = n.there; end = n.end };
          seen = w.seen;
          bodies = stands_kept code subject entries (drop 4096 work') work' work' (at + 1) (push_end code at c) (at + 1) (place_next code at) (λ i x y. refl) (omega arith) end_low
              (trees_at code (at + 4) c) (held (keys_at code (at + 4) c) (at + 4)) w.bodies;
        }

    pub push_pushes : {part : List ℕ} {places : ℕ} {work₁ work' : List ℕ} {r : Option Span} → work₁ ≡ forgotten code work (at + 4) c
        → Spreads code at c (get_or code (at + 2) 0) part places subject entries work₁ work' most r → Pushes code at subject entries work work' most r
    push_pushes {part} {places} {work₁} {work'} {r} f s = record { kept = kept_push f s.kept; says = go r s.says }
      where
        go : (r : Option Span) → SpreadAs code subject entries work' at c (get_or code (at + 2) 0) most r → PushedAs code subject entries work' most at r
        go (Some found) m =
            let l = end_low in
            record {
              size = m.size ∙ size_push;
              deep = m.deep ∙ ap capped depth_push;
              reach = m.reach ∙ reach_push;
              close = let x = m.close in omega arith;
              walked = rw (ne_eqb (get_or code at 0) 12 no) (wider m.walked);
            }
        go None m = rw (← size_push) m
