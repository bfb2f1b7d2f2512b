-- What each function's answer comes to, from what its calls say.
use mathlib.Core.Path.{◌≡◌, refl, ap}
use Prim.Native.Nat.{ℕ, ◌+◌, ◌-◌, ◌*◌, ◌≤◌, ◌<◌, max}
use native.Mathlib.Omega.{arith}
use mathlib.Core.Bool.{Bool, true, false}
use mathlib.Core.List.{List}
use lib.Dec.{eqb}
use lib.ListN.{length, get_or, set}
use borrow.Author.Tests.{eqb-true, eqb-false}
use Rattle.documents.specs.Instructions.{fixed_after}
use Rattle.instructions.specs.Bodies.{body_end, key_place, found_at, Readable}
use Rattle.trees.specs.Trees.{or_one, nodes_of}
use Rattle.links.specs.Links.{link_of, reach_in}
use Rattle.links.specs.Standing.{entry_at}
use Rattle.links.specs.Sequences.{tree_at}
use Rattle.links.proofs.Ran.{follows_within}
use Rattle.std.specs.Prelude.{Option, Some, None}
use Rattle.measurer.specs.declared.Measured.{Measured}
use Rattle.measurer.specs.declared.Span.{Span}
use Rattle.measurer.specs.Linking.{plain_link, place_next}
use Rattle.measurer.specs.Measuring.{Kept, near, Sequence, Measure, Measures, push_tree, Pushing, Pushes, nodes_for, Spreads, Free, Meets, Frees, Noted}
use Rattle.measurer.proofs.Kept.{kept_then, kept_wide}
use Rattle.measurer.proofs.Growing.{Growing, growing_cell, growing_adbmal, growing_pushvar, build_op, Pushable, full_plain, full_push, growing_end, growing_push}
use Rattle.measurer.proofs.Pushing.{bodies_pre, bodies_read}
use Rattle.measurer.proofs.Meeting.{key_in, body_end_lem, body_low, meets_large, noted_reach}

-- ---- An answer that was taken apart

pub measures_of : {code : List ℕ} {from end : ℕ} {subject entries work work' : List ℕ} {most : ℕ} {found : Measured} {r : Option Measured} → Measures code from end subject entries work work' most r
    → r ≡ Some found → Measure code subject entries work' most from end found.nodes found.reach found.root
measures_of m e = let k = rw e at m.says in k

pub measures_large : {code : List ℕ} {from end : ℕ} {subject entries work work' : List ℕ} {most : ℕ} {r : Option Measured} → Measures code from end subject entries work work' most r
    → r ≡ None → most < nodes_of (entry_at subject entries) (tree_at code from end)
measures_large m e = let k = rw e at m.says in k

pub pushes_of : {code : List ℕ} {at : ℕ} {subject entries work work' : List ℕ} {most : ℕ} {found : Span} {r : Option Span} → Pushes code at subject entries work work' most r
    → r ≡ Some found → Pushing code subject entries work' most at found.nodes found.depth found.reach
pushes_of m e = let k = rw e at m.says in k

pub pushes_large : {code : List ℕ} {at : ℕ} {subject entries work work' : List ℕ} {most : ℕ} {r : Option Span} → Pushes code at subject entries work work' most r
    → r ≡ None → most < nodes_of (entry_at subject entries) (push_tree code at)
pushes_large m e = let k = rw e at m.says in k

pub spreads_are : {code : List ℕ} {push c D : ℕ} {part : List ℕ} {places : ℕ} {subject entries work work' : List ℕ} {most : ℕ} {r s : Option Span}
    → Spreads code push c D part places subject entries work work' most r → r ≡ s → Spreads code push c D part places subject entries work work' most s
spreads_are m e = rw e at m

pub frees_of : {code : List ℕ} {push c D w inside : ℕ} {subject entries work work' : List ℕ} {most : ℕ} {found : Span} {r : Option Span} → Frees code push c D w inside subject entries work work' most r
    → r ≡ Some found → Meets code subject entries work work' push c D w inside most found.nodes found.depth found.reach
frees_of m e = let k = rw e at m.says in k

pub frees_large : {code : List ℕ} {push c D w inside : ℕ} {subject entries work work' : List ℕ} {most : ℕ} {r : Option Span} → Frees code push c D w inside subject entries work work' most r
    → r ≡ None → most < or_one (nodes_for code subject entries (push + 4) c (w - inside))
frees_large m e = let k = rw e at m.says in k

-- ---- free

module _ {code subject entries work : List ℕ} {push c D w inside most : ℕ} (fr : Free code push c D w inside subject entries work most)
    {k : ℕ} (key : Some k ≡ found_at (key_place code (push + 4) c (w - inside))) where
  pub meets_too_large : {work₁ : List ℕ} → Kept (k + 2) (body_end code k) work work₁ → most < nodes_of (entry_at subject entries) (tree_at code (k + 2) (body_end code k))
      → Frees code push c D w inside subject entries work work₁ most None
  meets_too_large kp l =
      let a = body_low fr key in
      let b = body_end_lem fr key in
      record { kept = kept_wide kp (omega arith) (omega arith); says = meets_large fr key l }

  pub small_reach : (f : ℕ) → f ≤ near (body_end code k - (k + 2)) → f < 524288
  small_reach f h = let a = key_in fr key in let b = fr.scene.code_short in omega arith

  pub noted_small : Noted code subject entries work k → reach_in (get_or work (k + 1) 0) < 524288
  noted_small m = rw (noted_reach fr key m) (small_reach _ m.close)

-- ---- measure

module _ {code subject entries work₀ : List ℕ} {from end most : ℕ} (sq : Sequence code from end subject entries work₀ most) where
  module _ {work : List ℕ} {at z n far : ℕ} (g : Growing code subject entries work₀ from end most work at z n far) where
    pub end_answer : end ≤ at → Measures code from end subject entries work₀ work most (Some (record { nodes = n; reach = far; root = z }))
    end_answer h = record { kept = kept_wide g.kept (omega arith) g.high; says = growing_end code subject entries work₀ from end most sq g h }

    module _ (lo : at < end) where
      pub full_answer : most ≤ n → get_or code at 0 < 12 → (get_or code at 0 ≡ 9 → ⊥) → Measures code from end subject entries work₀ work most None
      full_answer h l ne =
          record { kept = kept_wide g.kept (omega arith) g.high; says = full_plain code subject entries work₀ from end most sq g lo h l ne }

      eight : get_or code at 0 < 12 → (get_or code at 0 ≡ 9 → ⊥) → (get_or code at 0 ≡ 11 → ⊥) → (get_or code at 0 ≡ 10 → ⊥) → get_or code at 0 ≡ 8
      eight l n9 n11 n10 = let b = build_op code subject entries work₀ from end most sq g lo in only (get_or code at 0) b.0 l n9 n11 n10
        where
          only : (x : ℕ) → 8 ≤ x → x < 12 → (x ≡ 9 → ⊥) → (x ≡ 11 → ⊥) → (x ≡ 10 → ⊥) → x ≡ 8
          only x a b c d e = omega arith

      pub plain_pre : get_or code at 0 < 12 → (get_or code at 0 ≡ 9 → ⊥)
          → (at < length code) × ((get_or code at 0 ≡ 11 → ⊥) → (get_or code at 0 ≡ 10 → ⊥) → at + 2 < length code) × (at < 4096) × (z < 4096) × (4096 ≤ length work)
      plain_pre l n9 =
          let i = sq.inside in
          let c = g.scene.code_short in
          let w = g.scene.work_long in
          let r = g.root_low in (
            omega arith,
            (λ a b. let e = eight l n9 a b in let k = follows_within g.follows lo i 2 (ap fixed_after e) in omega arith),
            omega arith,
            omega arith,
            omega arith,
          )

      pub growing_plain : {work' : List ℕ} {b : ℕ} → get_or code at 0 < 12 → (get_or code at 0 ≡ 9 → ⊥) → n < most → work' ≡ set work at (plain_link code at work z)
          → b ≡ at + 1 + fixed_after (get_or code at 0) → Growing code subject entries work₀ from end most work' b at (n + 1) far
      growing_plain {work'} {b} l n9 h ew eb = go (eqb (get_or code at 0) 11) refl (eqb (get_or code at 0) 10) refl
        where
          three : (x b k : ℕ) → b ≡ at + 1 + fixed_after x → fixed_after x ≡ k → b ≡ at + (1 + k)
          three x b k e f = omega arith

          go : (p : Bool) → eqb (get_or code at 0) 11 ≡ p → (q : Bool) → eqb (get_or code at 0) 10 ≡ q → Growing code subject entries work₀ from end most work' b at (n + 1) far
          go true p q s =
              let e = eqb-true (get_or code at 0) 11 p in
              rw (ew, three (get_or code at 0) b 1 eb (ap fixed_after e)) (growing_pushvar code subject entries work₀ from end most sq g lo e h)
          go false p true s =
              let e = eqb-true (get_or code at 0) 10 s in
              rw (ew, three (get_or code at 0) b 0 eb (ap fixed_after e)) (growing_adbmal code subject entries work₀ from end most sq g lo e h)
          go false p false s =
              let e = eight l n9 (eqb-false (get_or code at 0) 11 p) (eqb-false (get_or code at 0) 10 s) in
              rw (ew, three (get_or code at 0) b 2 eb (ap fixed_after e)) (growing_cell code subject entries work₀ from end most sq g lo e h)

      module _ (pu : Pushable code subject entries work₀ from end most sq g lo) {work₁ : List ℕ} (k₁ : Kept (at + 1) (place_next code at) work work₁) where
        kept_push : Kept from end work₀ work₁
        kept_push =
            let w = pu.next.within in
            let a = g.low in
            kept_then g.kept k₁ (omega arith) (omega arith) g.high (omega arith)

        pub push_answer : most < nodes_of (entry_at subject entries) (push_tree code at) → Measures code from end subject entries work₀ work₁ most None
        push_answer l =
            record { kept = kept_push; says = full_push code subject entries work₀ from end most sq g lo pu (nodes_of (entry_at subject entries) (push_tree code at)) (omega arith) (omega arith) }

        pub over_answer : {m : ℕ} → m ≡ nodes_of (entry_at subject entries) (push_tree code at) → most - n < m → Measures code from end subject entries work₀ work₁ most None
        over_answer {m} e l =
            record { kept = kept_push; says = full_push code subject entries work₀ from end most sq g lo pu m (omega arith) (let h = g.fits in omega arith) }

        -- the next place is given by an equation
        pub growing_at : {m d f v far' b : ℕ} → Pushing code subject entries work₁ most at m d f → m ≤ most - n → v ≡ link_of z 0 d → far' ≡ max far f → b ≡ place_next code at
            → Growing code subject entries work₀ from end most (set work₁ at v) b at (n + m) far'
        growing_at r h ev ef eb = rw eb (growing_push code subject entries work₀ from end most sq g lo pu k₁ r (let x = g.fits in omega arith) ev ef)

      module _ (pu : Pushable code subject entries work₀ from end most sq g lo) where
        pub push_falls : (t : ℕ) → 4 * (end - from) + 3 ≡ t → 4 * (place_next code at - at) + 2 < t
        push_falls t e = let w = pu.next.within in let a = g.low in let x = pu.wide in omega arith

        pub next_pre : (at + 1 < length code) × ((get_or code at 0 ≡ 12 → ⊥) → (at + 3 < length code) × Readable code (at + 4) (get_or code (at + 3) 0))
        next_pre =
            let w = pu.push.words in
            (omega arith, λ no. let b = bodies_pre pu.push no in ((let x = b.0 in omega arith), bodies_read pu.push no))
