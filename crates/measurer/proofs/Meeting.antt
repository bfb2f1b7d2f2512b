-- A variable of an entry: without a body, with one that is measured now, and with one that was measured before.
use mathlib.Core.Path.{◌≡◌, refl, sym, ap, ap₂, ◌∙◌}
use mathlib.Core.Logic.{inl, inr}
use Prim.Native.Nat.{ℕ, zero, suc, ◌+◌, ◌-◌, ◌≤◌, ◌<◌}
use native.Mathlib.Omega.{arith}
use mathlib.Core.Bool.{not, cond}
use mathlib.Core.Option.{Option, none, some}
use mathlib.Core.List.{List}
use lib.Dec.{eqb}
use lib.ListN.{length, get_or, set, drop, length-set}
use borrow.Author.Tests.{ne_eqb}
use Rattle.documents.specs.Terms.{one, Term}
use Rattle.documents.proofs.Lists.{never}
use Rattle.std.specs.Prelude.{Some, None}
use Rattle.instructions.specs.Bodies.{body_end, key_place, place_behind, found_at}
use Rattle.trees.specs.Trees.{Tree, or_one, or_moved, further, nodes_of, depth_of, reach_of}
use Rattle.trees.proofs.Sizes.{nodes_positive, depth_positive_of}
use Rattle.links.specs.Links.{capped, depth_in, note_of, nodes_in, reach_in}
use Rattle.links.specs.Nodewise.{seen_at}
use Rattle.links.specs.Standing.{entry_at, root, Stands}
use Rattle.links.specs.Sequences.{tree_at, Sequenced}
use Rattle.links.proofs.Links.{note_nodes, note_reach}
use Rattle.links.proofs.Keyed.{KeyAt, key_at, key_missing_lem, body_at}
use Rattle.measurer.specs.Measuring.{Kept, near, Sequence, Measure, Noted, Memo, push_end, nodes_for, depth_for, reach_for, Free, Frees}
use Rattle.measurer.proofs.Kept.{kept_none, kept_then, kept_set, set_here, set_there}
use Rattle.measurer.proofs.Stacking.{stands_deep}
use Rattle.measurer.proofs.Standing.{stands_kept, root_in}
use Rattle.measurer.proofs.Memos.{memo_at, memos_note, seen_still}

found_key : (o : Option ℕ) (k : ℕ) → Some k ≡ found_at o → o ≡ some k
found_key none k e = never (cc)
found_key (some j) k e = let q : k ≡ j = cc in rw q

found_none : (o : Option ℕ) → None ≡ found_at o → o ≡ none
found_none none e = refl
found_none (some j) e = never (cc)

further_close : (n r : ℕ) → further n r ≤ r + n
further_close n zero = omega arith
further_close n (suc r) = omega arith

module _ {code subject entries work : List ℕ} {push c D w inside most : ℕ} (fr : Free code push c D w inside subject entries work most) where
  abbrev y : ℕ
  y = w - inside

  abbrev ent : ℕ → Term
  ent = entry_at subject entries

  -- ---- Without a body

  pub meets_none : {far : ℕ} → None ≡ found_at (key_place code (push + 4) c y) → far ≡ suc (w + D - 64)
      → Frees code push c D w inside subject entries work work most (Some (record { nodes = 1; depth = 1; reach = far }))
  meets_none {far} m e =
      let o = found_none _ m in
      let k = key_missing_lem code (push + 4) c y o in
      record {
        kept = kept_none;
        says = record {
          size = sym (ap or_one (k.nodes ent));
          some_nodes = omega arith;
          few_nodes = omega arith;
          deep = ap capped (sym (ap or_one (k.depth ent)));
          some_depth = omega arith;
          reach = e ∙ sym (ap (λ (x : Option ℕ). or_moved x D inside w) (k.reach ent));
          close = let a = fr.variable in let b = fr.low in omega arith;
          memos = fr.memos;
          seen = ap (seen_at work) o;
          still = λ x h. h;
        };
      }

  -- ---- With a body at k

  module _ {k : ℕ} (key : Some k ≡ found_at (key_place code (push + 4) c y)) where
    found : key_place code (push + 4) c y ≡ some k
    found = found_key _ k key

    at_key : KeyAt code (push + 4) c y k
    at_key = key_at code (push + 4) c y k found

    body : (body_end code k ≤ length code) × Sequenced code (k + 2) (body_end code k) (length entries)
    body = body_at code (push + 4) c y k (length entries) fr.makes found

    pub key_in : body_end code k ≤ length code
    key_in = body.0

    pub key_long : body_end code k ≤ length work
    key_long = let h = body.0 in let a = fr.scene.code_short in let b = fr.scene.work_long in omega arith

    abbrev tree : Tree one
    tree = tree_at code (k + 2) (body_end code k)

    -- it has bodies, so its end is theirs
    end_is : place_behind code (push + 4) c ≡ push_end code push c
    unfolding push_end key_place
    end_is = go c found
      where
        go : (c : ℕ) → key_place code (push + 4) c y ≡ some k → place_behind code (push + 4) c ≡ cond (eqb c 0) (push + 2) (place_behind code (push + 4) c)
        go zero e = never (cc)
        go (suc c) e = rw (ne_eqb (suc c) 0 (λ q. omega arith))

    pub body_end_lem : body_end code k ≤ push_end code push c
    body_end_lem = let a = at_key.high in let b = end_is in omega arith

    pub body_low : push + 4 ≤ k
    body_low = at_key.low

    pub body_sequence : Sequence code (k + 2) (body_end code k) subject entries work most
    body_sequence =
        record { scene = fr.scene; few = fr.few; positive = omega arith; ordered = omega arith; inside = body.0; makes = body.1 }

    size_of : or_one (nodes_for code subject entries (push + 4) c y) ≡ nodes_of ent tree
    size_of = ap or_one (at_key.nodes ent)

    depth_of_lem : or_one (depth_for code subject entries (push + 4) c y) ≡ depth_of ent tree
    depth_of_lem = ap or_one (at_key.depth ent)

    reach_of_lem : or_moved (reach_for code subject entries (push + 4) c y) D inside w ≡ further inside (reach_of ent tree)
    reach_of_lem = ap (λ (x : Option ℕ). or_moved x D inside w) (at_key.reach ent)

    close_of : (f : ℕ) → f ≤ near (body_end code k - (k + 2)) → further inside f ≤ near (push_end code push c - push)
    close_of f h =
        let a = further_close inside f in
        let b = body_end_lem in
        let l = body_low in
        let s = fr.shallow in
        omega arith

    capped_positive : (d : ℕ) → 1 ≤ d → 1 ≤ capped d
    capped_positive d h = omega arith

    pub meets_large : most < nodes_of ent tree → most < or_one (nodes_for code subject entries (push + 4) c y)
    meets_large h = rw size_of h

    -- ---- Measured before

    noted_of : Memo code subject entries work k → (get_or work k 0 ≡ 0 → ⊥) → Noted code subject entries work k
    noted_of (inl z) n = absurd (n z)
    noted_of (inr m) n = m

    pub noted : (get_or work k 0 ≡ 0 → ⊥) → Noted code subject entries work k
    noted n = noted_of (memo_at code subject entries work (push + 4) c y k found fr.memos) n

    pub noted_root : Noted code subject entries work k → get_or work k 0 < body_end code k
    noted_root m =
        (root_in code subject entries (drop 4096 work) work work (k + 2) (body_end code k) (k + 2) (body_end code k) (λ i a b. refl) (omega arith) (omega arith) tree (get_or work k 0) m.stands).1

    pub noted_reach : Noted code subject entries work k → reach_in (get_or work (k + 1) 0) ≡ reach_of ent tree
    noted_reach m = ap reach_in m.note ∙ note_reach (nodes_of ent tree) (reach_of ent tree) (let h = m.few in omega arith)

    pub meets_before : {n d far : ℕ} → (z : get_or work k 0 ≡ 0 → ⊥) → n ≡ nodes_in (get_or work (k + 1) 0) → d ≡ depth_in (get_or work (get_or work k 0) 0)
        → far ≡ further inside (reach_in (get_or work (k + 1) 0)) → Frees code push c D w inside subject entries work work most (Some (record { nodes = n; depth = d; reach = far }))
    meets_before {n} {d} {far} z en ed ef =
        let m = noted z in
        let nn : n ≡ nodes_of ent tree = en ∙ ap nodes_in m.note ∙ note_nodes (nodes_of ent tree) (reach_of ent tree) (let h = m.few in omega arith) in
        let dd : d ≡ capped (depth_of ent tree) = ed ∙ stands_deep code subject entries (drop 4096 work) work (k + 2) (body_end code k) tree (get_or work k 0) m.stands in
        let rr : far ≡ further inside (reach_of ent tree) = ef ∙ ap (further inside) (noted_reach m) in
        record {
          kept = kept_none;
          says = record {
            size = nn ∙ sym size_of;
            some_nodes = rw nn (nodes_positive ent tree);
            few_nodes = rw nn m.few;
            deep = dd ∙ ap capped (sym depth_of_lem);
            some_depth = rw dd (capped_positive _ (depth_positive_of ent tree));
            reach = rr ∙ sym reach_of_lem;
            close = rw rr (close_of _ m.close);
            memos = fr.memos;
            seen = ap (seen_at work) found ∙ ap not (ne_eqb (get_or work k 0) 0 z);
            still = λ x h. h;
          };
        }

    -- ---- Measured now

    module _ {work₁ : List ℕ} (k₁ : Kept (k + 2) (body_end code k) work work₁) {n f z : ℕ} (m : Measure code subject entries work₁ most (k + 2) (body_end code k) n f z) where
      root_here : (k + 2 ≤ z) × (z < body_end code k)
      root_here = root_in code subject entries (drop 4096 work₁) work₁ work₁ (k + 2) (body_end code k) (k + 2) (body_end code k) (λ i a b. refl) (omega arith) (omega arith) tree z m.stands

      pub root_small : z < 4096
      root_small = let h = root_here in let a = body.0 in let b = fr.scene.code_short in omega arith

      module _ (v : ℕ) where
        abbrev work₂ : List ℕ
        work₂ = set (set work₁ k z) (k + 1) v

        low₂ : (i : ℕ) → i < k → get_or work₂ i 0 ≡ get_or work i 0
        low₂ i h = set_there (set work₁ k z) (k + 1) i v (λ e. omega arith) ∙ set_there work₁ k i z (λ e. omega arith) ∙ k₁.low i (omega arith)

        high₂ : (i : ℕ) → body_end code k ≤ i → get_or work₂ i 0 ≡ get_or work i 0
        high₂ i h = set_there (set work₁ k z) (k + 1) i v (λ e. omega arith) ∙ set_there work₁ k i z (λ e. omega arith) ∙ k₁.high i h

        mid₂ : (i : ℕ) → k + 2 ≤ i → i < body_end code k → get_or work₂ i 0 ≡ get_or work₁ i 0
        mid₂ i a b = set_there (set work₁ k z) (k + 1) i v (λ e. omega arith) ∙ set_there work₁ k i z (λ e. omega arith)

        short : k + 1 < 4096
        short = let a = body.0 in let b = fr.scene.code_short in omega arith

        room : k + 1 < length work₁
        room = let a = key_long in let e = k₁.long in omega arith

        root₂ : get_or work₂ k 0 ≡ z
        root₂ = set_there (set work₁ k z) (k + 1) k v (λ e. omega arith) ∙ set_here work₁ k z (let r = room in omega arith)

        note₂ : get_or work₂ (k + 1) 0 ≡ v
        note₂ = set_here (set work₁ k z) (k + 1) v (let r = room in let e = length-set work₁ k z in omega arith)

        kept₂ : Kept (push + 4) (push_end code push c) work work₂
        kept₂ =
            let s = short in
            let l = body_low in
            let b = body_end_lem in
            kept_then (kept_then k₁ (kept_set {lo = k} {hi = suc k} work₁ k z (omega arith) (omega arith) (omega arith)) {l = k} {h = body_end code k} (omega arith) (omega arith) (omega arith) (omega arith))
            (kept_set {lo = k + 1} {hi = k + 2} (set work₁ k z) (k + 1) v (omega arith) (omega arith) s) (omega arith) (omega arith) (omega arith) (omega arith)

        places₂ : drop 4096 work₂ ≡ drop 4096 work₁
        places₂ = kept₂.places ∙ sym k₁.places

        stands₂ : Stands code subject entries (drop 4096 work₂) (k + 2) (body_end code k) work₂ tree (root z)
        stands₂ =
            rw places₂ (stands_kept code subject entries (drop 4096 work₁) work₁ work₂ (k + 2) (body_end code k) (k + 2) (body_end code k) mid₂ (omega arith) (omega arith) tree (root z) m.stands)

        pub meets_now : {d far : ℕ} → get_or work k 0 ≡ 0 → v ≡ note_of n f → d ≡ depth_in (get_or work₂ z 0) → far ≡ further inside f
            → Frees code push c D w inside subject entries work work₂ most (Some (record { nodes = n; depth = d; reach = far }))
        meets_now {d} {far} zero-was ev ed ef =
            let dd : d ≡ capped (depth_of ent tree) = ed ∙ stands_deep code subject entries (drop 4096 work₂) work₂ (k + 2) (body_end code k) tree z stands₂ in
            let rr : far ≡ further inside (reach_of ent tree) = ef ∙ ap (further inside) m.reach in
            let few : n ≤ 4096 = let a = m.fits in let b = fr.few in omega arith in
            let nz : (z ≡ 0) → ⊥ = λ e. let r = root_here in omega arith in
            let new : Noted code subject entries work₂ k = record {
              note = note₂ ∙ ev ∙ ap₂ note_of m.size m.reach;
              few = rw (← m.size) few;
              close = rw (← m.reach) m.close;
              stands = rw root₂ stands₂;
            } in
            record {
              kept = kept₂;
              says = record {
                size = m.size ∙ sym size_of;
                some_nodes = rw m.size (nodes_positive ent tree);
                few_nodes = few;
                deep = dd ∙ ap capped (sym depth_of_lem);
                some_depth = rw dd (capped_positive _ (depth_positive_of ent tree));
                reach = rr ∙ sym reach_of_lem;
                close = rw ef (close_of f m.close);
                memos = memos_note code subject entries work work₂ (push + 4) c y k found kept₂.places low₂ high₂ (inr new) fr.memos;
                seen = ap (seen_at work₂) found ∙ ap not (ap (λ (x : ℕ). eqb x 0) root₂ ∙ ne_eqb z 0 nz);
                still = seen_still code subject entries work work₂ (push + 4) c y k found zero-was low₂ high₂;
              };
            }

        pub note_room : k + 1 < length (set work₁ k z)
        note_room = let r = room in let e = length-set work₁ k z in omega arith

        pub depth_room : z < length work₂
        depth_room =
            let e = length-set (set work₁ k z) (k + 1) v in
            let d = length-set work₁ k z in
            let l = k₁.long in
            let w = fr.scene.work_long in
            let q = root_small in
            omega arith
