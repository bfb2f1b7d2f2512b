-- The bodies of a PUSHI that were measured: found by their keys, and noted one at a time.
use mathlib.Core.Path.{◌≡◌, refl, ◌∙◌}
use mathlib.Core.Logic.{◌⊎◌, inl, inr}
use Prim.Native.Nat.{ℕ, zero, suc, ◌+◌, ◌≤◌, ◌<◌}
use native.Mathlib.Omega.{arith}
use mathlib.Core.Bool.{Bool, true, false, cond}
use mathlib.Core.Option.{Option, none, some}
use mathlib.Core.List.{List}
use lib.Dec.{eqb}
use lib.ListN.{length, get_or, set, drop, length-set}
use borrow.Author.Tests.{eq-eqb}
use Rattle.documents.proofs.Lists.{never}
use Rattle.instructions.specs.Bodies.{body_end, Readable, key_place, place_behind}
use Rattle.instructions.proofs.Bodies.{behind_low}
use Rattle.trees.specs.Trees.{nodes_of, reach_of}
use Rattle.links.specs.Links.{note_of}
use Rattle.links.specs.Nodewise.{seen_at}
use Rattle.links.specs.Standing.{entry_at, root, held, Stands}
use Rattle.links.specs.Sequences.{tree_at, keys_at, trees_at}
use Rattle.links.proofs.Keyed.{key_at, keys_apart}
use Rattle.measurer.specs.Linking.{forgotten}
use Rattle.measurer.specs.Measuring.{Kept, Memo, Memos}
use Rattle.measurer.proofs.Kept.{kept_none, kept_then, kept_set, set_here}
use Rattle.measurer.proofs.Standing.{stands_kept}

module _ (code subject entries : List ℕ) where
  -- a body's words and its key's are as they were
  memo_same : (work work' : List ℕ) (q : ℕ) → drop 4096 work' ≡ drop 4096 work → ((i : ℕ) → q ≤ i → i < body_end code q → get_or work' i 0 ≡ get_or work i 0)
      → Memo code subject entries work q → Memo code subject entries work' q
  memo_same work work' q e a (inl z) = inl (a q (omega arith) (omega arith) ∙ z)
  memo_same work work' q e a (inr n) =
      inr (record {
        note = a (q + 1) (omega arith) (omega arith) ∙ n.note;
        few = n.few;
        close = n.close;
        stands = rw (e, a q (omega arith) (omega arith))
            (stands_kept code subject entries (drop 4096 work) work work' (q + 2) (body_end code q) (q + 2) (body_end code q) (λ i l h. a i (omega arith) h) (omega arith) (omega arith)
            (tree_at code (q + 2) (body_end code q)) (root (get_or work q 0)) n.stands);
      })

  pub memos_same : (work work' : List ℕ) (q c : ℕ) → drop 4096 work' ≡ drop 4096 work → ((i : ℕ) → q ≤ i → get_or work' i 0 ≡ get_or work i 0)
      → Memos code subject entries work q c → Memos code subject entries work' q c
  memos_same work work' q zero e a m = tt
  memos_same work work' q (suc c) e a m =
      (memo_same work work' q e (λ i l h. a i l) m.0, memos_same work work' (body_end code q) c e (λ i l. a i (omega arith)) m.1)

  -- the body of a key
  pub memo_at : (work : List ℕ) (q c y k : ℕ) → key_place code q c y ≡ some k → Memos code subject entries work q c → Memo code subject entries work k
  unfolding key_place
  memo_at work q zero y k e m = never (cc)
  memo_at work q (suc c) y k e m = go (eqb (get_or code q 0) y) e (λ e. memo_at work (body_end code q) c y k e m.1)
    where
      go : (t : Bool) → cond t (some q) (key_place code (body_end code q) c y) ≡ some k
          → (key_place code (body_end code q) c y ≡ some k → Memo code subject entries work k) → Memo code subject entries work k
      go true e f = let z : q ≡ k = cc in rw z at m.0
      go false e f = f e

  -- it was measured, and the others are as they were
  pub memos_note : (work work' : List ℕ) (q c y k : ℕ) → key_place code q c y ≡ some k → drop 4096 work' ≡ drop 4096 work
      → ((i : ℕ) → i < k → get_or work' i 0 ≡ get_or work i 0) → ((i : ℕ) → body_end code k ≤ i → get_or work' i 0 ≡ get_or work i 0)
      → Memo code subject entries work' k → Memos code subject entries work q c → Memos code subject entries work' q c
  unfolding key_place
  memos_note work work' q zero y k e d a b n m = never (cc)
  memos_note work work' q (suc c) y k e d a b n m =
      go (eqb (get_or code q 0) y) e
      (λ e. memos_note work work' (body_end code q) c y k e d a b n m.1) (λ e. (key_at code (body_end code q) c y k e).low)
    where
      go : (t : Bool) → cond t (some q) (key_place code (body_end code q) c y) ≡ some k
          → (key_place code (body_end code q) c y ≡ some k → Memos code subject entries work' (body_end code q) c)
          → (key_place code (body_end code q) c y ≡ some k → body_end code q ≤ k) → Memos code subject entries work' q (suc c)
      go true e f l =
          let z : k ≡ q = cc in
          (rw z at n, memos_same work work' (body_end code q) c d (λ i h. b i (rw z h)) m.1)
      go false e f l = (memo_same work work' q d (λ i h j. a i (let x = l e in omega arith)) m.0, f e)

  -- at first none is
  forgotten_kept : (work : List ℕ) (q c : ℕ) → Readable code q c → length code ≤ 4096 → Kept q (place_behind code q c) work (forgotten code work q c)
  unfolding forgotten place_behind
  forgotten_kept work q zero r short = kept_none
  forgotten_kept work q (suc c) r short =
      let l = behind_low code (body_end code q) c in
      kept_then (kept_set {lo = q} {hi = suc q} work q 0 (omega arith) (omega arith) (let h = r.0 in omega arith)) (forgotten_kept (set work q 0) (body_end code q) c r.1 short)
      (omega arith) (omega arith) (omega arith) (omega arith)

  memos_forgotten : (work : List ℕ) (q c : ℕ) → length code ≤ length work → Readable code q c → length code ≤ 4096
      → Memos code subject entries (forgotten code work q c) q c
  unfolding forgotten
  memos_forgotten work q zero room r short = tt
  memos_forgotten work q (suc c) room r short =
      let k = forgotten_kept (set work q 0) (body_end code q) c r.1 short in
      let e = length-set work q 0 in (
        inl (k.low q (omega arith) ∙ set_here work q 0 (let h = r.0 in omega arith)),
        memos_forgotten (set work q 0) (body_end code q) c (omega arith) r.1 short,
      )

  pub memos_none : (work : List ℕ) (q c : ℕ) → length code ≤ length work → Readable code q c → length code ≤ 4096
      → Memos code subject entries (forgotten code work q c) q c × Kept q (place_behind code q c) work (forgotten code work q c)
  memos_none work q c room r short = (memos_forgotten work q c room r short, forgotten_kept work q c r short)

  -- bodies that were measured stand
  pub memos_stand : (work : List ℕ) (lo hi q c : ℕ) → lo ≤ q → place_behind code q c ≤ hi → Memos code subject entries work q c
      → Stands code subject entries (drop 4096 work) lo hi work (trees_at code q c) (held (keys_at code q c) q)
  unfolding keys_at trees_at place_behind
  memos_stand work lo hi q zero l h m = tt
  memos_stand work lo hi q (suc c) l h m =
      let b = behind_low code (body_end code q) c in (
        record { low = l; high = omega arith; key = refl },
        as_noted m.0,
        memos_stand work lo hi (body_end code q) c (omega arith) h m.1,
      )
    where
      as_noted : Memo code subject entries work q
          → (get_or work q 0 ≡ 0)
          ⊎ ((get_or work (q + 1) 0
          ≡ note_of (nodes_of (entry_at subject entries) (tree_at code (q + 2) (body_end code q))) (reach_of (entry_at subject entries) (tree_at code (q + 2) (body_end code q))))
          × Stands code subject entries (drop 4096 work) (q + 2) (body_end code q) work (tree_at code (q + 2) (body_end code q)) (root (get_or work q 0)))
      as_noted (inl z) = inl z
      as_noted (inr n) = inr (n.note, n.stands)

  -- what was measured stays so
  pub seen_still : (work work' : List ℕ) (q c y k : ℕ) → key_place code q c y ≡ some k → get_or work k 0 ≡ 0
      → ((i : ℕ) → i < k → get_or work' i 0 ≡ get_or work i 0) → ((i : ℕ) → body_end code k ≤ i → get_or work' i 0 ≡ get_or work i 0)
      → (x : ℕ) → seen_at work (key_place code q c x) ≡ true → seen_at work' (key_place code q c x) ≡ true
  seen_still work work' q c y k e z a b x h = go (key_place code q c x) refl h
    where
      go : (o : Option ℕ) → key_place code q c x ≡ o → seen_at work o ≡ true → seen_at work' o ≡ true
      go none f h = refl
      go (some j) f h = apart (keys_apart code q c y x k j e f)
        where
          apart : (k ≡ j) ⊎ ((body_end code k ≤ j) ⊎ (body_end code j ≤ k)) → seen_at work' (some j) ≡ true
          apart (inl p) = never (let w : get_or work j 0 ≡ 0 = rw (← p) z in let n = rw (eq-eqb (get_or work j 0) 0 w) at h in cc)
          apart (inr (inl p)) = rw (b j p) h
          apart (inr (inr p)) = rw (a j (omega arith)) h
