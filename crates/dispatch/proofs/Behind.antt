-- The words of a node and of the node behind it: they are those of the term that begins there and of its first argument, if it has one; and both are
-- the words of nodes. Two sets of rules without which none matches there meet in another such set.
use mathlib.Core.Path.{◌≡◌, refl, sym, ap, ◌∙◌}
use mathlib.Core.Logic.{◌⊎◌, inl, inr, ⊎_elim}
use Prim.Native.Nat.{ℕ, zero, suc, ◌+◌, ◌/◌, ◌%◌, ◌^◌, ◌≤◌, ◌<◌, min}
use native.Mathlib.Omega.{arith}
use mathlib.Core.Bool.{Bool, true, false, ◌&&◌}
use mathlib.Core.Option.{some}
use mathlib.Core.List.{List, [], ◌∷◌, ◌++◌, append_assoc}
use lib.Dec.{eqb}
use lib.ListN.{length, get_or, get_elem?, drop, length-drop}
use lib.Seq.{get_or-drop, drop_at}
use lib.Bits.{bit_and, and_step, and_shr, and_le_l}
use Rattle.documents.specs.Limits.{argument_limit}
use Rattle.documents.specs.Terms.{Var, Sym, Meta, Abst, Term}
use Rattle.documents.specs.Tables.{table_of, terms_in, subterm}
use Rattle.documents.specs.Instructions.{Program}
use Rattle.documents.specs.Machine.{fails, run}
use Rattle.documents.proofs.Tables.{tables_of, terms_in_holds, subterm_place}
use Rattle.tables.specs.Parts.{held, front, Begins}
use Rattle.tables.proofs.Parts.{opened, in_table}
use Rattle.tables.proofs.Fronts.{root}
use Rattle.indices.specs.Sets.{has}
use Rattle.dispatch.specs.Buckets.{bucket_of, root_word, root_count}
use Rattle.dispatch.specs.Sorted.{Sorted, Candidates}

-- ---- The words of a term that begins there

-- whole terms, the first one's words first
table_first : (part : List ℕ) → Begins 1 part → (ws : List ℕ) × (part ≡ table_of (front part) ++ ws)
unfolding front
table_first part b = go (held part) refl b.enough b.whole
  where
    go : (us : List Term) → held part ≡ us → 1 ≤ length us → terms_in part ≡ some us → (ws : List ℕ) × (part ≡ table_of (front part) ++ ws)
    go [] q l e = absurd (omega arith)
    go (u ∷ us) q l e = (tables_of us, sym (terms_in_holds part (u ∷ us) e).words ∙ rw q)

root_of : (t : Term) (ws : List ℕ) → (get_or (table_of t ++ ws) 0 0 ≡ root_word t) × (get_or (table_of t ++ ws) 1 0 ≡ root_count t)
root_of (Var x) ws = (refl, refl)
root_of (Sym s ts) ws = (refl, refl)
root_of (Meta z ts) ws = (refl, refl)
root_of (Abst t) ws = (refl, refl)

second_of : (t u : Term) (ws : List ℕ) → subterm t 1 ≡ some u → (get_or (table_of t ++ ws) 2 0 ≡ root_word u) × (get_or (table_of t ++ ws) 3 0 ≡ root_count u)
second_of t u ws e =
    let p = subterm_place t 1 u e in
    let w : table_of t ++ ws ≡ p.before ++ (table_of u ++ (p.behind ++ ws)) = ap (λ (l : List ℕ). l ++ ws) p.whole ∙ simp append_assoc in
    let d : drop 2 (table_of t ++ ws) ≡ table_of u ++ (p.behind ++ ws) = ap (drop 2) w ∙ drop_at p.before (table_of u ++ (p.behind ++ ws)) 2 p.start in
    let r = root_of u (p.behind ++ ws) in
    (sym (get_or-drop 2 (table_of t ++ ws) 0 0) ∙ rw d r.0, sym (get_or-drop 2 (table_of t ++ ws) 1 0) ∙ rw d r.1)

module _ (plan : List ℕ) (at : ℕ) (b : Begins 1 (drop at plan)) where
  word_at : (i : ℕ) → get_or (drop at plan) i 0 ≡ get_or plan (at + i) 0
  word_at i = get_or-drop at plan i 0

  pub root_inside : at + 2 ≤ length plan
  root_inside = in_table plan at b (omega arith)

  pub root_narrow : get_or plan (at + 1) 0 ≤ argument_limit
  root_narrow = rw (← word_at 1) (root b).narrow

  root_words : (get_or plan at 0 ≡ root_word (front (drop at plan))) × (get_or plan (at + 1) 0 ≡ root_count (front (drop at plan)))
  root_words =
      let (ws, e) = table_first (drop at plan) b in
      let r = root_of (front (drop at plan)) ws in
      let z : at + 0 ≡ at = omega arith in
      let w : get_or plan at 0 ≡ get_or (drop at plan) 0 0 = ap (λ (i : ℕ). get_or plan i 0) (sym z) ∙ sym (word_at 0) in
      (w ∙ ap (λ (l : List ℕ). get_or l 0 0) e ∙ r.0, sym (word_at 1) ∙ ap (λ (l : List ℕ). get_or l 1 0) e ∙ r.1)

  second_words : (u : Term) → subterm (front (drop at plan)) 1 ≡ some u → (get_or plan (at + 2) 0 ≡ root_word u) × (get_or plan (at + 3) 0 ≡ root_count u)
  second_words u h =
      let (ws, e) = table_first (drop at plan) b in
      let r = second_of (front (drop at plan)) u ws h in
      (sym (word_at 2) ∙ ap (λ (l : List ℕ). get_or l 2 0) e ∙ r.0, sym (word_at 3) ∙ ap (λ (l : List ℕ). get_or l 3 0) e ∙ r.1)

  -- where two words more stand behind a node, a term begins there
  behind_begins : at + 4 ≤ length plan → Begins 1 (drop (at + 2) plan)
  behind_begins h =
      let w = (opened plan at b (omega arith)).0 in
      record { whole = w; enough = go (held (drop (at + 2) plan)) w }
    where
      go : (us : List Term) → terms_in (drop (at + 2) plan) ≡ some us → 1 ≤ length us
      go [] e = let z = ap length (terms_in_holds (drop (at + 2) plan) [] e).words in absurd (omega (arith, length-drop (at + 2) plan))
      go (u ∷ us) e = omega arith

  pub behind_narrow : at + 4 ≤ length plan → get_or plan (at + 3) 0 ≤ argument_limit
  behind_narrow h =
      let z : at + 2 + 1 ≡ at + 3 = omega arith in
      rw (← z, ← get_or-drop (at + 2) plan 1 0) (root (behind_begins h)).narrow

-- ---- The rules that are left

and_bit : (m n i : ℕ) → has (bit_and m n) i ≡ has m i && has n i
and_bit m n i = rw (and_shr m n i) (go (m / 2 ^ i) (n / 2 ^ i))
  where
    bits : (x y : ℕ) → x < 2 → y < 2 → eqb (min x y) 1 ≡ eqb x 1 && eqb y 1
    bits zero zero p q = refl
    bits zero (suc zero) p q = refl
    bits (suc zero) zero p q = refl
    bits (suc zero) (suc zero) p q = refl
    bits zero (suc (suc y)) p q = absurd (omega arith)
    bits (suc zero) (suc (suc y)) p q = absurd (omega arith)
    bits (suc (suc x)) y p q = absurd (omega arith)

    go : (x y : ℕ) → eqb (bit_and x y % 2) 1 ≡ eqb (x % 2) 1 && eqb (y % 2) 1
    go x y =
        let s = and_step x y in
        let e : bit_and x y % 2 ≡ min (x % 2) (y % 2) = omega arith in
        rw e (bits (x % 2) (y % 2) (omega arith) (omega arith))

one_false : (p q : Bool) → p && q ≡ false → (p ≡ false) ⊎ (q ≡ false)
one_false true q e = inr e
one_false false q e = inl refl

module _ (plan : List ℕ) (at : ℕ) (b : Begins 1 (drop at plan)) {roots seconds : List ℕ} {r : ℕ} (e : r ≡ bucket_of (get_or plan at 0) (get_or plan (at + 1) 0))
    (cs : List Program) (s : Sorted cs roots seconds) where
  root_misses : (i : ℕ) (c : Program) → get_elem? cs i ≡ some c → has (get_or roots r 0) i ≡ false → run c (front (drop at plan)) ≡ fails
  root_misses i c l h =
      let (w, k) = root_words plan at b in
      s.root i c (front (drop at plan)) l (rw (e, w, k) at h)

  pub candidates_root : Candidates cs (front (drop at plan)) (get_or roots r 0)
  candidates_root = record { low = s.roots_are.low r; others = root_misses }

  pub candidates_none : get_or roots r 0 ≡ 0 → Candidates cs (front (drop at plan)) 0
  candidates_none z = rw z at candidates_root

  pub candidates_both : {q : ℕ} → q ≡ bucket_of (get_or plan (at + 2) 0) (get_or plan (at + 3) 0)
      → Candidates cs (front (drop at plan)) (bit_and (get_or roots r 0) (get_or seconds q 0))
  candidates_both {q} f = record {
    low = let l = s.roots_are.low r in omega (arith, and_le_l (get_or roots r 0) (get_or seconds q 0));
    others = λ i c l h. ⊎_elim
        (root_misses i c l)
        (λ g. s.second i c (front (drop at plan)) (get_or plan (at + 2) 0) (get_or plan (at + 3) 0) l (second_words plan at b) (rw f at g))
        (one_false (has (get_or roots r 0) i) (has (get_or seconds q 0) i) (sym (and_bit (get_or roots r 0) (get_or seconds q 0) i) ∙ h));
  }
