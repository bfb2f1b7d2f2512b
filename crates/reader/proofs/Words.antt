-- Words of bytes, at a place and in the code's arithmetic.
use mathlib.Core.Path.{◌≡◌, refl, sym, ap, ◌∙◌}
use mathlib.Core.Bool.{cond}
use mathlib.Core.List.{List, [], ◌∷◌, ◌++◌}
use Prim.Native.Nat.{ℕ, zero, suc, ◌+◌, ◌-◌, ◌*◌, ◌/◌, ◌≤◌, ◌<◌}
use native.Mathlib.Nat.{add-zero, zero-add, add_assoc}
use native.Mathlib.Numerals.{add-one, add-two, add-three}
use native.Mathlib.Omega.{arith}
use lib.Dec.{leb}
use Rattle.std.specs.Prelude.{Some, None}
use lib.ListN.{length, drop, set, length-drop, length-take}
use Rattle.std.proofs.lemmas.List.{append-nil, append_assoc, drop_all, take_at, drop_at}
use borrow.Rule.Slice.PartMut.{put_mid}
use lib.Seq.{sets, drop-cons, drop-drop, get_or-drop}
use Rattle.std.proofs.lemmas.List.Edits.{sets-eq}
use borrow.Author.Tests.{le-leb, lt-leb}
use Rattle.documents.specs.Calls.{words_of}
use Rattle.reader.specs.Reader.{word_at, count_in, words_from}

-- ---- A word

word_at_drop : (bs : List ℕ) (at k : ℕ) → word_at (drop at bs) k ≡ word_at bs (at + k)
unfolding word_at
word_at_drop bs at k = simp (get_or-drop, add_assoc)

word_at_drop_here : (bs : List ℕ) (at : ℕ) → word_at (drop at bs) 0 ≡ word_at bs at
word_at_drop_here bs at = rw (word_at_drop bs at 0, add-zero)

-- ---- A count

pub count_in_short : (limit room : ℕ) (bs : List ℕ) (at : ℕ) → length bs < at + 4 → count_in limit room (drop at bs) ≡ None
unfolding count_in
count_in_short limit room bs at h = rw (lt-leb 4 (length (drop at bs)) (simp length-drop (omega arith)))

module _ (limit room : ℕ) (bs : List ℕ) (at n : ℕ) (there : at + 4 ≤ length bs) (e : n ≡ word_at bs at) where
  count_in_there : count_in limit room (drop at bs) ≡ cond (leb n limit) (cond (leb n room) (Some n) None) None
  unfolding count_in
  count_in_there = rw (le-leb 4 (length (drop at bs)) (simp length-drop (omega arith)), word_at_drop_here bs at, e)

  pub count_in_over_limit : limit < n → count_in limit room (drop at bs) ≡ None
  count_in_over_limit h = rw (count_in_there, lt-leb n limit h)

  pub count_in_over_room : n ≤ limit → room < n → count_in limit room (drop at bs) ≡ None
  count_in_over_room p h = rw (count_in_there, le-leb n limit p, lt-leb n room h)

  pub count_in_within : n ≤ limit → n ≤ room → count_in limit room (drop at bs) ≡ Some n
  count_in_within p q = rw (count_in_there, le-leb n limit p, le-leb n room q)

-- ---- Words

words_from_next : (bs : List ℕ) (at n : ℕ) → at + 4 ≤ length bs → words_from bs at (suc n) ≡ word_at bs at ∷ words_from bs (at + 4) n
unfolding word_at
words_from_next bs at n h =
    rw (drop-cons bs at 0 (omega arith), ← (add-one at), drop-cons bs (at + 1) 0 (omega arith), next 1, drop-cons bs (at + 2) 0 (omega arith), next 2, drop-cons bs (at + 3) 0 (omega arith), next 3, four)
  where
    four : 4 * suc n ≡ suc (suc (suc (suc (4 * n))))
    four = omega arith

    next : (k : ℕ) → suc (at + k) ≡ at + (k + 1)
    next k = omega arith

length_words_of : (bs : List ℕ) → length (words_of bs) ≡ length bs / 4
length_words_of [] = refl
length_words_of (a ∷ []) = refl
length_words_of (a ∷ b ∷ []) = refl
length_words_of (a ∷ b ∷ c ∷ []) = refl
length_words_of (a ∷ b ∷ c ∷ d ∷ bs) = omega (arith, length_words_of bs)

pub length_words_from : (bs : List ℕ) (at n : ℕ) → at + 4 * n ≤ length bs → length (words_from bs at n) ≡ n
length_words_from bs at n h = rw (length_words_of, length-take, length-drop) (omega arith)

pub words_from_more : (bs : List ℕ) (at m n : ℕ) → at + 4 * (m + n) ≤ length bs → words_from bs at (m + n) ≡ words_from bs at m ++ words_from bs (at + 4 * m) n
words_from_more bs at zero n h = rw (zero-add n, add-zero at)
words_from_more bs at (suc m) n h =
    let e : suc m + n ≡ suc (m + n) = omega arith in
    let g : at + 4 + 4 * m ≡ at + 4 * suc m = omega arith in
    rw (e, words_from_next bs at (m + n) (omega arith), words_from_next bs at m (omega arith), words_from_more bs (at + 4) m n (omega arith), g)

-- ---- Words written in parts

-- m words and then n more
sets_more : (bs : List ℕ) (at : ℕ) (table : List ℕ) (i m n : ℕ) → at + 4 * (m + n) ≤ length bs
    → sets table i (words_from bs at (m + n)) ≡ sets (sets table i (words_from bs at m)) (i + m) (words_from bs (at + 4 * m) n)
sets_more bs at table i zero n h = rw (zero-add n, add-zero i, add-zero at)
sets_more bs at table i (suc m) n h =
    let e : suc m + n ≡ suc (m + n) = omega arith in
    let f : suc i + m ≡ i + suc m = omega arith in
    let g : at + 4 + 4 * m ≡ at + 4 * suc m = omega arith in
    rw (e, words_from_next bs at (m + n) (omega arith), words_from_next bs at m (omega arith), sets_more bs (at + 4) (set table i (word_at bs at)) (suc i) m n (omega arith), f, g)

-- one word more
pub sets_one_more : (bs : List ℕ) (at : ℕ) (table : List ℕ) (i : ℕ) → at + 4 * (i + 1) ≤ length bs
    → sets table 0 (words_from bs at (i + 1)) ≡ set (sets table 0 (words_from bs at i)) i (word_at bs (at + 4 * i))
sets_one_more bs at table i h = sets_more bs at table 0 i 1 h ∙ rw (words_from_next bs (at + 4 * i) 0 (omega arith), zero-add i)

-- four words more
pub sets_four_more : (bs : List ℕ) (at : ℕ) (table : List ℕ) (k : ℕ) → at + 4 * (4 * (k + 1)) ≤ length bs
    → sets table 0 (words_from bs at (4 * (k + 1))) ≡ sets (sets table 0 (words_from bs at (4 * k))) (4 * k) (words_from bs (at + 4 * (4 * k)) 4)
sets_four_more bs at table k h =
    let e : 4 * (k + 1) ≡ 4 * k + 4 = omega arith in
    rw e (sets_more bs at table 0 (4 * k) 4 (omega arith) ∙ rw (zero-add (4 * k)))

-- as many words as a table has
pub words_fill : (bs : List ℕ) (at : ℕ) (table : List ℕ) → at + 4 * length table ≤ length bs
    → sets table 0 (words_from bs at (length table)) ≡ words_from bs at (length table)
words_fill bs at table h =
    let n = length_words_from bs at (length table) h in
    sets-eq (words_from bs at (length table)) table 0 (omega arith)
    ∙ rw (n, zero-add (length table), drop_all (length table) table (omega arith), append-nil (words_from bs at (length table)))

-- the first m of n words in a table, and then the others behind them
pub words_parts : (bs : List ℕ) (at : ℕ) (table : List ℕ) (m n : ℕ) → m ≤ n → n ≤ length table → at + 4 * n ≤ length bs
    → put_mid m (n - m) (words_from bs at m ++ drop m table) (words_from bs (at + 4 * m) (n - m)) ≡ sets table 0 (words_from bs at n)
words_parts bs at table m n p q h =
    let l = length_words_from bs at n h in
    let first = length_words_from bs at m (omega arith) in
    let e : m + (n - m) ≡ n = omega arith in
    let more = rw e at (words_from_more bs at m (n - m) (omega arith)) in
    let rest : drop (n - m) (drop m table) ≡ drop n table = drop-drop (n - m) m table ∙ ap (λ k. drop k table) e in
    rw (take_at (words_from bs at m) (drop m table) m first, drop_at (words_from bs at m) (drop m table) m first, rest)
    (sym (sets-eq (words_from bs at n) table 0 (omega arith) ∙ rw (l, zero-add n, more, append_assoc)))

-- four words by four stores, in the code's form
pub sets_four : (bs : List ℕ) (at : ℕ) (table : List ℕ) (i : ℕ) → at + 16 ≤ length bs
    → set (set (set (set table i (word_at bs at)) (i + 1) (word_at bs (at + 4))) (i + 2) (word_at bs (at + 8))) (i + 3) (word_at bs (at + 12)) ≡ sets table i (words_from bs at 4)
sets_four bs at table i h =
    rw (words_from_next bs at 3 (omega arith), words_from_next bs (at + 4) 2 (omega arith), add_assoc at 4 4, words_from_next bs (at + 8) 1 (omega arith), add_assoc at 8 4, words_from_next bs (at + 12) 0 (omega arith), add-one i, add-two i, add-three i)
