-- The current terms in their array: what a turn puts in the top's place.
use mathlib.Core.Path.{◌≡◌, refl, sym, ap, ◌∙◌}
use Prim.Native.Nat.{ℕ, zero, suc, ◌+◌, ◌-◌, ◌≤◌, ◌<◌}
use native.Mathlib.Omega.{arith}
use mathlib.Core.Bool.{true}
use mathlib.Core.List.{List, [], ◌∷◌, ◌++◌}
use lib.ListN.{length, get_or, take, drop, replicate, length-drop, length-replicate, length-append, get_or-replicate}
use lib.Seq.{take_at, length-take-le, get_or-take, get_or-drop, get_or-append-add}
use borrow.Author.Tests.{ne_eqb}
use Rattle.documents.specs.Passing.{all_below, times}
use Rattle.indices.specs.Sets.{gathered}
use Rattle.turns.specs.Held.{stacked}
use Rattle.checker.specs.Matched.{list_behind, Listing}

-- ---- the guard

module _ (t : List ℕ) (a : ℕ) where
  pub guard_none : (get_or t a 0 ≡ 3 → ⊥) → 0 ≡ gathered 0 (list_behind t a)
  unfolding list_behind gathered
  guard_none e = rw (ne_eqb (get_or t a 0) 3 e)

  pub guard_list : (r : ℕ) → get_or t a 0 ≡ 3 → r ≡ gathered 0 (take (a + 2 + get_or t (a + 1) 0 - (a + 2)) (drop (a + 2) t)) → r ≡ gathered 0 (list_behind t a)
  unfolding list_behind
  guard_list r e q =
      let z : a + 2 + get_or t (a + 1) 0 - (a + 2) ≡ get_or t (a + 1) 0 = omega arith in
      rw z at q ∙ rw e

  pub listing_small : Listing t a → get_or t a 0 ≡ 3 → all_below 64 (take (a + 2 + get_or t (a + 1) 0 - (a + 2)) (drop (a + 2) t)) ≡ true
  listing_small h e = let z : a + 2 + get_or t (a + 1) 0 - (a + 2) ≡ get_or t (a + 1) 0 = omega arith in rw z (h e).1

-- ---- the stack

pub stacked_length : (n : ℕ) (ds : List ℕ) → length (stacked n ds) ≡ n
unfolding stacked
stacked_length zero ds = refl
stacked_length (suc n) ds = ap suc (stacked_length n ds)

pub stacked_top : (n : ℕ) (ds : List ℕ) → 0 < n → stacked n ds ≡ get_or ds (n - 1) 0 ∷ stacked (n - 1) ds
unfolding stacked
stacked_top zero ds h = absurd (omega arith)
stacked_top (suc n) ds h = let e : suc n - 1 ≡ n = omega arith in rw e

stacked_same : (n : ℕ) (xs ys : List ℕ) → ((i : ℕ) → i < n → get_or xs i 0 ≡ get_or ys i 0) → stacked n xs ≡ stacked n ys
unfolding stacked
stacked_same zero xs ys h = refl
stacked_same (suc n) xs ys h = rw (h n (omega arith), stacked_same n xs ys (λ i l. h i (omega arith)))

-- n terms of depth d above the first k
abbrev pub replaced : List ℕ → ℕ → ℕ → ℕ → List ℕ
replaced ds k n d = take k ds ++ (replicate n d ++ drop n (drop k ds))

module _ (ds : List ℕ) (k n d : ℕ) (h : k + n ≤ length ds) where
  front : length (take k ds) ≡ k
  front = length-take-le k ds (omega arith)

  below : (i : ℕ) → i < k → get_or (replaced ds k n d) i 0 ≡ get_or ds i 0
  below i l =
      sym (get_or-take k (replaced ds k n d) i 0 l)
      ∙ ap (λ (xs : List ℕ). get_or xs i 0) (take_at (take k ds) (replicate n d ++ drop n (drop k ds)) k front)
      ∙ get_or-take k ds i 0 l

  within : (i : ℕ) → i < n → get_or (replaced ds k n d) (k + i) 0 ≡ d
  within i l =
      ap (λ (j : ℕ). get_or (replaced ds k n d) (j + i) 0) (sym front)
      ∙ get_or-append-add (take k ds) (replicate n d ++ drop n (drop k ds)) i 0
      ∙ sym (get_or-take n (replicate n d ++ drop n (drop k ds)) i 0 l)
      ∙ ap (λ (xs : List ℕ). get_or xs i 0) (take_at (replicate n d) (drop n (drop k ds)) n (length-replicate n d))
      ∙ get_or-replicate n i d 0 l

  pub stacked_replaced : stacked (k + n) (replaced ds k n d) ≡ times n d (stacked k ds)
  unfolding stacked
  stacked_replaced = go n (omega arith)
    where
      go : (m : ℕ) → m ≤ n → stacked (k + m) (replaced ds k n d) ≡ times m d (stacked k ds)
      go zero l = let z : k + 0 ≡ k = omega arith in rw z (stacked_same k (replaced ds k n d) ds below)
      go (suc m) l = let z : k + suc m ≡ suc (k + m) = omega arith in rw (z, within m (omega arith), go m (omega arith))

  pub length_replaced : length (replaced ds k n d) ≡ length ds
  length_replaced =
      let a = length-append (take k ds) (replicate n d ++ drop n (drop k ds)) in
      let b = length-append (replicate n d) (drop n (drop k ds)) in
      let c = length-drop n (drop k ds) in
      let f = length-drop k ds in
      let g = length-replicate n d in
      let p = front in
      omega arith

-- what a part that was lent and filled makes of the whole
pub put_replaced : (ds ys : List ℕ) (k n j d : ℕ) → k + n ≤ length ds → j ≡ n → ys ≡ replicate (length (take j (drop k ds))) d → take k ds ++ (ys ++ drop j (drop k ds)) ≡ replaced ds k n d
put_replaced ds ys k n j d h e q =
    let z : length (take n (drop k ds)) ≡ n = length-take-le n (drop k ds) (rw (length-drop k ds) (omega arith)) in
    rw (q, e, z)

-- ---- depths within the limit

pub record Low (ds : List ℕ) : Type 0 where
  pub low : (i : ℕ) → get_or ds i 0 ≤ 63

low_append : {xs ys : List ℕ} → Low xs → Low ys → Low (xs ++ ys)
low_append {xs} {ys} p q = record { low = λ i. go xs i p.low }
  where
    go : (xs : List ℕ) (i : ℕ) → ((i : ℕ) → get_or xs i 0 ≤ 63) → get_or (xs ++ ys) i 0 ≤ 63
    go [] i h = q.low i
    go (x ∷ xs) zero h = h 0
    go (x ∷ xs) (suc i) h = go xs i (λ j. h (suc j))

low_take : {xs : List ℕ} (n : ℕ) → Low xs → Low (take n xs)
low_take {xs} n p = record { low = λ i. go n xs i p.low }
  where
    go : (n : ℕ) (xs : List ℕ) (i : ℕ) → ((i : ℕ) → get_or xs i 0 ≤ 63) → get_or (take n xs) i 0 ≤ 63
    go zero xs i h = omega arith
    go (suc n) [] i h = omega arith
    go (suc n) (x ∷ xs) zero h = h 0
    go (suc n) (x ∷ xs) (suc i) h = go n xs i (λ j. h (suc j))

low_drop : {xs : List ℕ} (n : ℕ) → Low xs → Low (drop n xs)
low_drop {xs} n p = record { low = λ i. rw (get_or-drop n xs i 0) (p.low (n + i)) }

pub low_replicate : (n : ℕ) {d : ℕ} → d ≤ 63 → Low (replicate n d)
low_replicate n {d} h = record { low = λ i. go n i }
  where
    go : (n i : ℕ) → get_or (replicate n d) i 0 ≤ 63
    go zero i = omega arith
    go (suc n) zero = h
    go (suc n) (suc i) = go n i

pub low_replaced : {ds : List ℕ} (k n : ℕ) {d : ℕ} → Low ds → d ≤ 63 → Low (replaced ds k n d)
low_replaced k n p h = low_append (low_take k p) (low_append (low_replicate n h) (low_drop n (low_drop k p)))
