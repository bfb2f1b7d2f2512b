-- A CHECK's list, the indices below n that are not among the arguments: it has at most n indices, all below n, and with the arguments it covers
-- every index below n. With distinct arguments below n it has n indices.
use mathlib.Core.Path.{◌≡◌, refl, sym, ap, ◌∙◌}
use Prim.Native.Nat.{ℕ, zero, suc, ◌+◌, ◌≤◌, ◌<◌}
use native.Mathlib.Omega.{arith}
use mathlib.Core.Bool.{Bool, true, false, not, ◌&&◌, ◌||◌, cond}
use mathlib.Core.List.{List, [], ◌∷◌, ◌++◌}
use lib.Dec.{T, eqb, leb, ltb}
use lib.ListN.{length, length-append}
use borrow.Author.Tests.{lt-ltb, lt-leb, eqb-true, eqb-false, ne_eqb}
use Rattle.documents.specs.Lists.{every, keep, member, up_to}
use Rattle.documents.specs.Passing.{covers, all_below}
use Rattle.documents.proofs.Lists.{T_of, off, of_and, and_of, case, every_append}
use Rattle.kahrs.proofs.Places.{Distinct, Under, unlisted_covered}

-- the indices below n that are not among l, rising
abbrev pub unlisted : ℕ → List ℕ → List ℕ
unlisted n l = keep (λ i. not (member l i)) (up_to n)

pub length_up_to : (n : ℕ) → length (up_to n) ≡ n
length_up_to zero = refl
length_up_to (suc n) = let h = length_up_to n in rw (length-append (up_to n) (n ∷ [])) (omega arith)

length_keep : {A : Type 0} (p : A → Bool) (l : List A) → length (keep p l) ≤ length l
length_keep p [] = omega arith
length_keep p (a ∷ l) =
    let h = length_keep p l in
    case (λ q. length (cond q (a ∷ keep p l) (keep p l)) ≤ suc (length l)) (p a) (λ t. omega arith) (λ t. omega arith)

pub length_unlisted : (n : ℕ) (l : List ℕ) → length (unlisted n l) ≤ n
length_unlisted n l = let h = length_keep (λ i. not (member l i)) (up_to n) in let k = length_up_to n in omega arith

every_up_to : (p : ℕ → Bool) (n : ℕ) → ((i : ℕ) → i < n → T (p i)) → T (every p (up_to n))
every_up_to p zero h = tt
every_up_to p (suc n) h =
    rw (every_append p (up_to n) (n ∷ []))
    (and_of (every p (up_to n)) (p n && true) (every_up_to p n (λ i k. h i (omega arith))) (and_of (p n) true (h n (omega arith)) tt))

every_keep : {A : Type 0} (p q : A → Bool) (l : List A) → T (every p l) → T (every p (keep q l))
every_keep p q [] h = tt
every_keep p q (a ∷ l) h =
    let (f, g) = of_and (p a) (every p l) h in
    let k = every_keep p q l g in
    case (λ r. T (every p (cond r (a ∷ keep q l) (keep q l)))) (q a) (λ t. and_of (p a) (every p (keep q l)) f k) (λ t. k)

pub unlisted_below : (n : ℕ) (l : List ℕ) → T (all_below n (unlisted n l))
unlisted_below n l = every_keep (λ x. ltb x n) (λ i. not (member l i)) (up_to n) (every_up_to (λ x. ltb x n) n (λ i h. T_of (ltb i n) (lt-ltb i n h)))

pub unlisted_covers : (n : ℕ) (l : List ℕ) → T (covers n (unlisted n l) l)
unlisted_covers n l = every_up_to (λ i. member (unlisted n l) i || member l i) n (λ i h. go (member (unlisted n l) i) (member l i) (leb n i) (unlisted_covered n l i) (lt-leb n i h))
  where
    go : (u m q : Bool) → not u ≡ m || q → q ≡ false → T (u || m)
    go true m q e f = tt
    go false true q e f = tt
    go false false q e f = T_of false (sym f ∙ sym e)

pub under_below : (n : ℕ) (l : List ℕ) → Under n l → T (all_below n l)
under_below n [] h = tt
under_below n (a ∷ l) h = and_of (ltb a n) (all_below n l) (T_of (ltb a n) (lt-ltb a n h.0)) (under_below n l h.1)

-- ---- How many there are

keep_append : {A : Type 0} (p : A → Bool) (l m : List A) → keep p (l ++ m) ≡ keep p l ++ keep p m
keep_append p [] m = refl
keep_append p (a ∷ l) m = rw (keep_append p l m) (go (p a))
  where
    go : (q : Bool) → cond q (a ∷ (keep p l ++ keep p m)) (keep p l ++ keep p m) ≡ cond q (a ∷ keep p l) (keep p l) ++ keep p m
    go true = refl
    go false = refl

-- the numbers below n for which the test holds
abbrev tally : (ℕ → Bool) → ℕ → ℕ
tally p n = length (keep p (up_to n))

tally_next : (p : ℕ → Bool) (n : ℕ) → tally p (suc n) ≡ tally p n + length (cond (p n) (n ∷ []) [])
tally_next p n = rw (keep_append p (up_to n) (n ∷ [])) (length-append (keep p (up_to n)) (keep p (n ∷ [])))

tally_all : (n : ℕ) → tally (λ i. true) n ≡ n
tally_all zero = refl
tally_all (suc n) = let h = tally_all n in let e = tally_next (λ i. true) n in omega arith

-- one number more that is listed: it makes no difference below it ..
tally_below : (m : ℕ → Bool) (a n : ℕ) → n ≤ a → tally (λ i. not (eqb a i || m i)) n ≡ tally (λ i. not (m i)) n
tally_below m a zero h = refl
tally_below m a (suc n) h =
    let r = tally_below m a n (omega arith) in
    rw (tally_next (λ i. not (eqb a i || m i)) n, tally_next (λ i. not (m i)) n, ne_eqb a n (λ e. omega arith), r)

-- .. and one above it, if it was not listed yet
tally_less : (m : ℕ → Bool) (a n : ℕ) → m a ≡ false → a < n → tally (λ i. not (eqb a i || m i)) n + 1 ≡ tally (λ i. not (m i)) n
tally_less m a zero e h = absurd (omega arith)
tally_less m a (suc n) e h =
    rw (tally_next (λ i. not (eqb a i || m i)) n, tally_next (λ i. not (m i)) n) (go (eqb a n) refl (λ k. tally_less m a n e k))
  where
    go : (q : Bool) → eqb a n ≡ q → (a < n → tally (λ i. not (eqb a i || m i)) n + 1 ≡ tally (λ i. not (m i)) n)
        → tally (λ i. not (eqb a i || m i)) n + length (cond (not (q || m n)) (n ∷ []) []) + 1 ≡ tally (λ i. not (m i)) n + length (cond (not (m n)) (n ∷ []) [])
    go true q r =
        let i = eqb-true a n q in
        let j : m n ≡ false = ap m (sym i) ∙ e in
        let k = tally_below m a n (omega arith) in
        rw j (omega arith)
    go false q r = let ne = eqb-false a n q in let k = r (omega arith) in omega arith

-- those listed and those not are all, where the list is of distinct numbers
pub unlisted_others : (n : ℕ) (l : List ℕ) → Distinct l → Under n l → length (unlisted n l) + length l ≡ n
unlisted_others n [] d u = let h = tally_all n in omega arith
unlisted_others n (a ∷ l) d u =
    let h = unlisted_others n l d.1 u.1 in
    let e = tally_less (member l) a n (off (member l a) d.0) u.0 in
    omega arith

pub distinct_few : (n : ℕ) (l : List ℕ) → Distinct l → Under n l → length l ≤ n
distinct_few n l d u = let h = unlisted_others n l d u in omega arith
