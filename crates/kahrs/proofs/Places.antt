-- The arguments of a metavariable as renamings: `argument n l` puts the arguments l, under n abstractions, for the variables of a body, and
-- `place l n` takes them back (I1, I2). An EQI's renaming is the way from the arguments of one occurrence to those of another by the body
-- (I3, I4), and a CHECK's list is what is not covered.
use mathlib.Core.Path.{◌≡◌, refl, sym, ap, ◌∙◌}
use Prim.Native.Nat.{ℕ, zero, suc, ◌+◌, ◌≤◌, ◌<◌}
use native.Mathlib.Omega.{arith}
use mathlib.Core.Bool.{Bool, true, false, not, ◌&&◌, ◌||◌, cond}
use mathlib.Core.Option.{some}
use mathlib.Core.List.{List, [], ◌∷◌}
use lib.Dec.{T, eqb, leb, ltb, leb→le, le→leb, eqb→eq, eqb_refl}
use lib.ListN.{length}
use borrow.Author.Tests.{ltb-true, ltb-false, lt-ltb, le-ltb, le-leb, lt-leb, eqb-true, eqb-false, eq-eqb, ne_eqb}
use Rattle.documents.specs.Lists.{keep, member, isset, up_to, pairlists, assoc}
use Rattle.documents.specs.Machine.{firsts, or_moved, renaming}
use Rattle.documents.specs.Translation.{offset}
use Rattle.documents.proofs.Lists.{of_and, case, member_append}
use Rattle.kahrs.proofs.RightSide.{place, covered}

-- the x-th argument, or past the arguments a variable outside of the n abstractions
abbrev pub argument : ℕ → List ℕ → ℕ → ℕ
argument n [] x = n + x
argument n (a ∷ l) zero = a
argument n (a ∷ l) (suc x) = argument n l x

abbrev pub Distinct : List ℕ → Type 0
Distinct [] = Unit {0}
Distinct (a ∷ l) = T (not (member l a)) × Distinct l

abbrev pub Under : ℕ → List ℕ → Type 0
Under n [] = Unit {0}
Under n (a ∷ l) = (a < n) × Under n l

pub distinct_of_isset : (l : List ℕ) → T (isset l) → Distinct l
distinct_of_isset [] h = tt
distinct_of_isset (a ∷ l) h = let r = of_and (not (member l a)) (isset l) h in (r.0, distinct_of_isset l r.1)

pub eqb_of : (a b : ℕ) → a ≡ b → T (eqb a b)
eqb_of a b e = rw e (eqb_refl b)

pub eqb_both : (a b c d : ℕ) → T (eqb a b && eqb c d) → (a ≡ b) × (c ≡ d)
eqb_both a b c d h = let r = of_and (eqb a b) (eqb c d) h in (eqb→eq a b r.0, eqb→eq c d r.1)

-- I1: there and back, at a variable that is covered
pub argument_place : (n : ℕ) (l : List ℕ) (y : ℕ) → T (covered l n y) → argument n l (place l n y) ≡ y
argument_place n [] y h = let k = leb→le n y h in omega arith
argument_place n (a ∷ l) y h =
    case (λ q. (T q → a ≡ y) → T ((q || member l y) || leb n y) → argument n (a ∷ l) (cond q 0 (suc (place l n y))) ≡ y) (eqb a y)
    (λ t e h. e tt) (λ t e h. argument_place n l y h) (eqb→eq a y) h

-- what is put for a variable of a body is covered
pub argument_covered : (n : ℕ) (l : List ℕ) (x : ℕ) → T (covered l n (argument n l x))
argument_covered n [] x = le→leb n (n + x) (omega arith)
argument_covered n (a ∷ l) zero = rw (eq-eqb a a refl) tt
argument_covered n (a ∷ l) (suc x) =
    case (λ q. T ((q || member l (argument n l x)) || leb n (argument n l x))) (eqb a (argument n l x)) (λ t. tt) (λ t. argument_covered n l x)

-- it is none of the other arguments
argument_other : (n : ℕ) (l : List ℕ) (a x : ℕ) → a < n → T (not (member l a)) → a ≡ argument n l x → ⊥
argument_other n [] a x h m e = omega arith
argument_other n (b ∷ l) a zero h m e =
    case (λ q. T (not (q || member l a)) → T q → ⊥) (eqb b a) (λ t k j. k) (λ t k j. j) m (eqb_of b a (sym e))
argument_other n (b ∷ l) a (suc x) h m e =
    argument_other n l a x h (case (λ q. T (not (q || member l a)) → T (not (member l a))) (eqb b a) (λ t k. absurd k) (λ t k. k) m) e

-- I2: back and there, where the arguments are distinct and bound
pub place_argument : (n : ℕ) (l : List ℕ) (x : ℕ) → Distinct l → Under n l → place l n (argument n l x) ≡ x
place_argument n [] x d u = omega arith
place_argument n (a ∷ l) zero d u = rw (eq-eqb a a refl)
place_argument n (a ∷ l) (suc x) d u =
    rw (ne_eqb a (argument n l x) (argument_other n l a x u.0 d.0)) (ap suc (place_argument n l x d.1 u.1))

-- I3: an EQI's renaming takes the arguments l' of the first occurrence, under b, to the arguments l under n
pub renaming_argument : (b n : ℕ) (l' l : List ℕ) (x : ℕ) → length l' ≡ length l → b ≤ 64 → Distinct l' → Under b l'
    → renaming (pairlists l' l) (offset n b) (argument b l' x) ≡ argument n l x
renaming_argument b n [] [] x e lo d u = omega arith
renaming_argument b n [] (c ∷ l) x e lo d u = absurd (omega arith)
renaming_argument b n (a ∷ l') [] x e lo d u = absurd (omega arith)
renaming_argument b n (a ∷ l') (c ∷ l) zero e lo d u = rw (eq-eqb a a refl)
renaming_argument b n (a ∷ l') (c ∷ l) (suc x) e lo d u =
    rw (ne_eqb a (argument b l' x) (argument_other b l' a x u.0 d.0)) (renaming_argument b n l' l x (omega arith) lo d.1 u.1)

-- I4: the same by way of the body, at a variable of the entry
pub argument_renaming : (b n : ℕ) (l' l : List ℕ) (y : ℕ) → length l' ≡ length l → b ≤ 64 → T (covered l' b y)
    → argument n l (place l' b y) ≡ renaming (pairlists l' l) (offset n b) y
argument_renaming b n [] [] y e lo h = let k = leb→le b y h in omega arith
argument_renaming b n [] (c ∷ l) y e lo h = absurd (omega arith)
argument_renaming b n (a ∷ l') [] y e lo h = absurd (omega arith)
argument_renaming b n (a ∷ l') (c ∷ l) y e lo h =
    case (λ q. T ((q || member l' y) || leb b y)
    → argument n (c ∷ l) (cond q 0 (suc (place l' b y))) ≡ or_moved (cond q (some c) (assoc (pairlists l' l) y)) (offset n b) y) (eqb a y)
    (λ t h. refl) (λ t h. argument_renaming b n l' l y (omega arith) lo h) h

pub firsts_pairlists : (l' l : List ℕ) → length l' ≡ length l → firsts (pairlists l' l) ≡ l'
firsts_pairlists [] l e = refl
firsts_pairlists (a ∷ l') [] e = absurd (omega arith)
firsts_pairlists (a ∷ l') (c ∷ l) e = ap {B = List ℕ} (λ k. a ∷ k) (firsts_pairlists l' l (omega arith))

-- ---- A CHECK's list

pub member_up_to : (n y : ℕ) → member (up_to n) y ≡ ltb y n
member_up_to zero y = let h : 0 ≤ y = omega arith in rw (le-ltb y 0 h)
member_up_to (suc n) y = rw (member_append (up_to n) (n ∷ []) y, member_up_to n y) (go (ltb y n) refl)
  where
    last : (q : Bool) → n ≤ y → eqb n y ≡ q → q || false ≡ ltb y (suc n)
    last true h e = let k = eqb-true n y e in sym (lt-ltb y (suc n) (omega arith))
    last false h e = let k = eqb-false n y e in sym (le-ltb y (suc n) (omega arith))

    go : (q : Bool) → ltb y n ≡ q → q || (eqb n y || false) ≡ ltb y (suc n)
    go true e = let k = ltb-true y n e in sym (lt-ltb y (suc n) (omega arith))
    go false e = last (eqb n y) (ltb-false y n e) refl

pub member_keep : (p : ℕ → Bool) (l : List ℕ) (y : ℕ) → member (keep p l) y ≡ member l y && p y
member_keep p [] y = refl
member_keep p (a ∷ l) y = go (eqb a y) refl (member_keep p l y)
  where
    and-false : (q : Bool) → q && false ≡ false
    and-false true = refl
    and-false false = refl

    at_it : (q : Bool) → member (keep p l) y ≡ member l y && q → member (cond q (y ∷ keep p l) (keep p l)) y ≡ (true || member l y) && q
    at_it true h = rw (eq-eqb y y refl)
    at_it false h = h ∙ and-false (member l y)

    elsewhere : (q : Bool) → eqb a y ≡ false → member (cond q (a ∷ keep p l) (keep p l)) y ≡ member (keep p l) y
    elsewhere true e = rw e
    elsewhere false e = refl

    go : (r : Bool) → eqb a y ≡ r → member (keep p l) y ≡ member l y && p y → member (cond (p a) (a ∷ keep p l) (keep p l)) y ≡ (r || member l y) && p y
    go true e h = rw (eqb-true a y e) (at_it (p y) h)
    go false e h = elsewhere (p a) e ∙ h

-- what a CHECK does not list is covered, and the other way round
pub unlisted_covered : (n : ℕ) (l : List ℕ) (y : ℕ) → not (member (keep (λ i. not (member l i)) (up_to n)) y) ≡ covered l n y
unlisted_covered n l y = rw (member_keep (λ i. not (member l i)) (up_to n) y, member_up_to n y) (go (ltb y n) (member l y) refl)
  where
    go : (q m : Bool) → ltb y n ≡ q → not (q && not m) ≡ m || leb n y
    go true true e = refl
    go true false e = sym (lt-leb n y (ltb-true y n e))
    go false true e = refl
    go false false e = sym (le-leb n y (ltb-false y n e))
