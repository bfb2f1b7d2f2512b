-- Tests and answers: what a test that passed says, and what an answer that came through a test says.
use mathlib.Core.Path.{◌≡◌, refl, sym, ap, fun_ext}
use Prim.Native.Nat.{ℕ, suc, ◌+◌, ◌<◌, max}
use native.Mathlib.Nat.{add-zero}
use native.Mathlib.Numerals.{add-one}
use native.Mathlib.Omega.{arith}
use mathlib.Core.Bool.{Bool, true, false, not, ◌&&◌, ◌||◌, cond, and_assoc, or_assoc}
use mathlib.Core.Option.{Option, none, some}
use mathlib.Core.List.{List, [], ◌∷◌, ◌++◌}
use lib.Dec.{T, eqb, leb}
use lib.ListN.{length, get_or, set, drop}
use lib.Seq.{sets, drop-cons}
use borrow.Author.Tests.{eqb-true, leb-true, leb-false, le-leb, lt-leb}
use Rattle.documents.specs.Lists.{every, member, need, and_then}

-- where two constructors were said to be equal, `cc` proves this
pub never : {A : Type 0} → ◌≡◌ {A = ℕ} 0 1 → A
never z = absurd (omega arith)

-- ---- Tests

pub on : (q : Bool) → T q → q ≡ true
on true t = refl
on false t = absurd t

pub T_of : (q : Bool) → q ≡ true → T q
T_of q e = rw e tt

pub off : (q : Bool) → T (not q) → q ≡ false
off true t = absurd t
off false t = refl

pub of_and : (a b : Bool) → T (a && b) → T a × T b
of_and true b h = (tt, h)
of_and false b h = absurd h

pub and_of : (a b : Bool) → T a → T b → T (a && b)
and_of true b p q = q
and_of false b p q = absurd p

pub both_true : (a b : Bool) → a && b ≡ true → (a ≡ true) × (b ≡ true)
both_true true b e = (refl, e)
both_true false b e = never (cc)

-- a claim by cases on a test, with what the test said
pub case : (P : Bool → Type 0) (q : Bool) → (T q → P true) → (T (not q) → P false) → P q
case P true f g = f tt
case P false f g = g tt

-- one of two answers, by a number
pub branch : {A P : Type 0} (w k : ℕ) {x y r : Option A} → cond (eqb w k) x y ≡ r → (w ≡ k → x ≡ r → P) → (y ≡ r → P) → P
branch {A} {P} w k {x} {y} {r} e f g = go (eqb w k) refl e
  where
    go : (q : Bool) → eqb w k ≡ q → cond q x y ≡ r → P
    go true q e = f (eqb-true w k q) e
    go false q e = g e

pub every_append : {A : Type 0} (p : A → Bool) (l m : List A) → every p (l ++ m) ≡ every p l && every p m
every_append p [] m = refl
every_append p (a ∷ l) m = rw (every_append p l m) (sym (and_assoc (p a) (every p l) (every p m)))

pub member_append : (l m : List ℕ) (y : ℕ) → member (l ++ m) y ≡ member l y || member m y
member_append [] m y = refl
member_append (v ∷ l) m y = rw (member_append l m y) (sym (or_assoc (eqb v y) (member l y) (member m y)))

pub leb_max : (x y l : ℕ) → leb (max x y) l ≡ leb x l && leb y l
leb_max x y l = go (leb x l) (leb y l) refl refl
  where
    go : (p q : Bool) → leb x l ≡ p → leb y l ≡ q → leb (max x y) l ≡ p && q
    go true true p q = let a = leb-true x l p in let b = leb-true y l q in le-leb (max x y) l (omega arith)
    go true false p q = let b = leb-false y l q in lt-leb (max x y) l (omega arith)
    go false q p _ = let a = leb-false x l p in lt-leb (max x y) l (omega arith)

-- ---- Answers that may be missing

pub needed : {A : Type 0} (q : Bool) (o : Option A) (a : A) → need q o ≡ some a → (q ≡ true) × (o ≡ some a)
needed true o a e = (refl, e)
needed false o a e = never (cc)

pub and_then_assoc : {A B C : Type 0} (o : Option A) (f : A → Option B) (g : B → Option C) → and_then (and_then o f) g ≡ and_then o (λ a. and_then (f a) g)
and_then_assoc none f g = refl
and_then_assoc (some a) f g = refl

pub and_then_ext : {A B : Type 0} (o : Option A) (f g : A → Option B) → ((a : A) → f a ≡ g a) → and_then o f ≡ and_then o g
and_then_ext o f g h = ap (and_then o) (fun_ext h)

pub and_then_some : {A : Type 0} (o : Option A) → and_then o some ≡ o
and_then_some none = refl
and_then_some (some a) = refl

pub and_then_is : {A B : Type 0} (o : Option A) (f : A → Option B) (b : B) → and_then o f ≡ some b → (a : A) × (o ≡ some a) × (f a ≡ some b)
and_then_is none f b e = never (cc)
and_then_is (some a) f b e = (a, refl, e)

-- what stands at a place, and behind it
pub at_cons : (l : List ℕ) (i : ℕ) → i < length l → drop i l ≡ get_or l i 0 ∷ drop (i + 1) l
at_cons l i h = rw (add-one i, drop-cons l i 0 h)

-- words put one list after the other
pub sets_append : (d : List ℕ) (at : ℕ) (us vs : List ℕ) → sets d at (us ++ vs) ≡ sets (sets d at us) (at + length us) vs
sets_append d at [] vs = rw add-zero
sets_append d at (u ∷ us) vs =
    let e : at + suc (length us) ≡ suc at + length us = omega arith in
    rw e (sets_append (set d at u) (suc at) us vs)

-- a chunk of two words stands before what is behind it
pub chunk_two : (x r : List ℕ) → length x ≡ 2 → x ++ r ≡ get_or x 0 0 ∷ get_or x 1 0 ∷ r
chunk_two [] r h = absurd (omega arith)
chunk_two (a ∷ []) r h = absurd (omega arith)
chunk_two (a ∷ b ∷ []) r h = refl
chunk_two (a ∷ b ∷ c ∷ l) r h = absurd (omega arith)
