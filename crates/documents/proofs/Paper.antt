-- Where a definition says in one piece what 004 writes as a walk with a counter of abstractions: the walk gives the same.
use mathlib.Core.Path.{◌≡◌, refl, sym, ap, ap₂, ◌∙◌}
use Prim.Native.Nat.{ℕ, zero, suc, ◌+◌, ◌-◌, ◌<◌}
use native.Mathlib.Omega.{arith}
use mathlib.Core.Bool.{Bool, true, false, not, ◌&&◌, ◌||◌, cond, and-true}
use mathlib.Core.List.{List, [], ◌∷◌}
use lib.Dec.{ltb, leb-suc-suc, leb-suc-zero}
use borrow.Author.Tests.{lt-ltb}
use Rattle.documents.specs.Lists.{every, member}
use Rattle.documents.specs.Terms.{Sort, Tm, Var, Sym, Meta, Abst, Nil, Cons, rename}
use Rattle.documents.specs.Rules.{fv}
use Rattle.documents.specs.Machine.{is_var, is_sym, is_meta, is_abst, is_cons, equal, renaming, equal_under}
use Rattle.documents.proofs.Lists.{every_append}
use Rattle.documents.proofs.Substitution.{rename_unders}

-- ---- CHECK

-- 004's check n
abbrev check : {s : Sort} → List ℕ → ℕ → Tm s → Bool
check vs n (Var k) = ltb k n || not (member vs (k - n))
check vs n (Sym s ts) = check vs n ts
check vs n (Meta z ts) = check vs n ts
check vs n (Abst t) = check vs (suc n) t
check vs n Nil = true
check vs n (Cons t ts) = check vs n t && check vs n ts

check_var : (p : ℕ → Bool) (q : Bool) (y : ℕ) → (q || p y) ≡ every p (cond q [] (y ∷ []))
check_var p true y = refl
check_var p false y = sym (and-true (p y))

pub check_is : {s : Sort} (vs : List ℕ) (n : ℕ) (t : Tm s) → check vs n t ≡ every (λ y. not (member vs y)) (fv n t)
check_is vs n (Var k) = check_var (λ y. not (member vs y)) (ltb k n) (k - n)
check_is vs n (Sym s ts) = check_is vs n ts
check_is vs n (Meta z ts) = check_is vs n ts
check_is vs n (Abst t) = check_is vs (suc n) t
check_is vs n Nil = refl
check_is vs n (Cons t ts) = ap₂ ◌&&◌ (check_is vs n t) (check_is vs n ts) ∙ sym (every_append (λ y. not (member vs y)) (fv n t) (fv n ts))

-- ---- EQI

pub under_var : (f : ℕ → ℕ) (k x : ℕ) → cond (ltb x k) x (f (x - k) + k) ≡ rename_unders k f x
under_var f zero x = let e : x - 0 ≡ x = omega arith in let g : f x + 0 ≡ f x = omega arith in rw (leb-suc-zero x, e, g)
under_var f (suc k) zero = let h : 0 < suc k = omega arith in rw (lt-ltb 0 (suc k) h)
under_var f (suc k) (suc x) =
    let e : suc x - suc k ≡ x - k = omega arith in
    rw (leb-suc-suc (suc x) k, e) (pushed_in (ltb x k) ∙ ap suc (under_var f k x))
  where
    pushed_in : (q : Bool) → cond q (suc x) (f (x - k) + suc k) ≡ suc (cond q x (f (x - k) + k))
    pushed_in true = refl
    pushed_in false = omega arith

pub equal_is : {s : Sort} (ps : List (ℕ × ℕ)) (D k : ℕ) (t : Tm s) → equal_under ps D k t ≡ equal (rename (rename_unders k (renaming ps D)) t)
equal_is ps D k (Var x) = ap (λ (y : ℕ). is_var y) (under_var (renaming ps D) k x)
equal_is ps D k (Sym s ts) = ap (is_sym s) (equal_is ps D k ts)
equal_is ps D k (Meta z ts) = ap (is_meta z) (equal_is ps D k ts)
equal_is ps D k (Abst t) = ap is_abst (equal_is ps D (suc k) t)
equal_is ps D k Nil = refl
equal_is ps D k (Cons t ts) = ap₂ is_cons (equal_is ps D k t) (equal_is ps D k ts)
