-- Free variables. 004 lists them; a test of all of them is a predicate that goes down the term, and under an abstraction it is moved: then
-- inductions under binders need no arithmetic.
use mathlib.Core.Path.{◌≡◌, refl, ap, ap₂, subst as transport}
use Prim.Native.Nat.{ℕ, zero, suc, ◌+◌, ◌-◌, ◌≤◌, ◌<◌}
use native.Mathlib.Nat.{le_of_suc-le-suc, not-suc-le-zero}
use native.Mathlib.Omega.{arith}
use mathlib.Core.Bool.{Bool, true, false, ◌||◌}
use mathlib.Core.List.{List, [], ◌∷◌}
use lib.Dec.{T, eqb, eqb_refl, leb-suc-zero, leb-suc-suc}
use borrow.Author.Tests.{lt-ltb}
use Rattle.documents.specs.Lists.{every, member}
use Rattle.documents.specs.Terms.{Sort, Tm, Var, Sym, Meta, Abst, Nil, Cons, Term, rename_under, rename, subst_under, subst}
use Rattle.documents.specs.Rules.{fv, freevars}
use Rattle.documents.proofs.Lists.{on, of_and, and_of, every_append}

-- ---- every free variable satisfies P

-- P, seen from under an abstraction: the variable that it binds is not asked
abbrev pub under : (ℕ → Type 0) → ℕ → Type 0
under P zero = Unit {0}
under P (suc n) = P n

abbrev pub unders : ℕ → (ℕ → Type 0) → ℕ → Type 0
unders zero P = P
unders (suc n) P = under (unders n P)

abbrev pub AllFree : {s : Sort} → (ℕ → Type 0) → Tm s → Type 0
AllFree P (Var x) = P x
AllFree P (Sym s ts) = AllFree P ts
AllFree P (Meta z ts) = AllFree P ts
AllFree P (Abst t) = AllFree (under P) t
AllFree P Nil = Unit {0}
AllFree P (Cons t ts) = AllFree P t × AllFree P ts

pub AllFree-map : {s : Sort} (P Q : ℕ → Type 0) (t : Tm s) → ((x : ℕ) → P x → Q x) → AllFree P t → AllFree Q t
AllFree-map P Q (Var x) h a = h x a
AllFree-map P Q (Sym s ts) h a = AllFree-map P Q ts h a
AllFree-map P Q (Meta z ts) h a = AllFree-map P Q ts h a
AllFree-map P Q (Abst t) h a = AllFree-map (under P) (under Q) t (elim [ zero ↦ λ u. tt | suc n ↦ h n ]) a
AllFree-map P Q Nil h a = tt
AllFree-map P Q (Cons t ts) h a = (AllFree-map P Q t h a.0, AllFree-map P Q ts h a.1)

fv_zero : (k : ℕ) → fv 0 (Var k) ≡ k ∷ []
fv_zero k = let e : k - 0 ≡ k = omega arith in rw (leb-suc-zero k, e)

fv_suc : (n k : ℕ) → fv (suc n) (Var (suc k)) ≡ fv n (Var k)
fv_suc n k = let e : suc k - suc n ≡ k - n = omega arith in rw (leb-suc-suc (suc k) n, e)

module _ (p : ℕ → Bool) where
  abbrev Holds : ℕ → Type 0
  Holds x = T (p x)

  every_var : (n k : ℕ) → T (every p (fv n (Var k))) → unders n Holds k
  every_var zero k h = (of_and (p k) true (rw (fv_zero k) at h)).0
  every_var (suc n) zero h = tt
  every_var (suc n) (suc k) h = every_var n k (rw (fv_suc n k) at h)

  var_every : (n k : ℕ) → unders n Holds k → T (every p (fv n (Var k)))
  var_every zero k h = rw (fv_zero k) (and_of (p k) true h tt)
  var_every (suc n) zero h = let e : 0 < suc n = omega arith in rw (lt-ltb 0 (suc n) e) tt
  var_every (suc n) (suc k) h = rw (fv_suc n k) (var_every n k h)

  pub free_of_every : {s : Sort} (n : ℕ) (t : Tm s) → T (every p (fv n t)) → AllFree (unders n Holds) t
  free_of_every n (Var k) h = every_var n k h
  free_of_every n (Sym s ts) h = free_of_every n ts h
  free_of_every n (Meta z ts) h = free_of_every n ts h
  free_of_every n (Abst t) h = free_of_every (suc n) t h
  free_of_every n Nil h = tt
  free_of_every n (Cons t ts) h =
      let q = of_and (every p (fv n t)) (every p (fv n ts)) (rw (every_append p (fv n t) (fv n ts)) at h) in
      (free_of_every n t q.0, free_of_every n ts q.1)

  pub every_of_free : {s : Sort} (n : ℕ) (t : Tm s) → AllFree (unders n Holds) t → T (every p (fv n t))
  every_of_free n (Var k) h = var_every n k h
  every_of_free n (Sym s ts) h = every_of_free n ts h
  every_of_free n (Meta z ts) h = every_of_free n ts h
  every_of_free n (Abst t) h = every_of_free (suc n) t h
  every_of_free n Nil h = tt
  every_of_free n (Cons t ts) h =
      rw (every_append p (fv n t) (fv n ts)) (and_of (every p (fv n t)) (every p (fv n ts)) (every_of_free n t h.0) (every_of_free n ts h.1))

-- ---- Renamed and substituted terms

pub free_all : {s : Sort} (P : ℕ → Type 0) (t : Tm s) → ((x : ℕ) → P x) → AllFree P t
free_all P (Var x) h = h x
free_all P (Sym s ts) h = free_all P ts h
free_all P (Meta z ts) h = free_all P ts h
free_all P (Abst t) h = free_all (under P) t (elim [ zero ↦ tt | suc x ↦ h x ])
free_all P Nil h = tt
free_all P (Cons t ts) h = (free_all P t h, free_all P ts h)

pub free_both : {s : Sort} (P Q R : ℕ → Type 0) (t : Tm s) → ((x : ℕ) → P x → Q x → R x) → AllFree P t → AllFree Q t → AllFree R t
free_both P Q R (Var x) h p q = h x p q
free_both P Q R (Sym s ts) h p q = free_both P Q R ts h p q
free_both P Q R (Meta z ts) h p q = free_both P Q R ts h p q
free_both P Q R (Abst t) h p q = free_both (under P) (under Q) (under R) t (elim [ zero ↦ λ u v. tt | suc x ↦ h x ]) p q
free_both P Q R Nil h p q = tt
free_both P Q R (Cons t ts) h p q = (free_both P Q R t h p.0 q.0, free_both P Q R ts h p.1 q.1)

pub free_rename : {s : Sort} (P Q : ℕ → Type 0) (f : ℕ → ℕ) (t : Tm s) → ((x : ℕ) → P x → Q (f x)) → AllFree P t → AllFree Q (rename f t)
free_rename P Q f (Var x) h a = h x a
free_rename P Q f (Sym s ts) h a = free_rename P Q f ts h a
free_rename P Q f (Meta z ts) h a = free_rename P Q f ts h a
free_rename P Q f (Abst t) h a = free_rename (under P) (under Q) (rename_under f) t (elim [ zero ↦ λ u. tt | suc x ↦ h x ]) a
free_rename P Q f Nil h a = tt
free_rename P Q f (Cons t ts) h a = (free_rename P Q f t h a.0, free_rename P Q f ts h a.1)

pub free_subst : {s : Sort} (P : ℕ → Type 0) (f : ℕ → Term) (t : Tm s) → AllFree (λ x. AllFree P (f x)) t → AllFree P (subst f t)
free_subst P f (Var x) a = a
free_subst P f (Sym s ts) a = free_subst P f ts a
free_subst P f (Meta z ts) a = free_subst P f ts a
free_subst P f (Abst t) a =
    free_subst (under P) (subst_under f) t
    (AllFree-map _ _ t (elim [ zero ↦ λ u. tt | suc x ↦ λ h. free_rename P (under P) suc (f x) (λ y p. p) h ]) a)
free_subst P f Nil a = tt
free_subst P f (Cons t ts) a = (free_subst P f t a.0, free_subst P f ts a.1)

-- whatever the term, where P holds of all that the renaming gives
pub free_renamed : {s : Sort} (P : ℕ → Type 0) (f : ℕ → ℕ) (t : Tm s) → ((x : ℕ) → P (f x)) → AllFree P (rename f t)
free_renamed P f t h = free_rename (λ x. Unit {0}) P f t (λ x u. h x) (free_all (λ x. Unit {0}) t (λ x. tt))

-- renamings that agree on the free variables
pub rename_agree : {s : Sort} (f g : ℕ → ℕ) (t : Tm s) → AllFree (λ x. f x ≡ g x) t → rename f t ≡ rename g t
rename_agree f g (Var x) h = ap Var h
rename_agree f g (Sym s ts) h = ap (Sym s) (rename_agree f g ts h)
rename_agree f g (Meta z ts) h = ap (Meta z) (rename_agree f g ts h)
rename_agree f g (Abst t) h =
    ap Abst (rename_agree (rename_under f) (rename_under g) t (AllFree-map _ _ t (elim [ zero ↦ λ u. refl | suc x ↦ λ e. ap suc e ]) h))
rename_agree f g Nil h = refl
rename_agree f g (Cons t ts) h = ap₂ Cons (rename_agree f g t h.0) (rename_agree f g ts h.1)

-- ---- A term's free variables are among them

every_of_members : (p : ℕ → Bool) (l : List ℕ) → ((x : ℕ) → T (member l x) → T (p x)) → T (every p l)
every_of_members p [] h = tt
every_of_members p (a ∷ l) h =
    and_of (p a) (every p l) (h a (rw (on (eqb a a) (eqb_refl a)) tt)) (every_of_members p l (λ x m. h x (further (eqb a x) (member l x) m)))
  where
    further : (q r : Bool) → T r → T (q || r)
    further true r m = tt
    further false r m = m

pub free_in_itself : (t : Term) → AllFree (λ x. T (member (freevars t) x)) t
free_in_itself t = free_of_every (member (freevars t)) 0 t (every_of_members (member (freevars t)) (freevars t) (λ x m. m))

-- ---- n abstractions down: nothing is asked below n, and P past it

pub unders_below : (P : ℕ → Type 0) (n x : ℕ) → x < n → unders n P x
unders_below P zero x h = absurd (not-suc-le-zero h)
unders_below P (suc n) zero h = tt
unders_below P (suc n) (suc x) h = unders_below P n x (le_of_suc-le-suc h)

pub unders_past : (P : ℕ → Type 0) (n x : ℕ) → P x → unders n P (n + x)
unders_past P zero x h = let e : 0 + x ≡ x = omega arith in rw e h
unders_past P (suc n) x h = let e : suc n + x ≡ suc (n + x) = omega arith in rw e (unders_past P n x h)

pub past_unders : (P : ℕ → Type 0) (n y : ℕ) → n ≤ y → unders n P y → P (y - n)
past_unders P zero y h p = transport P (omega arith) p
past_unders P (suc n) zero h p = absurd (not-suc-le-zero h)
past_unders P (suc n) (suc y) h p = transport P (omega arith) (past_unders P n y (le_of_suc-le-suc h) p)
