-- Renaming and substitution: Propositions 1 and 2 of 004. Two substitutions that agree everywhere are one, so each law is an equation of
-- functions, by induction on the term; under an abstraction it is the law itself at the functions moved under it.
use mathlib.Core.Path.{◌≡◌, refl, sym, ap, ap₂, ◌∙◌, fun_ext}
use Prim.Native.Nat.{ℕ, zero, suc, ◌+◌}
use native.Mathlib.Omega.{arith}
use Rattle.documents.specs.Terms.{Sort, Tm, Var, Sym, Meta, Abst, Nil, Cons, Term, Terms, len, rename_under, rename, lift, subst_under, subst, in_place, beta, betas, absts}

pub subst_ext : {s : Sort} (f g : ℕ → Term) (t : Tm s) → ((x : ℕ) → f x ≡ g x) → subst f t ≡ subst g t
subst_ext f g t h = ap (λ (k : ℕ → Term). subst k t) (fun_ext h)

pub rename_ext : {s : Sort} (f g : ℕ → ℕ) (t : Tm s) → ((x : ℕ) → f x ≡ g x) → rename f t ≡ rename g t
rename_ext f g t h = ap (λ (k : ℕ → ℕ). rename k t) (fun_ext h)

pub rename_rename : {s : Sort} (f g : ℕ → ℕ) (t : Tm s) → rename f (rename g t) ≡ rename (λ x. f (g x)) t
rename_rename f g (Var x) = refl
rename_rename f g (Sym s ts) = ap (Sym s) (rename_rename f g ts)
rename_rename f g (Meta z ts) = ap (Meta z) (rename_rename f g ts)
rename_rename f g (Abst t) = ap Abst (rename_rename (rename_under f) (rename_under g) t ∙ rename_ext _ _ t (elim [ zero ↦ refl | suc n ↦ refl ]))
rename_rename f g Nil = refl
rename_rename f g (Cons t ts) = ap₂ Cons (rename_rename f g t) (rename_rename f g ts)

pub subst_rename : {s : Sort} (f : ℕ → Term) (g : ℕ → ℕ) (t : Tm s) → subst f (rename g t) ≡ subst (λ x. f (g x)) t
subst_rename f g (Var x) = refl
subst_rename f g (Sym s ts) = ap (Sym s) (subst_rename f g ts)
subst_rename f g (Meta z ts) = ap (Meta z) (subst_rename f g ts)
subst_rename f g (Abst t) = ap Abst (subst_rename (subst_under f) (rename_under g) t ∙ subst_ext _ _ t (elim [ zero ↦ refl | suc n ↦ refl ]))
subst_rename f g Nil = refl
subst_rename f g (Cons t ts) = ap₂ Cons (subst_rename f g t) (subst_rename f g ts)

pub lift_rename : {s : Sort} (f : ℕ → ℕ) (t : Tm s) → rename (rename_under f) (lift t) ≡ lift (rename f t)
lift_rename f t = rename_rename (rename_under f) suc t ∙ sym (rename_rename suc f t)

pub rename_subst : {s : Sort} (g : ℕ → ℕ) (f : ℕ → Term) (t : Tm s) → rename g (subst f t) ≡ subst (λ x. rename g (f x)) t
rename_subst g f (Var x) = refl
rename_subst g f (Sym s ts) = ap (Sym s) (rename_subst g f ts)
rename_subst g f (Meta z ts) = ap (Meta z) (rename_subst g f ts)
rename_subst g f (Abst t) = ap Abst (rename_subst (rename_under g) (subst_under f) t ∙ subst_ext _ _ t (elim [ zero ↦ refl | suc n ↦ lift_rename g (f n) ]))
rename_subst g f Nil = refl
rename_subst g f (Cons t ts) = ap₂ Cons (rename_subst g f t) (rename_subst g f ts)

pub lift_subst : {s : Sort} (f : ℕ → Term) (t : Tm s) → subst (subst_under f) (lift t) ≡ lift (subst f t)
lift_subst f t = subst_rename (subst_under f) suc t ∙ sym (rename_subst suc f t)

-- rename_under and subst_under, n times
abbrev pub rename_unders : ℕ → (ℕ → ℕ) → ℕ → ℕ
rename_unders zero f = f
rename_unders (suc n) f = rename_under (rename_unders n f)

abbrev pub subst_unders : ℕ → (ℕ → Term) → ℕ → Term
subst_unders zero f = f
subst_unders (suc n) f = subst_under (subst_unders n f)

-- Proposition 1, the substitution lemma
pub subst_subst : {s : Sort} (f g : ℕ → Term) (t : Tm s) → subst f (subst g t) ≡ subst (λ x. subst f (g x)) t
subst_subst f g (Var x) = refl
subst_subst f g (Sym s ts) = ap (Sym s) (subst_subst f g ts)
subst_subst f g (Meta z ts) = ap (Meta z) (subst_subst f g ts)
subst_subst f g (Abst t) = ap Abst (subst_subst (subst_under f) (subst_under g) t ∙ subst_ext _ _ t (elim [ zero ↦ refl | suc n ↦ lift_subst f (g n) ]))
subst_subst f g Nil = refl
subst_subst f g (Cons t ts) = ap₂ Cons (subst_subst f g t) (subst_subst f g ts)

-- a renaming is a substitution
pub rename_is : {s : Sort} (f : ℕ → ℕ) (t : Tm s) → rename f t ≡ subst (λ x. Var (f x)) t
rename_is f (Var x) = refl
rename_is f (Sym s ts) = ap (Sym s) (rename_is f ts)
rename_is f (Meta z ts) = ap (Meta z) (rename_is f ts)
rename_is f (Abst t) = ap Abst (rename_is (rename_under f) t ∙ subst_ext _ _ t (elim [ zero ↦ refl | suc n ↦ refl ]))
rename_is f Nil = refl
rename_is f (Cons t ts) = ap₂ Cons (rename_is f t) (rename_is f ts)

-- 004's clause for lift
pub lift_is : {s : Sort} (t : Tm s) → lift t ≡ subst (λ x. Var (x + 1)) t
lift_is t = rename_is suc t ∙ subst_ext _ _ t (λ x. ap Var (omega arith))

pub rename_id : {s : Sort} (t : Tm s) → rename (λ x. x) t ≡ t
rename_id (Var x) = refl
rename_id (Sym s ts) = ap (Sym s) (rename_id ts)
rename_id (Meta z ts) = ap (Meta z) (rename_id ts)
rename_id (Abst t) = ap Abst (rename_ext _ _ t (elim [ zero ↦ refl | suc n ↦ refl ]) ∙ rename_id t)
rename_id Nil = refl
rename_id (Cons t ts) = ap₂ Cons (rename_id t) (rename_id ts)

pub subst_id : {s : Sort} (t : Tm s) → subst Var t ≡ t
subst_id t = sym (rename_is (λ x. x) t) ∙ rename_id t

pub len_rename : (f : ℕ → ℕ) (ts : Terms) → len (rename f ts) ≡ len ts
len_rename f Nil = refl
len_rename f (Cons t ts) = ap suc (len_rename f ts)

pub len_subst : (f : ℕ → Term) (ts : Terms) → len (subst f ts) ≡ len ts
len_subst f Nil = refl
len_subst f (Cons t ts) = ap suc (len_subst f ts)

-- The x-th of ts, or past them the variable x - len ts, lifted n times: 004's `fn x => if x < k then select x ts else Var(x-k)` at n = 0.
abbrev pub select : ℕ → Terms → ℕ → Term
select n Nil x = Var (n + x)
select n (Cons t ts) zero = t
select n (Cons t ts) (suc x) = select n ts x

pub select_past : (n : ℕ) (ts : Terms) (x : ℕ) → select n ts (len ts + x) ≡ Var (n + x)
select_past n Nil x = let e : 0 + x ≡ x = omega arith in rw e
select_past n (Cons t ts) x = let e : suc (len ts) + x ≡ suc (len ts + x) = omega arith in rw e (select_past n ts x)

-- Proposition 2
pub betas_select : (u : Term) (ts : Terms) → betas (absts (len ts) u) ts ≡ subst (select 0 ts) u
betas_select u Nil = sym (subst_ext _ _ u (λ x. ap Var (omega arith)) ∙ subst_id u)
betas_select u (Cons t ts) =
    ap (beta t) (betas_select (Abst u) ts) ∙ subst_subst (in_place t) (subst_under (select 0 ts)) u
    ∙ subst_ext _ _ u (elim [ zero ↦ refl | suc n ↦ subst_rename (in_place t) suc (select 0 ts n) ∙ subst_id (select 0 ts n) ])

-- 004 writes repeat Abst k from the outside; so is absts
pub absts_suc : (k : ℕ) (t : Term) → absts (suc k) t ≡ Abst (absts k t)
absts_suc zero t = refl
absts_suc (suc k) t = absts_suc k (Abst t)
