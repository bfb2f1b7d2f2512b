-- metasubst over the bodies of a valuation. 004 lifts the valuation under each abstraction and then reduces; over the bodies nothing is
-- lifted, and one substitution does what the n-fold beta does. Matching and building are proved about this form.
use mathlib.Core.Path.{◌≡◌, refl, sym, ap, ap₂, ◌∙◌, fun_ext}
use Prim.Native.Nat.{ℕ, zero, suc, ◌+◌}
use native.Mathlib.Omega.{arith}
use mathlib.Core.List.{List, ◌∷◌, ◌++◌}
use Rattle.documents.specs.Terms.{Sort, Tm, Var, Sym, Meta, Abst, Nil, Cons, Term, Terms, len, rename_under, rename, lift, subst, betas, absts}
use Rattle.documents.specs.Rules.{Val, Valuation, metas, metasubst}
use Rattle.documents.proofs.Substitution.{subst_ext, rename_ext, rename_rename, subst_rename, rename_id, len_rename, rename_unders, select, betas_select}

-- the bodies of a valuation
abbrev pub bodies_of : (v : Val) → Valuation v → Val
bodies_of v h z k = (h z k).body

-- an instance under n abstractions
abbrev pub instance : {s : Sort} → ℕ → Val → Tm s → Tm s
instance n b (Var x) = Var x
instance n b (Sym s ts) = Sym s (instance n b ts)
instance n b (Meta z ts) = subst (select n (instance n b ts)) (b z (len ts))
instance n b (Abst t) = Abst (instance (suc n) b t)
instance n b Nil = Nil
instance n b (Cons t ts) = Cons (instance n b t) (instance n b ts)

rename_absts : (k : ℕ) (f : ℕ → ℕ) (t : Term) → rename f (absts k t) ≡ absts k (rename (rename_unders k f) t)
rename_absts zero f t = refl
rename_absts (suc k) f t = rename_absts k f (Abst t)

select_lifted : (n : ℕ) (ts : Terms) (x : ℕ) → select 0 ts (rename_unders (len ts) (λ y. n + y) x) ≡ select n ts x
select_lifted n Nil x = ap Var (omega arith)
select_lifted n (Cons t ts) zero = refl
select_lifted n (Cons t ts) (suc x) = select_lifted n ts x

-- Proposition 2 after n lifts
pub betas_lifted : (n : ℕ) (u : Term) (ts : Terms) → betas (rename (λ y. n + y) (absts (len ts) u)) ts ≡ subst (select n ts) u
betas_lifted n u ts =
    ap (λ (w : Term). betas w ts) (rename_absts (len ts) (λ y. n + y) u) ∙ betas_select _ ts ∙ subst_rename _ _ u ∙ subst_ext _ _ u (select_lifted n ts)

pub len_instance : (n : ℕ) (b : Val) (ts : Terms) → len (instance n b ts) ≡ len ts
len_instance n b Nil = refl
len_instance n b (Cons t ts) = ap suc (len_instance n b ts)

lift_lifted : {s : Sort} (n : ℕ) (t : Tm s) → lift (rename (λ y. n + y) t) ≡ rename (λ y. suc n + y) t
lift_lifted n t = rename_rename suc (λ y. n + y) t ∙ rename_ext _ _ t (λ x. omega arith)

-- metasubst, n abstractions down
pub metasubst_lifted : {s : Sort} (v : Val) (h : Valuation v) (n : ℕ) (t : Tm s)
    → metasubst (λ z k. rename (λ y. n + y) (v z k)) t ≡ instance n (bodies_of v h) t
metasubst_lifted v h n (Var x) = refl
metasubst_lifted v h n (Sym s ts) = ap (Sym s) (metasubst_lifted v h n ts)
metasubst_lifted v h n (Meta z ts) =
    ap₂ (λ (w : Term) (us : Terms). betas (rename (λ y. n + y) w) us)
    ((h z (len ts)).under ∙ ap (λ (k : ℕ). absts k (h z (len ts)).body) (sym (len_instance n (bodies_of v h) ts)))
    (metasubst_lifted v h n ts)
    ∙ betas_lifted n (h z (len ts)).body (instance n (bodies_of v h) ts)
metasubst_lifted v h n (Abst t) =
    ap Abst (ap (λ (w : Val). metasubst w t) (fun_ext (λ z. fun_ext (λ k. lift_lifted n (v z k)))) ∙ metasubst_lifted v h (suc n) t)
metasubst_lifted v h n Nil = refl
metasubst_lifted v h n (Cons t ts) = ap₂ Cons (metasubst_lifted v h n t) (metasubst_lifted v h n ts)

-- 004's metasubst at a valuation is the instance over its bodies
pub metasubst_bodies : {s : Sort} (v : Val) (h : Valuation v) (t : Tm s) → metasubst v t ≡ instance 0 (bodies_of v h) t
metasubst_bodies v h t =
    ap (λ (w : Val). metasubst w t) (fun_ext (λ z. fun_ext (λ k. sym (rename_ext _ _ (v z k) (λ x. omega arith) ∙ rename_id (v z k)))))
    ∙ metasubst_lifted v h 0 t

-- a renaming leaves the metavariables as they are
pub metas_rename : {s : Sort} (f : ℕ → ℕ) (t : Tm s) → metas (rename f t) ≡ metas t
metas_rename f (Var x) = refl
metas_rename f (Sym s ts) = metas_rename f ts
metas_rename f (Meta z ts) = ap₂ {C = List (ℕ × ℕ)} (λ (k : ℕ) l. (z, k) ∷ l) (len_rename f ts) (metas_rename f ts)
metas_rename f (Abst t) = metas_rename (rename_under f) t
metas_rename f Nil = refl
metas_rename f (Cons t ts) = ap₂ ◌++◌ (metas_rename f t) (metas_rename f ts)
