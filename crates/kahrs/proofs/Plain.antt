-- Terms without metavariables. An instance has none where the bodies have none, so 004's metasubst takes them all away; and the bodies of a
-- simple term's metavariables have none where the instance has none, since they stand in it renamed.
use mathlib.Core.Path.{◌≡◌, refl, sym, ap, ap₂, ◌∙◌}
use Prim.Native.Nat.{ℕ, zero, suc}
use mathlib.Core.List.{List, [], ◌∷◌, ◌++◌}
use lib.ListN.{length}
use Rattle.documents.specs.Terms.{Sort, Tm, Var, Sym, Meta, Abst, Nil, Cons, Term, Terms, len, subst_under, subst}
use Rattle.documents.specs.Rules.{Val, Valuation, metas, metasubst}
use Rattle.documents.proofs.Lists.{never}
use Rattle.documents.proofs.Substitution.{select}
use Rattle.documents.proofs.Valuations.{bodies_of, instance, metasubst_bodies, metas_rename}
use Rattle.kahrs.proofs.RightSide.{AllMetas}
use Rattle.kahrs.proofs.Places.{argument}
use Rattle.kahrs.proofs.Simple.{vars, len_vars, instance_meta, Simple}

abbrev pub Plain : Val → ℕ → ℕ → Type 0
Plain val z k = metas (val z k) ≡ []

pub append_none : (l m : List (ℕ × ℕ)) → l ++ m ≡ [] → (l ≡ []) × (m ≡ [])
append_none [] m e = (refl, e)
append_none (p ∷ l) m e = never (cc)

metas_subst : {s : Sort} (f : ℕ → Term) (t : Tm s) → ((x : ℕ) → metas (f x) ≡ []) → metas t ≡ [] → metas (subst f t) ≡ []
metas_subst f (Var x) h e = h x
metas_subst f (Sym s ts) h e = metas_subst f ts h e
metas_subst f (Meta z ts) h e = never (cc)
metas_subst f (Abst t) h e = metas_subst (subst_under f) t (elim [ zero ↦ refl | suc x ↦ metas_rename suc (f x) ∙ h x ]) e
metas_subst f Nil h e = refl
metas_subst f (Cons t ts) h e =
    let r = append_none (metas t) (metas ts) e in
    ap₂ ◌++◌ (metas_subst f t h r.0) (metas_subst f ts h r.1)

metas_select : (n : ℕ) (ts : Terms) → metas ts ≡ [] → (x : ℕ) → metas (select n ts x) ≡ []
metas_select n Nil e x = refl
metas_select n (Cons t ts) e zero = (append_none (metas t) (metas ts) e).0
metas_select n (Cons t ts) e (suc x) = metas_select n ts (append_none (metas t) (metas ts) e).1 x

pub instance_plain : {s : Sort} (n : ℕ) (val : Val) (t : Tm s) → AllMetas (Plain val) t → metas (instance n val t) ≡ []
instance_plain n val (Var x) h = refl
instance_plain n val (Sym s ts) h = instance_plain n val ts h
instance_plain n val (Meta z ts) h = metas_subst _ (val z (len ts)) (metas_select n (instance n val ts) (instance_plain n val ts h.1)) h.0
instance_plain n val (Abst t) h = instance_plain (suc n) val t h
instance_plain n val Nil h = refl
instance_plain n val (Cons t ts) h = ap₂ ◌++◌ (instance_plain n val t h.0) (instance_plain n val ts h.1)

AllMetas-all : {s : Sort} (P : ℕ → ℕ → Type 0) (t : Tm s) → ((z k : ℕ) → P z k) → AllMetas P t
AllMetas-all P (Var x) h = tt
AllMetas-all P (Sym s ts) h = AllMetas-all P ts h
AllMetas-all P (Meta z ts) h = (h z (len ts), AllMetas-all P ts h)
AllMetas-all P (Abst t) h = AllMetas-all P t h
AllMetas-all P Nil h = tt
AllMetas-all P (Cons t ts) h = (AllMetas-all P t h, AllMetas-all P ts h)

-- a valuation leaves no metavariable
pub metasubst_plain : (v : Val) → Valuation v → (t : Term) → metas (metasubst v t) ≡ []
metasubst_plain v h t = ap metas (metasubst_bodies v h t) ∙ instance_plain 0 (bodies_of v h) t (AllMetas-all _ t (λ z k. (h z k).plain))

AllMetas-vars : (P : ℕ → ℕ → Type 0) (l : List ℕ) → AllMetas P (vars l)
AllMetas-vars P [] = tt
AllMetas-vars P (x ∷ l) = (tt, AllMetas-vars P l)

-- the bodies of an instance without metavariables
pub plain_of_instance : {s : Sort} (n : ℕ) (val : Val) (t : Tm s) → Simple n t → metas (instance n val t) ≡ [] → AllMetas (Plain val) t
plain_of_instance n val (Var x) h e = tt
plain_of_instance n val (Sym s ts) h e = plain_of_instance n val ts h e
plain_of_instance n val (Meta z ts) h e =
    let l = h.0 in
    let q : metas (val z (length l)) ≡ [] =
    sym (ap metas (ap (λ (us : Terms). instance n val (Meta z us)) h.1 ∙ instance_meta n val z l) ∙ metas_rename (argument n l) (val z (length l))) ∙ e in
    rw (h.1, len_vars l) (q, AllMetas-vars (Plain val) l)
plain_of_instance n val (Abst t) h e = plain_of_instance (suc n) val t h.1 e
plain_of_instance n val Nil h e = tt
plain_of_instance n val (Cons t ts) h e =
    let r = append_none (metas (instance n val t)) (metas (instance n val ts)) e in
    (plain_of_instance n val t h.0 r.0, plain_of_instance n val ts h.1 r.1)
