-- The machine's test of two terms: it passes exactly where they are one. The first term is taken apart, and the second has to have its form,
-- so each case is a look at the second term.
use mathlib.Core.Path.{◌≡◌, refl, ap, ap₂}
use Prim.Native.Nat.{ℕ}
use lib.Dec.{T, eqb, eqb→eq, eqb_refl}
use Rattle.documents.specs.Terms.{Sort, Tm, Var, Sym, Meta, Abst, Nil, Cons, Term, Terms}
use Rattle.documents.specs.Machine.{is_var, is_sym, is_meta, is_abst, is_nil, is_cons, equal}
use Rattle.documents.proofs.Lists.{of_and, and_of}

pub equal_refl : {s : Sort} (t : Tm s) → T (equal t t)
equal_refl (Var x) = eqb_refl x
equal_refl (Sym s ts) = and_of (eqb s s) (equal ts ts) (eqb_refl s) (equal_refl ts)
equal_refl (Meta z ts) = and_of (eqb z z) (equal ts ts) (eqb_refl z) (equal_refl ts)
equal_refl (Abst t) = equal_refl t
equal_refl Nil = tt
equal_refl (Cons t ts) = and_of (equal t t) (equal ts ts) (equal_refl t) (equal_refl ts)

pub of_is_var : (x : ℕ) (u : Term) → T (is_var x u) → Var x ≡ u
of_is_var x (Var y) h = ap Var (eqb→eq x y h)
of_is_var x (Sym s us) h = absurd h
of_is_var x (Meta z us) h = absurd h
of_is_var x (Abst u) h = absurd h

of_is_sym : (s : ℕ) (ts : Terms) (u : Term) → ((us : Terms) → T (equal ts us) → ts ≡ us) → T (is_sym s (equal ts) u) → Sym s ts ≡ u
of_is_sym s ts (Var y) k h = absurd h
of_is_sym s ts (Sym s' us) k h = let r = of_and (eqb s s') (equal ts us) h in ap₂ Sym (eqb→eq s s' r.0) (k us r.1)
of_is_sym s ts (Meta z us) k h = absurd h
of_is_sym s ts (Abst u) k h = absurd h

of_is_meta : (z : ℕ) (ts : Terms) (u : Term) → ((us : Terms) → T (equal ts us) → ts ≡ us) → T (is_meta z (equal ts) u) → Meta z ts ≡ u
of_is_meta z ts (Var y) k h = absurd h
of_is_meta z ts (Sym s us) k h = absurd h
of_is_meta z ts (Meta z' us) k h = let r = of_and (eqb z z') (equal ts us) h in ap₂ Meta (eqb→eq z z' r.0) (k us r.1)
of_is_meta z ts (Abst u) k h = absurd h

of_is_abst : (t u : Term) → ((v : Term) → T (equal t v) → t ≡ v) → T (is_abst (equal t) u) → Abst t ≡ u
of_is_abst t (Var y) k h = absurd h
of_is_abst t (Sym s us) k h = absurd h
of_is_abst t (Meta z us) k h = absurd h
of_is_abst t (Abst v) k h = ap Abst (k v h)

of_is_nil : (us : Terms) → T (is_nil us) → Nil ≡ us
of_is_nil Nil h = refl
of_is_nil (Cons u us) h = absurd h

of_is_cons : (t : Term) (ts us : Terms) → ((v : Term) → T (equal t v) → t ≡ v) → ((vs : Terms) → T (equal ts vs) → ts ≡ vs)
    → T (is_cons (equal t) (equal ts) us) → Cons t ts ≡ us
of_is_cons t ts Nil j k h = absurd h
of_is_cons t ts (Cons v vs) j k h = let r = of_and (equal t v) (equal ts vs) h in ap₂ Cons (j v r.0) (k vs r.1)

pub of_equal : {s : Sort} (t u : Tm s) → T (equal t u) → t ≡ u
of_equal (Var x) u h = of_is_var x u h
of_equal (Sym s ts) u h = of_is_sym s ts u (of_equal ts) h
of_equal (Meta z ts) u h = of_is_meta z ts u (of_equal ts) h
of_equal (Abst t) u h = of_is_abst t u (of_equal t) h
of_equal Nil us h = of_is_nil us h
of_equal (Cons t ts) us h = of_is_cons t ts us (of_equal t) (of_equal ts) h
