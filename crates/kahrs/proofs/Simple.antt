-- Simple terms: each metavariable's arguments are distinct variables, bound by the abstractions above. There an instance of a metavariable is
-- a renaming of its body, and what the tests of 004's crs_rule compute is enough for a left side to be simple.
use mathlib.Core.Path.{◌≡◌, refl, sym, ap, ap₂, ◌∙◌}
use Prim.Native.Nat.{ℕ, zero, suc, ◌+◌, ◌-◌, ◌≤◌, ◌<◌}
use native.Mathlib.Omega.{arith}
use mathlib.Core.Bool.{false}
use mathlib.Core.List.{List, [], ◌∷◌}
use lib.Dec.{T}
use lib.ListN.{length}
use borrow.Author.Tests.{le-ltb}
use Rattle.documents.specs.Lists.{every, isset, is_empty}
use Rattle.documents.specs.Terms.{Sort, Tm, Var, Sym, Meta, Abst, Nil, Cons, Term, Terms, len, rename, subst}
use Rattle.documents.specs.Tables.{depth}
use Rattle.documents.specs.Rules.{Val, freevars, are_vars, simple, closed}
use Rattle.documents.specs.Translation.{Row, unvar, update}
use Rattle.documents.proofs.Lists.{of_and}
use Rattle.documents.proofs.Nodes.{depth_positive}
use Rattle.documents.proofs.Substitution.{subst_ext, rename_is, select}
use Rattle.documents.proofs.Valuations.{instance}
use Rattle.documents.proofs.FreeVariables.{AllFree-map, free_of_every}
use Rattle.kahrs.proofs.RightSide.{Below, below_abst}
use Rattle.kahrs.proofs.Places.{argument, Distinct, Under, distinct_of_isset}

-- ---- Terms that are variables

abbrev pub vars : List ℕ → Terms
vars [] = Nil
vars (x ∷ l) = Cons (Var x) (vars l)

pub len_vars : (l : List ℕ) → len (vars l) ≡ length l
len_vars [] = refl
len_vars (x ∷ l) = ap suc (len_vars l)

pub unvar_vars : (l : List ℕ) → unvar (vars l) ≡ l
unvar_vars [] = refl
unvar_vars (x ∷ l) = ap {B = List ℕ} (λ r. x ∷ r) (unvar_vars l)

update_vars : (n : ℕ) (l : List ℕ) (tab : List Row) → update n (vars l) tab ≡ tab
update_vars n [] tab = refl
update_vars n (x ∷ l) tab = update_vars n l tab

pub update_arguments : (n : ℕ) (ts : Terms) (l : List ℕ) → ts ≡ vars l → (tab : List Row) → update n ts tab ≡ tab
update_arguments n ts l e tab = ap (λ (us : Terms). update n us tab) e ∙ update_vars n l tab

instance_vars : (n : ℕ) (val : Val) (l : List ℕ) → instance n val (vars l) ≡ vars l
instance_vars n val [] = refl
instance_vars n val (x ∷ l) = ap (Cons (Var x)) (instance_vars n val l)

select_vars : (n : ℕ) (l : List ℕ) (x : ℕ) → select n (vars l) x ≡ Var (argument n l x)
select_vars n [] x = refl
select_vars n (a ∷ l) zero = refl
select_vars n (a ∷ l) (suc x) = select_vars n l x

-- the instance of a metavariable whose arguments are variables is a renaming of its body
pub instance_meta : (n : ℕ) (val : Val) (z : ℕ) (l : List ℕ) → instance n val (Meta z (vars l)) ≡ rename (argument n l) (val z (length l))
instance_meta n val z l =
    ap₂ (λ (us : Terms) (k : ℕ). subst (select n us) (val z k)) (instance_vars n val l) (len_vars l)
    ∙ subst_ext _ _ (val z (length l)) (select_vars n l) ∙ sym (rename_is (argument n l) (val z (length l)))

-- ---- Simple terms under n abstractions; no subterm stands under more than 63

abbrev pub Simple : {s : Sort} → ℕ → Tm s → Type 0
Simple n (Var x) = x < n
Simple n (Sym s ts) = Simple n ts
Simple n (Meta z ts) = (l : List ℕ) × (ts ≡ vars l) × Distinct l × Under n l
Simple n (Abst t) = (n < 63) × Simple (suc n) t
Simple n Nil = Unit {0}
Simple n (Cons t ts) = Simple n t × Simple n ts

-- ---- What the tests say

vars_of_are_vars : (ts : Terms) → T (are_vars ts) → ts ≡ vars (unvar ts)
vars_of_are_vars Nil h = refl
vars_of_are_vars (Cons (Var x) ts) h = ap (Cons (Var x)) (vars_of_are_vars ts h)
vars_of_are_vars (Cons (Sym s us) ts) h = absurd h
vars_of_are_vars (Cons (Meta z us) ts) h = absurd h
vars_of_are_vars (Cons (Abst t) ts) h = absurd h

pub freevars_vars : (l : List ℕ) → freevars (vars l) ≡ l
freevars_vars [] = refl
freevars_vars (x ∷ l) =
    let h : 0 ≤ x = omega arith in
    let e : x - 0 ≡ x = omega arith in
    rw (le-ltb x 0 h, e) (ap {B = List ℕ} (λ r. x ∷ r) (freevars_vars l))

under_of_below : (n : ℕ) (l : List ℕ) → Below n (vars l) → Under n l
under_of_below n [] h = tt
under_of_below n (x ∷ l) h = (h.0, under_of_below n l h.1)

pub simple_of : {s : Sort} (n : ℕ) (t : Tm s) → T (simple t) → Below n t → n + depth t ≤ 64 → Simple n t
simple_of n (Var x) h b d = b
simple_of n (Sym s ts) h b d = simple_of n ts h b (omega arith)
simple_of n (Meta z ts) h b d =
    let r = of_and (are_vars ts) (isset (freevars ts)) h in
    let e = vars_of_are_vars ts r.0 in
    (unvar ts, e, distinct_of_isset (unvar ts) (rw (freevars_vars (unvar ts)) at (rw e at r.1)), under_of_below n (unvar ts) (rw e at b))
simple_of n (Abst t) h b d = let k = depth_positive t in (omega arith, simple_of (suc n) t h (below_abst n t b) (omega arith))
simple_of n Nil h b d = tt
simple_of n (Cons t ts) h b d =
    let r = of_and (simple t) (simple ts) h in
    (simple_of n t r.0 b.0 (omega arith), simple_of n ts r.1 b.1 (omega arith))

pub below_of_closed : (t : Term) → T (closed t) → Below 0 t
below_of_closed t h = AllFree-map _ _ t (λ x k. absurd k) (free_of_every (λ x. false) 0 t (none (freevars t) h))
  where
    none : (l : List ℕ) → T (is_empty l) → T (every (λ x. false) l)
    none [] h = tt
    none (x ∷ l) h = absurd h
