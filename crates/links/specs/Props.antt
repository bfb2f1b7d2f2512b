-- That `Known` has one proof at most, as a fact that a struct keeps.
use Rattle.std.specs.Prelude.{◌≡◌, ℕ, ◌*◌, Bool, true, false, List, T}
use Rattle.std.specs.Coded.{×_prop, Unit-prop, le_prop}
use Rattle.std.proofs.Math.Option as math
use Rattle.std.proofs.Math.Nat.{ℕ_set}
use mathlib.Core.Path.{refl, subst}
use Rattle.documents.proofs.Lists.{never, on, T_of}
use mathlib.Core.List.{is_set}
use mathlib.Core.HLevel.{Σ_prop, Σ_prop_path, hedberg}
use native.Mathlib.Omega.{arith}
use Rattle.documents.specs.Terms.{Sort, Tm, Var, Sym, Meta, Abst, Nil, Cons, Term}
use Rattle.documents.specs.Machine.{equal}
use Rattle.documents.specs.Tables.{Fits}
use Rattle.kahrs.proofs.Equal.{equal_refl, of_equal}
use Rattle.links.specs.Standing.{Known}

Fits-prop : {s : Sort} (t : Tm s) → IsProp (Fits t)
Fits-prop (Var x) = le_prop
Fits-prop (Sym s ts) = let p = Fits-prop ts in hlevel (p, le_prop)
Fits-prop (Meta z ts) = let p = Fits-prop ts in hlevel (p, le_prop)
Fits-prop (Abst t) = Fits-prop t
Fits-prop Nil = Unit-prop
Fits-prop (Cons t ts) = ×_prop (Fits-prop t) (Fits-prop ts)

same_term : {s : Sort} (t u : Tm s) → Dec (t ≡ u)
same_term t u = go (equal t u) refl
  where
    go : (q : Bool) → equal t u ≡ q → Dec (t ≡ u)
    go true e = yes (of_equal t u (T_of (equal t u) e))
    go false e = no (λ p. never (cc (on (equal t u) (subst (λ v. T (equal t v)) p (equal_refl t)))))

found_set : IsSet (math.Option Term)
found_set = hedberg (math.discrete same_term)

list_set : IsSet (List ℕ)
list_set = is_set ℕ_set

-- where an entry stands in the subject's term there is one node
stands_prop : (k : ℕ) (o : ℕ → math.Option Term) (t : Term) → IsProp ((m : ℕ) × ((k ≡ 2 * m) × (o m ≡ math.some t)))
stands_prop k o t p q = Σ_prop_path (λ m. Σ_prop (ℕ_set k (2 * m)) (λ _. found_set (o m) (math.some t))) (let a = p.1.0 in let b = q.1.0 in omega arith)

pub Known-prop : (code subject entries : List ℕ) → IsProp (Known code subject entries)
Known-prop code subject entries = hlevel (le_prop, ℕ_set, list_set, Fits-prop, stands_prop)
