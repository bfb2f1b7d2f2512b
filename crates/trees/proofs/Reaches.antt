-- How far the indices of a tree's term reach. Those of variables that an open LAMBDA or an abstraction of the term binds are small where the
-- term is not deep, and those of an entry fit; so the reach that the tree says decides whether all fit.
use mathlib.Core.Path.{◌≡◌, refl, sym, ap, ap₂, ◌∙◌}
use mathlib.Core.Logic.{◌⊎◌, inl, inr}
use Prim.Native.Nat.{ℕ, zero, suc, ◌+◌, ◌-◌, ◌≤◌, ◌<◌, max}
use native.Mathlib.Omega.{arith}
use mathlib.Core.Bool.{Bool, true, false, ◌&&◌, cond, and-true}
use mathlib.Core.Option.{Option, none, some}
use mathlib.Core.List.{List, [], ◌∷◌}
use lib.Dec.{T, leb, ltb, leb-zero, leb-suc-suc}
use lib.ListN.{length}
use borrow.Author.Tests.{lt-ltb, le-ltb, le-leb, ltb-true, ltb-false}
use Rattle.documents.specs.Limits.{d_shift}
use Rattle.documents.specs.Lists.{every, assoc, pairlists}
use Rattle.documents.specs.Terms.{Sort, one, many, Tm, Var, Sym, Meta, Abst, Nil, Cons, Term, Terms, len, rename, subst}
use Rattle.documents.specs.Tables.{Fits, depth, indices}
use Rattle.documents.proofs.Lists.{leb_max, every_append}
use Rattle.documents.proofs.Substitution.{rename_unders, subst_unders}
use Rattle.documents.proofs.FreeVariables.{unders, AllFree, AllFree-map}
use Rattle.kahrs.proofs.RightSide.{covered}
use Rattle.trees.specs.Trees.{Tree, Cell, Block, Bound, Whole, Pushed, Leaf, More, Counted, greatest, further, or_moved, spread_reach, reach_of}
use Rattle.trees.proofs.Related.{AllRelated, BothRelated, found_related}
use Rattle.documents.proofs.Machine.{View, view}
use Rattle.trees.proofs.Values.{listed, length_listed, depth_at, or_past, instead, past_of_none, value, len_value, Good}

-- one more than the highest index, as written, of the variables that lie outside of n abstractions above t, 0 if there is none
abbrev pub farthest : {s : Sort} → ℕ → Tm s → ℕ
farthest n (Var x) = cond (ltb x n) 0 (suc x)
farthest n (Sym s ts) = farthest n ts
farthest n (Meta z ts) = farthest n ts
farthest n (Abst t) = farthest (suc n) t
farthest n Nil = 0
farthest n (Cons t ts) = max (farthest n t) (farthest n ts)

-- ---- A term that is moved under n abstractions reaches n further

further_max : (n a b : ℕ) → max (further n a) (further n b) ≡ further n (max a b)
further_max n zero zero = refl
further_max n zero (suc b) = let e : max 0 (suc b) ≡ suc b = omega arith in rw e (omega arith)
further_max n (suc a) zero = let e : max (suc a) 0 ≡ suc a = omega arith in rw e (omega arith)
further_max n (suc a) (suc b) = let e : max (suc a) (suc b) ≡ suc (max a b) = omega arith in rw e (omega arith)

moved_past : (n k x : ℕ) → ((x < k) × (rename_unders k (λ z. n + z) x ≡ x)) ⊎ ((k ≤ x) × (rename_unders k (λ z. n + z) x ≡ x + n))
moved_past n zero x = inr (omega arith, omega arith)
moved_past n (suc k) zero = inl (omega arith, refl)
moved_past n (suc k) (suc x) = go (moved_past n k x)
  where
    go : ((x < k) × (rename_unders k (λ z. n + z) x ≡ x)) ⊎ ((k ≤ x) × (rename_unders k (λ z. n + z) x ≡ x + n))
        → ((suc x < suc k) × (suc (rename_unders k (λ z. n + z) x) ≡ suc x)) ⊎ ((suc k ≤ suc x) × (suc (rename_unders k (λ z. n + z) x) ≡ suc x + n))
    go (inl h) = inl (omega (arith, h.0), ap suc h.1)
    go (inr h) = inr (omega (arith, h.0), omega (arith, h.1))

var_far : (n k m m' x : ℕ) → m' ≡ m + n → k ≤ m → farthest m' (Var (rename_unders k (λ z. n + z) x)) ≡ further n (farthest m (Var x))
var_far n k m m' x e h = go (moved_past n k x)
  where
    past : (q : Bool) → ltb x m ≡ q → k ≤ x → cond (ltb (x + n) m') 0 (suc (x + n)) ≡ further n (cond q 0 (suc x))
    past true q j = let i = ltb-true x m q in rw (lt-ltb (x + n) m' (omega arith))
    past false q j = let i = ltb-false x m q in rw (le-ltb (x + n) m' (omega arith)) (omega arith)

    go : ((x < k) × (rename_unders k (λ z. n + z) x ≡ x)) ⊎ ((k ≤ x) × (rename_unders k (λ z. n + z) x ≡ x + n))
        → farthest m' (Var (rename_unders k (λ z. n + z) x)) ≡ further n (farthest m (Var x))
    go (inl j) = rw (j.1, lt-ltb x m (omega (arith, j.0)), lt-ltb x m' (omega (arith, j.0)))
    go (inr j) = rw j.1 (past (ltb x m) refl j.0)

pub rename_far : {s : Sort} (n k m m' : ℕ) (t : Tm s) → m' ≡ m + n → k ≤ m → farthest m' (rename (rename_unders k (λ z. n + z)) t) ≡ further n (farthest m t)
rename_far n k m m' (Var x) e h = var_far n k m m' x e h
rename_far n k m m' (Sym s ts) e h = rename_far n k m m' ts e h
rename_far n k m m' (Meta z ts) e h = rename_far n k m m' ts e h
rename_far n k m m' (Abst t) e h = rename_far n (suc k) (suc m) (suc m') t (omega arith) (omega arith)
rename_far n k m m' Nil e h = refl
rename_far n k m m' (Cons t ts) e h =
    ap₂ {C = ℕ} max (rename_far n k m m' t e h) (rename_far n k m m' ts e h) ∙ further_max n (farthest m t) (farthest m ts)

-- ---- An entry's walk

module _ (l : ℕ) (f : ℕ → Option ℕ) (D : ℕ) (φ : ℕ → Term) where
  abbrev Far : ℕ → Type 0
  Far y = (n : ℕ) → or_moved (f y) D n (n + y) ≡ farthest (l + n) (rename (λ z. n + z) (φ y))

  spread_var : (n m x : ℕ) → m ≡ l + n → View φ Far n x → spread_reach f D n (Var x) ≡ farthest m (subst_unders n φ x)
  spread_var n m x d (inl h) = rw (lt-ltb x n h.0, h.1, lt-ltb x m (omega (arith, h.0)))
  spread_var n m x d (inr h) =
      let e : n + h.0 - n ≡ h.0 = omega arith in
      let k : n ≤ n + h.0 = omega arith in
      rw (d, h.2, h.1, le-ltb (n + h.0) n k, e) (h.3 n)

  pub spread_reach_lem : {s : Sort} (n m : ℕ) (t : Tm s) → m ≡ l + n → AllFree (unders n Far) t → spread_reach f D n t ≡ farthest m (subst (subst_unders n φ) t)
  spread_reach_lem n m (Var x) d h = spread_var n m x d (view φ Far n x h)
  spread_reach_lem n m (Sym s ts) d h = spread_reach_lem n m ts d h
  spread_reach_lem n m (Meta z ts) d h = spread_reach_lem n m ts d h
  spread_reach_lem n m (Abst t) d h = spread_reach_lem (suc n) (suc m) t (omega arith) h
  spread_reach_lem n m Nil d h = refl
  spread_reach_lem n m (Cons t ts) d h = ap₂ {C = ℕ} max (spread_reach_lem n m t d h.0) (spread_reach_lem n m ts d h.1)

-- ---- Trees

abbrev pub ReachOf : ℕ → ℕ → Term → Type 0
ReachOf l r u = r ≡ farthest l u

abbrev pub ReachesOf : (s : Sort) → ℕ → Counted s → Tm s → Type 0
ReachesOf one l r u = ReachOf l r u
ReachesOf many l rs us = AllRelated (ReachOf l) rs (listed us)

greatest_reach : (l : ℕ) (rs : List ℕ) (us : Terms) → AllRelated (ReachOf l) rs (listed us) → greatest rs ≡ farthest l us
greatest_reach l [] Nil h = refl
greatest_reach l [] (Cons u us) h = absurd h
greatest_reach l (r ∷ rs) Nil h = absurd h
greatest_reach l (r ∷ rs) (Cons u us) h = ap₂ {C = ℕ} max h.0 (greatest_reach l rs us h.1)

free_reach : (l b D y : ℕ) (o : Option ℕ) (u : Option Term) → D + b ≡ l + d_shift → BothRelated (ReachOf l) o u → (u ≡ none → b ≤ y)
    → (n : ℕ) → or_moved o D n (n + y) ≡ farthest (l + n) (rename (λ z. n + z) (or_past u l b y))
free_reach l b D y none none d h p n =
    let k : b ≤ y = p refl in
    rw (le-ltb (n + (l + (y - b))) (l + n) (omega arith)) (omega arith)
free_reach l b D y none (some u) d h p n = absurd h
free_reach l b D y (some r) none d h p n = absurd h
free_reach l b D y (some r) (some u) d h p n = ap (further n) h ∙ sym (rename_far n 0 l (l + n) u refl (omega arith))

pushed_reach : (l D : ℕ) (ks rs : List ℕ) (us : Terms) (a : Term) → D + depth_at l D ≡ l + d_shift → length ks ≡ len us
    → AllFree (λ y. T (covered ks (depth_at l D) y)) a → AllRelated (ReachOf l) rs (listed us)
    → spread_reach (assoc (pairlists ks rs)) D 0 a ≡ farthest l (subst (instead l (depth_at l D) ks us) a)
pushed_reach l D ks rs us a d c f h =
    spread_reach_lem l (assoc (pairlists ks rs)) D (instead l (depth_at l D) ks us) 0 l a (omega arith)
    (AllFree-map _ _ a
    (λ y t. free_reach l (depth_at l D) D y (assoc (pairlists ks rs) y) (assoc (pairlists ks (listed us)) y) d
    (found_related (ReachOf l) ks rs (listed us) h y) (past_of_none ks (listed us) (depth_at l D) y (c ∙ sym (length_listed us)) t)) f)

module _ (ent : ℕ → Term) where
  -- in a body, where no entry stands whole
  pub reach_is : {s : Sort} (l : ℕ) (p : Tree s) → Good ent true l p → ReachesOf s l (reach_of ent p) (value ent l p)
  reach_is l (Cell s ps) g = greatest_reach l (reach_of ent ps) (value ent l ps) (reach_is l ps g)
  reach_is l (Block p) g = reach_is (suc l) p g
  reach_is l (Bound x) g = rw (lt-ltb x l g)
  reach_is l (Whole e) g = absurd g
  reach_is l (Pushed e D ks ps) g =
      pushed_reach l D ks (reach_of ent ps) (value ent l ps) (ent e) g.0 (g.1 ∙ sym (len_value ent l ps)) g.2 (reach_is l ps g.3)
  reach_is l Leaf g = tt
  reach_is l (More p ps) g = (reach_is l p g.0, reach_is l ps g.1)

-- ---- Whether all indices fit

pub fits_in : {s : Sort} (l : ℕ) (t : Tm s) → Fits t → farthest l t ≤ 65536
fits_in l (Var x) h = go (ltb x l)
  where
    go : (q : Bool) → cond q 0 (suc x) ≤ 65536
    go true = omega arith
    go false = omega arith
fits_in l (Sym s ts) h = fits_in l ts h.2
fits_in l (Meta z ts) h = fits_in l ts h.2
fits_in l (Abst t) h = fits_in (suc l) t h
fits_in l Nil h = omega arith
fits_in l (Cons t ts) h = let a = fits_in l t h.0 in let b = fits_in l ts h.1 in omega arith

module _ (ent : ℕ → Term) (N : ℕ) (fit : (e l : ℕ) → farthest l (ent e) ≤ N) where
  abbrev FitAs : (s : Sort) → ℕ → Counted s → Tm s → Type 0
  FitAs one l r u = leb r N ≡ leb (farthest l u) N
  FitAs many l rs us = leb (greatest rs) N ≡ leb (farthest l us) N

  -- the reach that the tree says fits where that of the term does
  pub reach_fits : {s : Sort} (inside : Bool) (l : ℕ) (p : Tree s) → Good ent inside l p → FitAs s l (reach_of ent p) (value ent l p)
  reach_fits inside l (Cell s ps) g = reach_fits inside l ps g
  reach_fits inside l (Block p) g = reach_fits inside (suc l) p g
  reach_fits inside l (Bound x) g = rw (lt-ltb x l g)
  reach_fits inside l (Whole e) g = leb-zero N ∙ sym (le-leb (farthest l (ent e)) N (fit e l))
  reach_fits inside l (Pushed e D ks ps) g = ap (λ (r : ℕ). leb r N) (reach_is ent l (Pushed e D ks ps) g)
  reach_fits inside l Leaf g = refl
  reach_fits inside l (More p ps) g =
      leb_max (reach_of ent p) (greatest (reach_of ent ps)) N
      ∙ ap₂ {C = Bool} ◌&&◌ (reach_fits inside l p g.0) (reach_fits inside l ps g.1)
      ∙ sym (leb_max (farthest l (value ent l p)) (farthest l (value ent l ps)) N)

-- in a term that is not deep the farthest decides for all indices
pub every_index : {s : Sort} (N n : ℕ) (t : Tm s) → n + depth t ≤ suc N → every (λ x. leb x N) (indices t) ≡ leb (farthest n t) (suc N)
every_index N n (Var x) h = and-true (leb x N) ∙ go (ltb x n) refl
  where
    go : (q : Bool) → ltb x n ≡ q → leb x N ≡ leb (cond q 0 (suc x)) (suc N)
    go true q = let i = ltb-true x n q in le-leb x N (omega arith) ∙ sym (leb-zero (suc N))
    go false q = sym (leb-suc-suc x N)
every_index N n (Sym s ts) h = every_index N n ts (omega arith)
every_index N n (Meta z ts) h = every_index N n ts (omega arith)
every_index N n (Abst t) h = every_index N (suc n) t (omega arith)
every_index N n Nil h = sym (leb-zero (suc N))
every_index N n (Cons t ts) h =
    every_append (λ x. leb x N) (indices t) (indices ts)
    ∙ ap₂ {C = Bool} ◌&&◌ (every_index N n t (omega arith)) (every_index N n ts (omega arith))
    ∙ sym (leb_max (farthest n t) (farthest n ts) (suc N))
