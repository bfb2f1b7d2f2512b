-- How deep a tree says that its term is, it is; OFFSET and NSTACK do not change it.
use mathlib.Core.Path.{◌≡◌, refl, ap, ap₂}
use mathlib.Core.Logic.{inl, inr}
use Prim.Native.Nat.{ℕ, suc, ◌+◌, ◌-◌, ◌≤◌, max}
use native.Mathlib.Omega.{arith}
use mathlib.Core.Option.{Option, none, some}
use mathlib.Core.List.{List, [], ◌∷◌}
use borrow.Author.Tests.{lt-ltb, le-ltb}
use Rattle.documents.specs.Lists.{assoc, pairlists}
use Rattle.documents.specs.Terms.{Sort, one, many, Tm, Var, Sym, Meta, Abst, Nil, Cons, Term, Terms, rename_under, rename, subst}
use Rattle.documents.specs.Tables.{depth}
use Rattle.documents.proofs.Substitution.{subst_unders}
use Rattle.documents.proofs.FreeVariables.{unders, AllFree, free_all}
use Rattle.trees.specs.Trees.{Tree, Cell, Block, Bound, Whole, Pushed, Leaf, More, or_one, Counted, spread_depth, greatest, depth_of}
use Rattle.trees.proofs.Related.{AllRelated, BothRelated, found_related}
use Rattle.documents.proofs.Machine.{View, view}
use Rattle.trees.proofs.Values.{listed, depth_at, or_past, instead, value}

pub depth_rename : {s : Sort} (f : ℕ → ℕ) (t : Tm s) → depth (rename f t) ≡ depth t
depth_rename f (Var x) = refl
depth_rename f (Sym s ts) = ap suc (depth_rename f ts)
depth_rename f (Meta z ts) = ap suc (depth_rename f ts)
depth_rename f (Abst t) = ap suc (depth_rename (rename_under f) t)
depth_rename f Nil = refl
depth_rename f (Cons t ts) = ap₂ {C = ℕ} max (depth_rename f t) (depth_rename f ts)

module _ (f : ℕ → Option ℕ) (φ : ℕ → Term) where
  abbrev Deep : ℕ → Type 0
  Deep y = or_one (f y) ≡ depth (φ y)

  spread_var : (n x : ℕ) → View φ Deep n x → spread_depth f n (Var x) ≡ depth (subst_unders n φ x)
  spread_var n x (inl h) = rw (lt-ltb x n h.0, h.1)
  spread_var n x (inr h) =
      let e : n + h.0 - n ≡ h.0 = omega arith in
      let k : n ≤ n + h.0 = omega arith in
      rw (h.2, h.1, le-ltb (n + h.0) n k, e, depth_rename (λ z. n + z) (φ h.0)) h.3

  pub spread_depth_lem : {s : Sort} (n : ℕ) (t : Tm s) → AllFree (unders n Deep) t → spread_depth f n t ≡ depth (subst (subst_unders n φ) t)
  spread_depth_lem n (Var x) h = spread_var n x (view φ Deep n x h)
  spread_depth_lem n (Sym s ts) h = ap suc (spread_depth_lem n ts h)
  spread_depth_lem n (Meta z ts) h = ap suc (spread_depth_lem n ts h)
  spread_depth_lem n (Abst t) h = ap suc (spread_depth_lem (suc n) t h)
  spread_depth_lem n Nil h = refl
  spread_depth_lem n (Cons t ts) h = ap₂ {C = ℕ} max (spread_depth_lem n t h.0) (spread_depth_lem n ts h.1)

abbrev pub DepthOf : ℕ → Term → Type 0
DepthOf d u = d ≡ depth u

abbrev pub DepthsOf : (s : Sort) → Counted s → Tm s → Type 0
DepthsOf one d u = DepthOf d u
DepthsOf many ds us = AllRelated DepthOf ds (listed us)

greatest_depth : (ds : List ℕ) (us : Terms) → AllRelated DepthOf ds (listed us) → greatest ds ≡ depth us
greatest_depth [] Nil h = refl
greatest_depth [] (Cons u us) h = absurd h
greatest_depth (d ∷ ds) Nil h = absurd h
greatest_depth (d ∷ ds) (Cons u us) h = ap₂ {C = ℕ} max h.0 (greatest_depth ds us h.1)

free_depth : (l b y : ℕ) (o : Option ℕ) (u : Option Term) → BothRelated DepthOf o u → or_one o ≡ depth (or_past u l b y)
free_depth l b y none none h = refl
free_depth l b y none (some u) h = absurd h
free_depth l b y (some d) none h = absurd h
free_depth l b y (some d) (some u) h = h

module _ (ent : ℕ → Term) where
  pub depth_is : {s : Sort} (l : ℕ) (p : Tree s) → DepthsOf s (depth_of ent p) (value ent l p)
  depth_is l (Cell s ps) = ap suc (greatest_depth (depth_of ent ps) (value ent l ps) (depth_is l ps))
  depth_is l (Block p) = ap suc (depth_is (suc l) p)
  depth_is l (Bound x) = refl
  depth_is l (Whole e) = refl
  depth_is l (Pushed e D ks ps) =
      spread_depth_lem (assoc (pairlists ks (depth_of ent ps))) (instead l (depth_at l D) ks (value ent l ps)) 0 (ent e)
      (free_all _ (ent e) (λ y. free_depth l (depth_at l D) y (assoc (pairlists ks (depth_of ent ps)) y) (assoc (pairlists ks (listed (value ent l ps))) y)
      (found_related DepthOf ks (depth_of ent ps) (listed (value ent l ps)) (depth_is l ps) y)))
  depth_is l Leaf = tt
  depth_is l (More p ps) = (depth_is l p, depth_is l ps)
