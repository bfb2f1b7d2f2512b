-- The term that a tree makes under l open LAMBDAs, as it is before OFFSET and NSTACK rename it, and what the check found of the tree.
use mathlib.Core.Path.{◌≡◌, refl, ap}
use Prim.Native.Nat.{ℕ, suc, ◌+◌, ◌-◌, ◌≤◌, ◌<◌}
use native.Mathlib.Omega.{arith}
use mathlib.Core.Bool.{Bool, true, not, ◌||◌, cond}
use mathlib.Core.Option.{Option, none, some}
use mathlib.Core.List.{List, [], ◌∷◌}
use lib.Dec.{T, eqb, leb, leb→le}
use lib.ListN.{length}
use Rattle.documents.specs.Limits.{d_shift}
use Rattle.documents.specs.Lists.{member, assoc, pairlists}
use Rattle.documents.specs.Terms.{Sort, many, Tm, Var, Sym, Abst, Nil, Cons, Term, Terms, len, subst}
use Rattle.documents.proofs.Lists.{never, case}
use Rattle.documents.proofs.Substitution.{select}
use Rattle.documents.proofs.FreeVariables.{AllFree}
use Rattle.kahrs.proofs.RightSide.{place, covered}
use Rattle.trees.specs.Trees.{Tree, Cell, Block, Bound, Whole, Pushed, Leaf, More, count}

abbrev pub listed : Terms → List Term
listed Nil = []
listed (Cons t ts) = t ∷ listed ts

pub length_listed : (ts : Terms) → length (listed ts) ≡ len ts
length_listed Nil = refl
length_listed (Cons t ts) = ap suc (length_listed ts)

-- the depth of the entry of a PUSHI that stands under l open LAMBDAs
abbrev pub depth_at : ℕ → ℕ → ℕ
depth_at l D = l + d_shift - D

-- what stands for the variable y of an entry under b abstractions: the body's term, or y moved
abbrev pub or_past : Option Term → ℕ → ℕ → ℕ → Term
or_past none l b y = Var (l + (y - b))
or_past (some u) l b y = u

abbrev pub instead : ℕ → ℕ → List ℕ → Terms → ℕ → Term
instead l b ks us y = or_past (assoc (pairlists ks (listed us)) y) l b y

-- 004's select behind place is this
pub select_place : (l b : ℕ) (ks : List ℕ) (us : Terms) → length ks ≡ len us → (y : ℕ) → select l us (place ks b y) ≡ instead l b ks us y
select_place l b [] Nil e y = refl
select_place l b [] (Cons u us) e y = absurd (omega arith)
select_place l b (k ∷ ks) Nil e y = absurd (omega arith)
select_place l b (k ∷ ks) (Cons u us) e y =
    case (λ q. select l (Cons u us) (cond q 0 (suc (place ks b y))) ≡ or_past (cond q (some u) (assoc (pairlists ks (listed us)) y)) l b y) (eqb k y)
    (λ t. refl) (λ t. select_place l b ks us (omega arith) y)

-- a covered variable without a body lies past the depth
pub past_of_none : {A : Type 0} (ks : List ℕ) (us : List A) (b y : ℕ) → length ks ≡ length us → T (covered ks b y)
    → assoc (pairlists ks us) y ≡ none → b ≤ y
past_of_none [] us b y e h n = leb→le b y h
past_of_none (k ∷ ks) [] b y e h n = absurd (omega arith)
past_of_none {A} (k ∷ ks) (u ∷ us) b y e h n =
    case (λ q. T ((q || member ks y) || leb b y) → cond q (some u) (assoc (pairlists ks us) y) ≡ none → b ≤ y) (eqb k y)
    (λ t h n. never (cc)) (λ t h n. past_of_none ks us b y (omega arith) h n) h n

module _ (ent : ℕ → Term) where
  abbrev pub value : {s : Sort} → ℕ → Tree s → Tm s
  value l (Cell s ps) = Sym s (value l ps)
  value l (Block p) = Abst (value (suc l) p)
  value l (Bound x) = Var x
  value l (Whole e) = ent e
  value l (Pushed e D ks ps) = subst (instead l (depth_at l D) ks (value l ps)) (ent e)
  value l Leaf = Nil
  value l (More p ps) = Cons (value l p) (value l ps)

  pub len_value : (l : ℕ) (ps : Tree many) → len (value l ps) ≡ count ps
  len_value l Leaf = refl
  len_value l (More p ps) = ap suc (len_value l ps)

  -- `inside`: in a body
  abbrev pub Good : {s : Sort} → Bool → ℕ → Tree s → Type 0
  Good inside l (Cell s ps) = Good inside l ps
  Good inside l (Block p) = Good inside (suc l) p
  Good inside l (Bound x) = x < l
  Good inside l (Whole e) = T (not inside)
  Good inside l (Pushed e D ks ps) =
      (D + depth_at l D ≡ l + d_shift) × (length ks ≡ count ps) × AllFree (λ y. T (covered ks (depth_at l D) y)) (ent e) × Good true l ps
  Good inside l Leaf = Unit {0}
  Good inside l (More p ps) = Good inside l p × Good inside l ps
