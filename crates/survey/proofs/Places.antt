-- Laws of the table of places: how long it is, and that the part of it at a subterm's node is that subterm's own.
use mathlib.Core.Path.{◌≡◌, refl, sym, ap, ◌∙◌}
use Prim.Native.Nat.{ℕ, zero, suc, ◌+◌, ◌-◌, ◌≤◌, max}
use native.Mathlib.Omega.{arith}
use mathlib.Core.Bool.{Bool, true, false, cond}
use mathlib.Core.Option.{some}
use mathlib.Core.List.{List, [], ◌∷◌, ◌++◌, append_assoc, append-nil}
use lib.Dec.{ltb}
use lib.ListN.{length, length-append}
use borrow.Author.Tests.{ltb-false}
use Rattle.documents.specs.Terms.{Sort, Tm, Var, Sym, Meta, Abst, Nil, Cons, Term}
use Rattle.documents.specs.Tables.{nodes, depth, subterm}
use Rattle.documents.proofs.Lists.{never}
use Rattle.survey.specs.Places.{place, places_of}

pub length_places : {s : Sort} (d n : ℕ) (t : Tm s) → length (places_of d n t) ≡ nodes t
length_places d n (Var x) = refl
length_places d n (Sym s ts) = ap suc (length_places (suc d) n ts)
length_places d n (Meta z ts) = ap suc (length_places (suc d) n ts)
length_places d n (Abst t) = ap suc (length_places (suc d) (suc n) t)
length_places d n Nil = refl
length_places d n (Cons t ts) =
    let h = length_places d n t in
    let k = length_places d n ts in
    rw (length-append (places_of d n t) (places_of d n ts)) (omega arith)

-- ---- The part at a node

-- The places of u stand in the words ws behind m others; d₀ and n₀ are those of the whole's root, and `deep` is the whole's depth.
pub record Placed (ws : List ℕ) (m : ℕ) (u : Term) (d₀ n₀ deep : ℕ) : Type 0 where
  pub d : ℕ
  pub k : ℕ
  pub before : List ℕ
  pub behind : List ℕ
  pub whole : ws ≡ before ++ (places_of d k u ++ behind)
  pub start : length before ≡ m
  pub lower : d₀ ≤ d
  pub under : n₀ ≤ k
  -- no more abstractions than levels were passed
  pub apart : k + d₀ ≤ d + n₀
  pub deeper : d + depth u ≤ d₀ + deep

root_placed : (d n : ℕ) (t u : Term) → some t ≡ some u → Placed (places_of d n t) 0 u d n (depth t)
root_placed d n t u e =
    let q : t ≡ u = cc in
    rw q (record {
      d = d;
      k = n;
      before = [];
      behind = [];
      whole = sym (append-nil (places_of d n u));
      start = refl;
      lower = omega arith;
      under = omega arith;
      apart = omega arith;
      deeper = omega arith;
    })

-- below a node
inner_placed : {ws : List ℕ} {m : ℕ} {u : Term} {n₁ deep : ℕ} (w d₀ n₀ : ℕ) → n₀ ≤ n₁ → n₁ ≤ suc n₀ → Placed ws m u (suc d₀) n₁ deep
    → Placed (w ∷ ws) (suc m) u d₀ n₀ (suc deep)
inner_placed w d₀ n₀ h i p = record {
  d = p.d;
  k = p.k;
  before = w ∷ p.before;
  behind = p.behind;
  whole = ap (λ (l : List ℕ). w ∷ l) p.whole;
  start = ap suc p.start;
  lower = let q = p.lower in omega arith;
  under = let q = p.under in omega arith;
  apart = let q = p.apart in omega arith;
  deeper = let q = p.deeper in omega arith;
}

first_placed : {ws : List ℕ} {m : ℕ} {u : Term} {d₀ n₀ deep : ℕ} (vs : List ℕ) (more : ℕ) → Placed ws m u d₀ n₀ deep → Placed (ws ++ vs) m u d₀ n₀ (max deep more)
first_placed {u = u} vs more p = record {
  d = p.d;
  k = p.k;
  before = p.before;
  behind = p.behind ++ vs;
  whole =
      ap (λ (l : List ℕ). l ++ vs) p.whole ∙ append_assoc p.before _ vs
      ∙ ap (λ (l : List ℕ). p.before ++ l) (append_assoc (places_of p.d p.k u) p.behind vs);
  start = p.start;
  lower = p.lower;
  under = p.under;
  apart = p.apart;
  deeper = let q = p.deeper in omega arith;
}

later_placed : {vs : List ℕ} {u : Term} {d₀ n₀ deep : ℕ} (n m : ℕ) (ws : List ℕ) (more : ℕ) → length ws ≡ n → n ≤ m → Placed vs (m - n) u d₀ n₀ deep
    → Placed (ws ++ vs) m u d₀ n₀ (max more deep)
later_placed n m ws more l h p = record {
  d = p.d;
  k = p.k;
  before = ws ++ p.before;
  behind = p.behind;
  whole = ap (λ (l : List ℕ). ws ++ l) p.whole ∙ sym (append_assoc ws p.before _);
  start = let q = p.start in rw (length-append ws p.before) (omega arith);
  lower = p.lower;
  under = p.under;
  apart = p.apart;
  deeper = let q = p.deeper in omega arith;
}

pub placed : {s : Sort} (d n : ℕ) (t : Tm s) (m : ℕ) (u : Term) → subterm t m ≡ some u → Placed (places_of d n t) m u d n (depth t)
placed d n (Var x) zero u e = root_placed d n (Var x) u e
placed d n (Var x) (suc m) u e = never (cc)
placed d n (Sym s ts) zero u e = root_placed d n (Sym s ts) u e
placed d n (Sym s ts) (suc m) u e = inner_placed _ d n (omega arith) (omega arith) (placed (suc d) n ts m u e)
placed d n (Meta z ts) zero u e = root_placed d n (Meta z ts) u e
placed d n (Meta z ts) (suc m) u e = inner_placed _ d n (omega arith) (omega arith) (placed (suc d) n ts m u e)
placed d n (Abst t) zero u e = root_placed d n (Abst t) u e
placed d n (Abst t) (suc m) u e = inner_placed _ d n (omega arith) (omega arith) (placed (suc d) (suc n) t m u e)
placed d n Nil m u e = never (cc)
placed d n (Cons t ts) m u e = go (ltb m (nodes t)) refl (placed d n t m u) (placed d n ts (m - nodes t) u) e
  where
    go : (q : Bool) → ltb m (nodes t) ≡ q → (subterm t m ≡ some u → Placed (places_of d n t) m u d n (depth t))
        → (subterm ts (m - nodes t) ≡ some u → Placed (places_of d n ts) (m - nodes t) u d n (depth ts))
        → cond q (subterm t m) (subterm ts (m - nodes t)) ≡ some u → Placed (places_of d n t ++ places_of d n ts) m u d n (max (depth t) (depth ts))
    go true q f g e = first_placed (places_of d n ts) (depth ts) (f e)
    go false q f g e = later_placed (nodes t) m (places_of d n t) (depth t) (length_places d n t) (ltb-false m (nodes t) q) (g e)

-- a term's own place comes first
pub places_root : (d n : ℕ) (t : Term) → (l : List ℕ) × (places_of d n t ≡ place d n ∷ l)
places_root d n (Var x) = (_, refl)
places_root d n (Sym s ts) = (_, refl)
places_root d n (Meta z ts) = (_, refl)
places_root d n (Abst t) = (_, refl)
