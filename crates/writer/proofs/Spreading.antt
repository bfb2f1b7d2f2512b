-- An entry written node by node, from its first node on, is what its PUSHI writes; and each of its nodes stands where the walk reads it.
use mathlib.Core.Path.{◌≡◌, refl, sym, ap, ap₂, ◌∙◌}
use Prim.Native.Nat.{ℕ, zero, suc, ◌+◌, ◌-◌, ◌*◌, ◌≤◌, ◌<◌, max}
use native.Mathlib.Omega.{arith}
use mathlib.Core.Bool.{Bool, true, false, ◌&&◌, cond}
use mathlib.Core.Option.{Option, none}
use mathlib.Core.List.{List, [], ◌∷◌, ◌++◌}
use lib.Dec.{leb, ltb}
use lib.ListN.{length, get_or}
use borrow.Author.Tests.{le-leb, lt-leb, ltb-true, ltb-false}
use Rattle.documents.specs.Terms.{Sort, Tm, Var, Sym, Meta, Abst, Nil, Cons, len}
use Rattle.documents.specs.Tables.{node_word, table_of, Fits, nodes, depth}
use Rattle.documents.proofs.Lists.{on, T_of, of_and}
use Rattle.trees.specs.Trees.{Writer, or_moved_words, spread_words}
use Rattle.survey.specs.Places.{place, places_of}
use Rattle.survey.proofs.Places.{length_places}
use Rattle.links.specs.Nodewise.{total, inside_of, node_words}
use Rattle.links.proofs.Variables.{no_variable, variable_free}
use Rattle.links.proofs.Gathered.{gathered}

-- ---- The words

suc_right : (m i : ℕ) → m + suc i ≡ suc (m + i)
suc_right m i = omega arith

module _ (f : ℕ → Option Writer) (D off : ℕ) (nst : List ℕ) (d n : ℕ) where
  abbrev g : ℕ → ℕ → ℕ → List ℕ
  g = node_words f D off nst (place d n)

  inside_is : (i j : ℕ) → j < 256 → inside_of (place d n) (place (d + i) (n + j)) ≡ j
  inside_is i j h = let e : (d + i) * 256 + (n + j) - (d * 256 + n) ≡ i * 256 + j = omega arith in rw e (omega arith)

  kept : (w c i j : ℕ) → 65536 ≤ w → g w c (place (d + i) (n + j)) ≡ w ∷ c ∷ []
  kept w c i j h = rw (← (no_variable w (inside_of (place d n) (place (d + i) (n + j))) h))

  variable : (x i j : ℕ) → x ≤ 65535 → j < 256
      → g (node_word 0 x) 0 (place (d + i) (n + j)) ≡ cond (ltb x j) (node_word 0 x ∷ 0 ∷ []) (or_moved_words (f (x - j)) D j x off nst)
  variable x i j h k =
      let z : node_word 0 x ≡ x = omega arith in
      rw (z, inside_is i j k, ← (variable_free x j (omega arith))) (go (ltb x j) refl)
    where
      go : (q : Bool) → ltb x j ≡ q → cond (leb j x) (or_moved_words (f (x - j)) D j x off nst) (x ∷ 0 ∷ []) ≡ cond (ltb x j) (x ∷ 0 ∷ []) (or_moved_words (f (x - j)) D j x off nst)
      go true e = rw (e, lt-leb j x (ltb-true x j e))
      go false e = rw (e, le-leb j x (ltb-false x j e))

  pub spread_is : {s : Sort} (t : Tm s) (i j : ℕ) → Fits t → j ≤ i → i + depth t ≤ 256 → gathered ◌++◌ [] g (d + i) (n + j) t ≡ spread_words f D j off nst t
  spread_is (Var x) i j h k m = variable x i j h (omega arith)
  spread_is (Sym s ts) i j h k m =
      ap (λ (l : List ℕ). l ++ gathered ◌++◌ [] g (suc (d + i)) (n + j) ts) (kept _ _ i j (omega arith)) ∙ ap (λ (l : List ℕ). node_word 1 s ∷ len ts ∷ l) (rw (suc_right d i) at (spread_is ts (suc i) j h.2 (omega arith) (omega arith)))
  spread_is (Meta z ts) i j h k m =
      ap (λ (l : List ℕ). l ++ gathered ◌++◌ [] g (suc (d + i)) (n + j) ts) (kept _ _ i j (omega arith)) ∙ ap (λ (l : List ℕ). node_word 2 z ∷ len ts ∷ l) (rw (suc_right d i) at (spread_is ts (suc i) j h.2 (omega arith) (omega arith)))
  spread_is (Abst t) i j h k m =
      ap (λ (l : List ℕ). l ++ gathered ◌++◌ [] g (suc (d + i)) (suc (n + j)) t) (kept _ _ i j (omega arith)) ∙ ap (λ (l : List ℕ). node_word 3 0 ∷ 1 ∷ l) (rw (suc_right d i, suc_right n j) at (spread_is t (suc i) (suc j) h (omega arith) (omega arith)))
  spread_is Nil i j h k m = refl
  spread_is (Cons t ts) i j h k m = ap₂ {C = List ℕ} ◌++◌ (spread_is t i j h.0 k (omega arith)) (spread_is ts i j h.1 k (omega arith))

-- ---- No keys, and no index moved

module _ (f : ℕ → Option Writer) (D off : ℕ) (nst : List ℕ) (bare : (y : ℕ) → f y ≡ none) (still : D + off ≡ 64) where
  pub spread_same : {s : Sort} (n : ℕ) (t : Tm s) → spread_words f D n off nst t ≡ table_of t
  spread_same n (Var x) = rw (bare (x - n)) (go (ltb x n))
    where
      go : (q : Bool) → cond q (node_word 0 x ∷ 0 ∷ []) (node_word 0 (x + D + off - 64) ∷ 0 ∷ []) ≡ node_word 0 x ∷ 0 ∷ []
      go true = refl
      go false = let z : x + D + off - 64 ≡ x = omega arith in rw z
  spread_same n (Sym s ts) = ap (λ (l : List ℕ). node_word 1 s ∷ len ts ∷ l) (spread_same n ts)
  spread_same n (Meta z ts) = ap (λ (l : List ℕ). node_word 2 z ∷ len ts ∷ l) (spread_same n ts)
  spread_same n (Abst t) = ap (λ (l : List ℕ). node_word 3 0 ∷ 1 ∷ l) (spread_same (suc n) t)
  spread_same n Nil = refl
  spread_same n (Cons t ts) = ap₂ {C = List ℕ} ◌++◌ (spread_same n t) (spread_same n ts)

-- ---- One node more

module _ {A : Type 0} (op : A → A → A) (u : A) (g : ℕ → ℕ → ℕ → A) where
  module _ (op_assoc : (a b c : A) → op (op a b) c ≡ op a (op b c)) (left : (a : A) → op u a ≡ a) (right : (a : A) → op a u ≡ a) where
    pub total_more : (k : ℕ) (ws hs : List ℕ) → 2 * k + 2 ≤ length ws → k < length hs
        → total op u g (suc k) ws hs ≡ op (total op u g k ws hs) (g (get_or ws (2 * k) 0) (get_or ws (2 * k + 1) 0) (get_or hs k 0))
    unfolding total
    total_more zero [] hs h m = absurd (omega arith)
    total_more zero (w ∷ []) hs h m = absurd (omega arith)
    total_more zero (w ∷ c ∷ ws) [] h m = absurd (omega arith)
    total_more zero (w ∷ c ∷ ws) (x ∷ hs) h m = right _ ∙ sym (left _)
    total_more (suc k) [] hs h m = absurd (omega arith)
    total_more (suc k) (w ∷ []) hs h m = absurd (omega arith)
    total_more (suc k) (w ∷ c ∷ ws) [] h m = absurd (omega arith)
    total_more (suc k) (w ∷ c ∷ ws) (x ∷ hs) h m =
        let y : 2 * suc k + 1 ≡ suc (suc (2 * k + 1)) = omega arith in
        let z : 2 * suc k ≡ suc (suc (2 * k)) = omega arith in
        rw (y, z) (ap (op (g w c x)) (total_more k ws hs (omega arith) (omega arith)) ∙ sym (op_assoc _ _ _))

-- each node passes where all do
pub total_each : (g : ℕ → ℕ → ℕ → Bool) (n k : ℕ) (ws hs : List ℕ) → 2 * n ≤ length ws → n ≤ length hs → k < n
    → total ◌&&◌ true g n ws hs ≡ true → g (get_or ws (2 * k) 0) (get_or ws (2 * k + 1) 0) (get_or hs k 0) ≡ true
unfolding total
total_each g zero k ws hs h m j e = absurd (omega arith)
total_each g (suc n) k [] hs h m j e = absurd (omega arith)
total_each g (suc n) k (w ∷ []) hs h m j e = absurd (omega arith)
total_each g (suc n) k (w ∷ c ∷ ws) [] h m j e = absurd (omega arith)
total_each g (suc n) zero (w ∷ c ∷ ws) (x ∷ hs) h m j e = on _ (of_and (g w c x) (total ◌&&◌ true g n ws hs) (T_of _ e)).0
total_each g (suc n) (suc k) (w ∷ c ∷ ws) (x ∷ hs) h m j e =
    let y : 2 * suc k + 1 ≡ suc (suc (2 * k + 1)) = omega arith in
    let z : 2 * suc k ≡ suc (suc (2 * k)) = omega arith in
    rw (y, z) (total_each g n k ws hs (omega arith) (omega arith) (omega arith) (on _ (of_and (g w c x) (total ◌&&◌ true g n ws hs) (T_of _ e)).1))

-- none gives more than the greatest
pub total_greatest : (g : ℕ → ℕ → ℕ → ℕ) (n k : ℕ) (ws hs : List ℕ) → 2 * n ≤ length ws → n ≤ length hs → k < n
    → g (get_or ws (2 * k) 0) (get_or ws (2 * k + 1) 0) (get_or hs k 0) ≤ total max 0 g n ws hs
unfolding total
total_greatest g zero k ws hs h m j = absurd (omega arith)
total_greatest g (suc n) k [] hs h m j = absurd (omega arith)
total_greatest g (suc n) k (w ∷ []) hs h m j = absurd (omega arith)
total_greatest g (suc n) k (w ∷ c ∷ ws) [] h m j = absurd (omega arith)
total_greatest g (suc n) zero (w ∷ c ∷ ws) (x ∷ hs) h m j = omega arith
total_greatest g (suc n) (suc k) (w ∷ c ∷ ws) (x ∷ hs) h m j =
    let y : 2 * suc k + 1 ≡ suc (suc (2 * k + 1)) = omega arith in
    let z : 2 * suc k ≡ suc (suc (2 * k)) = omega arith in
    let i = total_greatest g n k ws hs (omega arith) (omega arith) (omega arith) in
    rw (y, z) (omega arith)

-- ---- The places of an entry's nodes

-- below a root at r, under fewer than 64 of its abstractions
abbrev pub Below : ℕ → ℕ → Type 0
Below r h = (r ≤ h) × (inside_of r h < 64)

abbrev AllBelow : ℕ → List ℕ → Type 0
AllBelow r [] = Unit {0}
AllBelow r (h ∷ hs) = Below r h × AllBelow r hs

both_below : (r : ℕ) (hs is : List ℕ) → AllBelow r hs → AllBelow r is → AllBelow r (hs ++ is)
both_below r [] is p q = q
both_below r (h ∷ hs) is p q = (p.0, both_below r hs is p.1 q)

here : (d n i j : ℕ) → j < 64 → inside_of (place d n) (place (d + i) (n + j)) < 64
here d n i j h = let e : (d + i) * 256 + (n + j) - (d * 256 + n) ≡ i * 256 + j = omega arith in rw e (omega arith)

places_below : (d n : ℕ) {s : Sort} (t : Tm s) (i j : ℕ) → j ≤ i → i + depth t ≤ 64 → AllBelow (place d n) (places_of (d + i) (n + j) t)
places_below d n (Var x) i j h m = ((omega arith, here d n i j (omega arith)), tt)
places_below d n (Sym s ts) i j h m = ((omega arith, here d n i j (omega arith)), rw (suc_right d i) at (places_below d n ts (suc i) j (omega arith) (omega arith)))
places_below d n (Meta z ts) i j h m = ((omega arith, here d n i j (omega arith)), rw (suc_right d i) at (places_below d n ts (suc i) j (omega arith) (omega arith)))
places_below d n (Abst t) i j h m = ((omega arith, here d n i j (omega arith)), rw (suc_right d i, suc_right n j) at (places_below d n t (suc i) (suc j) (omega arith) (omega arith)))
places_below d n Nil i j h m = tt
places_below d n (Cons t ts) i j h m =
    both_below (place d n) (places_of (d + i) (n + j) t) (places_of (d + i) (n + j) ts) (places_below d n t i j h (omega arith)) (places_below d n ts i j h (omega arith))

below_at : (r : ℕ) (hs is : List ℕ) (k : ℕ) → AllBelow r hs → k < length hs → Below r (get_or (hs ++ is) k 0)
below_at r [] is k p h = absurd (omega arith)
below_at r (x ∷ hs) is zero p h = p.0
below_at r (x ∷ hs) is (suc k) p h = below_at r hs is k p.1 (omega arith)

pub node_below : (d n : ℕ) {s : Sort} (t : Tm s) (later : List ℕ) (k : ℕ) → depth t ≤ 64 → k < nodes t → Below (place d n) (get_or (places_of d n t ++ later) k 0)
node_below d n t later k h m =
    let y : d + 0 ≡ d = omega arith in
    let z : n + 0 ≡ n = omega arith in
    below_at (place d n) (places_of d n t) later k (rw (y, z) at (places_below d n t 0 0 (omega arith) (omega arith))) (rw (length_places d n t) m)
