-- What a plan with another term in a node's place is, from its parts: its words, nodes, depth, indices, names. Where the plan itself keeps the limits,
-- only the new term and the depth of its place are left to ask.
use mathlib.Core.Path.{◌≡◌, refl, sym, ap, ap₂, ◌∙◌}
use Prim.Native.Nat.{ℕ, suc, ◌+◌, ◌-◌, ◌*◌, ◌/◌, ◌≤◌, max, min}
use native.Mathlib.Omega.{arith}
use mathlib.Core.Bool.{Bool, true, false, ◌&&◌, and_assoc}
use mathlib.Core.Option.{some}
use mathlib.Core.List.{List, [], ◌∷◌, ◌++◌, append_assoc, append-nil}
use lib.Dec.{leb}
use lib.ListN.{length, take, drop, length-append}
use lib.Seq.{take_at, drop_at}
use borrow.Author.Tests.{le-leb, leb-true, leb-false}
use Rattle.documents.specs.declared.Refusal.TheVariants.{ResultTooLarge, ResultTooDeep, ResultIndexTooLarge}
use Rattle.documents.specs.Limits.{plan_limit, depth_limit, index_limit}
use Rattle.documents.specs.Lists.{every}
use Rattle.documents.specs.Terms.{Sort, many, Tm, Term, len}
use Rattle.documents.specs.Tables.{node_word, table_of, Fits, nodes, depth, indices, subterm}
use Rattle.documents.specs.Rules.{metas}
use Rattle.documents.specs.Numbers.{answered, unless, result_for}
use Rattle.documents.proofs.Lists.{never, both_true, every_append}
use Rattle.documents.proofs.Tables.{length_table_of}
use Rattle.documents.proofs.Numbers.{unless_is}
use Rattle.documents.proofs.FreeVariables.{under, AllFree}
use Rattle.kahrs.proofs.Plain.{append_none}
use Rattle.rewriting.specs.Replacing.{replace, depth_at}
use Rattle.rewriting.proofs.Contexts.{Context, Here, InSym, InMeta, InAbst, First, Later, plug, node, level, replace_plug, depth_at_plug, by-context, replaced_nodes}

-- ---- Words

-- how many terms there are, whatever stands in the place
abbrev pub width : Context many → ℕ
width (First k ts) = suc (len ts)
width (Later t k) = suc (width k)

pub len_plug : (k : Context many) (u : Term) → len (plug k u) ≡ width k
len_plug (First k ts) u = refl
len_plug (Later t k) u = ap suc (len_plug k u)

abbrev words_before : {s : Sort} → Context s → List ℕ
words_before Here = []
words_before (InSym s k) = node_word 1 s ∷ width k ∷ words_before k
words_before (InMeta z k) = node_word 2 z ∷ width k ∷ words_before k
words_before (InAbst k) = node_word 3 0 ∷ 1 ∷ words_before k
words_before (First k ts) = words_before k
words_before (Later t k) = table_of t ++ words_before k

abbrev words_behind : {s : Sort} → Context s → List ℕ
words_behind Here = []
words_behind (InSym s k) = words_behind k
words_behind (InMeta z k) = words_behind k
words_behind (InAbst k) = words_behind k
words_behind (First k ts) = words_behind k ++ table_of ts
words_behind (Later t k) = words_behind k

length_words_before : {s : Sort} (k : Context s) → length (words_before k) ≡ 2 * node k
length_words_before Here = refl
length_words_before (InSym s k) = let h = length_words_before k in omega arith
length_words_before (InMeta z k) = let h = length_words_before k in omega arith
length_words_before (InAbst k) = let h = length_words_before k in omega arith
length_words_before (First k ts) = length_words_before k
length_words_before (Later t k) = let h = length_words_before k in omega (arith, length-append (table_of t) (words_before k), length_table_of t)

table_plug : {s : Sort} (k : Context s) (u : Term) → table_of (plug k u) ≡ words_before k ++ (table_of u ++ words_behind k)
table_plug Here u = sym (append-nil (table_of u))
table_plug (InSym s k) u = ap₂ (λ (c : ℕ) (ws : List ℕ). node_word 1 s ∷ c ∷ ws) (len_plug k u) (table_plug k u)
table_plug (InMeta z k) u = ap₂ (λ (c : ℕ) (ws : List ℕ). node_word 2 z ∷ c ∷ ws) (len_plug k u) (table_plug k u)
table_plug (InAbst k) u = ap (λ (ws : List ℕ). node_word 3 0 ∷ 1 ∷ ws) (table_plug k u)
table_plug (First k ts) u = rw (table_plug k u) (simp append_assoc)
table_plug (Later t k) u = rw (table_plug k u) (simp append_assoc)

parts_spliced : (a b c d : List ℕ) (m n : ℕ) → length a ≡ m → length b ≡ n
    → a ++ (d ++ c) ≡ take m (a ++ (b ++ c)) ++ (d ++ drop (m + n) (a ++ (b ++ c)))
parts_spliced a b c d m n p q =
    let l : length (a ++ b) ≡ m + n = length-append a b ∙ ap₂ ◌+◌ p q in
    rw (take_at a (b ++ c) m p, ← append_assoc a b c, drop_at (a ++ b) c (m + n) l)

-- the words before, those of the new term, the words behind the old one
pub replaced_table : {s : Sort} (t : Tm s) (n : ℕ) (u w : Term) → subterm t n ≡ some u
    → table_of (replace t n w) ≡ take (2 * n) (table_of t) ++ (table_of w ++ drop (2 * n + 2 * nodes u) (table_of t))
replaced_table t n u w =
    by-context (λ t n u. table_of (replace t n w) ≡ take (2 * n) (table_of t) ++ (table_of w ++ drop (2 * n + 2 * nodes u) (table_of t)))
    (λ k u. rw (replace_plug k u w, table_plug k w, table_plug k u)
    (parts_spliced (words_before k) (table_of u) (words_behind k) (table_of w) (2 * node k) (2 * nodes u) (length_words_before k) (length_table_of u)))
    t n u

-- ---- Depth

-- the depth of what stands beside the place and above it
abbrev beside : {s : Sort} → Context s → ℕ
beside Here = 0
beside (InSym s k) = suc (beside k)
beside (InMeta z k) = suc (beside k)
beside (InAbst k) = suc (beside k)
beside (First k ts) = max (beside k) (depth ts)
beside (Later t k) = max (depth t) (beside k)

depth_plug : {s : Sort} (k : Context s) (u : Term) → depth (plug k u) ≡ max (beside k) (level k + depth u)
depth_plug Here u = omega arith
depth_plug (InSym s k) u = let h = depth_plug k u in omega arith
depth_plug (InMeta z k) u = let h = depth_plug k u in omega arith
depth_plug (InAbst k) u = let h = depth_plug k u in omega arith
depth_plug (First k ts) u = let h = depth_plug k u in omega arith
depth_plug (Later t k) u = let h = depth_plug k u in omega arith

same_leb : (a b x y : ℕ) → (a ≤ x → b ≤ y) → (b ≤ y → a ≤ x) → leb a x ≡ leb b y
same_leb a b x y f g = go (leb a x) refl
  where
    go : (q : Bool) → leb a x ≡ q → q ≡ leb b y
    go true q = sym (le-leb b y (f (leb-true a x q)))
    go false q = sym (go' (leb b y) refl)
      where
        go' : (p : Bool) → leb b y ≡ p → p ≡ false
        go' true p = let h = g (leb-true b y p) in absurd (omega (arith, leb-false a x q))
        go' false p = refl

-- where the plan keeps the limit, the new term decides: it begins at the depth of its place
pub replaced_depth : {s : Sort} (t : Tm s) (n : ℕ) (u w : Term) (limit : ℕ) → subterm t n ≡ some u → depth t ≤ limit
    → leb (depth (replace t n w)) limit ≡ leb (depth_at t n + depth w) (limit + 1)
replaced_depth t n u w limit =
    by-context (λ t n u. depth t ≤ limit → leb (depth (replace t n w)) limit ≡ leb (depth_at t n + depth w) (limit + 1))
    (λ k u h. rw (replace_plug k u w, depth_at_plug k u)
    (same_leb (depth (plug k w)) (suc (level k) + depth w) limit (limit + 1)
    (λ i. omega (arith, depth_plug k w))
    (λ i. omega (arith, depth_plug k w, depth_plug k u))))
    t n u

pub subterm_depth : {s : Sort} (t : Tm s) (n : ℕ) (u : Term) → subterm t n ≡ some u → depth u ≤ depth t
subterm_depth = by-context (λ t n u. depth u ≤ depth t) (λ k u. omega (arith, depth_plug k u))

-- ---- Indices

module _ (q : ℕ → Bool) where
  -- a test of all indices beside the place
  abbrev beside_holds : {s : Sort} → Context s → Bool
  beside_holds Here = true
  beside_holds (InSym s k) = beside_holds k
  beside_holds (InMeta z k) = beside_holds k
  beside_holds (InAbst k) = beside_holds k
  beside_holds (First k ts) = beside_holds k && every q (indices ts)
  beside_holds (Later t k) = every q (indices t) && beside_holds k

  indices_plug : {s : Sort} (k : Context s) (u : Term) → every q (indices (plug k u)) ≡ beside_holds k && every q (indices u)
  indices_plug Here u = refl
  indices_plug (InSym s k) u = indices_plug k u
  indices_plug (InMeta z k) u = indices_plug k u
  indices_plug (InAbst k) u = indices_plug k u
  indices_plug (First k ts) u =
      every_append q (indices (plug k u)) (indices ts) ∙ ap (λ b. b && every q (indices ts)) (indices_plug k u)
      ∙ turned (beside_holds k) (every q (indices u)) (every q (indices ts))
    where
      turned : (a b c : Bool) → (a && b) && c ≡ (a && c) && b
      turned false b c = refl
      turned true false false = refl
      turned true false true = refl
      turned true true false = refl
      turned true true true = refl
  indices_plug (Later t k) u =
      every_append q (indices t) (indices (plug k u)) ∙ ap (λ b. every q (indices t) && b) (indices_plug k u)
      ∙ sym (and_assoc (every q (indices t)) (beside_holds k) (every q (indices u)))

  pub replaced_indices : {s : Sort} (t : Tm s) (n : ℕ) (u w : Term) → subterm t n ≡ some u → every q (indices t) ≡ true
      → every q (indices (replace t n w)) ≡ every q (indices w)
  replaced_indices t n u w =
      by-context (λ t n u. every q (indices t) ≡ true → every q (indices (replace t n w)) ≡ every q (indices w))
      (λ k u h. rw (replace_plug k u w, indices_plug k w, (both_true (beside_holds k) (every q (indices u)) (sym (indices_plug k u) ∙ h)).0))
      t n u

-- ---- Metavariables, and names that a table holds

metas_in : {s : Sort} (k : Context s) (u : Term) → metas (plug k u) ≡ [] → metas u ≡ []
metas_in Here u e = e
metas_in (InSym s k) u e = metas_in k u e
metas_in (InMeta z k) u e = never (cc)
metas_in (InAbst k) u e = metas_in k u e
metas_in (First k ts) u e = metas_in k u (append_none (metas (plug k u)) (metas ts) e).0
metas_in (Later t k) u e = metas_in k u (append_none (metas t) (metas (plug k u)) e).1

metas_plug : {s : Sort} (k : Context s) (u w : Term) → metas (plug k u) ≡ [] → metas w ≡ [] → metas (plug k w) ≡ []
metas_plug Here u w e f = f
metas_plug (InSym s k) u w e f = metas_plug k u w e f
metas_plug (InMeta z k) u w e f = never (cc)
metas_plug (InAbst k) u w e f = metas_plug k u w e f
metas_plug (First k ts) u w e f = let r = append_none (metas (plug k u)) (metas ts) e in rw (metas_plug k u w r.0 f, r.1)
metas_plug (Later t k) u w e f = let r = append_none (metas t) (metas (plug k u)) e in rw (r.0, metas_plug k u w r.1 f)

pub subterm_metas : {s : Sort} (t : Tm s) (n : ℕ) (u : Term) → subterm t n ≡ some u → metas t ≡ [] → metas u ≡ []
subterm_metas = by-context (λ t n u. metas t ≡ [] → metas u ≡ []) metas_in

pub replaced_metas : {s : Sort} (t : Tm s) (n : ℕ) (u w : Term) → subterm t n ≡ some u → metas t ≡ [] → metas w ≡ [] → metas (replace t n w) ≡ []
replaced_metas t n u w =
    by-context (λ t n u. metas t ≡ [] → metas w ≡ [] → metas (replace t n w) ≡ [])
    (λ k u e f. rw (replace_plug k u w) (metas_plug k u w e f)) t n u

fits_in : {s : Sort} (k : Context s) (u : Term) → Fits (plug k u) → Fits u
fits_in Here u h = h
fits_in (InSym s k) u h = fits_in k u h.2
fits_in (InMeta z k) u h = fits_in k u h.2
fits_in (InAbst k) u h = fits_in k u h
fits_in (First k ts) u h = fits_in k u h.0
fits_in (Later t k) u h = fits_in k u h.1

fits_plug : {s : Sort} (k : Context s) (u w : Term) → Fits (plug k u) → Fits w → Fits (plug k w)
fits_plug Here u w h f = f
fits_plug (InSym s k) u w h f = (h.0, omega (arith, h.1, len_plug k u, len_plug k w), fits_plug k u w h.2 f)
fits_plug (InMeta z k) u w h f = (h.0, omega (arith, h.1, len_plug k u, len_plug k w), fits_plug k u w h.2 f)
fits_plug (InAbst k) u w h f = fits_plug k u w h f
fits_plug (First k ts) u w h f = (fits_plug k u w h.0 f, h.1)
fits_plug (Later t k) u w h f = (h.0, fits_plug k u w h.1 f)

pub subterm_fits : {s : Sort} (t : Tm s) (n : ℕ) (u : Term) → subterm t n ≡ some u → Fits t → Fits u
subterm_fits = by-context (λ t n u. Fits t → Fits u) fits_in

pub replaced_fits : {s : Sort} (t : Tm s) (n : ℕ) (u w : Term) → subterm t n ≡ some u → Fits t → Fits w → Fits (replace t n w)
replaced_fits t n u w = by-context (λ t n u. Fits t → Fits w → Fits (replace t n w)) (λ k u e f. rw (replace_plug k u w) (fits_plug k u w e f)) t n u

-- ---- Free variables

free_plug : {s : Sort} (P : ℕ → Type 0) (k : Context s) (u w : Term) → ((Q : ℕ → Type 0) → AllFree Q u → AllFree Q w) → AllFree P (plug k u)
    → AllFree P (plug k w)
free_plug P Here u w h a = h P a
free_plug P (InSym s k) u w h a = free_plug P k u w h a
free_plug P (InMeta z k) u w h a = free_plug P k u w h a
free_plug P (InAbst k) u w h a = free_plug (under P) k u w h a
free_plug P (First k ts) u w h a = (free_plug P k u w h a.0, a.1)
free_plug P (Later t k) u w h a = (a.0, free_plug P k u w h a.1)

-- where all free variables of the new term are free in the old one, so it is with the plans: whatever holds of each free variable goes on to hold
pub replaced_free : {s : Sort} (P : ℕ → Type 0) (t : Tm s) (n : ℕ) (u w : Term) → subterm t n ≡ some u → ((Q : ℕ → Type 0) → AllFree Q u → AllFree Q w)
    → AllFree P t → AllFree P (replace t n w)
replaced_free P t n u w =
    by-context (λ t n u. ((Q : ℕ → Type 0) → AllFree Q u → AllFree Q w) → AllFree P t → AllFree P (replace t n w))
    (λ k u h a. rw (replace_plug k u w) (free_plug P k u w h a)) t n u

-- ---- 13, 14, 15 of the new plan, where the old one keeps all three

-- a plan that keeps the three limits, for a result table of so many words
pub record Within (room : ℕ) (t : Term) : Type 0 where
  pub small : nodes t ≤ min plan_limit (room / 2)
  pub shallow : depth t ≤ depth_limit
  pub low : every (λ x. leb x index_limit) (indices t) ≡ true

pub result_within : (room : ℕ) (t : Term) (ws : List ℕ) → result_for room t ≡ answered ws → Within room t × (ws ≡ table_of t)
unfolding result_for
result_within room t ws e =
    let a = unless_is (leb (nodes t) (min plan_limit (room / 2))) _ _ ws e in
    let b = unless_is (leb (depth t) depth_limit) _ _ ws a.1 in
    let c = unless_is (every (λ x. leb x index_limit) (indices t)) _ _ ws b.1 in
    let q : ws ≡ table_of t = cc c.1 in
    (record { small = leb-true (nodes t) (min plan_limit (room / 2)) a.0; shallow = leb-true (depth t) depth_limit b.0; low = c.0 }, q)

pub within_result : (room : ℕ) (t : Term) → Within room t → result_for room t ≡ answered (table_of t)
unfolding result_for
within_result room t h = rw (le-leb (nodes t) (min plan_limit (room / 2)) h.small, le-leb (depth t) depth_limit h.shallow, h.low)

-- nodes from the counts; depth from that of the place; indices from the new term's
pub replaced_result : (room : ℕ) (t : Term) (n : ℕ) (u w : Term) → subterm t n ≡ some u → Within room t
    → result_for room (replace t n w)
    ≡ unless (leb (nodes t - nodes u + nodes w) (min plan_limit (room / 2))) ResultTooLarge
    (unless (leb (depth_at t n + depth w) (depth_limit + 1)) ResultTooDeep
    (unless (every (λ x. leb x index_limit) (indices w)) ResultIndexTooLarge
    (answered (table_of (replace t n w)))))
unfolding result_for
replaced_result room t n u w e h =
    rw (replaced_nodes t n u e w, replaced_depth t n u w depth_limit e h.shallow, replaced_indices (λ x. leb x index_limit) t n u w e h.low)

-- 13 as the new term's own: so many nodes are left for it
pub room_left : (most t u w : ℕ) → u ≤ t → t ≤ most → leb (t - u + w) most ≡ leb w (most - (t - u))
room_left most t u w h k = same_leb (t - u + w) w most (most - (t - u)) (λ i. omega arith) (λ i. omega arith)
