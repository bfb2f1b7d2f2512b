-- The levels above a node hang on what stands around it alone. They are its ancestors, the nearest of them owes something, each fits a word, and the
-- levels above an ancestor are those that come after its own, with its argument still to begin. By induction over the context.
use mathlib.Core.Path.{◌≡◌, refl, sym, ap, ◌∙◌}
use Prim.Native.Nat.{ℕ, zero, suc, ◌+◌, ◌-◌, ◌≤◌, ◌<◌}
use native.Mathlib.Omega.{arith}
use mathlib.Core.Option.{some}
use mathlib.Core.List.{List, [], ◌∷◌, map, reverse_aux}
use borrow.Author.Tests.{lt-ltb, le-ltb}
use Rattle.documents.specs.Terms.{Sort, one, many, Tm, Var, Sym, Meta, Abst, Term, len}
use Rattle.documents.specs.Tables.{Fits, nodes, subterm}
use Rattle.documents.proofs.Nodes.{nodes_positive}
use Rattle.rewriting.specs.Replacing.{replace}
use Rattle.rewriting.proofs.Contexts.{Context, Here, InSym, InMeta, InAbst, First, Later, plug, node, node_inside, replace_plug, by-context}
use Rattle.rewriting.proofs.Splicing.{width, len_plug}
use Rattle.rewriting.proofs.Ancestors.{ancestors_from, ancestors}
use Rattle.levels.specs.Levels.{Level, level, begun, levels_from, levels_of}
use Rattle.levels.proofs.Next.{Owed, owed_fewer, owed_begun, levels_root, levels_first, levels_behind}

-- ---- From the context

abbrev spine : {s : Sort} → ℕ → Context s → List Level → List Level
spine p Here ls = ls
spine p (InSym s k) ls = spine (suc p) k (level p (width k) ∷ begun ls)
spine p (InMeta z k) ls = spine (suc p) k (level p (width k) ∷ begun ls)
spine p (InAbst k) ls = spine (suc p) k (level p 1 ∷ begun ls)
spine p (First k ts) ls = spine p k ls
spine p (Later t k) ls = spine (p + nodes t) k (begun ls)

levels_plug : {s : Sort} (p : ℕ) (k : Context s) (u : Term) (ls : List Level) → levels_from p (plug k u) (node k) ls ≡ spine p k ls
levels_plug p Here u ls = levels_root p u ls
levels_plug p (InSym s k) u ls = rw (len_plug k u) (levels_plug (suc p) k u (level p (width k) ∷ begun ls))
levels_plug p (InMeta z k) u ls = rw (len_plug k u) (levels_plug (suc p) k u (level p (width k) ∷ begun ls))
levels_plug p (InAbst k) u ls = levels_plug (suc p) k u (level p 1 ∷ begun ls)
levels_plug p (First k ts) u ls = levels_first p (plug k u) ts (node k) ls (node_inside k u) ∙ levels_plug p k u ls
levels_plug p (Later t k) u ls = levels_behind p t (plug k u) (node k) ls ∙ levels_plug (p + nodes t) k u (begun ls)

-- ---- The nearest owes something

-- what the terms of a context take from the nearest node above
abbrev taken : (s : Sort) → Context s → ℕ
taken one k = 1
taken many k = width k

spine_owed : {s : Sort} (p : ℕ) (k : Context s) (ls : List Level) → Owed (taken s k) ls → Owed 1 (spine p k ls)
spine_owed p Here ls h = h
spine_owed p (InSym s k) ls h = spine_owed (suc p) k (level p (width k) ∷ begun ls) (omega arith)
spine_owed p (InMeta z k) ls h = spine_owed (suc p) k (level p (width k) ∷ begun ls) (omega arith)
spine_owed p (InAbst k) ls h = spine_owed (suc p) k (level p 1 ∷ begun ls) (omega arith)
spine_owed p (First k ts) ls h = spine_owed p k ls (owed_fewer 1 (width (First k ts)) ls (omega arith) h)
spine_owed p (Later t k) ls h = spine_owed (p + nodes t) k (begun ls) (owed_begun (width k) ls h)

-- ---- Each fits a word

abbrev pub Low : List Level → Type 0
Low [] = Unit {0}
Low (level a o ∷ ls) = (a < 4096) × (o ≤ 8) × Low ls

pub low_begun : (ls : List Level) → Low ls → Low (begun ls)
low_begun [] h = h
low_begun (level a zero ∷ ls) h = h
low_begun (level a (suc o) ∷ ls) h = (h.0, omega (arith, h.1), h.2)

spine_low : {s : Sort} (p : ℕ) (k : Context s) (u : Term) (ls : List Level) → Fits (plug k u) → p + nodes (plug k u) ≤ 4096 → Low ls → Low (spine p k ls)
spine_low p Here u ls f h l = l
spine_low p (InSym s k) u ls f h l = spine_low (suc p) k u _ f.2 (omega arith) (omega arith, omega (arith, f.1, len_plug k u), low_begun ls l)
spine_low p (InMeta z k) u ls f h l = spine_low (suc p) k u _ f.2 (omega arith) (omega arith, omega (arith, f.1, len_plug k u), low_begun ls l)
spine_low p (InAbst k) u ls f h l = spine_low (suc p) k u _ f (omega arith) (omega arith, omega arith, low_begun ls l)
spine_low p (First k ts) u ls f h l = spine_low p k u ls f.0 (omega arith) l
spine_low p (Later t k) u ls f h l = spine_low (p + nodes t) k u (begun ls) f.1 (omega arith) (low_begun ls l)

-- ---- They are the ancestors

abbrev pub node_of : Level → ℕ
node_of (level a o) = a

numbers_begun : (ls : List Level) → map node_of (begun ls) ≡ map node_of ls
numbers_begun [] = refl
numbers_begun (level a zero ∷ ls) = refl
numbers_begun (level a (suc o) ∷ ls) = refl

spine_numbers : {s : Sort} (p : ℕ) (k : Context s) (u : Term) (ls : List Level) (r : List ℕ) → map node_of ls ≡ r
    → map node_of (spine p k ls) ≡ reverse_aux (ancestors_from p (plug k u) (node k)) r
spine_numbers p Here (Var x) ls r e = e
spine_numbers p Here (Sym s ts) ls r e = e
spine_numbers p Here (Meta z ts) ls r e = e
spine_numbers p Here (Abst t) ls r e = e
spine_numbers p (InSym s k) u ls r e = spine_numbers (suc p) k u _ (p ∷ r) (ap (λ (l : List ℕ). p ∷ l) (numbers_begun ls ∙ e))
spine_numbers p (InMeta z k) u ls r e = spine_numbers (suc p) k u _ (p ∷ r) (ap (λ (l : List ℕ). p ∷ l) (numbers_begun ls ∙ e))
spine_numbers p (InAbst k) u ls r e = spine_numbers (suc p) k u _ (p ∷ r) (ap (λ (l : List ℕ). p ∷ l) (numbers_begun ls ∙ e))
spine_numbers p (First k ts) u ls r e = rw (lt-ltb (node k) (nodes (plug k u)) (node_inside k u)) (spine_numbers p k u ls r e)
spine_numbers p (Later t k) u ls r e =
    let h : nodes t ≤ nodes t + node k = omega arith in
    let i : nodes t + node k - nodes t ≡ node k = omega arith in
    rw (le-ltb (nodes t + node k) (nodes t) h, i) (spine_numbers (p + nodes t) k u (begun ls) r (numbers_begun ls ∙ e))

-- ---- The levels above an ancestor

-- its argument is still to begin
abbrev pub again : List Level → List Level
again [] = []
again (level a o ∷ ls) = level a (suc o) ∷ ls

-- the levels above the node of each level, by f, are those after it
abbrev pub Backs : (ℕ → List Level) → List Level → Type 0
Backs f [] = Unit {0}
Backs f (level a o ∷ []) = Unit {0}
Backs f (level a o ∷ l ∷ ls) = (f a ≡ again (l ∷ ls)) × Backs f (l ∷ ls)

module _ (f : ℕ → List Level) where
  backs_begun : (ls : List Level) → Backs f ls → Backs f (begun ls)
  backs_begun [] b = b
  backs_begun (level a zero ∷ ls) b = b
  backs_begun (level a (suc o) ∷ []) b = b
  backs_begun (level a (suc o) ∷ l ∷ ls) b = b

  backs_on : (p c : ℕ) (ls : List Level) → Owed 1 ls → f p ≡ ls → Backs f ls → Backs f (level p c ∷ begun ls)
  backs_on p c [] o e b = elim o [ ]
  backs_on p c (level a zero ∷ ls) o e b = absurd (omega arith)
  backs_on p c (level a (suc o) ∷ ls) h e b = (e, backs_begun (level a (suc o) ∷ ls) b)

  -- what f says of a term, its first node being numbered p
  abbrev Says : {s : Sort} → ℕ → Tm s → List Level → Type 0
  Says p t ls = (i : ℕ) → i < nodes t → f (p + i) ≡ levels_from p t i ls

  says_root : (p : ℕ) (t : Term) (ls : List Level) → Says p t ls → f p ≡ ls
  says_root p t ls g = let z : p ≡ p + 0 = omega arith in ap f z ∙ g 0 (nodes_positive t) ∙ levels_root p t ls

  -- of the arguments of a node
  says_below : (p : ℕ) (t : Term) (k : Context many) (u : Term) (ls : List Level) → nodes t ≡ suc (nodes (plug k u))
      → ((i : ℕ) → levels_from p t (suc i) ls ≡ levels_from (suc p) (plug k u) i (level p (len (plug k u)) ∷ begun ls)) → Says p t ls
      → Says (suc p) (plug k u) (level p (width k) ∷ begun ls)
  says_below p t k u ls e d g i h =
      let z : suc p + i ≡ p + suc i = omega arith in
      ap f z ∙ g (suc i) (omega arith) ∙ d i ∙ ap (λ (c : ℕ). levels_from (suc p) (plug k u) i (level p c ∷ begun ls)) (len_plug k u)

  spine_backs : {s : Sort} (p : ℕ) (k : Context s) (u : Term) (ls : List Level) → Says p (plug k u) ls → Owed (taken s k) ls → Backs f ls
      → Backs f (spine p k ls)
  spine_backs p Here u ls g o b = b
  spine_backs p (InSym s k) u ls g o b =
      spine_backs (suc p) k u _ (says_below p (Sym s (plug k u)) k u ls refl (λ i. refl) g) (omega arith)
      (backs_on p (width k) ls o (says_root p (Sym s (plug k u)) ls g) b)
  spine_backs p (InMeta z k) u ls g o b =
      spine_backs (suc p) k u _ (says_below p (Meta z (plug k u)) k u ls refl (λ i. refl) g) (omega arith)
      (backs_on p (width k) ls o (says_root p (Meta z (plug k u)) ls g) b)
  spine_backs p (InAbst k) u ls g o b =
      spine_backs (suc p) k u _ (λ i h. let z : suc p + i ≡ p + suc i = omega arith in ap f z ∙ g (suc i) (omega arith)) (omega arith)
      (backs_on p 1 ls o (says_root p (Abst (plug k u)) ls g) b)
  spine_backs p (First k ts) u ls g o b =
      spine_backs p k u ls (λ i h. g i (omega arith) ∙ levels_first p (plug k u) ts i ls h) (owed_fewer 1 (width (First k ts)) ls (omega arith) o) b
  spine_backs p (Later t k) u ls g o b =
      spine_backs (p + nodes t) k u (begun ls) behind (owed_begun (width k) ls o) (backs_begun ls b)
    where
      behind : Says (p + nodes t) (plug k u) (begun ls)
      behind i h = let z : p + nodes t + i ≡ p + (nodes t + i) = omega arith in ap f z ∙ g (nodes t + i) (omega arith) ∙ levels_behind p t (plug k u) i ls

-- ---- Over numbered nodes

-- the level above the root
abbrev top : List Level
top = level 0 1 ∷ []

module _ (t : Term) (n : ℕ) (u : Term) (e : subterm t n ≡ some u) where
  pub levels_owed : Owed 1 (levels_of t n)
  unfolding levels_of
  levels_owed = by-context (λ t n u. Owed 1 (levels_from 0 t n top)) (λ k u. rw (levels_plug 0 k u top) (spine_owed 0 k top (omega arith))) t n u e

  pub levels_low : Fits t → nodes t ≤ 4096 → Low (levels_of t n)
  unfolding levels_of
  levels_low =
      by-context (λ t n u. Fits t → nodes t ≤ 4096 → Low (levels_from 0 t n top))
      (λ k u f h. rw (levels_plug 0 k u top) (spine_low 0 k u top f (omega arith) (omega arith, omega arith, tt))) t n u e

  pub levels_numbers : map node_of (levels_of t n) ≡ reverse_aux (ancestors t n) (0 ∷ [])
  unfolding levels_of
  levels_numbers =
      by-context (λ t n u. map node_of (levels_from 0 t n top) ≡ reverse_aux (ancestors_from 0 t n) (0 ∷ []))
      (λ k u. rw (levels_plug 0 k u top) (spine_numbers 0 k u top (0 ∷ []) refl)) t n u e

  pub levels_back : Backs (levels_of t) (levels_of t n)
  unfolding levels_of
  levels_back =
      by-context (λ t n u. Backs (λ a. levels_from 0 t a top) (levels_from 0 t n top))
      (λ k u. let f : ℕ → List Level = λ a. levels_from 0 (plug k u) a top in
      rw (levels_plug 0 k u top) (spine_backs f 0 k u top (λ i h. let z : 0 + i ≡ i = omega arith in ap f z) (omega arith) tt)) t n u e

  -- a rewrite at n leaves them
  pub levels_stay : (w : Term) → levels_of (replace t n w) n ≡ levels_of t n
  unfolding levels_of
  levels_stay w =
      by-context (λ t n u. levels_from 0 (replace t n w) n top ≡ levels_from 0 t n top)
      (λ k u. rw (replace_plug k u w) (levels_plug 0 k w top ∙ sym (levels_plug 0 k u top))) t n u e
