-- From a node to the next. Its own level goes on top, of what stands above it one argument has begun, and levels on top that owe nothing are done:
-- what is left stands above the next node. By induction over the term; behind its last node nothing of it is left (`next_ends`).
use mathlib.Core.Path.{◌≡◌, refl, sym, ap, ◌∙◌}
use Prim.Native.Nat.{ℕ, zero, suc, ◌+◌, ◌-◌, ◌≤◌, ◌<◌}
use native.Mathlib.Omega.{arith}
use mathlib.Core.Bool.{Bool, true, false}
use mathlib.Core.Option.{some}
use mathlib.Core.List.{List, [], ◌∷◌}
use lib.Dec.{ltb}
use borrow.Author.Tests.{lt-ltb, le-ltb, ltb-true, ltb-false}
use Rattle.documents.specs.Terms.{Sort, one, many, Tm, Var, Sym, Meta, Abst, Nil, Cons, Term, Terms, len}
use Rattle.documents.specs.Tables.{nodes, subterm}
use Rattle.documents.proofs.Lists.{never}
use Rattle.documents.proofs.Nodes.{nodes_positive}
use Rattle.rewriting.proofs.Contexts.{in_cons}
use Rattle.levels.specs.Levels.{Level, level, begun, levels_from}

-- ---- Levels

-- the nearest node above has so many arguments still to begin, or more
abbrev pub Owed : ℕ → List Level → Type 0
Owed k [] = ⊥
Owed k (level a o ∷ ls) = k ≤ o

pub owed_fewer : (j k : ℕ) (ls : List Level) → j ≤ k → Owed k ls → Owed j ls
owed_fewer j k [] i h = elim h [ ]
owed_fewer j k (level a o ∷ ls) i h = omega arith

pub owed_begun : (k : ℕ) (ls : List Level) → Owed (suc k) ls → Owed k (begun ls)
owed_begun k [] h = elim h [ ]
owed_begun k (level a zero ∷ ls) h = absurd (omega arith)
owed_begun k (level a (suc o) ∷ ls) h = omega arith

-- without the levels on top that owe nothing
abbrev pub unended : List Level → List Level
unended [] = []
unended (level a zero ∷ ls) = unended ls
unended (level a (suc o) ∷ ls) = level a (suc o) ∷ ls

owed_unended : (ls : List Level) → Owed 1 ls → unended ls ≡ ls
owed_unended [] h = elim h [ ]
owed_unended (level a zero ∷ ls) h = absurd (omega arith)
owed_unended (level a (suc o) ∷ ls) h = refl

-- so many arguments have begun
abbrev begun_by : ℕ → List Level → List Level
begun_by zero ls = ls
begun_by (suc k) ls = begun_by k (begun ls)

begun_all : (a c : ℕ) (ls : List Level) → begun_by c (level a c ∷ ls) ≡ level a 0 ∷ ls
begun_all a zero ls = refl
begun_all a (suc c) ls = begun_all a c ls

-- ---- The levels above a node of a list of terms

pub levels_root : (p : ℕ) (t : Term) (ls : List Level) → levels_from p t 0 ls ≡ ls
levels_root p (Var x) ls = refl
levels_root p (Sym s ts) ls = refl
levels_root p (Meta z ts) ls = refl
levels_root p (Abst t) ls = refl

module _ (p : ℕ) (t : Term) (ts : Terms) where
  pub levels_first : (n : ℕ) (ls : List Level) → n < nodes t → levels_from p (Cons t ts) n ls ≡ levels_from p t n ls
  levels_first n ls h = rw (lt-ltb n (nodes t) h)

  pub levels_behind : (n : ℕ) (ls : List Level) → levels_from p (Cons t ts) (nodes t + n) ls ≡ levels_from (p + nodes t) ts n (begun ls)
  levels_behind n ls =
      let h : nodes t ≤ nodes t + n = omega arith in
      let e : nodes t + n - nodes t ≡ n = omega arith in
      rw (le-ltb (nodes t + n) (nodes t) h, e)

  levels_start : (ls : List Level) → levels_from p (Cons t ts) 0 ls ≡ ls
  levels_start ls = levels_first 0 ls (nodes_positive t) ∙ levels_root p t ls

-- ---- The next node

-- how many arguments a term's root has
abbrev pub arguments : Term → ℕ
arguments (Var x) = 0
arguments (Sym s ts) = len ts
arguments (Meta z ts) = len ts
arguments (Abst t) = 1

-- what a term, or a list of them, takes from the nearest node above
abbrev pub due : (s : Sort) → Tm s → ℕ
due one t = 1
due many ts = len ts

-- what is left behind node n, which has c arguments
abbrev pub left : {s : Sort} → ℕ → Tm s → ℕ → ℕ → List Level → List Level
left p t n c ls = unended (level (p + n) c ∷ begun (levels_from p t n ls))

-- the root is the only node
leaf_ends : (p : ℕ) (t u : Term) (ls : List Level) → some t ≡ some u → arguments t ≡ 0 → left p t 0 (arguments u) ls ≡ unended (begun ls)
leaf_ends p t u ls e z = let q : arguments u ≡ 0 = cc in rw (q, levels_root p t ls)

-- the root has arguments, and stands above the first of them
root_left : (p : ℕ) (t u : Term) (c : ℕ) (ls : List Level) → some t ≡ some u → arguments t ≡ suc c → left p t 0 (arguments u) ls ≡ level p (suc c) ∷ begun ls
root_left p t u c ls e z = let q : arguments u ≡ suc c = cc in let i : p + 0 ≡ p = omega arith in rw (q, i, levels_root p t ls)

-- one node down
left_below : {s : Sort} (p n m c : ℕ) (t : Tm s) (ls r : List Level) → m ≡ p + n → left p t n c ls ≡ r → unended (level m c ∷ begun (levels_from p t n ls)) ≡ r
left_below p n m c t ls r e h = ap (λ (i : ℕ). unended (level i c ∷ begun (levels_from p t n ls))) e ∙ h

-- behind a term of the list
left_behind : (p : ℕ) (t : Term) (ts : Terms) (n m c : ℕ) (ls r : List Level) → n ≡ nodes t + m → left (p + nodes t) ts m c (begun ls) ≡ r
    → left p (Cons t ts) n c ls ≡ r
left_behind p t ts n m c ls r q h =
    ap (λ (l : List Level). unended (level (p + n) c ∷ begun l)) (ap (λ (i : ℕ). levels_from p (Cons t ts) i ls) q ∙ levels_behind p t ts m ls)
    ∙ left_below (p + nodes t) m (p + n) c ts (begun ls) r (omega arith) h

next_ends : {s : Sort} (t : Tm s) (n : ℕ) (u : Term) → subterm t n ≡ some u → suc n ≡ nodes t → (p : ℕ) (ls : List Level)
    → left p t n (arguments u) ls ≡ unended (begun_by (due s t) ls)
next_ends (Var x) zero u e h p ls = leaf_ends p (Var x) u ls e refl
next_ends (Var x) (suc n) u e h p ls = never (cc)
next_ends (Sym s Nil) zero u e h p ls = leaf_ends p (Sym s Nil) u ls e refl
next_ends (Sym s (Cons t ts)) zero u e h p ls = absurd (omega (arith, nodes_positive t))
next_ends (Sym s ts) (suc n) u e h p ls =
    left_below (suc p) n (p + suc n) (arguments u) ts _ _ (omega arith)
    (next_ends ts n u e (omega arith) (suc p) _ ∙ ap unended (begun_all p (len ts) (begun ls)))
next_ends (Meta z Nil) zero u e h p ls = leaf_ends p (Meta z Nil) u ls e refl
next_ends (Meta z (Cons t ts)) zero u e h p ls = absurd (omega (arith, nodes_positive t))
next_ends (Meta z ts) (suc n) u e h p ls =
    left_below (suc p) n (p + suc n) (arguments u) ts _ _ (omega arith)
    (next_ends ts n u e (omega arith) (suc p) _ ∙ ap unended (begun_all p (len ts) (begun ls)))
next_ends (Abst t) zero u e h p ls = absurd (omega (arith, nodes_positive t))
next_ends (Abst t) (suc n) u e h p ls = left_below (suc p) n (p + suc n) (arguments u) t _ _ (omega arith) (next_ends t n u e (omega arith) (suc p) _)
next_ends Nil n u e h p ls = never (cc)
next_ends (Cons t ts) n u e h p ls =
    in_cons t ts n u e
    (λ i e. last ts i (next_ends t n u e) h)
    (λ m q e. behind m q (next_ends ts m u e))
  where
    last : (ts : Terms) → n < nodes t → (suc n ≡ nodes t → (p : ℕ) (ls : List Level) → left p t n (arguments u) ls ≡ unended (begun ls))
        → suc n ≡ nodes (Cons t ts) → left p (Cons t ts) n (arguments u) ls ≡ unended (begun_by (len (Cons t ts)) ls)
    last Nil i f h = rw (levels_first p t Nil n ls i) (f (omega arith) p ls)
    last (Cons v vs) i f h = absurd (omega (arith, nodes_positive v))

    behind : (m : ℕ) → n ≡ nodes t + m → (suc m ≡ nodes ts → (p : ℕ) (ls : List Level) → left p ts m (arguments u) ls ≡ unended (begun_by (len ts) ls))
        → left p (Cons t ts) n (arguments u) ls ≡ unended (begun_by (len (Cons t ts)) ls)
    behind m q f = left_behind p t ts n m (arguments u) ls _ q (f (omega arith) (p + nodes t) (begun ls))

pub next_inside : {s : Sort} (t : Tm s) (n : ℕ) (u : Term) → subterm t n ≡ some u → suc n < nodes t → (p : ℕ) (ls : List Level) → Owed (due s t) ls
    → levels_from p t (suc n) ls ≡ left p t n (arguments u) ls
next_inside (Var x) zero u e h p ls o = absurd (omega arith)
next_inside (Var x) (suc n) u e h p ls o = never (cc)
next_inside (Sym s Nil) zero u e h p ls o = absurd (omega arith)
next_inside (Sym s (Cons t ts)) zero u e h p ls o = levels_start (suc p) t ts _ ∙ sym (root_left p (Sym s (Cons t ts)) u (len ts) ls e refl)
next_inside (Sym s ts) (suc n) u e h p ls o =
    sym (left_below (suc p) n (p + suc n) (arguments u) ts _ _ (omega arith)
    (sym (next_inside ts n u e (omega arith) (suc p) (level p (len ts) ∷ begun ls) (omega arith))))
next_inside (Meta z Nil) zero u e h p ls o = absurd (omega arith)
next_inside (Meta z (Cons t ts)) zero u e h p ls o = levels_start (suc p) t ts _ ∙ sym (root_left p (Meta z (Cons t ts)) u (len ts) ls e refl)
next_inside (Meta z ts) (suc n) u e h p ls o =
    sym (left_below (suc p) n (p + suc n) (arguments u) ts _ _ (omega arith)
    (sym (next_inside ts n u e (omega arith) (suc p) (level p (len ts) ∷ begun ls) (omega arith))))
next_inside (Abst t) zero u e h p ls o = levels_root (suc p) t _ ∙ sym (root_left p (Abst t) u 0 ls e refl)
next_inside (Abst t) (suc n) u e h p ls o =
    sym (left_below (suc p) n (p + suc n) (arguments u) t _ _ (omega arith)
    (sym (next_inside t n u e (omega arith) (suc p) (level p 1 ∷ begun ls) (omega arith))))
next_inside Nil n u e h p ls o = never (cc)
next_inside (Cons t ts) n u e h p ls o =
    in_cons t ts n u e
    (λ i e. first i (next_ends t n u e) (next_inside t n u e) (ltb (suc n) (nodes t)) refl)
    (λ m q e. behind m q (next_inside ts m u e))
  where
    -- the last node of t, and another term behind it
    last : (ts : Terms) → suc n ≡ nodes t → suc n < nodes (Cons t ts) → Owed (len (Cons t ts)) ls → levels_from p (Cons t ts) (suc n) ls ≡ unended (begun ls)
    last Nil q h o = absurd (omega arith)
    last (Cons v vs) q h o =
        let z : suc n ≡ nodes t + 0 = omega arith in
        ap (λ (i : ℕ). levels_from p (Cons t (Cons v vs)) i ls) z ∙ levels_behind p t (Cons v vs) 0 ls ∙ levels_start (p + nodes t) v vs (begun ls)
        ∙ sym (owed_unended (begun ls) (owed_begun 1 ls (owed_fewer 2 (len (Cons t (Cons v vs))) ls (omega arith) o)))

    first : n < nodes t → (suc n ≡ nodes t → (p : ℕ) (ls : List Level) → left p t n (arguments u) ls ≡ unended (begun ls))
        → (suc n < nodes t → (p : ℕ) (ls : List Level) → Owed 1 ls → levels_from p t (suc n) ls ≡ left p t n (arguments u) ls)
        → (q : Bool) → ltb (suc n) (nodes t) ≡ q → levels_from p (Cons t ts) (suc n) ls ≡ left p (Cons t ts) n (arguments u) ls
    first i f g q z = same i (go q z)
      where
        same : n < nodes t → levels_from p (Cons t ts) (suc n) ls ≡ left p t n (arguments u) ls
            → levels_from p (Cons t ts) (suc n) ls ≡ left p (Cons t ts) n (arguments u) ls
        same i r = r ∙ sym (ap (λ (l : List Level). unended (level (p + n) (arguments u) ∷ begun l)) (levels_first p t ts n ls i))

        go : (q : Bool) → ltb (suc n) (nodes t) ≡ q → levels_from p (Cons t ts) (suc n) ls ≡ left p t n (arguments u) ls
        go true z = let k = ltb-true (suc n) (nodes t) z in levels_first p t ts (suc n) ls k ∙ g k p ls (owed_fewer 1 (len (Cons t ts)) ls (omega arith) o)
        go false z = let k : suc n ≡ nodes t = let b = ltb-false (suc n) (nodes t) z in omega arith in last ts k h o ∙ sym (f k p ls)

    behind : (m : ℕ) → n ≡ nodes t + m
        → (suc m < nodes ts → (p : ℕ) (ls : List Level) → Owed (len ts) ls → levels_from p ts (suc m) ls ≡ left p ts m (arguments u) ls)
        → levels_from p (Cons t ts) (suc n) ls ≡ left p (Cons t ts) n (arguments u) ls
    behind m q f =
        let z : suc n ≡ nodes t + suc m = omega arith in
        ap (λ (i : ℕ). levels_from p (Cons t ts) i ls) z ∙ levels_behind p t ts (suc m) ls
        ∙ sym (left_behind p t ts n m (arguments u) ls _ q (sym (f (omega arith) (p + nodes t) (begun ls) (owed_begun (len ts) ls o))))
