-- A term around a place: a context says what stands around one node, and every law about a node and its replacement is an induction over it. Each
-- subterm has its context (`context_of`), so the laws carry over to numbered nodes: `replaced-..`.
use mathlib.Core.Path.{◌≡◌, refl, sym, ap, ◌∙◌}
use Prim.Native.Nat.{ℕ, zero, suc, ◌+◌, ◌-◌, ◌≤◌, ◌<◌}
use native.Mathlib.Omega.{arith}
use mathlib.Core.Bool.{Bool, true, false, cond}
use mathlib.Core.Option.{some, some-injective}
use lib.Dec.{ltb}
use borrow.Author.Tests.{lt-ltb, le-ltb, ltb-true, ltb-false}
use Rattle.documents.specs.Terms.{Sort, one, many, Tm, Var, Sym, Meta, Abst, Nil, Cons, Term, Terms}
use Rattle.documents.specs.Tables.{nodes, subterm}
use Rattle.documents.proofs.Lists.{never}
use Rattle.documents.proofs.Nodes.{nodes_positive, subterm_root, subterm_first, subterm_behind, subterm_subterm}
use Rattle.rewriting.specs.Replacing.{replace, deeper, depth_at}

-- ---- Contexts

pub data Context : Sort → Type 0 where
  Here : Context one
  InSym : ℕ → Context many → Context one
  InMeta : ℕ → Context many → Context one
  InAbst : Context one → Context one
  -- in the first of a list of terms, and behind it
  First : Context one → Terms → Context many
  Later : Term → Context many → Context many

abbrev pub plug : {s : Sort} → Context s → Term → Tm s
plug Here u = u
plug (InSym s k) u = Sym s (plug k u)
plug (InMeta z k) u = Meta z (plug k u)
plug (InAbst k) u = Abst (plug k u)
plug (First k ts) u = Cons (plug k u) ts
plug (Later t k) u = Cons t (plug k u)

-- the place's number: the nodes before it
abbrev pub node : {s : Sort} → Context s → ℕ
node Here = 0
node (InSym s k) = suc (node k)
node (InMeta z k) = suc (node k)
node (InAbst k) = suc (node k)
node (First k ts) = node k
node (Later t k) = nodes t + node k

-- the nodes around it
abbrev pub around : {s : Sort} → Context s → ℕ
around Here = 0
around (InSym s k) = suc (around k)
around (InMeta z k) = suc (around k)
around (InAbst k) = suc (around k)
around (First k ts) = around k + nodes ts
around (Later t k) = nodes t + around k

-- the nodes above it
abbrev pub level : {s : Sort} → Context s → ℕ
level Here = 0
level (InSym s k) = suc (level k)
level (InMeta z k) = suc (level k)
level (InAbst k) = suc (level k)
level (First k ts) = level k
level (Later t k) = level k

-- the abstractions above it
abbrev pub above : {s : Sort} → Context s → ℕ
above Here = 0
above (InSym s k) = above k
above (InMeta z k) = above k
above (InAbst k) = suc (above k)
above (First k ts) = above k
above (Later t k) = above k

-- ---- Counts

pub nodes_plug : {s : Sort} (k : Context s) (u : Term) → nodes (plug k u) ≡ around k + nodes u
nodes_plug Here u = omega arith
nodes_plug (InSym s k) u = let h = nodes_plug k u in omega arith
nodes_plug (InMeta z k) u = let h = nodes_plug k u in omega arith
nodes_plug (InAbst k) u = let h = nodes_plug k u in omega arith
nodes_plug (First k ts) u = let h = nodes_plug k u in omega arith
nodes_plug (Later t k) u = let h = nodes_plug k u in omega arith

pub node_around : {s : Sort} (k : Context s) → node k ≤ around k
node_around Here = omega arith
node_around (InSym s k) = let h = node_around k in omega arith
node_around (InMeta z k) = let h = node_around k in omega arith
node_around (InAbst k) = let h = node_around k in omega arith
node_around (First k ts) = let h = node_around k in omega arith
node_around (Later t k) = let h = node_around k in omega arith

-- the place lies inside
pub node_inside : {s : Sort} (k : Context s) (u : Term) → node k < nodes (plug k u)
node_inside k u = omega (arith, nodes_plug k u, node_around k, nodes_positive u)

-- ---- The subterm there, and another in its place

pub subterm_plug : {s : Sort} (k : Context s) (u : Term) → subterm (plug k u) (node k) ≡ some u
subterm_plug Here u = subterm_root u
subterm_plug (InSym s k) u = subterm_plug k u
subterm_plug (InMeta z k) u = subterm_plug k u
subterm_plug (InAbst k) u = subterm_plug k u
subterm_plug (First k ts) u = subterm_first (plug k u) ts (node k) (node_inside k u) ∙ subterm_plug k u
subterm_plug (Later t k) u = subterm_behind t (plug k u) (node k) ∙ subterm_plug k u

replace_root : (t w : Term) → replace t 0 w ≡ w
replace_root (Var x) w = refl
replace_root (Sym s ts) w = refl
replace_root (Meta z ts) w = refl
replace_root (Abst t) w = refl

-- in the first of a list of terms, and behind it
pub replace_first : (t : Term) (ts : Terms) (n : ℕ) (w : Term) → n < nodes t → replace (Cons t ts) n w ≡ Cons (replace t n w) ts
replace_first t ts n w h = rw (lt-ltb n (nodes t) h)

pub replace_behind : (t : Term) (ts : Terms) (n : ℕ) (w : Term) → replace (Cons t ts) (nodes t + n) w ≡ Cons t (replace ts n w)
replace_behind t ts n w =
    let h : nodes t ≤ nodes t + n = omega arith in
    let e : nodes t + n - nodes t ≡ n = omega arith in
    rw (le-ltb (nodes t + n) (nodes t) h, e)

pub replace_plug : {s : Sort} (k : Context s) (u w : Term) → replace (plug k u) (node k) w ≡ plug k w
replace_plug Here u w = replace_root u w
replace_plug (InSym s k) u w = ap (Sym s) (replace_plug k u w)
replace_plug (InMeta z k) u w = ap (Meta z) (replace_plug k u w)
replace_plug (InAbst k) u w = ap Abst (replace_plug k u w)
replace_plug (First k ts) u w = replace_first (plug k u) ts (node k) w (node_inside k u) ∙ ap (λ (t : Term). Cons t ts) (replace_plug k u w)
replace_plug (Later t k) u w = replace_behind t (plug k u) (node k) w ∙ ap (Cons t) (replace_plug k u w)

pub depth_at_plug : {s : Sort} (k : Context s) (u : Term) → depth_at (plug k u) (node k) ≡ suc (level k)
depth_at_plug Here (Var x) = refl
depth_at_plug Here (Sym s ts) = refl
depth_at_plug Here (Meta z ts) = refl
depth_at_plug Here (Abst t) = refl
depth_at_plug (InSym s k) u = ap deeper (depth_at_plug k u)
depth_at_plug (InMeta z k) u = ap deeper (depth_at_plug k u)
depth_at_plug (InAbst k) u = ap deeper (depth_at_plug k u)
depth_at_plug (First k ts) u = rw (lt-ltb (node k) (nodes (plug k u)) (node_inside k u)) (depth_at_plug k u)
depth_at_plug (Later t k) u =
    let h : nodes t ≤ nodes t + node k = omega arith in
    let e : nodes t + node k - nodes t ≡ node k = omega arith in
    rw (le-ltb (nodes t + node k) (nodes t) h, e) (depth_at_plug k u)

-- ---- Each subterm has its context

pub record At {s : Sort} (t : Tm s) (n : ℕ) (u : Term) : Type 0 where
  pub context : Context s
  pub place : node context ≡ n
  pub whole : plug context u ≡ t

-- in the first of a list of terms, or behind it
pub in_cons : {P : Type 0} (t : Term) (ts : Terms) (n : ℕ) (u : Term) → subterm (Cons t ts) n ≡ some u
    → (n < nodes t → subterm t n ≡ some u → P) → ((m : ℕ) → n ≡ nodes t + m → subterm ts m ≡ some u → P) → P
in_cons {P} t ts n u e f g = go (ltb n (nodes t)) refl e
  where
    go : (q : Bool) → ltb n (nodes t) ≡ q → cond q (subterm t n) (subterm ts (n - nodes t)) ≡ some u → P
    go true q e = f (ltb-true n (nodes t) q) e
    go false q e = let h = ltb-false n (nodes t) q in g (n - nodes t) (omega arith) e

at_root : (t u : Term) → some t ≡ some u → At t 0 u
at_root t u e = let q : u ≡ t = cc in record { context = Here; place = refl; whole = q }

pub context_of : {s : Sort} (t : Tm s) (n : ℕ) (u : Term) → subterm t n ≡ some u → At t n u
context_of (Var x) zero u e = at_root (Var x) u e
context_of (Var x) (suc n) u e = never (cc)
context_of (Sym s ts) zero u e = at_root (Sym s ts) u e
context_of (Sym s ts) (suc n) u e =
    let a = context_of ts n u e in
    record { context = InSym s a.context; place = ap suc a.place; whole = ap (Sym s) a.whole }
context_of (Meta z ts) zero u e = at_root (Meta z ts) u e
context_of (Meta z ts) (suc n) u e =
    let a = context_of ts n u e in
    record { context = InMeta z a.context; place = ap suc a.place; whole = ap (Meta z) a.whole }
context_of (Abst t) zero u e = at_root (Abst t) u e
context_of (Abst t) (suc n) u e =
    let a = context_of t n u e in
    record { context = InAbst a.context; place = ap suc a.place; whole = ap Abst a.whole }
context_of Nil n u e = never (cc)
context_of (Cons t ts) n u e =
    in_cons t ts n u e
    (λ h e.
    let a = context_of t n u e in
    record { context = First a.context ts; place = a.place; whole = ap (λ (x : Term). Cons x ts) a.whole })
    (λ m p e.
    let a = context_of ts m u e in
    record { context = Later t a.context; place = ap (λ (i : ℕ). nodes t + i) a.place ∙ sym p; whole = ap (Cons t) a.whole })

-- what holds of every context holds of every subterm
pub by-context {ℓ} : {s : Sort} (P : Tm s → ℕ → Term → Type ℓ) → ((k : Context s) (u : Term) → P (plug k u) (node k) u)
    → (t : Tm s) (n : ℕ) (u : Term) → subterm t n ≡ some u → P t n u
by-context {s} P h t n u e = let a = context_of t n u e in moved (plug a.context u) t (node a.context) n a.whole a.place (h a.context u)
  where
    moved : (x y : Tm s) (i j : ℕ) → x ≡ y → i ≡ j → P x i u → P y j u
    moved x y i j p q r = rw (← p, ← q) r

-- ---- Over numbered nodes

module _ {s : Sort} (t : Tm s) (n : ℕ) (u : Term) (e : subterm t n ≡ some u) where
  -- a subterm ends where its term ends, or before
  pub subterm_ends : n + nodes u ≤ nodes t
  subterm_ends = by-context (λ t n u. n + nodes u ≤ nodes t) (λ k u. omega (arith, nodes_plug k u, node_around k)) t n u e

  pub replaced_nodes : (w : Term) → nodes (replace t n w) ≡ nodes t - nodes u + nodes w
  replaced_nodes w =
      by-context (λ t n u. nodes (replace t n w) ≡ nodes t - nodes u + nodes w)
      (λ k u. rw (replace_plug k u w) (omega (arith, nodes_plug k u, nodes_plug k w))) t n u e

  pub replaced_subterm : (w : Term) → subterm (replace t n w) n ≡ some w
  replaced_subterm w = by-context (λ t n u. subterm (replace t n w) n ≡ some w) (λ k u. rw (replace_plug k u w) (subterm_plug k w)) t n u e

  -- the old subterm put back
  pub replaced_back : (w : Term) → replace (replace t n w) n u ≡ t
  replaced_back w = by-context (λ t n u. replace (replace t n w) n u ≡ t) (λ k u. rw (replace_plug k u w) (replace_plug k w u)) t n u e

-- there is a subterm at every node
pub subterm_at : {s : Sort} (t : Tm s) (n : ℕ) → n < nodes t → (u : Term) × (subterm t n ≡ some u)
subterm_at (Var x) zero h = (Var x, refl)
subterm_at (Var x) (suc n) h = absurd (omega arith)
subterm_at (Sym s ts) zero h = (Sym s ts, refl)
subterm_at (Sym s ts) (suc n) h = subterm_at ts n (omega arith)
subterm_at (Meta z ts) zero h = (Meta z ts, refl)
subterm_at (Meta z ts) (suc n) h = subterm_at ts n (omega arith)
subterm_at (Abst t) zero h = (Abst t, refl)
subterm_at (Abst t) (suc n) h = subterm_at t n (omega arith)
subterm_at Nil n h = absurd (omega arith)
subterm_at (Cons t ts) n h = go (ltb n (nodes t)) refl (subterm_at t n) (subterm_at ts (n - nodes t))
  where
    go : (q : Bool) → ltb n (nodes t) ≡ q → (n < nodes t → (u : Term) × (subterm t n ≡ some u))
        → (n - nodes t < nodes ts → (u : Term) × (subterm ts (n - nodes t) ≡ some u))
        → (u : Term) × (cond q (subterm t n) (subterm ts (n - nodes t)) ≡ some u)
    go true q f g = f (ltb-true n (nodes t) q)
    go false q f g = let k = ltb-false n (nodes t) q in g (omega arith)

-- a node inside of a subterm has its subterm there, which ends there too
pub subterm_within : {s : Sort} (t : Tm s) (m n : ℕ) (u v : Term) → subterm t m ≡ some u → subterm t n ≡ some v → m ≤ n → n < m + nodes u
    → (subterm u (n - m) ≡ some v) × (n + nodes v ≤ m + nodes u)
subterm_within t m n u v e f h k =
    let x = subterm_at u (n - m) (omega arith) in
    let z : m + (n - m) ≡ n = omega arith in
    let g = rw z at (subterm_subterm t m (n - m) u x.0 e x.1) in
    let q : x.0 ≡ v = cc in
    let r : subterm u (n - m) ≡ some v = x.1 ∙ ap some q in
    (r, omega (arith, subterm_ends u (n - m) v r))

-- ---- What stands before a place stays

module _ (w : Term) where
  -- a node that ends before the place has the same subterm, whatever stands there
  pub before_plug : {s : Sort} (k : Context s) (u : Term) (m : ℕ) (v : Term) → subterm (plug k u) m ≡ some v → m + nodes v ≤ node k
      → subterm (plug k w) m ≡ some v
  before_plug Here u m v e h = absurd (omega (arith, nodes_positive v))
  before_plug (InSym s k) u zero v e h = absurd (omega (arith, ap nodes (some-injective _ _ e), node_inside k u))
  before_plug (InSym s k) u (suc m) v e h = before_plug k u m v e (omega arith)
  before_plug (InMeta z k) u zero v e h = absurd (omega (arith, ap nodes (some-injective _ _ e), node_inside k u))
  before_plug (InMeta z k) u (suc m) v e h = before_plug k u m v e (omega arith)
  before_plug (InAbst k) u zero v e h = absurd (omega (arith, ap nodes (some-injective _ _ e), node_inside k u))
  before_plug (InAbst k) u (suc m) v e h = before_plug k u m v e (omega arith)
  before_plug (First k ts) u m v e h =
      let i = node_inside k u in
      let j = node_inside k w in
      let p = nodes_positive v in
      subterm_first (plug k w) ts m (omega arith) ∙ before_plug k u m v (sym (subterm_first (plug k u) ts m (omega arith)) ∙ e) h
  before_plug (Later t k) u m v e h =
      in_cons t (plug k u) m v e
      (λ i e. subterm_first t (plug k w) m i ∙ e)
      (λ j p e. rw p (subterm_behind t (plug k w) j ∙ before_plug k u j v e (omega arith)))

  pub replaced_before : {s : Sort} (t : Tm s) (n : ℕ) (u : Term) → subterm t n ≡ some u → (m : ℕ) (v : Term) → subterm t m ≡ some v → m + nodes v ≤ n
      → subterm (replace t n w) m ≡ some v
  replaced_before t n u e m v =
      by-context (λ t n u. subterm t m ≡ some v → m + nodes v ≤ n → subterm (replace t n w) m ≡ some v)
      (λ k u f h. rw (replace_plug k u w) (before_plug k u m v f h)) t n u e

-- and the other way round: what ends before the place after the replacement stood there before
pub before_replaced : {s : Sort} (t : Tm s) (n : ℕ) (u w : Term) → subterm t n ≡ some u → (m : ℕ) (v : Term) → subterm (replace t n w) m ≡ some v
    → m + nodes v ≤ n → subterm t m ≡ some v
before_replaced t n u w e m v f h = rw (← replaced_back t n u e w) (replaced_before u (replace t n w) n w (replaced_subterm t n u e w) m v f h)
