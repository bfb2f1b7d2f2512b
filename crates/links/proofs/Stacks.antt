-- A stack of trees, the newest first, while code runs: how many trees, how many nodes they make together, how far they reach.
use mathlib.Core.Path.{◌≡◌, refl, ap, ◌∙◌}
use Prim.Native.Nat.{ℕ, zero, suc, ◌+◌, ◌-◌, ◌≤◌, max}
use native.Mathlib.Omega.{arith}
use mathlib.Core.Option.{Option, none, some}
use mathlib.Core.List.{List, [], ◌∷◌}
use lib.Dec.{T, leb, ltb}
use lib.ListN.{length}
use borrow.Author.Tests.{eqb-true}
use Rattle.documents.specs.Terms.{one, many, Term}
use Rattle.documents.specs.Instructions.{Piece, instruction, program, bodies, Code, IS, ISABST, NEXT, CHECK, SET, EQVAR, EQIMM, EQI, CELL, LAMBDA, ADBMAL, PUSHVAR, PUSHIMM, PUSHI, End, ◌▸◌, None, Body, Program}
use Rattle.documents.proofs.Lists.{never, on, needed, and_then_is}
use Rattle.trees.specs.Trees.{Tree, Cell, Leaf, More, taken, left, blocked, top_of, grown, sum, nodes_of, greatest, reach_of}
use Rattle.trees.proofs.Growing.{length_left}
use Rattle.links.specs.Sequences.{is_one, ran}

-- ---- How many

-- as many as `ran` says
abbrev Lengths : ℕ → (p : Piece) → Code p → Type 0
Lengths E instruction i = (st : List (Tree one)) (k : ℕ) → ran E i (length st) ≡ some k → length (grown i st) ≡ k
Lengths E program c = (st : List (Tree one)) (k : ℕ) → ran E c (length st) ≡ some k → length (grown c st) ≡ k
Lengths E bodies a = Unit {0}

one_more : (n k : ℕ) → some (n + 1) ≡ some k → suc n ≡ k
one_more n k e = let z : n + 1 ≡ k = cc in omega arith

module _ (E : ℕ) where
  CELL-length : (s n : ℕ) → Lengths E instruction (CELL s n)
  CELL-length s n st k e =
      let q = needed (leb n (length st)) _ k e in
      let l = length_left n st in
      let z = one_more (length st - n) k q.1 in
      omega arith

  ADBMAL-length : Lengths E instruction ADBMAL
  ADBMAL-length [] k e = never (cc)
  ADBMAL-length (p ∷ st) k e = let q = needed (leb 1 (suc (length st))) _ k e in let w = q.1 in cc

  pub code_length_lem : {p : Piece} (c : Code p) → Lengths E p c
  code_length_lem (IS s n) = λ st k e. never (cc)
  code_length_lem ISABST = λ st k e. never (cc)
  code_length_lem NEXT = λ st k e. never (cc)
  code_length_lem (CHECK vs) = λ st k e. never (cc)
  code_length_lem SET = λ st k e. never (cc)
  code_length_lem (EQVAR x) = λ st k e. never (cc)
  code_length_lem (EQIMM n) = λ st k e. never (cc)
  code_length_lem (EQI n D ps) = λ st k e. never (cc)
  code_length_lem (CELL s n) = CELL-length s n
  code_length_lem LAMBDA = λ st k e. cc
  code_length_lem ADBMAL = ADBMAL-length
  code_length_lem (PUSHVAR x) = λ st k e. one_more (length st) k e
  code_length_lem (PUSHIMM n) = λ st k e. one_more (length st) k (needed (ltb n E) _ k e).1
  code_length_lem (PUSHI n D a) = λ st k e.
      one_more (length st) k (needed (ran E a) _ k (needed (leb D 127) _ k (needed (ltb n E) _ k e).1).1).1
  code_length_lem End = λ st k e. cc
  code_length_lem (i ▸ c) = λ st k e.
      let q = and_then_is (ran E i (length st)) _ k e in
      let l = code_length_lem i st q.0 q.1 in
      code_length_lem c (grown i st) k (ap (ran E c) l ∙ q.2)
  code_length_lem None = tt
  code_length_lem (Body k c a) = tt

is_one_lem : (o : Option ℕ) → T (is_one o) → o ≡ some 1
is_one_lem none h = absurd h
is_one_lem (some n) h = ap some (eqb-true n 1 (on _ h))

pub grown_length : (E : ℕ) (c : Program) (st : List (Tree one)) → T (is_one (ran E c (length st))) → length (grown c st) ≡ 1
grown_length E c st h = code_length_lem E c st 1 (is_one_lem (ran E c (length st)) h)

alone : (st : List (Tree one)) → length st ≡ 1 → st ≡ top_of st ∷ []
alone [] e = absurd (omega arith)
alone (p ∷ []) e = refl
alone (p ∷ q ∷ st) e = absurd (omega arith)

-- one tree is left
pub grown_alone : (E : ℕ) (c : Program) (st : List (Tree one)) → T (is_one (ran E c (length st))) → grown c st ≡ top_of (grown c st) ∷ []
grown_alone E c st h = alone (grown c st) (grown_length E c st h)

pub grown_one : (E : ℕ) (c : Program) (st : List (Tree one)) → T (is_one (ran E c (length st))) → c ≡ End → (p : Tree one) × (st ≡ p ∷ [])
grown_one E c st h e = (top_of st, rw e at (grown_alone E c st h))

module _ (ent : ℕ → Term) where
  -- ---- How many nodes

  abbrev pub sizes : List (Tree one) → ℕ
  sizes [] = 0
  sizes (p ∷ st) = nodes_of ent p + sizes st

  pub taken_sizes : (n : ℕ) (ps : Tree many) (st : List (Tree one)) → sum (nodes_of ent (taken n ps st)) + sizes (left n st) ≡ sum (nodes_of ent ps) + sizes st
  taken_sizes zero ps st = refl
  taken_sizes (suc n) ps [] = refl
  taken_sizes (suc n) ps (p ∷ st) = let h = taken_sizes n (More p ps) st in omega arith

  -- a CELL adds one
  pub cell_sizes : (s n : ℕ) (st : List (Tree one)) → sizes (Cell s (taken n Leaf st) ∷ left n st) ≡ suc (sizes st)
  cell_sizes s n st = let h = taken_sizes n Leaf st in omega arith

  -- and so does an ADBMAL
  pub blocked_sizes : (st : List (Tree one)) → 1 ≤ length st → sizes (blocked st) ≡ suc (sizes st)
  blocked_sizes [] h = absurd (omega arith)
  blocked_sizes (p ∷ st) h = omega arith

  abbrev Sizes : (p : Piece) → Code p → Type 0
  Sizes instruction i = (st : List (Tree one)) → sizes st ≤ sizes (grown i st)
  Sizes program c = (st : List (Tree one)) → sizes st ≤ sizes (grown c st)
  Sizes bodies a = Unit {0}

  ADBMAL-sizes : Sizes instruction ADBMAL
  ADBMAL-sizes [] = omega arith
  ADBMAL-sizes (p ∷ st) = omega arith

  code_sizes : {p : Piece} (c : Code p) → Sizes p c
  code_sizes (IS s n) = λ st. omega arith
  code_sizes ISABST = λ st. omega arith
  code_sizes NEXT = λ st. omega arith
  code_sizes (CHECK vs) = λ st. omega arith
  code_sizes SET = λ st. omega arith
  code_sizes (EQVAR x) = λ st. omega arith
  code_sizes (EQIMM n) = λ st. omega arith
  code_sizes (EQI n D ps) = λ st. omega arith
  code_sizes (CELL s n) = λ st. let h = taken_sizes n Leaf st in omega arith
  code_sizes LAMBDA = λ st. omega arith
  code_sizes ADBMAL = ADBMAL-sizes
  code_sizes (PUSHVAR x) = λ st. omega arith
  code_sizes (PUSHIMM n) = λ st. omega arith
  code_sizes (PUSHI n D a) = λ st. omega arith
  code_sizes End = λ st. omega arith
  code_sizes (i ▸ c) = λ st. let h = code_sizes i st in let k = code_sizes c (grown i st) in omega arith
  code_sizes None = tt
  code_sizes (Body k c a) = tt

  -- no instruction makes them fewer
  pub grown_sizes : (c : Program) (st : List (Tree one)) → sizes st ≤ sizes (grown c st)
  grown_sizes c st = code_sizes c st

  pub grown_top : (E : ℕ) (c : Program) (st : List (Tree one)) → T (is_one (ran E c (length st))) → sizes st ≤ nodes_of ent (top_of (grown c st))
  grown_top E c st h =
      let k = grown_sizes c st in
      let e = ap sizes (grown_alone E c st h) in
      omega arith

  -- ---- How far they reach

  abbrev pub reaches : List (Tree one) → ℕ
  reaches [] = 0
  reaches (p ∷ st) = max (reach_of ent p) (reaches st)

  pub taken_reaches : (n : ℕ) (ps : Tree many) (st : List (Tree one))
      → max (greatest (reach_of ent (taken n ps st))) (reaches (left n st)) ≡ max (greatest (reach_of ent ps)) (reaches st)
  taken_reaches zero ps st = refl
  taken_reaches (suc n) ps [] = refl
  taken_reaches (suc n) ps (p ∷ st) = let h = taken_reaches n (More p ps) st in omega arith

  -- a CELL no further
  pub cell_reaches : (s n : ℕ) (st : List (Tree one)) → reaches (Cell s (taken n Leaf st) ∷ left n st) ≡ reaches st
  cell_reaches s n st = let h = taken_reaches n Leaf st in omega arith
