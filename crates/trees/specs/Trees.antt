-- What build code makes, as a tree of its instructions (004, section 4.2): each stands over those that make what it takes from STACK. The tree
-- says what a run writes, how many nodes that is, how deep, and how far its indices reach, before anything is built.
use Rattle.std.specs.Prelude.{ℕ, zero, suc, ◌+◌, ◌-◌, max, cond, List, [], ◌∷◌, ◌++◌, map, ltb, get_or}
use Rattle.std.proofs.Math.Option.{Option, none, some}
use Rattle.std.proofs.Math.ListN.{get_elem?}
use Rattle.documents.specs.Limits.{d_shift}
use Rattle.documents.specs.Lists.{assoc, pairlists}
use Rattle.documents.specs.Terms.{Sort, one, many, Tm, Var, Sym, Meta, Abst, Nil, Cons, Term, len}
use Rattle.documents.specs.Tables.{node_word, table_of, nodes, depth}
use Rattle.documents.specs.Instructions.{Piece, instruction, program, bodies, Code, IS, ISABST, NEXT, CHECK, SET, EQVAR, EQIMM, EQI, CELL, LAMBDA, ADBMAL, PUSHVAR, PUSHIMM, PUSHI, End, ◌▸◌, None, Body, keys}
use Rattle.documents.specs.Machine.{Entry, entry}

pub data Tree : Sort → Type 0 where
  -- CELL, over what makes its arguments
  Cell : ℕ → Tree many → Tree one
  -- LAMBDA to ADBMAL, over what makes the block's term
  Block : Tree one → Tree one
  -- PUSHVAR
  Bound : ℕ → Tree one
  -- PUSHIMM
  Whole : ℕ → Tree one
  -- PUSHI: entry, d + 64, keys, over the bodies
  Pushed : ℕ → ℕ → List ℕ → Tree many → Tree one
  Leaf : Tree many
  More : Tree one → Tree many → Tree many

-- how many trees
abbrev pub count : Tree many → ℕ
count Leaf = 0
count (More p ps) = suc (count ps)

-- ---- From code to its tree

-- the last n trees, in the order in which they were made, before ps
abbrev pub taken : ℕ → Tree many → List (Tree one) → Tree many
taken zero ps st = ps
taken (suc n) ps [] = ps
taken (suc n) ps (p ∷ st) = taken n (More p ps) st

-- and those under them
abbrev pub left : ℕ → List (Tree one) → List (Tree one)
left zero st = st
left (suc n) [] = []
left (suc n) (p ∷ st) = left n st

abbrev pub blocked : List (Tree one) → List (Tree one)
blocked [] = []
blocked (p ∷ st) = Block p ∷ st

abbrev pub top_of : List (Tree one) → Tree one
top_of [] = Bound 0
top_of (p ∷ st) = p

abbrev pub Grown : Piece → Type 0
Grown instruction = List (Tree one) → List (Tree one)
Grown program = List (Tree one) → List (Tree one)
Grown bodies = Tree many

-- code on a stack of trees, the newest first
abbrev pub grown : {p : Piece} → Code p → Grown p
grown (IS s n) = λ st. st
grown ISABST = λ st. st
grown NEXT = λ st. st
grown (CHECK vs) = λ st. st
grown SET = λ st. st
grown (EQVAR x) = λ st. st
grown (EQIMM e) = λ st. st
grown (EQI e D ps) = λ st. st
grown (CELL s n) = λ st. Cell s (taken n Leaf st) ∷ left n st
grown LAMBDA = λ st. st
grown ADBMAL = blocked
grown (PUSHVAR x) = λ st. Bound x ∷ st
grown (PUSHIMM e) = λ st. Whole e ∷ st
grown (PUSHI e D a) = λ st. Pushed e D (keys a) (grown a) ∷ st
grown End = λ st. st
grown (i ▸ c) = λ st. grown c (grown i st)
grown None = Leaf
grown (Body k c a) = More (top_of (grown c [])) (grown a)

-- ---- What the tree makes; `ent` gives the entries' terms

abbrev pub term_of : Option Entry → Term
term_of none = Var 0
term_of (some (entry b a)) = a

-- the term of an entry, counted from the newest
abbrev pub entry_of : List Entry → ℕ → Term
entry_of env e = term_of (get_elem? env e)

-- how many nodes: a variable of an entry counts as many as its body, if it has one, makes
abbrev pub or_one : Option ℕ → ℕ
or_one none = 1
or_one (some n) = n

abbrev pub spread_nodes : {s : Sort} → (ℕ → Option ℕ) → ℕ → Tm s → ℕ
spread_nodes f n (Var x) = cond (ltb x n) 1 (or_one (f (x - n)))
spread_nodes f n (Sym s ts) = suc (spread_nodes f n ts)
spread_nodes f n (Meta z ts) = suc (spread_nodes f n ts)
spread_nodes f n (Abst t) = suc (spread_nodes f (suc n) t)
spread_nodes f n Nil = 0
spread_nodes f n (Cons t ts) = spread_nodes f n t + spread_nodes f n ts

abbrev pub sum : List ℕ → ℕ
sum [] = 0
sum (n ∷ ns) = n + sum ns

-- a number, or one for each tree
abbrev pub Counted : Sort → Type 0
Counted one = ℕ
Counted many = List ℕ

abbrev pub nodes_of : {s : Sort} → (ℕ → Term) → Tree s → Counted s
nodes_of ent (Cell s ps) = suc (sum (nodes_of ent ps))
nodes_of ent (Block p) = suc (nodes_of ent p)
nodes_of ent (Bound x) = 1
nodes_of ent (Whole e) = nodes (ent e)
nodes_of ent (Pushed e D ks ps) = spread_nodes (assoc (pairlists ks (nodes_of ent ps))) 0 (ent e)
nodes_of ent Leaf = []
nodes_of ent (More p ps) = nodes_of ent p ∷ nodes_of ent ps

-- how deep
abbrev pub spread_depth : {s : Sort} → (ℕ → Option ℕ) → ℕ → Tm s → ℕ
spread_depth f n (Var x) = cond (ltb x n) 1 (or_one (f (x - n)))
spread_depth f n (Sym s ts) = suc (spread_depth f n ts)
spread_depth f n (Meta z ts) = suc (spread_depth f n ts)
spread_depth f n (Abst t) = suc (spread_depth f (suc n) t)
spread_depth f n Nil = 0
spread_depth f n (Cons t ts) = max (spread_depth f n t) (spread_depth f n ts)

abbrev pub greatest : List ℕ → ℕ
greatest [] = 0
greatest (n ∷ ns) = max n (greatest ns)

abbrev pub depth_of : {s : Sort} → (ℕ → Term) → Tree s → Counted s
depth_of ent (Cell s ps) = suc (greatest (depth_of ent ps))
depth_of ent (Block p) = suc (depth_of ent p)
depth_of ent (Bound x) = 1
depth_of ent (Whole e) = depth (ent e)
depth_of ent (Pushed e D ks ps) = spread_depth (assoc (pairlists ks (depth_of ent ps))) 0 (ent e)
depth_of ent Leaf = []
depth_of ent (More p ps) = depth_of ent p ∷ depth_of ent ps

-- How far its indices reach: one more than the highest of those that a PUSHI moves, 0 if it moves none. What stands under n abstractions of an
-- entry reaches n further.
abbrev pub further : ℕ → ℕ → ℕ
further n zero = 0
further n (suc r) = suc r + n

abbrev pub or_moved : Option ℕ → ℕ → ℕ → ℕ → ℕ
or_moved none D n x = suc (x + D - d_shift)
or_moved (some r) D n x = further n r

abbrev pub spread_reach : {s : Sort} → (ℕ → Option ℕ) → ℕ → ℕ → Tm s → ℕ
spread_reach f D n (Var x) = cond (ltb x n) 0 (or_moved (f (x - n)) D n x)
spread_reach f D n (Sym s ts) = spread_reach f D n ts
spread_reach f D n (Meta z ts) = spread_reach f D n ts
spread_reach f D n (Abst t) = spread_reach f D (suc n) t
spread_reach f D n Nil = 0
spread_reach f D n (Cons t ts) = max (spread_reach f D n t) (spread_reach f D n ts)

abbrev pub reach_of : {s : Sort} → (ℕ → Term) → Tree s → Counted s
reach_of ent (Cell s ps) = greatest (reach_of ent ps)
reach_of ent (Block p) = reach_of ent p
reach_of ent (Bound x) = 0
reach_of ent (Whole e) = 0
reach_of ent (Pushed e D ks ps) = spread_reach (assoc (pairlists ks (reach_of ent ps))) D 0 (ent e)
reach_of ent Leaf = []
reach_of ent (More p ps) = reach_of ent p ∷ reach_of ent ps

-- ---- The words that it writes, under OFFSET and NSTACK

-- a tree's words, as OFFSET and NSTACK move them
abbrev pub Writer : Type 0
Writer = ℕ → List ℕ → List ℕ

abbrev pub Written : Sort → Type 0
Written one = Writer
Written many = List Writer

-- a variable that is free in an entry, x under n abstractions of it: what its body writes there, or its own index moved
abbrev pub or_moved_words : Option Writer → ℕ → ℕ → ℕ → ℕ → List ℕ → List ℕ
or_moved_words none D n x off nst = node_word 0 (x + D + off - d_shift) ∷ 0 ∷ []
or_moved_words (some w) D n x off nst = w (off + n) (map (λ y. y + n) nst)

abbrev pub spread_words : {s : Sort} → (ℕ → Option Writer) → ℕ → ℕ → ℕ → List ℕ → Tm s → List ℕ
spread_words f D n off nst (Var x) = cond (ltb x n) (node_word 0 x ∷ 0 ∷ []) (or_moved_words (f (x - n)) D n x off nst)
spread_words f D n off nst (Sym s ts) = node_word 1 s ∷ len ts ∷ spread_words f D n off nst ts
spread_words f D n off nst (Meta z ts) = node_word 2 z ∷ len ts ∷ spread_words f D n off nst ts
spread_words f D n off nst (Abst t) = node_word 3 0 ∷ 1 ∷ spread_words f D (suc n) off nst t
spread_words f D n off nst Nil = []
spread_words f D n off nst (Cons t ts) = spread_words f D n off nst t ++ spread_words f D n off nst ts

abbrev pub in_order : List Writer → Writer
in_order [] off nst = []
in_order (w ∷ ws) off nst = w off nst ++ in_order ws off nst

abbrev pub words_of : {s : Sort} → (ℕ → Term) → Tree s → Written s
words_of ent (Cell s ps) = λ off nst. node_word 1 s ∷ count ps ∷ in_order (words_of ent ps) off nst
words_of ent (Block p) = λ off nst. node_word 3 0 ∷ 1 ∷ words_of ent p off (0 ∷ nst)
words_of ent (Bound x) = λ off nst. node_word 0 (x + get_or nst x 0) ∷ 0 ∷ []
words_of ent (Whole e) = λ off nst. table_of (ent e)
words_of ent (Pushed e D ks ps) = λ off nst. spread_words (assoc (pairlists ks (words_of ent ps))) D 0 off nst (ent e)
words_of ent Leaf = []
words_of ent (More p ps) = words_of ent p ∷ words_of ent ps
