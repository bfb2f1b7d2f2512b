-- Node tables (document 01, 'Terms and node tables').
use Rattle.std.specs.Prelude.{ℕ, zero, suc, ◌+◌, ◌-◌, ◌*◌, ◌/◌, ◌%◌, ◌≤◌, max, cond, List, [], ◌∷◌, ◌++◌, eqb, leb, ltb}
use Rattle.std.proofs.Math.Option.{Option, none, some}
use Rattle.documents.specs.Limits.{argument_limit, index_limit, kind_step}
use Rattle.documents.specs.Lists.{need, and_then}
use Rattle.documents.specs.Terms.{Sort, Tm, Var, Sym, Meta, Abst, Nil, Cons, Term, Terms, len}

-- The kinds of nodes, in the order of 01's table; `other` stands for all that is none.
pub data Kind : Type 0 where
  variable symbol metavariable abstraction other : Kind

abbrev pub kind_of : ℕ → Kind
kind_of zero = variable
kind_of (suc zero) = symbol
kind_of (suc (suc zero)) = metavariable
kind_of (suc (suc (suc zero))) = abstraction
kind_of (suc (suc (suc (suc k)))) = other

-- a node's first word
abbrev pub node_word : ℕ → ℕ → ℕ
node_word kind name = kind * kind_step + name

-- The table of a term: two words a node, a node and then its arguments from left to right.
abbrev pub table_of : {s : Sort} → Tm s → List ℕ
table_of (Var x) = node_word 0 x ∷ 0 ∷ []
table_of (Sym s ts) = node_word 1 s ∷ len ts ∷ table_of ts
table_of (Meta z ts) = node_word 2 z ∷ len ts ∷ table_of ts
table_of (Abst t) = node_word 3 0 ∷ 1 ∷ table_of t
table_of Nil = []
table_of (Cons t ts) = table_of t ++ table_of ts

-- The names, indices and counts of a term are those that a table can hold.
abbrev pub Fits : {s : Sort} → Tm s → Type 0
Fits (Var x) = x ≤ index_limit
Fits (Sym s ts) = (s ≤ index_limit) × (len ts ≤ argument_limit) × Fits ts
Fits (Meta z ts) = (z ≤ index_limit) × (len ts ≤ argument_limit) × Fits ts
Fits (Abst t) = Fits t
Fits Nil = Unit {0}
Fits (Cons t ts) = Fits t × Fits ts

-- What a table holds. It is read from its end: a node takes its arguments off the terms that the words after it hold.
abbrev pub grab : ℕ → List Term → (Terms → List Term → Option (List Term)) → Option (List Term)
grab zero us k = k Nil us
grab (suc c) [] k = none
grab (suc c) (u ∷ us) k = grab c us (λ ts. k (Cons u ts))

abbrev pub abstract : List Term → Option (List Term)
abstract [] = none
abstract (u ∷ us) = some (Abst u ∷ us)

-- a node of this kind, name and count, before the terms us
abbrev pub node : Kind → ℕ → ℕ → List Term → Option (List Term)
node variable x c us = need (eqb c 0) (some (Var x ∷ us))
node symbol s c us = need (leb c argument_limit) (grab c us (λ ts rest. some (Sym s ts ∷ rest)))
node metavariable z c us = need (leb c argument_limit) (grab c us (λ ts rest. some (Meta z ts ∷ rest)))
node abstraction s c us = need (eqb s 0) (need (eqb c 1) (abstract us))
node other s c us = none

abbrev pub terms_in : List ℕ → Option (List Term)
terms_in [] = some []
terms_in (w ∷ []) = none
terms_in (w ∷ c ∷ ws) = and_then (terms_in ws) (node (kind_of (w / kind_step)) (w % kind_step) c)

abbrev pub single : List Term → Option Term
single [] = none
single (t ∷ []) = some t
single (t ∷ u ∷ us) = none

-- The term of a good table: it holds exactly one, and no word more. (Laws `term_in_table_of`, `table_of_term_in`: the two are inverse.)
abbrev pub term_in : List ℕ → Option Term
term_in ws = and_then (terms_in ws) single

abbrev pub nodes : {s : Sort} → Tm s → ℕ
nodes (Var x) = 1
nodes (Sym s ts) = suc (nodes ts)
nodes (Meta z ts) = suc (nodes ts)
nodes (Abst t) = suc (nodes t)
nodes Nil = 0
nodes (Cons t ts) = nodes t + nodes ts

-- the root has depth 1
abbrev pub depth : {s : Sort} → Tm s → ℕ
depth (Var x) = 1
depth (Sym s ts) = suc (depth ts)
depth (Meta z ts) = suc (depth ts)
depth (Abst t) = suc (depth t)
depth Nil = 0
depth (Cons t ts) = max (depth t) (depth ts)

-- the indices of its variables, bound ones too
abbrev pub indices : {s : Sort} → Tm s → List ℕ
indices (Var x) = x ∷ []
indices (Sym s ts) = indices ts
indices (Meta z ts) = indices ts
indices (Abst t) = indices t
indices Nil = []
indices (Cons t ts) = indices t ++ indices ts

-- The subterm at node n, nodes being numbered from 0 in prefix order. (Law `subterm_part`: it is that part of the table.)
abbrev pub subterm : {s : Sort} → Tm s → ℕ → Option Term
subterm (Var x) zero = some (Var x)
subterm (Var x) (suc n) = none
subterm (Sym s ts) zero = some (Sym s ts)
subterm (Sym s ts) (suc n) = subterm ts n
subterm (Meta z ts) zero = some (Meta z ts)
subterm (Meta z ts) (suc n) = subterm ts n
subterm (Abst t) zero = some (Abst t)
subterm (Abst t) (suc n) = subterm t n
subterm Nil n = none
subterm (Cons t ts) n = cond (ltb n (nodes t)) (subterm t n) (subterm ts (n - nodes t))
