-- The translation of a rule (004, sections 5 and 6; document 01, 'Rules, valuations, translation').
use Rattle.std.specs.Prelude.{ℕ, suc, ◌+◌, ◌-◌, not, ◌&&◌, cond, List, [], ◌∷◌, eqb, ltb, length}
use Rattle.std.proofs.Math.Option.{Option, none, some}
use Rattle.documents.specs.Limits.{d_shift}
use Rattle.documents.specs.Lists.{keep, member, up_to, pairlists}
use Rattle.documents.specs.Terms.{Sort, one, many, Tm, Var, Sym, Meta, Abst, Nil, Cons, Term, Terms, len}
use Rattle.documents.specs.Instructions.{IS, ISABST, NEXT, CHECK, SET, EQVAR, EQI, CELL, LAMBDA, ADBMAL, PUSHVAR, PUSHI, End, ◌▸◌, None, Body, Program, Bodies}

-- ---- 5 Symbol table

-- Of a left metavariable, from its first occurrence: name, argument count, the number b of abstractions above it, its argument list.
pub data Row : Type 0 where
  row : ℕ → ℕ → ℕ → List ℕ → Row

-- A row and its location.
pub data Located : Type 0 where
  located : ℕ → Row → Located

abbrev pub further : Option Located → Option Located
further none = none
further (some (located l r)) = some (located (suc l) r)

-- The last first occurrence stands first, so that a location is a place: 0, 1, and so on (004's `rev tab`).
abbrev pub lookup : ℕ → ℕ → List Row → Option Located
lookup z k [] = none
lookup z k (row z' k' b a ∷ tab) = cond (eqb z z' && eqb k k') (some (located 0 (row z' k' b a))) (further (lookup z k tab))

-- the indices of terms that are variables
abbrev pub unvar : Terms → List ℕ
unvar Nil = []
unvar (Cons (Var x) ts) = x ∷ unvar ts
unvar (Cons (Sym s us) ts) = unvar ts
unvar (Cons (Meta z us) ts) = unvar ts
unvar (Cons (Abst t) ts) = unvar ts

abbrev pub enter : Option Located → Row → List Row → List Row
enter none r tab = r ∷ tab
enter (some e) r tab = tab

-- the table after a term under n abstractions
abbrev pub update : {s : Sort} → ℕ → Tm s → List Row → List Row
update n (Var x) tab = tab
update n (Sym s ts) tab = update n ts tab
update n (Meta z ts) tab = update n ts (enter (lookup z (len ts) tab) (row z (len ts) n (unvar ts)) tab)
update n (Abst t) tab = update (suc n) t tab
update n Nil tab = tab
update n (Cons t ts) tab = update n ts (update n t tab)

abbrev pub symbol_table : Term → List Row
symbol_table left = update 0 left []

-- ---- 6 Generating code

infixr 39 ◌⧺◌
abbrev pub ◌⧺◌ : Program → Program → Program
End ⧺ d = d
(i ▸ c) ⧺ d = i ▸ (c ⧺ d)

-- n - b, as code words hold it
abbrev pub offset : ℕ → ℕ → ℕ
offset n b = n + d_shift - b

-- 6.1 The left side. `sets` is the number of SETs still to come; an occurrence is the first where its location is below that.

-- the indices below n that are not among the arguments, rising
abbrev pub bvset : ℕ → Terms → List ℕ
bvset n ts = keep (λ i. not (member (unvar ts) i)) (up_to n)

abbrev pub lhs_meta : ℕ → ℕ → Terms → Option Located → Program
lhs_meta n sets ts none = End
lhs_meta n sets ts (some (located l (row z k b a))) =
    cond (ltb l sets) (CHECK (bvset n ts) ▸ SET ▸ NEXT ▸ End) (EQI (l - sets) (offset n b) (pairlists a (unvar ts)) ▸ NEXT ▸ End)

abbrev pub sets_less : ℕ → Option Located → ℕ
sets_less sets none = sets
sets_less sets (some (located l r)) = cond (ltb l sets) (sets - 1) sets

-- the SETs still to come after a term
abbrev pub sets_after : {s : Sort} → List Row → ℕ → Tm s → ℕ
sets_after tab sets (Var x) = sets
sets_after tab sets (Sym s ts) = sets_after tab sets ts
sets_after tab sets (Meta z ts) = sets_less sets (lookup z (len ts) tab)
sets_after tab sets (Abst t) = sets_after tab sets t
sets_after tab sets Nil = sets
sets_after tab sets (Cons t ts) = sets_after tab (sets_after tab sets t) ts

-- the code of a left side's term under n abstractions
abbrev pub lhs : {s : Sort} → List Row → ℕ → ℕ → Tm s → Program
lhs tab n sets (Var x) = EQVAR x ▸ NEXT ▸ End
lhs tab n sets (Sym s ts) = IS s (len ts) ▸ lhs tab n sets ts
lhs tab n sets (Meta z ts) = lhs_meta n sets ts (lookup z (len ts) tab)
lhs tab n sets (Abst t) = ISABST ▸ lhs tab (suc n) sets t
lhs tab n sets Nil = End
lhs tab n sets (Cons t ts) = lhs tab n sets t ⧺ lhs tab n (sets_after tab sets t) ts

-- 6.2 The right side: of a term a program, of terms a list of programs.
abbrev pub Built : Sort → Type 0
Built one = Program
Built many = List Program

abbrev pub joined : List Program → Program → Program
joined [] d = d
joined (c ∷ cs) d = c ⧺ joined cs d

abbrev pub keyed : List ℕ → List Program → Bodies
keyed [] cs = None
keyed (a ∷ l) [] = None
keyed (a ∷ l) (c ∷ cs) = Body a c (keyed l cs)

abbrev pub rhs_meta : ℕ → List Program → Option Located → Program
rhs_meta n cs none = End
rhs_meta n cs (some (located l (row z k b a))) = PUSHI l (offset n b) (keyed a cs) ▸ End

abbrev pub rhs : {s : Sort} → List Row → ℕ → Tm s → Built s
rhs tab n (Var x) = PUSHVAR x ▸ End
rhs tab n (Sym s ts) = joined (rhs tab n ts) (CELL s (len ts) ▸ End)
rhs tab n (Meta z ts) = rhs_meta n (rhs tab n ts) (lookup z (len ts) tab)
rhs tab n (Abst t) = LAMBDA ▸ (rhs tab (suc n) t ⧺ ADBMAL ▸ End)
rhs tab n Nil = []
rhs tab n (Cons t ts) = rhs tab n t ∷ rhs tab n ts

-- 6.3 The whole
abbrev pub compile : Term → Term → Program
compile left right = lhs (symbol_table left) 0 (length (symbol_table left)) left ⧺ rhs (symbol_table left) 0 right
