-- The machine (004, section 4). CURR, ENV, STACK, OFFSET, NSTACK; a function of the code, in which a body means a function on states.
use Rattle.std.specs.Prelude.{ℕ, zero, suc, ◌+◌, ◌-◌, Bool, true, false, not, ◌&&◌, ◌||◌, cond, List, [], ◌∷◌, map, eqb, leb, ltb}
use Rattle.std.proofs.Math.Option.{Option, none, some}
use Rattle.std.proofs.Math.ListN.{get_elem?}
use Rattle.documents.specs.Limits.{d_shift}
use Rattle.documents.specs.Lists.{every, member, assoc}
use Rattle.documents.specs.Terms.{Sort, Tm, Var, Sym, Meta, Abst, Nil, Cons, Term, Terms, len, rename}
use Rattle.documents.specs.Tables.{nodes}
use Rattle.documents.specs.Rules.{freevars}
use Rattle.documents.specs.Instructions.{Piece, instruction, program, bodies, Code, IS, ISABST, NEXT, CHECK, SET, EQVAR, EQIMM, EQI, CELL, LAMBDA, ADBMAL, PUSHVAR, PUSHIMM, PUSHI, End, ◌▸◌, None, Body, Program, keys}

-- ---- 4.1 Components

-- A current term, with the abstractions above it and the number of its node in the subject beside it (004 keeps the term alone).
pub data Current : Type 0 where
  current : ℕ → ℕ → Term → Current

-- An entry of the environment, with the abstractions above it, 01's b, beside it: so it can be said which key is needed.
pub data Entry : Type 0 where
  entry : ℕ → Term → Entry

-- CURR, ENV, STACK (the top first), OFFSET, NSTACK
pub data State : Type 0 where
  state : List Current → List Entry → List Term → ℕ → List ℕ → State

-- A step; a match instruction whose test says no; no step, since something needed is missing.
pub data Outcome (A : Type 0) : Type 0 where
  done : A → Outcome A
  fails : Outcome A
  no_step : Outcome A

infixl 30 ◌>>=◌
abbrev pub ◌>>=◌ : {A B : Type 0} → Outcome A → (A → Outcome B) → Outcome B
done a >>= f = f a
fails >>= f = fails
no_step >>= f = no_step

-- what needs something has no step where that is missing
abbrev pub or_no_step : {A B : Type 0} → Option A → (A → Outcome B) → Outcome B
or_no_step none f = no_step
or_no_step (some a) f = f a

abbrev pub test : {A : Type 0} → Bool → A → Outcome A
test true a = done a
test false a = fails

-- what has to have a form fails where it has another
abbrev pub or_fails : {A B : Type 0} → Option A → (A → Outcome B) → Outcome B
or_fails none f = fails
or_fails (some a) f = f a

abbrev pub Action : Type 0
Action = State → Outcome State

-- ---- 4.2 Matching instructions

abbrev pub arguments_of : ℕ → ℕ → Term → Option Terms
arguments_of s n (Var x) = none
arguments_of s n (Sym s' ts) = cond (eqb s s' && eqb (len ts) n) (some ts) none
arguments_of s n (Meta z ts) = none
arguments_of s n (Abst t) = none

abbrev pub body_of : Term → Option Term
body_of (Var x) = none
body_of (Sym s ts) = none
body_of (Meta z ts) = none
body_of (Abst t) = some t

-- the two terms are one: the second is looked at as the first demands
abbrev pub is_var : ℕ → Term → Bool
is_var x (Var y) = eqb x y
is_var x (Sym s ts) = false
is_var x (Meta z ts) = false
is_var x (Abst t) = false

abbrev pub is_sym : ℕ → (Terms → Bool) → Term → Bool
is_sym s k (Var y) = false
is_sym s k (Sym s' ts) = eqb s s' && k ts
is_sym s k (Meta z ts) = false
is_sym s k (Abst t) = false

abbrev pub is_meta : ℕ → (Terms → Bool) → Term → Bool
is_meta z k (Var y) = false
is_meta z k (Sym s ts) = false
is_meta z k (Meta z' ts) = eqb z z' && k ts
is_meta z k (Abst t) = false

abbrev pub is_abst : (Term → Bool) → Term → Bool
is_abst k (Var y) = false
is_abst k (Sym s ts) = false
is_abst k (Meta z ts) = false
is_abst k (Abst t) = k t

abbrev pub is_nil : Terms → Bool
is_nil Nil = true
is_nil (Cons t ts) = false

abbrev pub is_cons : (Term → Bool) → (Terms → Bool) → Terms → Bool
is_cons j k Nil = false
is_cons j k (Cons t ts) = j t && k ts

abbrev pub equal : {s : Sort} → Tm s → Tm s → Bool
equal (Var x) u = is_var x u
equal (Sym s ts) u = is_sym s (equal ts) u
equal (Meta z ts) u = is_meta z (equal ts) u
equal (Abst t) u = is_abst (equal t) u
equal Nil us = is_nil us
equal (Cons t ts) us = is_cons (equal t) (equal ts) us

-- A variable y, free in an entry under b abstractions, has a place under the other ones: it is listed, or it lies outside of the b and d
-- leaves it an index (D is d + 64). Where neither holds, the key or first index is missing that the instruction needs.
abbrev pub placed : List ℕ → ℕ → ℕ → ℕ → Bool
placed ks b D y = member ks y || (leb b y && leb d_shift (y + D))

abbrev pub firsts : List (ℕ × ℕ) → List ℕ
firsts [] = []
firsts (p ∷ ps) = p.0 ∷ firsts ps

-- assoc vvs (fn a => a+d)
abbrev pub or_moved : Option ℕ → ℕ → ℕ → ℕ
or_moved none D y = y + D - d_shift
or_moved (some x) D y = x

abbrev pub renaming : List (ℕ × ℕ) → ℕ → ℕ → ℕ
renaming ps D y = or_moved (assoc ps y) D y

-- 004's equal k: the comparison as it goes on below k abstractions, with `.. + k = y` for its `.. = y - k`. (Law `equal_is`: it is that of the
-- renamed entry.)
abbrev pub equal_under : {s : Sort} → List (ℕ × ℕ) → ℕ → ℕ → Tm s → Tm s → Bool
equal_under ps D k (Var x) u = is_var (cond (ltb x k) x (renaming ps D (x - k) + k)) u
equal_under ps D k (Sym s ts) u = is_sym s (equal_under ps D k ts) u
equal_under ps D k (Meta z ts) u = is_meta z (equal_under ps D k ts) u
equal_under ps D k (Abst t) u = is_abst (equal_under ps D (suc k) t) u
equal_under ps D k Nil us = is_nil us
equal_under ps D k (Cons t ts) us = is_cons (equal_under ps D k t) (equal_under ps D k ts) us

-- EQI: the entry, renamed, is the current term; it needs a first index for each variable
abbrev pub eqi : ℕ → List (ℕ × ℕ) → Entry → Term → State → Outcome State
eqi D ps (entry b a) t σ = cond (every (placed (firsts ps) b D) (freevars a)) (test (equal (rename (renaming ps D) a) t) σ) no_step

-- EQIMM: the entry is the current term
abbrev pub eqimm : Entry → Term → State → Outcome State
eqimm (entry b a) t σ = test (equal a t) σ

-- terms ts, under d abstractions, the first at node m, before the current terms cs
abbrev pub currents : ℕ → ℕ → Terms → List Current → List Current
currents d m Nil cs = cs
currents d m (Cons t ts) cs = current d m t ∷ currents d (m + nodes t) ts cs

-- a match instruction with a current term; the state is what is left when that is taken away
abbrev pub with_current : (ℕ → ℕ → Term → List Current → List Entry → List Term → ℕ → List ℕ → Outcome State) → Action
with_current f (state [] env st off nst) = no_step
with_current f (state (current d m t ∷ cs) env st off nst) = f d m t cs env st off nst

-- ---- 4.2 Instructions that build

abbrev pub pushed : Term → State → State
pushed t (state cs env st off nst) = state cs env (t ∷ st) off nst

-- the last n finished terms, in the order in which they were pushed, and what is under them
abbrev pub split : ℕ → Terms → List Term → (Terms → List Term → Outcome State) → Outcome State
split zero ts st k = k ts st
split (suc n) ts [] k = no_step
split (suc n) ts (t ∷ st) k = split n (Cons t ts) st k

abbrev pub cell : (Terms → Term) → ℕ → Action
cell f n (state cs env st off nst) = split n Nil st (λ ts rest. done (state cs env (f ts ∷ rest) off nst))

abbrev pub wrap : Action
wrap (state cs env [] off nst) = no_step
wrap (state cs env (t ∷ st) off nst) = done (state cs env (Abst t ∷ st) off nst)

abbrev pub open_block : Action
open_block (state cs env st off nst) = done (state cs env st off (0 ∷ nst))

abbrev pub close_block : Action
close_block (state cs env st off []) = no_step
close_block (state cs env st off (k ∷ nst)) = wrap (state cs env st off nst)

abbrev pub push_var : ℕ → Action
push_var x (state cs env st off nst) = or_no_step (get_elem? nst x) (λ k. done (state cs env (Var (x + k) ∷ st) off nst))

-- NSTACK and OFFSET around a body that is run under n abstractions of an entry
abbrev pub raise : ℕ → State → State
raise n (state cs env st off nst) = state cs env st (off + n) (map (λ y. y + n) nst)

abbrev pub lower : ℕ → State → State
lower n (state cs env st off nst) = state cs env st (off - n) (map (λ y. y - n) nst)

-- a variable x of an entry, met under n abstractions of it: its own, or with a body, or free
abbrev pub push_free : Option Action → ℕ → ℕ → ℕ → Action
push_free none D n x (state cs env st off nst) = done (state cs env (Var (x + D + off - d_shift) ∷ st) off nst)
push_free (some run) D n x σ = run (raise n σ) >>= λ τ. done (lower n τ)

abbrev pub push_met : Bool → (ℕ → Option Action) → ℕ → ℕ → ℕ → Action
push_met true run D n x σ = done (pushed (Var x) σ)
push_met false run D n x σ = push_free (run (x - n)) D n x σ

-- 004's push': `run` gives, of a key, what its body does
abbrev pub push : {s : Sort} → (ℕ → Option Action) → ℕ → ℕ → Tm s → Action
push run D n (Var x) σ = push_met (ltb x n) run D n x σ
push run D n (Sym s ts) σ = push run D n ts σ >>= cell (Sym s) (len ts)
push run D n (Meta z ts) σ = push run D n ts σ >>= cell (Meta z) (len ts)
push run D n (Abst t) σ = push run D (suc n) t σ >>= wrap
push run D n Nil σ = done σ
push run D n (Cons t ts) σ = push run D n t σ >>= push run D n ts

-- PUSHI: it needs a key for each variable
abbrev pub pushi : (ℕ → Option Action) → List ℕ → ℕ → Entry → Action
pushi run ks D (entry b a) σ = cond (every (placed ks b D) (freevars a)) (push run D 0 a σ) no_step

-- PUSHIMM
abbrev pub pushimm : Entry → State → State
pushimm (entry b a) σ = pushed a σ

abbrev pub with_entry : ℕ → (Entry → Action) → Action
with_entry e f (state cs env st off nst) = or_no_step (get_elem? env e) (λ a. f a (state cs env st off nst))

-- ---- The fourteen instructions

abbrev pub Meaning : Piece → Type 0
Meaning instruction = Action
Meaning program = Action
Meaning bodies = ℕ → Option Action

abbrev pub exec : {p : Piece} → Code p → Meaning p
exec (IS s n) = with_current (λ d m t cs env st off nst.
    or_fails (arguments_of s n t) (λ ts. done (state (currents d (m + 1) ts cs) env st off nst)))
exec ISABST = with_current (λ d m t cs env st off nst.
    or_fails (body_of t) (λ u. done (state (current (d + 1) (m + 1) u ∷ cs) env st off nst)))
exec NEXT = with_current (λ d m t cs env st off nst. done (state cs env st off nst))
exec (CHECK vs) = with_current (λ d m t cs env st off nst.
    test (every (λ y. not (member vs y)) (freevars t)) (state (current d m t ∷ cs) env st off nst))
exec SET = with_current (λ d m t cs env st off nst. done (state (current d m t ∷ cs) (entry d t ∷ env) st off nst))
exec (EQVAR x) = with_current (λ d m t cs env st off nst. test (is_var x t) (state (current d m t ∷ cs) env st off nst))
exec (EQIMM e) = with_current (λ d m t cs env st off nst.
    with_entry e (λ a. eqimm a t) (state (current d m t ∷ cs) env st off nst))
exec (EQI e D ps) = with_current (λ d m t cs env st off nst.
    with_entry e (λ a. eqi D ps a t) (state (current d m t ∷ cs) env st off nst))
exec (CELL s n) = cell (Sym s) n
exec LAMBDA = open_block
exec ADBMAL = close_block
exec (PUSHVAR x) = push_var x
exec (PUSHIMM e) = with_entry e (λ a σ. done (pushimm a σ))
exec (PUSHI e D a) = with_entry e (pushi (exec a) (keys a) D)
exec End = λ σ. done σ
exec (i ▸ c) = λ σ. exec i σ >>= exec c
exec None = λ y. none
exec (Body k c a) = λ y. cond (eqb k y) (some (exec c)) (exec a y)

-- ---- Running a program

-- the subject is the one current term, and nothing else is there
abbrev pub start : Term → State
start t = state (current 0 0 t ∷ []) [] [] 0 []

abbrev pub run : Program → Term → Outcome State
run c t = exec c (start t)

-- the finished term: the top of STACK
abbrev pub finished : State → Option Term
finished (state cs env [] off nst) = none
finished (state cs env (t ∷ st) off nst) = some t

-- the term that a run ends with: none where a match instruction fails, or an instruction has no step
abbrev pub made : Outcome State → Option Term
made (done σ) = finished σ
made fails = none
made no_step = none

-- the first i outermost instructions: all, if there are fewer
abbrev pub first : ℕ → Program → Program
first zero c = End
first (suc i) End = End
first (suc i) (j ▸ c) = j ▸ first i c
