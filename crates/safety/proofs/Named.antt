-- Code that passes makes terms that a subject may hold: of a subject without metavariables, with names and counts that a table holds, it makes one
-- like it. The machine's terms are parts of the subject, or were made by a CELL whose name and count the check has seen. (The indices are 15's.)
use mathlib.Core.Path.{◌≡◌, refl, sym, ap₂, ◌∙◌}
use Prim.Native.Nat.{ℕ, zero, suc, ◌+◌, ◌-◌, ◌≤◌}
use native.Mathlib.Omega.{arith}
use mathlib.Core.Bool.{Bool, true, false, not, ◌&&◌, cond}
use mathlib.Core.Option.{Option, none, some, some-injective}
use mathlib.Core.List.{List, [], ◌∷◌, ◌++◌}
use lib.Dec.{T, eqb, leb, ltb}
use lib.ListN.{get_elem?}
use borrow.Author.Tests.{leb-true}
use Rattle.documents.specs.Limits.{argument_limit, index_limit, d_shift}
use Rattle.documents.specs.Lists.{every, member, need}
use Rattle.documents.specs.Terms.{Sort, Tm, Var, Sym, Meta, Abst, Nil, Cons, Term, Terms, len, rename}
use Rattle.documents.specs.Tables.{Fits, nodes, indices}
use Rattle.documents.specs.Rules.{metas, freevars}
use Rattle.documents.specs.Instructions.{Piece, instruction, program, bodies, Code, IS, ISABST, NEXT, CHECK, SET, EQVAR, EQIMM, EQI, CELL, LAMBDA, ADBMAL, PUSHVAR, PUSHIMM, PUSHI, End, ◌▸◌, None, Body, Instruction, Program, keys}
use Rattle.documents.specs.Machine.{Current, current, Entry, entry, State, state, Outcome, done, fails, no_step, ◌>>=◌, or_no_step, test, or_fails, Action, arguments_of, body_of, is_var, equal, placed, firsts, renaming, eqi, eqimm, currents, with_current, pushed, split, cell, wrap, open_block, close_block, push_var, raise, lower, push_free, push_met, push, pushi, pushimm, with_entry, exec, start, run, finished, made}
use Rattle.documents.specs.Passing.{Slot, blocks, take_many, Building, build, Matching, matching, match_step, is_match, builds, and_then_holds, parts, obeys}
use Rattle.documents.proofs.Lists.{never, needed, and_then_is, every_append, both_true, case}
use Rattle.kahrs.proofs.Plain.{append_none}
use Rattle.safety.proofs.Asked.{slot_there, push_asks, push_asked, one_term_lem, body_asked}
use Rattle.safety.proofs.NeverStuck.{holds_then}

-- ---- Terms

-- no metavariable, and names and counts that a table holds
abbrev pub Named : {s : Sort} → Tm s → Type 0
Named (Var x) = Unit {0}
Named (Sym s ts) = (s ≤ index_limit) × (len ts ≤ argument_limit) × Named ts
Named (Meta z ts) = ⊥
Named (Abst t) = Named t
Named Nil = Unit {0}
Named (Cons t ts) = Named t × Named ts

pub named_of : {s : Sort} (t : Tm s) → Fits t → metas t ≡ [] → Named t
named_of (Var x) f e = tt
named_of (Sym s ts) f e = (f.0, f.1, named_of ts f.2 e)
named_of (Meta z ts) f e = never (cc)
named_of (Abst t) f e = named_of t f e
named_of Nil f e = tt
named_of (Cons t ts) f e = let r = append_none (metas t) (metas ts) e in (named_of t f.0 r.0, named_of ts f.1 r.1)

pub named_metas : {s : Sort} (t : Tm s) → Named t → metas t ≡ []
named_metas (Var x) h = refl
named_metas (Sym s ts) h = named_metas ts h.2
named_metas (Meta z ts) h = absurd h
named_metas (Abst t) h = named_metas t h
named_metas Nil h = refl
named_metas (Cons t ts) h = ap₂ ◌++◌ (named_metas t h.0) (named_metas ts h.1)

pub named_fits : {s : Sort} (t : Tm s) → Named t → every (λ x. leb x index_limit) (indices t) ≡ true → Fits t
named_fits (Var x) h e = leb-true x index_limit (both_true (leb x index_limit) true e).0
named_fits (Sym s ts) h e = (h.0, h.1, named_fits ts h.2 e)
named_fits (Meta z ts) h e = absurd h
named_fits (Abst t) h e = named_fits t h e
named_fits Nil h e = tt
named_fits (Cons t ts) h e =
    let low : ℕ → Bool = λ x. leb x index_limit in
    let r = both_true (every low (indices t)) (every low (indices ts)) (sym (every_append low (indices t) (indices ts)) ∙ e) in
    (named_fits t h.0 r.0, named_fits ts h.1 r.1)

-- ---- States

abbrev AllNamed : List Term → Type 0
AllNamed [] = Unit {0}
AllNamed (t ∷ ts) = Named t × AllNamed ts

abbrev CurrentNamed : List Current → Type 0
CurrentNamed [] = Unit {0}
CurrentNamed (current d m t ∷ cs) = Named t × CurrentNamed cs

abbrev EntryNamed : Entry → Type 0
EntryNamed (entry b a) = Named a

abbrev EntriesNamed : List Entry → Type 0
EntriesNamed [] = Unit {0}
EntriesNamed (a ∷ env) = EntryNamed a × EntriesNamed env

abbrev Good : State → Type 0
Good (state cs env st off nst) = CurrentNamed cs × EntriesNamed env × AllNamed st

-- whatever it makes of good states is good
abbrev Keeps : Action → Type 0
Keeps a = (σ τ : State) → Good σ → a σ ≡ done τ → Good τ

bind_done : {A B : Type 0} (o : Outcome A) (f : A → Outcome B) (b : B) → o >>= f ≡ done b → (a : A) × (o ≡ done a) × (f a ≡ done b)
bind_done (done a) f b e = (a, refl, e)
bind_done fails f b e = never (cc)
bind_done no_step f b e = never (cc)

keeps_then : (a b : Action) → Keeps a → Keeps b → Keeps (λ σ. a σ >>= b)
keeps_then a b h k σ τ g e = let (ρ, p, q) = bind_done (a σ) b τ e in k ρ τ (h σ ρ g p) q

same : (σ τ : State) → Good σ → done σ ≡ done τ → Good τ
same σ τ g e = let p : τ ≡ σ = cc in rw p g

-- ---- Match instructions

tested : (q : Bool) (σ τ : State) → Good σ → test q σ ≡ done τ → Good τ
tested true σ τ g e = same σ τ g e
tested false σ τ g e = never (cc)

entry_at : (env : List Entry) (e : ℕ) (a : Entry) → EntriesNamed env → get_elem? env e ≡ some a → EntryNamed a
entry_at [] e a h q = never (cc)
entry_at (b ∷ env) zero a h q = let p : a ≡ b = cc in rw p h.0
entry_at (b ∷ env) (suc e) a h q = entry_at env e a h.1 q

currents_named : (d m : ℕ) (ts : Terms) (cs : List Current) → Named ts → CurrentNamed cs → CurrentNamed (currents d m ts cs)
currents_named d m Nil cs h k = k
currents_named d m (Cons t ts) cs h k = (h.0, currents_named d (m + nodes t) ts cs h.1 k)

arguments_named : (s n : ℕ) (t : Term) (ts : Terms) → Named t → arguments_of s n t ≡ some ts → Named ts
arguments_named s n (Var x) ts h e = never (cc)
arguments_named s n (Sym s' us) ts h e = go (eqb s s' && eqb (len us) n) e
  where
    go : (q : Bool) → cond q (some us) none ≡ some ts → Named ts
    go true e = let p : ts ≡ us = cc in rw p h.2
    go false e = never (cc)
arguments_named s n (Meta z us) ts h e = never (cc)
arguments_named s n (Abst t) ts h e = never (cc)

body_named : (t u : Term) → Named t → body_of t ≡ some u → Named u
body_named (Var x) u h e = never (cc)
body_named (Sym s ts) u h e = never (cc)
body_named (Meta z ts) u h e = never (cc)
body_named (Abst t) u h e = let p : u ≡ t = cc in rw p h

current_keeps : (f : ℕ → ℕ → Term → List Current → List Entry → List Term → ℕ → List ℕ → Outcome State)
    → ((d m : ℕ) (t : Term) (cs : List Current) (env : List Entry) (st : List Term) (off : ℕ) (nst : List ℕ) (τ : State)
    → Good (state (current d m t ∷ cs) env st off nst) → f d m t cs env st off nst ≡ done τ → Good τ)
    → Keeps (with_current f)
current_keeps f h (state [] env st off nst) τ g e = never (cc)
current_keeps f h (state (current d m t ∷ cs) env st off nst) τ g e = h d m t cs env st off nst τ g e

entry_keeps : (e : ℕ) (f : Entry → Action) → ((a : Entry) → EntryNamed a → Keeps (f a)) → Keeps (with_entry e f)
entry_keeps e f h (state cs env st off nst) τ g q = go (get_elem? env e) refl q
  where
    go : (o : Option Entry) → get_elem? env e ≡ o → or_no_step o (λ a. f a (state cs env st off nst)) ≡ done τ → Good τ
    go none p q = never (cc)
    go (some a) p q = h a (entry_at env e a g.1 p) (state cs env st off nst) τ g q

is_keeps : (s n : ℕ) → Keeps (exec (IS s n))
is_keeps s n = current_keeps _ (λ d m t cs env st off nst τ g e. go d m t cs env st off nst τ g (arguments_of s n t) refl e)
  where
    go : (d m : ℕ) (t : Term) (cs : List Current) (env : List Entry) (st : List Term) (off : ℕ) (nst : List ℕ) (τ : State)
        → Good (state (current d m t ∷ cs) env st off nst) → (o : Option Terms) → arguments_of s n t ≡ o
        → or_fails o (λ ts. done (state (currents d (m + 1) ts cs) env st off nst)) ≡ done τ → Good τ
    go d m t cs env st off nst τ g none p e = never (cc)
    go d m t cs env st off nst τ g (some ts) p e =
        same _ τ (currents_named d (m + 1) ts cs (arguments_named s n t ts g.0.0 p) g.0.1, g.1, g.2) e

isabst_keeps : Keeps (exec ISABST)
isabst_keeps = current_keeps _ (λ d m t cs env st off nst τ g e. go d m t cs env st off nst τ g (body_of t) refl e)
  where
    go : (d m : ℕ) (t : Term) (cs : List Current) (env : List Entry) (st : List Term) (off : ℕ) (nst : List ℕ) (τ : State)
        → Good (state (current d m t ∷ cs) env st off nst) → (o : Option Term) → body_of t ≡ o
        → or_fails o (λ u. done (state (current (d + 1) (m + 1) u ∷ cs) env st off nst)) ≡ done τ → Good τ
    go d m t cs env st off nst τ g none p e = never (cc)
    go d m t cs env st off nst τ g (some u) p e = same _ τ ((body_named t u g.0.0 p, g.0.1), g.1, g.2) e

eqi_keeps : (D : ℕ) (ps : List (ℕ × ℕ)) (t : Term) (a : Entry) → Keeps (eqi D ps a t)
eqi_keeps D ps t (entry b a) σ τ g e = go (every (placed (firsts ps) b D) (freevars a)) e
  where
    go : (q : Bool) → cond q (test (equal (rename (renaming ps D) a) t) σ) no_step ≡ done τ → Good τ
    go true e = tested (equal (rename (renaming ps D) a) t) σ τ g e
    go false e = never (cc)

eqimm_keeps : (t : Term) (a : Entry) → Keeps (eqimm a t)
eqimm_keeps t (entry b a) σ τ g e = tested (equal a t) σ τ g e

-- ---- Build instructions

split_good : (n : ℕ) (ts : Terms) (st : List Term) (k : Terms → List Term → Outcome State) (τ : State) → Named ts → AllNamed st
    → ((us : Terms) (rest : List Term) → Named us → len us ≡ len ts + n → AllNamed rest → k us rest ≡ done τ → Good τ) → split n ts st k ≡ done τ → Good τ
split_good zero ts st k τ h g f e = f ts st h (omega arith) g e
split_good (suc n) ts [] k τ h g f e = never (cc)
split_good (suc n) ts (t ∷ st) k τ h g f e = split_good n (Cons t ts) st k τ (g.0, h) g.1 (λ us rest a b. f us rest a (omega arith)) e

cell_keeps : (s n : ℕ) → s ≤ index_limit → n ≤ argument_limit → Keeps (cell (Sym s) n)
cell_keeps s n p q (state cs env st off nst) τ g e =
    split_good n Nil st _ τ tt g.2 (λ us rest a b c f. same _ τ (g.0, g.1, ((p, omega arith, a), c)) f) e

wrap_keeps : Keeps wrap
wrap_keeps (state cs env [] off nst) τ g e = never (cc)
wrap_keeps (state cs env (t ∷ st) off nst) τ g e = same _ τ g e

open_keeps : Keeps open_block
open_keeps (state cs env st off nst) τ g e = same (state cs env st off (0 ∷ nst)) τ g e

close_keeps : Keeps close_block
close_keeps (state cs env st off []) τ g e = never (cc)
close_keeps (state cs env st off (k ∷ nst)) τ g e = wrap_keeps (state cs env st off nst) τ g e

push_var_keeps : (x : ℕ) → Keeps (push_var x)
push_var_keeps x (state cs env st off nst) τ g e = go (get_elem? nst x) e
  where
    go : (o : Option ℕ) → or_no_step o (λ k. done (state cs env (Var (x + k) ∷ st) off nst)) ≡ done τ → Good τ
    go none e = never (cc)
    go (some k) e = same (state cs env (Var (x + k) ∷ st) off nst) τ (g.0, g.1, (tt, g.2)) e

pushed_good : (t : Term) (σ : State) → Named t → Good σ → Good (pushed t σ)
pushed_good t (state cs env st off nst) h g = (g.0, g.1, (h, g.2))

raise_good : (n : ℕ) (σ : State) → Good σ → Good (raise n σ)
raise_good n (state cs env st off nst) g = g

lower_good : (n : ℕ) (σ : State) → Good σ → Good (lower n σ)
lower_good n (state cs env st off nst) g = g

-- bodies: what each key's body does
abbrev BodiesKeep : (ℕ → Option Action) → Type 0
BodiesKeep run = (y : ℕ) (a : Action) → run y ≡ some a → Keeps a

free_keeps : (o : Option Action) (D n x : ℕ) → ((a : Action) → o ≡ some a → Keeps a) → Keeps (push_free o D n x)
free_keeps none D n x h (state cs env st off nst) τ g e = same (state cs env (Var (x + D + off - d_shift) ∷ st) off nst) τ (g.0, g.1, (tt, g.2)) e
free_keeps (some a) D n x h σ τ g e =
    let (ρ, p, q) = bind_done (a (raise n σ)) (λ τ. done (lower n τ)) τ e in
    same (lower n ρ) τ (lower_good n ρ (h a refl (raise n σ) ρ (raise_good n σ g) p)) q

met_keeps : (q : Bool) (run : ℕ → Option Action) (D n x : ℕ) → BodiesKeep run → Keeps (push_met q run D n x)
met_keeps true run D n x h σ τ g e = same (pushed (Var x) σ) τ (pushed_good (Var x) σ tt g) e
met_keeps false run D n x h σ τ g e = free_keeps (run (x - n)) D n x (λ a r. h (x - n) a r) σ τ g e

push_keeps : {s : Sort} (run : ℕ → Option Action) (D n : ℕ) (t : Tm s) → BodiesKeep run → Named t → Keeps (push run D n t)
push_keeps run D n (Var x) h k σ τ g e = met_keeps (ltb x n) run D n x h σ τ g e
push_keeps run D n (Sym s ts) h k σ τ g e =
    keeps_then (push run D n ts) (cell (Sym s) (len ts)) (push_keeps run D n ts h k.2) (cell_keeps s (len ts) k.0 k.1) σ τ g e
push_keeps run D n (Meta z ts) h k σ τ g e = absurd k
push_keeps run D n (Abst t) h k σ τ g e = keeps_then (push run D (suc n) t) wrap (push_keeps run D (suc n) t h k) wrap_keeps σ τ g e
push_keeps run D n Nil h k σ τ g e = same σ τ g e
push_keeps run D n (Cons t ts) h k σ τ g e =
    keeps_then (push run D n t) (push run D n ts) (push_keeps run D n t h k.0) (push_keeps run D n ts h k.1) σ τ g e

pushi_keeps : (run : ℕ → Option Action) (ks : List ℕ) (D : ℕ) → BodiesKeep run → (a : Entry) → EntryNamed a → Keeps (pushi run ks D a)
pushi_keeps run ks D h (entry b a) k σ τ g e = go (every (placed ks b D) (freevars a)) e
  where
    go : (q : Bool) → cond q (push run D 0 a σ) no_step ≡ done τ → Good τ
    go true e = push_keeps run D 0 a h k σ τ g e
    go false e = never (cc)

pushimm_keeps : (a : Entry) → EntryNamed a → Keeps (λ σ. done (pushimm a σ))
pushimm_keeps (entry b a) k σ τ g e = same (pushed a σ) τ (pushed_good a σ k g) e

-- ---- Code whose cells the check has seen

abbrev Cells : {p : Piece} → Code p → Type 0
Cells (IS s n) = Unit {0}
Cells ISABST = Unit {0}
Cells NEXT = Unit {0}
Cells (CHECK vs) = Unit {0}
Cells SET = Unit {0}
Cells (EQVAR x) = Unit {0}
Cells (EQIMM e) = Unit {0}
Cells (EQI e D ps) = Unit {0}
Cells (CELL s n) = (s ≤ index_limit) × (n ≤ argument_limit)
Cells LAMBDA = Unit {0}
Cells ADBMAL = Unit {0}
Cells (PUSHVAR x) = Unit {0}
Cells (PUSHIMM e) = Unit {0}
Cells (PUSHI e D a) = Cells a
Cells End = Unit {0}
Cells (i ▸ c) = Cells i × Cells c
Cells None = Unit {0}
Cells (Body k c a) = Cells c × Cells a

abbrev KeepsOf : (p : Piece) → Code p → Type 0
KeepsOf instruction i = Keeps (exec i)
KeepsOf program c = Keeps (exec c)
KeepsOf bodies a = BodiesKeep (exec a)

exec_keeps : {p : Piece} (c : Code p) → Cells c → KeepsOf p c
exec_keeps (IS s n) h = is_keeps s n
exec_keeps ISABST h = isabst_keeps
exec_keeps NEXT h = current_keeps _ (λ d m t cs env st off nst τ g e. same (state cs env st off nst) τ (g.0.1, g.1, g.2) e)
exec_keeps (CHECK vs) h = current_keeps _ (λ d m t cs env st off nst τ g e.
    tested (every (λ y. not (member vs y)) (freevars t)) (state (current d m t ∷ cs) env st off nst) τ g e)
exec_keeps SET h = current_keeps _ (λ d m t cs env st off nst τ g e.
    same (state (current d m t ∷ cs) (entry d t ∷ env) st off nst) τ (g.0, (g.0.0, g.1), g.2) e)
exec_keeps (EQVAR x) h = current_keeps _ (λ d m t cs env st off nst τ g e. tested (is_var x t) (state (current d m t ∷ cs) env st off nst) τ g e)
exec_keeps (EQIMM n) h = current_keeps _ (λ d m t cs env st off nst τ g e.
    entry_keeps n (λ a. eqimm a t) (λ a k. eqimm_keeps t a) (state (current d m t ∷ cs) env st off nst) τ g e)
exec_keeps (EQI n D ps) h = current_keeps _ (λ d m t cs env st off nst τ g e.
    entry_keeps n (λ a. eqi D ps a t) (λ a k. eqi_keeps D ps t a) (state (current d m t ∷ cs) env st off nst) τ g e)
exec_keeps (CELL s n) h = cell_keeps s n h.0 h.1
exec_keeps LAMBDA h = open_keeps
exec_keeps ADBMAL h = close_keeps
exec_keeps (PUSHVAR x) h = push_var_keeps x
exec_keeps (PUSHIMM n) h = entry_keeps n (λ a σ. done (pushimm a σ)) pushimm_keeps
exec_keeps (PUSHI n D a) h = entry_keeps n (pushi (exec a) (keys a) D) (pushi_keeps (exec a) (keys a) D (exec_keeps a h))
exec_keeps End h = λ σ τ g e. same σ τ g e
exec_keeps (i ▸ c) h = keeps_then (exec i) (exec c) (exec_keeps i h.0) (exec_keeps c h.1)
exec_keeps None h = λ y a e. never (cc)
exec_keeps (Body k c a) h = λ y b e. go (eqb k y) b e (exec_keeps c h.0) (exec_keeps a h.1 y b)
  where
    go : (q : Bool) (b : Action) {o : Option Action} → cond q (some (exec c)) o ≡ some b → Keeps (exec c) → (o ≡ some b → Keeps b) → Keeps b
    go true b e f g = rw (← some-injective (exec c) b e) f
    go false b e f g = g e

-- ---- Code that passes is such code

match_cells : (i : Instruction) → T (is_match i) → Cells i
match_cells (IS s n) h = tt
match_cells ISABST h = tt
match_cells NEXT h = tt
match_cells (CHECK vs) h = tt
match_cells SET h = tt
match_cells (EQVAR x) h = tt
match_cells (EQIMM e) h = tt
match_cells (EQI e D ps) h = tt
match_cells (CELL s n) h = absurd h
match_cells LAMBDA h = tt
match_cells ADBMAL h = tt
match_cells (PUSHVAR x) h = tt
match_cells (PUSHIMM e) h = tt
match_cells (PUSHI e D a) h = absurd h

-- the check follows the code
abbrev Follows : (p : Piece) → Building p → Type 0
Follows instruction f = (hs : List ℕ) × (hs' : List ℕ) × (f hs ≡ some hs')
Follows program f = (hs : List ℕ) × (hs' : List ℕ) × (f hs ≡ some hs')
Follows bodies q = T q

build_cells : {p : Piece} (es : List Slot) (inside : Bool) (l nest : ℕ) (c : Code p) → Follows p (build es inside l nest c) → Cells c
build_cells es inside l nest (IS s n) h = tt
build_cells es inside l nest ISABST h = tt
build_cells es inside l nest NEXT h = tt
build_cells es inside l nest (CHECK vs) h = tt
build_cells es inside l nest SET h = tt
build_cells es inside l nest (EQVAR x) h = tt
build_cells es inside l nest (EQIMM e) h = tt
build_cells es inside l nest (EQI e D ps) h = tt
build_cells es inside l nest (CELL s n) (hs, hs', e) =
    let a = needed (leb s index_limit) (need (leb n argument_limit) (take_many n hs)) hs' e in
    let b = needed (leb n argument_limit) (take_many n hs) hs' a.1 in
    (leb-true s index_limit a.0, leb-true n argument_limit b.0)
build_cells es inside l nest LAMBDA h = tt
build_cells es inside l nest ADBMAL h = tt
build_cells es inside l nest (PUSHVAR x) h = tt
build_cells es inside l nest (PUSHIMM e) h = tt
build_cells es inside l nest (PUSHI n D a) (hs, hs', e) =
    let (b, g, q) = slot_there (get_elem? es n) (push_asks es l nest D a hs) hs' e in
    build_cells es true (l + blocks hs) (nest + blocks hs) a (push_asked es l nest D a hs hs' b g q).bodies
build_cells es inside l nest End h = tt
build_cells es inside l nest (i ▸ c) (hs, hs', e) =
    let (ms, p, q) = and_then_is (build es inside l nest i hs) (build es inside l nest c) hs' e in
    (build_cells es inside l nest i (hs, ms, p), build_cells es inside l nest c (ms, hs', q))
build_cells es inside l nest None h = tt
build_cells es inside l nest (Body k c a) h =
    let q = body_asked es inside l nest k c a h in
    (build_cells es true l (nest + 1) c (0 ∷ [], 1 ∷ [], q.0), build_cells es inside l nest a q.1)

builds_cells : (m : Matching) (c : Program) → T (builds m c) → Cells c
builds_cells (matching [] es g) c h = build_cells es false 0 0 c (0 ∷ [], 1 ∷ [], one_term_lem (build es false 0 0 c (0 ∷ [])) h)
builds_cells (matching (d ∷ ds) es g) c h = absurd h

parts_cells : (c : Program) (m : Matching) → T (parts c m) → Cells c
parts_cells End m h = tt
parts_cells (i ▸ c) m h =
    case (λ q. T (cond q (and_then_holds (match_step i m) (parts c)) (builds m (i ▸ c))) → Cells (i ▸ c)) (is_match i)
    (λ t k. let q = holds_then (match_step i m) (parts c) k in (match_cells i t, parts_cells c q.0 q.2))
    (λ t k. builds_cells m (i ▸ c) k) h

-- ---- What a run makes

top_named : (σ : State) (w : Term) → Good σ → finished σ ≡ some w → Named w
top_named (state cs env [] off nst) w g e = never (cc)
top_named (state cs env (t ∷ st) off nst) w g e = let p : w ≡ t = cc in rw p g.2.0

pub made_named : (c : Program) (u w : Term) → T (obeys c) → Named u → made (run c u) ≡ some w → Named w
made_named c u w h n e = go (run c u) refl e
  where
    go : (o : Outcome State) → run c u ≡ o → made o ≡ some w → Named w
    go (done σ) p e = top_named σ w (exec_keeps c (parts_cells c (matching (0 ∷ []) [] []) h) (start u) σ ((n, tt), tt, tt) p) e
    go fails p e = never (cc)
    go no_step p e = never (cc)
