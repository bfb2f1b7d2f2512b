-- A match instruction that the check follows fails, or goes on to a state that the check follows: current terms of the depths that the check
-- keeps, entries as it keeps them, and no variable of the current term in the list of a CHECK directly before. No case has no step: EQI's first
-- indices have a place for every variable of a guarded entry.
use mathlib.Core.Path.{◌≡◌, refl, ap}
use Prim.Native.Nat.{ℕ, suc, ◌+◌, ◌≤◌, ◌<◌}
use native.Mathlib.Omega.{arith}
use mathlib.Core.Bool.{Bool, true, false, not, ◌&&◌, cond}
use mathlib.Core.Option.{Option, none, some}
use mathlib.Core.List.{List, [], ◌∷◌}
use lib.Dec.{T, eqb, eqb→eq, leb, ltb}
use lib.ListN.{length}
use borrow.Author.Tests.{eqb-true, ltb-true}
use Rattle.documents.specs.Limits.{argument_limit, index_limit, d_shift}
use Rattle.documents.specs.Lists.{every, member, need}
use Rattle.documents.specs.Terms.{Var, Sym, Meta, Abst, Nil, Cons, Term, Terms, len, rename}
use Rattle.documents.specs.Tables.{nodes}
use Rattle.documents.specs.Rules.{freevars}
use Rattle.documents.specs.Instructions.{IS, ISABST, NEXT, CHECK, SET, EQVAR, EQIMM, EQI, CELL, LAMBDA, ADBMAL, PUSHVAR, PUSHIMM, PUSHI, Instruction, Program}
use Rattle.documents.specs.Machine.{Current, current, Entry, State, state, Outcome, done, fails, ◌>>=◌, test, or_fails, arguments_of, body_of, is_var, equal, placed, firsts, renaming, currents, exec}
use Rattle.documents.specs.Passing.{current_limit, open_limit, entry_limit, check_limit, pair_limit, Slot, covers, seconds, all_below, Matching, matching, times, match_top, match_step}
use Rattle.documents.proofs.Lists.{never, on, T_of, of_and, needed}
use Rattle.documents.proofs.FreeVariables.{unders, AllFree, free_of_every, free_all}
use Rattle.safety.proofs.Entries.{Outside, EntriesOk, named, all_placed}

module _ (Sub : ℕ → Type 0) where
  abbrev pub CurrentsOk : List ℕ → List Current → Type 0
  CurrentsOk [] [] = Unit {0}
  CurrentsOk [] (c ∷ cs) = ⊥
  CurrentsOk (d ∷ ds) [] = ⊥
  CurrentsOk (d ∷ ds) (current d' m t ∷ cs) = (d' ≡ d) × (d ≤ open_limit) × AllFree (unders d Sub) t × CurrentsOk ds cs

  pub currents_length : (ds : List ℕ) (cs : List Current) → CurrentsOk ds cs → length cs ≡ length ds
  currents_length [] [] o = refl
  currents_length [] (c ∷ cs) o = absurd o
  currents_length (d ∷ ds) [] o = absurd o
  currents_length (d ∷ ds) (current d' m t ∷ cs) o = ap suc (currents_length ds cs o.3)

  -- the current term has no variable of the list
  abbrev pub Guarded : List ℕ → List Current → Type 0
  Guarded g [] = Unit {0}
  Guarded g (current d m t ∷ cs) = AllFree (Outside g) t

  unguarded : (cs : List Current) → Guarded [] cs
  unguarded [] = tt
  unguarded (current d m t ∷ cs) = free_all _ t (λ x. tt)

  currents_ok : (ts : Terms) (d d' m : ℕ) (ds : List ℕ) (cs : List Current) → d' ≡ d → d ≤ open_limit → AllFree (unders d Sub) ts → CurrentsOk ds cs
      → CurrentsOk (times (len ts) d ds) (currents d' m ts cs)
  currents_ok Nil d d' m ds cs e lo f o = o
  currents_ok (Cons t ts) d d' m ds cs e lo f o = (e, lo, f.0, currents_ok ts d d' (m + nodes t) ds cs e lo f.1 o)

  -- CURR and ENV are as the check says
  abbrev pub Agrees : Matching → List Current → List Entry → Type 0
  Agrees (matching ds es g) cs env = CurrentsOk ds cs × EntriesOk Sub es env × Guarded g cs

  pub agrees_at_start : (t : Term) → AllFree Sub t → Agrees (matching (0 ∷ []) [] []) (current 0 0 t ∷ []) []
  agrees_at_start t f = ((refl, omega arith, f, tt), tt, unguarded (current 0 0 t ∷ []))

  module _ (st : List Term) (off : ℕ) (nst : List ℕ) where
    -- fails, or goes on as the check says
    pub data Goes (m : Matching) (r : Outcome State) : Type 0 where
      failing : r ≡ fails → Goes m r
      going : (cs : List Current) (env : List Entry) → r ≡ done (state cs env st off nst) → Agrees m cs env → Goes m r

    goes_on : {m : Matching} {cs : List Current} {env : List Entry} → Agrees m cs env → Goes m (done (state cs env st off nst))
    goes_on {m} {cs} {env} a = going cs env refl a

    tested : {m : Matching} (q : Bool) (cs : List Current) (env : List Entry) → (T q → Agrees m cs env) → Goes m (test q (state cs env st off nst))
    tested true cs env h = goes_on (h tt)
    tested false cs env h = failing refl

    as_checked : {m m' : Matching} {r : Outcome State} → some m ≡ some m' → Goes m r → Goes m' r
    as_checked {m} {m'} {r} e h = let p : m ≡ m' = cc in rw p at h

    IS-goes : (s n d d' k : ℕ) (t : Term) (ds : List ℕ) (cs : List Current) (es : List Slot) (env : List Entry)
        → d' ≡ d → d ≤ open_limit → AllFree (unders d Sub) t → CurrentsOk ds cs → EntriesOk Sub es env
        → Goes (matching (times n d ds) es []) (or_fails (arguments_of s n t) (λ ts. done (state (currents d' k ts cs) env st off nst)))
    IS-goes s n d d' k (Var x) ds cs es env e lo f o ok = failing refl
    IS-goes s n d d' k (Meta z ts) ds cs es env e lo f o ok = failing refl
    IS-goes s n d d' k (Abst t) ds cs es env e lo f o ok = failing refl
    IS-goes s n d d' k (Sym s' ts) ds cs es env e lo f o ok = go (eqb s s' && eqb (len ts) n) (λ h. eqb→eq (len ts) n (of_and (eqb s s') (eqb (len ts) n) h).1)
      where
        go : (q : Bool) → (T q → len ts ≡ n)
            → Goes (matching (times n d ds) es []) (or_fails (cond q (some ts) none) (λ ts. done (state (currents d' k ts cs) env st off nst)))
        go true h = goes_on (rw (← (h tt)) (currents_ok ts d d' k ds cs e lo f o), ok, unguarded (currents d' k ts cs))
        go false h = failing refl

    ISABST-goes : (d d' k : ℕ) (t : Term) (ds : List ℕ) (cs : List Current) (es : List Slot) (env : List Entry)
        → d' ≡ d → d < open_limit → AllFree (unders d Sub) t → CurrentsOk ds cs → EntriesOk Sub es env
        → Goes (matching ((d + 1) ∷ ds) es []) (or_fails (body_of t) (λ u. done (state (current (d' + 1) k u ∷ cs) env st off nst)))
    ISABST-goes d d' k (Var x) ds cs es env e lo f o ok = failing refl
    ISABST-goes d d' k (Sym s ts) ds cs es env e lo f o ok = failing refl
    ISABST-goes d d' k (Meta z ts) ds cs es env e lo f o ok = failing refl
    ISABST-goes d d' k (Abst t) ds cs es env e lo f o ok =
        let s : d + 1 ≡ suc d = omega arith in
        let e' : d' + 1 ≡ d + 1 = omega arith in
        let lo' : d + 1 ≤ open_limit = omega arith in
        let f' : AllFree (unders (d + 1) Sub) t = rw s f in
        goes_on ((e', lo', f', o), ok, unguarded (current (d' + 1) k t ∷ cs))

    -- an instruction, with a current term t
    top_goes : (i : Instruction) (d d' k : ℕ) (t : Term) (ds : List ℕ) (cs : List Current) (es : List Slot) (env : List Entry) (g : List ℕ) (m : Matching)
        → match_top i d ds es g ≡ some m → d' ≡ d → d ≤ open_limit → AllFree (unders d Sub) t → CurrentsOk ds cs → EntriesOk Sub es env → AllFree (Outside g) t
        → Goes m (exec i (state (current d' k t ∷ cs) env st off nst))
    top_goes (IS s n) d d' k t ds cs es env g m w e lo f o ok gd =
        let q = needed (leb (length ds + n) current_limit) _ m (needed (leb n argument_limit) _ m (needed (leb s index_limit) _ m w).1).1 in
        as_checked q.1 (IS-goes s n d d' (k + 1) t ds cs es env e lo f o ok)
    top_goes ISABST d d' k t ds cs es env g m w e lo f o ok gd =
        let q = needed (ltb d open_limit) _ m w in
        as_checked q.1 (ISABST-goes d d' (k + 1) t ds cs es env e (ltb-true d open_limit q.0) f o ok)
    top_goes NEXT d d' k t ds cs es env g m w e lo f o ok gd = as_checked w (goes_on (o, ok, unguarded cs))
    top_goes (CHECK vs) d d' k t ds cs es env g m w e lo f o ok gd =
        let q = needed (all_below d vs) _ m (needed (leb (length vs) check_limit) _ m w).1 in
        as_checked q.1 (tested (every (λ y. not (member vs y)) (freevars t)) _ env λ h. ((e, lo, f, o), ok, free_of_every (λ y. not (member vs y)) 0 t h))
    top_goes SET d d' k t ds cs es env g m w e lo f o ok gd =
        let q = needed (ltb (length es) entry_limit) _ m w in
        as_checked q.1 (goes_on ((e, lo, f, o), ((e, lo, f, gd), ok), unguarded (current d' k t ∷ cs)))
    top_goes (EQVAR x) d d' k t ds cs es env g m w e lo f o ok gd =
        let q = needed (ltb x d) _ m w in
        as_checked q.1 (tested (is_var x t) _ env λ h. ((e, lo, f, o), ok, unguarded (current d' k t ∷ cs)))
    top_goes (EQIMM n) d d' k t ds cs es env g m w e lo f o ok gd =
        let r = named Sub es env n _ m ok w in
        let q = needed (eqb d r.b) _ m r.says in
        rw r.here (as_checked q.1 (tested (equal r.term t) _ env λ h. ((e, lo, f, o), ok, unguarded (current d' k t ∷ cs))))
    top_goes (EQI n D ps) d d' k t ds cs es env g m w e lo f o ok gd =
        let asks : ℕ → List ℕ → Option Matching = λ b h.
        need (eqb (D + b) (d + d_shift)) (need (leb (length ps) pair_limit)
        (need (all_below b (firsts ps)) (need (covers b h (firsts ps)) (need (all_below d (seconds ps)) (some (matching (d ∷ ds) es [])))))) in
        let r = named Sub es env n asks m ok w in
        let q₁ = needed (eqb (D + r.b) (d + d_shift)) _ m r.says in
        let q₂ = needed (leb (length ps) pair_limit) _ m q₁.1 in
        let q₃ = needed (all_below r.b (firsts ps)) _ m q₂.1 in
        let q₄ = needed (covers r.b r.guard (firsts ps)) _ m q₃.1 in
        let q₅ = needed (all_below d (seconds ps)) _ m q₄.1 in
        let h = all_placed (firsts ps) r.guard r.b D d r.term (eqb-true (D + r.b) (d + d_shift) q₁.0) (T_of _ q₄.0) r.outside in
        rw (r.here, on (every (placed (firsts ps) r.b D) (freevars r.term)) h)
        (as_checked q₅.1 (tested (equal (rename (renaming ps D) r.term) t) _ env λ h. ((e, lo, f, o), ok, unguarded (current d' k t ∷ cs))))
    top_goes (CELL s n) d d' k t ds cs es env g m w e lo f o ok gd = never (cc)
    top_goes LAMBDA d d' k t ds cs es env g m w e lo f o ok gd = never (cc)
    top_goes ADBMAL d d' k t ds cs es env g m w e lo f o ok gd = never (cc)
    top_goes (PUSHVAR x) d d' k t ds cs es env g m w e lo f o ok gd = never (cc)
    top_goes (PUSHIMM n) d d' k t ds cs es env g m w e lo f o ok gd = never (cc)
    top_goes (PUSHI n D a) d d' k t ds cs es env g m w e lo f o ok gd = never (cc)

    -- what the check says of a match instruction comes true, or the instruction fails
    pub matches_as_checked : (i : Instruction) (m m' : Matching) (cs : List Current) (env : List Entry) → match_step i m ≡ some m' → Agrees m cs env
        → Goes m' (exec i (state cs env st off nst))
    matches_as_checked i (matching [] es g) m' cs env w a = never (cc)
    matches_as_checked i (matching (d ∷ ds) es g) m' [] env w a = absurd a.0
    matches_as_checked i (matching (d ∷ ds) es g) m' (current d' k t ∷ cs) env w a =
        top_goes i d d' k t ds cs es env g m' w a.0.0 a.0.1 a.0.2 a.0.3 a.1 a.2

    -- what holds of a failure, and of the rest wherever the check is followed so far, holds of the two one after the other
    pub goes_then : (E : Outcome State → Type 0) (m : Matching) (r : Outcome State) (c : Program) → Goes m r → E fails
        → ((cs : List Current) (env : List Entry) → Agrees m cs env → E (exec c (state cs env st off nst))) → E (r >>= exec c)
    goes_then E m r c (failing e) f h = rw e f
    goes_then E m r c (going cs env e a) f h = rw e (h cs env a)
