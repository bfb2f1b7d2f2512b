-- What an instruction asks for: an IS or ISABST fails at a node of another bucket than the one that it asks for. The second instruction, behind an
-- IS, looks at the first argument; where there is none, code that obeys has no instruction there that asks for anything.
use mathlib.Core.Path.{◌≡◌, refl, sym, ◌∙◌}
use Prim.Native.Nat.{ℕ, ◌+◌, ◌*◌, ◌/◌, ◌%◌, ◌≤◌, ◌<◌}
use native.Mathlib.Omega.{arith}
use mathlib.Core.Bool.{Bool, true, false, ◌&&◌, cond}
use mathlib.Core.Option.{Option, some}
use mathlib.Core.List.{List, [], ◌∷◌, ◌++◌}
use lib.Dec.{T, eqb, leb, ltb}
use lib.ListN.{length, get_or}
use Rattle.std.specs.Prelude as program
use borrow.Author.Tests.{eqb-true, leb-true, lt-ltb, le-ltb, lt-leb, le-leb, ne_eqb}
use Rattle.documents.specs.Limits.{argument_limit, index_limit}
use Rattle.documents.specs.Lists.{need}
use Rattle.documents.specs.Terms.{Var, Sym, Meta, Abst, Nil, Cons, Term, Terms, len}
use Rattle.documents.specs.Tables.{nodes, subterm}
use Rattle.documents.specs.Instructions.{IS, ISABST, NEXT, CHECK, SET, EQVAR, EQIMM, EQI, CELL, LAMBDA, ADBMAL, PUSHVAR, PUSHIMM, PUSHI, End, ◌▸◌, Instruction, Program, opcode, words}
use Rattle.documents.specs.Machine.{Current, current, Entry, State, state, fails, exec, run, currents}
use Rattle.documents.specs.Passing.{Matching, matching, times, and_then_holds, parts, obeys, current_limit}
use Rattle.documents.proofs.Lists.{both_true}
use Rattle.documents.proofs.Nodes.{nodes_positive, subterm_root, subterm_first}
use Rattle.dispatch.specs.Buckets.{bucket_of, root_word, root_count, asked_at, asked_behind, Asked}
use Rattle.dispatch.specs.Admitted.{Readable}

-- ---- Buckets

module _ (word count : ℕ) where
  pub bucket_variable : word < 65536 → bucket_of word count ≡ 257
  unfolding bucket_of
  bucket_variable h = rw (lt-ltb word 65536 h)

  pub bucket_abstraction : 131072 ≤ word → bucket_of word count ≡ 256
  unfolding bucket_of
  bucket_abstraction h = rw (le-ltb word 65536 (omega arith), le-leb 131072 word h)

  pub bucket_symbol : 65536 ≤ word → word < 131072 → bucket_of word count ≡ (word * 20551 / 4096 + count) % 256
  unfolding bucket_of
  bucket_symbol l h = rw (le-ltb word 65536 l, lt-leb 131072 word h)

  pub bucket_low : bucket_of word count < 258
  unfolding bucket_of
  bucket_low = go (ltb word 65536) (leb 131072 word)
    where
      go : (p q : Bool) → cond p 257 (cond q 256 ((word * 20551 / 4096 + count) % 256)) < 258
      go true q = omega arith
      go false true = omega arith
      go false false = omega arith

-- ---- What an instruction asks for

module _ (code : List ℕ) (at : ℕ) where
  pub asked_is : {r : ℕ} → get_or code at 0 ≡ 0 → (r ≡ bucket_of (65536 + get_or code (at + 1) 0) (get_or code (at + 2) 0)) × (r < 258)
      → (r ≡ asked_at code at) × (r < 258)
  unfolding asked_at
  asked_is o e = (e.0 ∙ rw o, e.1)

  pub asked_isabst : get_or code at 0 ≡ 1 → (256 ≡ asked_at code at) × (256 < 258)
  unfolding asked_at
  asked_isabst o = (rw o, omega arith)

  pub asked_else : (get_or code at 0 ≡ 0 → ⊥) → (get_or code at 0 ≡ 1 → ⊥) → asked_at code at ≡ 258
  unfolding asked_at
  asked_else n m = rw (ne_eqb (get_or code at 0) 0 n, ne_eqb (get_or code at 0) 1 m)

-- an instruction asks for a symbol, an abstraction, or neither
data Asks : Instruction → Type 0 where
  symbol : (s n : ℕ) → Asks (IS s n)
  abstraction : Asks ISABST
  neither : (i : Instruction) → 2 ≤ opcode i → ((ws : List ℕ) → get_or (words i ++ ws) 0 0 ≡ opcode i) → Asks i

asks : (i : Instruction) → Asks i
asks (IS s n) = symbol s n
asks ISABST = abstraction
asks NEXT = neither NEXT (omega arith) (λ ws. refl)
asks (CHECK vs) = neither (CHECK vs) (omega arith) (λ ws. refl)
asks SET = neither SET (omega arith) (λ ws. refl)
asks (EQVAR x) = neither (EQVAR x) (omega arith) (λ ws. refl)
asks (EQIMM e) = neither (EQIMM e) (omega arith) (λ ws. refl)
asks (EQI e D ps) = neither (EQI e D ps) (omega arith) (λ ws. refl)
asks (CELL s n) = neither (CELL s n) (omega arith) (λ ws. refl)
asks LAMBDA = neither LAMBDA (omega arith) (λ ws. refl)
asks ADBMAL = neither ADBMAL (omega arith) (λ ws. refl)
asks (PUSHVAR x) = neither (PUSHVAR x) (omega arith) (λ ws. refl)
asks (PUSHIMM e) = neither (PUSHIMM e) (omega arith) (λ ws. refl)
asks (PUSHI e D a) = neither (PUSHI e D a) (omega arith) (λ ws. refl)

module _ (code : List ℕ) (h : 2 ≤ get_or code 0 0) where
  asks_nothing : asked_at code 0 ≡ 258
  asks_nothing = asked_else code 0 (λ e. omega arith) (λ e. omega arith)

  nothing_readable : Readable code 0
  nothing_readable = record { inside = go code h; whole = λ e. absurd (omega arith) }
    where
      go : (l : List ℕ) → 2 ≤ get_or l 0 0 → 0 < length l
      go [] h = absurd (omega arith)
      go (w ∷ l) h = omega arith

module _ (d m : ℕ) (cs : List Current) (env : List Entry) (st : List Term) (off : ℕ) (nst : List ℕ) where
  abbrev at_term : Term → State
  at_term t = state (current d m t ∷ cs) env st off nst

  is_fails : (s n : ℕ) (t : Term) → (bucket_of (65536 + s) n ≡ bucket_of (root_word t) (root_count t) → ⊥) → exec (IS s n) (at_term t) ≡ fails
  is_fails s n (Var x) h = refl
  is_fails s n (Meta z ts) h = refl
  is_fails s n (Abst t) h = refl
  is_fails s n (Sym s' ts) h = go (eqb s s' && eqb (len ts) n) refl
    where
      go : (q : Bool) → eqb s s' && eqb (len ts) n ≡ q → exec (IS s n) (at_term (Sym s' ts)) ≡ fails
      go false e = rw e
      go true e =
          let b = both_true (eqb s s') (eqb (len ts) n) e in
          let p : 65536 + s ≡ 1 * 65536 + s' = omega (arith, eqb-true s s' b.0) in
          absurd (h (rw (p, eqb-true (len ts) n b.1)))

  isabst_fails : (t : Term) → (256 ≡ bucket_of (root_word t) (root_count t) → ⊥) → exec ISABST (at_term t) ≡ fails
  isabst_fails (Var x) h = refl
  isabst_fails (Sym s ts) h = refl
  isabst_fails (Meta z ts) h = refl
  isabst_fails (Abst t) h = absurd (h (sym (bucket_abstraction 196608 1 (omega arith))))

  -- an instruction that fails is the last
  asked_fails : (c : Program) (t : Term) → 0 < length (words c) → (asked_at (words c) 0 ≡ 258 → ⊥)
      → (asked_at (words c) 0 ≡ bucket_of (root_word t) (root_count t) → ⊥) → exec c (at_term t) ≡ fails
  unfolding asked_at
  asked_fails End t h f g = absurd (omega arith)
  asked_fails (i ▸ c) t h f g = go (asks i) f g
    where
      go : {i : Instruction} → Asks i → (asked_at (words (i ▸ c)) 0 ≡ 258 → ⊥) → (asked_at (words (i ▸ c)) 0 ≡ bucket_of (root_word t) (root_count t) → ⊥)
          → exec (i ▸ c) (at_term t) ≡ fails
      go (symbol s n) f g = rw (is_fails s n t g)
      go abstraction f g = rw (isabst_fails t g)
      go (neither i l w) f g = absurd (f (asks_nothing (words i ++ words c) (rw (w (words c)) l)))

-- ---- Code that obeys

held_need : {A : Type 0} (q : Bool) (o : Option A) (f : A → Bool) → T (and_then_holds (need q o) f) → (q ≡ true) × T (and_then_holds o f)
held_need true o f h = (refl, h)
held_need false o f h = absurd h

is_held : (s n : ℕ) (c : Program) (m : Matching) → T (parts (IS s n ▸ c) m) → (s ≤ index_limit) × (n ≤ argument_limit)
is_held s n c (matching [] es g) p = absurd p
is_held s n c (matching (d ∷ ds) es g) p =
    let a = held_need (leb s index_limit) _ (parts c) p in
    let b = held_need (leb n argument_limit) _ (parts c) a.1 in
    (leb-true s index_limit a.0, leb-true n argument_limit b.0)

behind_held : (s n : ℕ) (c : Program) → T (obeys (IS s n ▸ c)) → T (parts c (matching (times n 0 []) [] []))
behind_held s n c p =
    let a = held_need (leb s index_limit) _ (parts c) p in
    let b = held_need (leb n argument_limit) _ (parts c) a.1 in
    (held_need (leb (0 + n) current_limit) _ (parts c) b.1).1

-- the first instruction of code that obeys from some state on
parts_readable : (c : Program) (m : Matching) → T (parts c m) → Readable (words c) 0
parts_readable End m p = absurd p
parts_readable (i ▸ c) m p = go (asks i) p
  where
    go : {i : Instruction} → Asks i → T (parts (i ▸ c) m) → Readable (words (i ▸ c)) 0
    go (symbol s n) p = record { inside = omega arith; whole = λ e. let (a, b) = is_held s n c m p in (omega arith, a, b) }
    go abstraction p = record { inside = omega arith; whole = λ e. absurd (omega arith) }
    go (neither i l w) p = nothing_readable (words i ++ words c) (rw (w (words c)) l)

-- with no current term nothing is asked
none_current : (c : Program) → T (parts c (matching [] [] [])) → asked_at (words c) 0 ≡ 258
none_current End p = absurd p
none_current (i ▸ c) p = go (asks i) p
  where
    go : {i : Instruction} → Asks i → T (parts (i ▸ c) (matching [] [] [])) → asked_at (words (i ▸ c)) 0 ≡ 258
    go (symbol s n) p = absurd p
    go abstraction p = absurd p
    go (neither i l w) p = asks_nothing (words i ++ words c) (rw (w (words c)) l)

-- ---- The root, and the node behind it

-- the instruction behind an IS
behind_is : (s n : ℕ) (ws : List ℕ) → asked_behind (0 ∷ s ∷ n ∷ ws) ≡ asked_at ws 0
unfolding asked_behind asked_at
behind_is s n ws = refl

pub behind_first : (r : program.Option ℕ) (code : List ℕ) → get_or code 0 0 ≡ 0 → Asked r (asked_at code 3) → Asked r (asked_behind code)
unfolding asked_behind
behind_first r code o e = (e.0 ∙ rw o, e.1)

pub behind_none : (code : List ℕ) → (get_or code 0 0 ≡ 0 → ⊥) → asked_behind code ≡ 258
unfolding asked_behind
behind_none code h = rw (ne_eqb (get_or code 0 0) 0 h)

module _ (c : Program) (p : T (obeys c)) where
  pub root_readable : Readable (words c) 0
  root_readable = parts_readable c _ p

  pub root_fails : (t : Term) → (asked_at (words c) 0 ≡ 258 → ⊥) → (asked_at (words c) 0 ≡ bucket_of (root_word t) (root_count t) → ⊥) → run c t ≡ fails
  root_fails t f g = asked_fails 0 0 [] [] [] 0 [] c t root_readable.inside f g

pub behind_readable : (c : Program) → T (obeys c) → get_or (words c) 0 0 ≡ 0 → Readable (words c) 3
behind_readable End p e = absurd p
behind_readable (i ▸ c) p e = go (asks i) p e
  where
    go : {i : Instruction} → Asks i → T (obeys (i ▸ c)) → get_or (words (i ▸ c)) 0 0 ≡ 0 → Readable (words (i ▸ c)) 3
    go (symbol s n) p e =
        let r = parts_readable c _ (behind_held s n c p) in
        record { inside = omega (arith, r.inside); whole = λ z. let (a, b, d) = r.whole z in (omega arith, b, d) }
    go abstraction p e = absurd (omega arith)
    go (neither i l w) p e = absurd (omega (arith, w (words c)))

first_argument : (u : Term) (us : Terms) → subterm (Cons u us) 0 ≡ some u
first_argument u us = subterm_first u us 0 (nodes_positive u) ∙ subterm_root u

module _ (word count : ℕ) where
  is_behind_fails : (s n : ℕ) (c : Program) (t : Term) → T (obeys (IS s n ▸ c))
      → ((u : Term) → subterm t 1 ≡ some u → (word ≡ root_word u) × (count ≡ root_count u))
      → (asked_at (words c) 0 ≡ 258 → ⊥) → (asked_at (words c) 0 ≡ bucket_of word count → ⊥) → run (IS s n ▸ c) t ≡ fails
  is_behind_fails s n c (Var x) p h f g = refl
  is_behind_fails s n c (Meta z ts) p h f g = refl
  is_behind_fails s n c (Abst t) p h f g = refl
  is_behind_fails s n c (Sym s' ts) p h f g = go (eqb s s' && eqb (len ts) n) refl
    where
      matched : (ts : Terms) → len ts ≡ n → ((u : Term) → subterm ts 0 ≡ some u → (word ≡ root_word u) × (count ≡ root_count u))
          → exec c (state (currents 0 (0 + 1) ts []) [] [] 0 []) ≡ fails
      matched Nil e h = absurd (f (none_current c (rw (← e) at (behind_held s n c p))))
      matched (Cons u us) e h =
          let (w, k) = h u (first_argument u us) in
          asked_fails 0 (0 + 1) (currents 0 (0 + 1 + nodes u) us []) [] [] 0 [] c u (parts_readable c _ (behind_held s n c p)).inside f (rw (w, k) at g)

      go : (q : Bool) → eqb s s' && eqb (len ts) n ≡ q → run (IS s n ▸ c) (Sym s' ts) ≡ fails
      go false e = rw e
      go true e = rw e (matched ts (eqb-true (len ts) n (both_true (eqb s s') (eqb (len ts) n) e).1) h)

  pub behind_fails : (c : Program) (t : Term) → T (obeys c) → ((u : Term) → subterm t 1 ≡ some u → (word ≡ root_word u) × (count ≡ root_count u))
      → (asked_behind (words c) ≡ 258 → ⊥) → (asked_behind (words c) ≡ bucket_of word count → ⊥) → run c t ≡ fails
  behind_fails End t p h f g = absurd p
  behind_fails (i ▸ c) t p h f g = go (asks i) p f g
    where
      go : {i : Instruction} → Asks i → T (obeys (i ▸ c)) → (asked_behind (words (i ▸ c)) ≡ 258 → ⊥) → (asked_behind (words (i ▸ c)) ≡ bucket_of word count → ⊥)
          → run (i ▸ c) t ≡ fails
      go (symbol s n) p f g = is_behind_fails s n c t p h (rw (behind_is s n (words c)) at f) (rw (behind_is s n (words c)) at g)
      go abstraction p f g = absurd (f (behind_none (words (ISABST ▸ c)) (λ e. omega arith)))
      go (neither i l w) p f g = absurd (f (behind_none (words i ++ words c) (λ e. omega (arith, w (words c)))))
