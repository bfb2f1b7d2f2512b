-- Build code that the check has passed is code that a walk can rely on: the check counts the terms of each open block, `ran` those of all together.
use mathlib.Core.Path.{◌≡◌, refl, ap, ◌∙◌}
use Prim.Native.Nat.{ℕ, zero, suc, ◌+◌, ◌-◌, ◌≤◌, ◌<◌}
use native.Mathlib.Omega.{arith}
use mathlib.Core.Bool.{Bool, true, false, not}
use mathlib.Core.Option.{Option, some}
use mathlib.Core.List.{List, [], ◌∷◌}
use lib.Dec.{T, eqb, leb, ltb}
use lib.ListN.{length, get_elem?}
use borrow.Author.Tests.{le-leb, lt-ltb, leb-true, ltb-true, eqb-true}
use Rattle.documents.specs.Limits.{argument_limit, index_limit}
use Rattle.documents.specs.Lists.{and_then}
use Rattle.documents.specs.Instructions.{Piece, instruction, program, bodies, Code, IS, ISABST, NEXT, CHECK, SET, EQVAR, EQIMM, EQI, CELL, LAMBDA, ADBMAL, PUSHVAR, PUSHIMM, PUSHI, End, ◌▸◌, None, Body, Program, Bodies}
use Rattle.documents.specs.Passing.{open_limit, nest_limit, Slot, with_slot, blocks, one_more, take_many, one_term, build}
use Rattle.documents.proofs.Lists.{never, on, and_of, needed, and_then_is}
use Rattle.safety.proofs.Asked.{slot_there, push_asked, one_term_lem, body_asked}
use Rattle.trees.specs.Trees.{sum}
use Rattle.links.specs.Sequences.{is_one, ran}

-- an entry that the check found is there
slot_in : {A : Type 0} (es : List Slot) (e : ℕ) (f : ℕ → List ℕ → Option A) (r : A) → with_slot (get_elem? es e) f ≡ some r → e < length es
slot_in [] e f r h = never (cc)
slot_in (x ∷ es) zero f r h = omega arith
slot_in (x ∷ es) (suc e) f r h = let k = slot_in es e f r h in omega arith

-- from terms that the check counts as hs to terms that it counts as ks
pub record Counts (l : ℕ) (act : ℕ → Option ℕ) (hs ks : List ℕ) : Type 0 where
  pub counts : act (sum hs) ≡ some (sum ks)
  pub opens : l + blocks ks ≤ open_limit

more_counts : (l : ℕ) (hs ks : List ℕ) → l + blocks hs ≤ open_limit → one_more hs ≡ some ks → Counts l (λ h. some (h + 1)) hs ks
more_counts l [] ks o e = never (cc)
more_counts l (h ∷ hs) ks o e =
    let p : ks ≡ (h + 1) ∷ hs = cc in
    rw p (record { counts = ap some (omega arith); opens = o })

counts_as : (l : ℕ) (f g : ℕ → Option ℕ) (hs ks : List ℕ) → f (sum hs) ≡ g (sum hs) → Counts l g hs ks → Counts l f hs ks
counts_as l f g hs ks e c = record { counts = e ∙ c.counts; opens = c.opens }

module _ (es : List Slot) (E : ℕ) (all : length es ≡ E) where
  abbrev Counting : (Bool → ℕ → ℕ → List ℕ → Option (List ℕ)) → (ℕ → Option ℕ) → Type 0
  Counting check act = (inside : Bool) (l nest : ℕ) (hs ks : List ℕ) → l + blocks hs ≤ open_limit → check inside l nest hs ≡ some ks → Counts l act hs ks

  abbrev pub Claim : (p : Piece) → Code p → Type 0
  Claim instruction i = Counting (λ inside l nest. build es inside l nest i) (ran E i)
  Claim program c = Counting (λ inside l nest. build es inside l nest c) (ran E c)
  Claim bodies a = (inside : Bool) (l nest : ℕ) → l ≤ open_limit → T (build es inside l nest a) → T (ran E a)

  CELL-counts : (s n : ℕ) → Claim instruction (CELL s n)
  CELL-counts s n inside l nest hs ks o e = go hs o (needed (leb n argument_limit) _ ks (needed (leb s index_limit) _ ks e).1).1
    where
      go : (hs : List ℕ) → l + blocks hs ≤ open_limit → take_many n hs ≡ some ks → Counts l (ran E (CELL s n)) hs ks
      go [] o e = never (cc)
      go (h ∷ hs) o e =
          let q = needed (leb n h) _ ks e in
          let k = leb-true n h q.0 in
          let w = q.1 in
          let p : ks ≡ (h - n + 1) ∷ hs = cc in
          rw p (record { counts = rw (le-leb n (h + sum hs) (omega arith)) (ap some (omega arith)); opens = o })

  LAMBDA-counts : Claim instruction LAMBDA
  LAMBDA-counts inside l nest hs ks o e =
      let p = needed (ltb (l + blocks hs) open_limit) _ ks e in
      let q = needed (ltb (nest + blocks hs) nest_limit) _ ks p.1 in
      let a = ltb-true (l + blocks hs) open_limit p.0 in
      let w = q.1 in
      let z : ks ≡ 0 ∷ hs = cc in
      rw z (record { counts = ap some (omega arith); opens = omega arith })

  ADBMAL-counts : Claim instruction ADBMAL
  ADBMAL-counts inside l nest [] ks o e = never (cc)
  ADBMAL-counts inside l nest (h ∷ []) ks o e = never (cc)
  ADBMAL-counts inside l nest (h ∷ h₀ ∷ hs) ks o e =
      let q = needed (eqb h 1) _ ks e in
      let k = eqb-true h 1 q.0 in
      let w = q.1 in
      let p : ks ≡ (h₀ + 1) ∷ hs = cc in
      rw p (record { counts = rw (le-leb 1 (h + (h₀ + sum hs)) (omega arith)) (ap some (omega arith)); opens = omega arith })

  PUSHVAR-counts : (x : ℕ) → Claim instruction (PUSHVAR x)
  PUSHVAR-counts x inside l nest hs ks o e = more_counts l hs ks o (needed (ltb x (l + blocks hs)) _ ks e).1

  PUSHIMM-counts : (n : ℕ) → Claim instruction (PUSHIMM n)
  PUSHIMM-counts n inside l nest hs ks o e =
      let s = (needed (not inside) _ ks e).1 in
      let r = slot_there (get_elem? es n) _ ks s in
      let k = slot_in es n _ ks s in
      counts_as l _ (λ h. some (h + 1)) hs ks (rw (lt-ltb n E (omega arith))) (more_counts l hs ks o (needed (eqb (l + blocks hs) r.0) _ ks r.2).1)

  PUSHI-counts : (n D : ℕ) (a : Bodies) → Claim bodies a → Claim instruction (PUSHI n D a)
  PUSHI-counts n D a each inside l nest hs ks o e =
      let r = slot_there (get_elem? es n) _ ks e in
      let k = slot_in es n _ ks e in
      let q = push_asked es l nest D a hs ks r.0 r.1 r.2 in
      let d = q.shift in
      let y = on (ran E a) (each true (l + blocks hs) (nest + blocks hs) o q.bodies) in
      counts_as l _ (λ h. some (h + 1)) hs ks (rw (lt-ltb n E (omega arith), le-leb D 127 (omega arith), y)) (more_counts l hs ks o q.more)

  -- what the check says of code is what `ran` says
  pub counts_as_checked : {p : Piece} (c : Code p) → Claim p c
  counts_as_checked (IS s n) = λ inside l nest hs ks o e. never (cc)
  counts_as_checked ISABST = λ inside l nest hs ks o e. never (cc)
  counts_as_checked NEXT = λ inside l nest hs ks o e. never (cc)
  counts_as_checked (CHECK vs) = λ inside l nest hs ks o e. never (cc)
  counts_as_checked SET = λ inside l nest hs ks o e. never (cc)
  counts_as_checked (EQVAR x) = λ inside l nest hs ks o e. never (cc)
  counts_as_checked (EQIMM n) = λ inside l nest hs ks o e. never (cc)
  counts_as_checked (EQI n D ps) = λ inside l nest hs ks o e. never (cc)
  counts_as_checked (CELL s n) = CELL-counts s n
  counts_as_checked LAMBDA = LAMBDA-counts
  counts_as_checked ADBMAL = ADBMAL-counts
  counts_as_checked (PUSHVAR x) = PUSHVAR-counts x
  counts_as_checked (PUSHIMM n) = PUSHIMM-counts n
  counts_as_checked (PUSHI n D a) = PUSHI-counts n D a (counts_as_checked a)
  counts_as_checked End = λ inside l nest hs ks o e. let p : ks ≡ hs = cc in rw p (record { counts = refl; opens = o })
  counts_as_checked (i ▸ c) = λ inside l nest hs ks o e.
      let q = and_then_is (build es inside l nest i hs) _ ks e in
      let s = counts_as_checked i inside l nest hs q.0 o q.1 in
      let r = counts_as_checked c inside l nest q.0 ks s.opens q.2 in
      record { counts = ap (λ x. and_then x (ran E c)) s.counts ∙ r.counts; opens = r.opens }
  counts_as_checked None = λ inside l nest o t. tt
  counts_as_checked (Body k c a) = λ inside l nest o t.
      let q = body_asked es inside l nest k c a t in
      let s = counts_as_checked c true l (nest + 1) (0 ∷ []) (1 ∷ []) (omega arith) q.0 in
      and_of (is_one (ran E c 0)) (ran E a) (rw s.counts tt) (counts_as_checked a inside l nest o q.1)

-- a checked build part
pub checked_ran : (es : List Slot) (E : ℕ) (c : Program) → length es ≡ E → T (one_term (build es false 0 0 c (0 ∷ []))) → T (is_one (ran E c 0))
checked_ran es E c e t = let s = counts_as_checked es E e c false 0 0 (0 ∷ []) (1 ∷ []) (omega arith) (one_term_lem _ t) in rw s.counts tt
