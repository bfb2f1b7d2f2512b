-- The build part, counted: what each instruction makes of the number of finished terms, and where the next one stands.
use mathlib.Core.Path.{◌≡◌, refl, sym, ◌∙◌}
use Prim.Native.Nat.{ℕ, zero, suc, ◌+◌, ◌-◌, ◌≤◌, ◌<◌}
use native.Mathlib.Omega.{arith}
use mathlib.Core.Bool.{false}
use mathlib.Core.Option.{Option, none, some, some-injective}
use mathlib.Core.List.{List, [], ◌∷◌}
use lib.Dec.{T, eqb, leb, ltb}
use lib.ListN.{length, get_or, get_elem?}
use borrow.Author.Tests.{leb-true, eqb-true, eqb-false}
use Rattle.documents.specs.Limits.{argument_limit, index_limit}
use Rattle.documents.specs.Lists.{need, and_then}
use Rattle.documents.specs.Instructions.{IS, ISABST, NEXT, CHECK, SET, EQVAR, EQIMM, EQI, CELL, LAMBDA, ADBMAL, PUSHVAR, PUSHIMM, PUSHI, End, ◌▸◌, Instruction, Program, Bodies, whole, opcode, fixed_after}
use Rattle.documents.specs.Machine.{first}
use Rattle.documents.specs.Passing.{open_limit, nest_limit, Slot, blocks, one_more, take_many, shut, one_term, build}
use Rattle.documents.proofs.Lists.{never, case, on, off, needed}
use Rattle.instructions.specs.Places.{program_at, read_at}
use Rattle.instructions.specs.Bodies.{Readable, place_behind}
use Rattle.instructions.proofs.Reading.{First, read_cell, read_lambda, read_adbmal, read_pushvar, read_pushimm, program_first, program_done}
use Rattle.instructions.proofs.Bodies.{Ends, bodies_end, behind_low}
use Rattle.instructions.proofs.Starts.{Starts, StartsPush, fixed_at, starts_plain, starts_push}
use Rattle.safety.proofs.Counts.{total}
use Rattle.safety.proofs.Asked.{slot_there, push_asks, push_asked}
use Rattle.watcher.specs.declared.count.Built.{Built}
use Rattle.watcher.specs.Counting.{Counted, Grown, Grows, Finishes}

-- ---- finished terms, all blocks together

taken_total : (n : ℕ) (hs ks : List ℕ) → take_many n hs ≡ some ks → (n ≤ total hs) × (total ks ≡ total hs - n + 1)
taken_total n [] ks e = never (cc)
taken_total n (h ∷ hs) ks e =
    let q = needed (leb n h) (some ((h - n + 1) ∷ hs)) ks e in
    let l = leb-true n h q.0 in
    let z : (h - n + 1) ∷ hs ≡ ks = some-injective _ _ q.1 in
    (omega arith, rw (sym z) (omega arith))

more_total : (hs ks : List ℕ) → one_more hs ≡ some ks → total ks ≡ total hs + 1
more_total [] ks e = never (cc)
more_total (h ∷ hs) ks e = let z : (h + 1) ∷ hs ≡ ks = cc in rw (sym z) (omega arith)

shut_total : (hs ks : List ℕ) → shut hs ≡ some ks → total ks ≡ total hs
shut_total [] ks e = never (cc)
shut_total (h ∷ []) ks e = never (cc)
shut_total (h ∷ h₀ ∷ hs) ks e =
    let q = needed (eqb h 1) (some ((h₀ + 1) ∷ hs)) ks e in
    let l = eqb-true h 1 q.0 in
    let z : (h₀ + 1) ∷ hs ≡ ks = some-injective _ _ q.1 in
    rw (sym z) (omega arith)

module _ (es : List Slot) (hs ks : List ℕ) where
  cell_total : (s n : ℕ) → build es false 0 0 (CELL s n) hs ≡ some ks → (n ≤ total hs) × (total ks ≡ total hs - n + 1)
  cell_total s n e = taken_total n hs ks (needed (leb n argument_limit) (take_many n hs) ks (needed (leb s index_limit) _ ks e).1).1

  lambda_total : build es false 0 0 LAMBDA hs ≡ some ks → total ks ≡ total hs
  lambda_total e =
      let q = (needed (ltb (0 + blocks hs) nest_limit) (some (0 ∷ hs)) ks (needed (ltb (0 + blocks hs) open_limit) _ ks e).1).1 in
      let z : 0 ∷ hs ≡ ks = cc in
      rw (sym z) (omega arith)

  pushvar_total : (x : ℕ) → build es false 0 0 (PUSHVAR x) hs ≡ some ks → total ks ≡ total hs + 1
  pushvar_total x e = more_total hs ks (needed (ltb x (0 + blocks hs)) (one_more hs) ks e).1

  pushimm_total : (x : ℕ) → build es false 0 0 (PUSHIMM x) hs ≡ some ks → total ks ≡ total hs + 1
  pushimm_total x e =
      let q = slot_there (get_elem? es x) (λ b g. need (eqb (0 + blocks hs) b) (one_more hs)) ks e in
      more_total hs ks (needed (eqb (0 + blocks hs) q.0) (one_more hs) ks q.2).1

  pushi_total : (x D : ℕ) (a : Bodies) → build es false 0 0 (PUSHI x D a) hs ≡ some ks → total ks ≡ total hs + 1
  pushi_total x D a e =
      let q = slot_there (get_elem? es x) (push_asks es 0 0 D a hs) ks e in
      more_total hs ks (push_asked es 0 0 D a hs ks q.0 q.1 q.2).more

  -- no match instruction builds
  builds_only : (i : Instruction) → build es false 0 0 i hs ≡ some ks → (8 ≤ opcode i) × (opcode i ≤ 13)
  builds_only (IS s n) e = never (cc)
  builds_only ISABST e = never (cc)
  builds_only NEXT e = never (cc)
  builds_only (CHECK vs) e = never (cc)
  builds_only SET e = never (cc)
  builds_only (EQVAR x) e = never (cc)
  builds_only (EQIMM x) e = never (cc)
  builds_only (EQI x D ps) e = never (cc)
  builds_only (CELL s n) e = (omega arith, omega arith)
  builds_only LAMBDA e = (omega arith, omega arith)
  builds_only ADBMAL e = (omega arith, omega arith)
  builds_only (PUSHVAR x) e = (omega arith, omega arith)
  builds_only (PUSHIMM x) e = (omega arith, omega arith)
  builds_only (PUSHI x D a) e = (omega arith, omega arith)

-- ---- the instruction at a place

build_checked : (rest : Program) (i : Instruction) (c : Program) (es : List Slot) (hs : List ℕ) → rest ≡ i ▸ c → T (one_term (build es false 0 0 rest hs))
    → (ks : List ℕ) × (build es false 0 0 i hs ≡ some ks) × T (one_term (build es false 0 0 c ks))
build_checked rest i c es hs e t = go (build es false 0 0 i hs) refl (rw e at t)
  where
    go : (o : Option (List ℕ)) → build es false 0 0 i hs ≡ o → T (one_term (and_then o (build es false 0 0 c))) → (ks : List ℕ) × (build es false 0 0 i hs ≡ some ks) × T (one_term (build es false 0 0 c ks))
    go none q t = absurd t
    go (some ks) q t = (ks, q, t)

-- one of two opcodes, the one behind the other
one_of : {P : Type 0} (w k : ℕ) → k ≤ w → w ≤ k + 1 → (w ≡ k → P) → (w ≡ k + 1 → P) → P
one_of {P} w k l h f g = case (λ q. P) (eqb w k) (λ y. f (eqb-true w k (on _ y))) (λ y. let n = eqb-false w k (off _ y) in g (omega arith))

module _ {code : List ℕ} {at finished : ℕ} (c : Counted code at finished) (lo : at < length code) where
  -- i stands there, and the next one at p
  record Stood (i : Instruction) (p : ℕ) : Type 0 where
    pub starts : Starts code (length code) c.rest i p
    pub behind : at < p
    pub ks : List ℕ
    pub goes : build c.es false 0 0 i c.hs ≡ some ks
    pub checked : T (one_term (build c.es false 0 0 starts.rest ks))

  stood : {i : Instruction} {p : ℕ} → Starts code (length code) c.rest i p → at < p → Stood i p
  stood {i} s l =
      let k = build_checked c.rest i s.rest c.es c.hs s.is c.checked in
      record { starts = s; behind = l; ks = k.0; goes = k.1; checked = k.2 }

  grown : {i : Instruction} {p : ℕ} (n : ℕ) (s : Stood i p) → total s.ks ≡ n → n ≤ finished + 1 → Grown c p n
  grown {i} {p} n s e h =
      let f = c.few in
      let b = s.behind in
      record {
        i = i;
        next = record {
          rest = s.starts.rest;
          es = c.es;
          hs = s.ks;
          words = c.words;
          inside = s.starts.within;
          here = s.starts.behind;
          checked = s.checked;
          total_is = e;
          few = omega arith;
        };
        begins = s.starts.is;
        entries = refl;
        goes = s.goes;
        later = b;
      }

  there : (w : ℕ) → get_or code at 0 ≡ w → at + 1 + fixed_after w ≤ length code
  there w o = fixed_at code c.here lo (omega arith) w o

  plain : (i : Instruction) (n p : ℕ) → (get_or code at 0 ≡ 13 → ⊥) → read_at code at (length code) ≡ some (whole i n) → at + 1 + n ≡ p → Stood i p
  plain i n p o r e = stood (starts_plain code c.here lo (omega arith) i n p o r e) (omega arith)

  -- only build instructions stand there
  pub opcodes : (8 ≤ get_or code at 0) × (get_or code at 0 ≤ 13)
  opcodes = go c.rest refl (program_first code at (length code) c.rest lo (omega arith) c.here)
    where
      go : (rest : Program) → c.rest ≡ rest → First rest (get_or code at 0) → (8 ≤ get_or code at 0) × (get_or code at 0 ≤ 13)
      go End e f = absurd f
      go (i ▸ d) e f =
          let k = build_checked c.rest i d c.es c.hs e c.checked in
          let b = builds_only c.es c.hs k.0 i k.1 in
          (omega arith, omega arith)

  -- ---- CELL

  module _ (o : get_or code at 0 ≡ 8) where
    cell_here : Stood (CELL (get_or code (at + 1) 0) (get_or code (at + 2) 0)) (at + 3)
    cell_here = plain _ 2 (at + 3) (λ q. omega arith) (read_cell code at (length code) o refl (there 8 o)) (omega arith)

    cell_counts : (get_or code (at + 2) 0 ≤ total c.hs) × (total cell_here.ks ≡ total c.hs - get_or code (at + 2) 0 + 1)
    cell_counts = cell_total c.es c.hs cell_here.ks (get_or code (at + 1) 0) (get_or code (at + 2) 0) cell_here.goes

    pub cell_words : at + 3 ≤ length code
    cell_words = let h = there 8 o in omega arith

    pub cell_takes : get_or code (at + 2) 0 ≤ finished
    cell_takes = let h = cell_counts.0 in let t = c.total_is in omega arith

    pub cell_grows : Grown c (at + 3) (finished - get_or code (at + 2) 0 + 1)
    cell_grows = let h = cell_counts.1 in let k = cell_takes in let t = c.total_is in grown (finished - get_or code (at + 2) 0 + 1) cell_here (omega arith) (omega arith)

  -- ---- PUSHVAR and PUSHIMM

  pub whole_grows : 11 ≤ get_or code at 0 → (get_or code at 0 ≡ 13 → ⊥) → Grown c (at + 2) (finished + 1)
  whole_grows h n =
      let t = c.total_is in
      let b = opcodes.1 in
      one_of (get_or code at 0) 11 h (omega arith)
      (λ o. let s = plain _ 1 (at + 2) n (read_pushvar code at (length code) o refl (there 11 o)) (omega arith) in
      let k = pushvar_total c.es c.hs s.ks (get_or code (at + 1) 0) s.goes in grown (finished + 1) s (omega arith) (omega arith))
      (λ o. let s = plain _ 1 (at + 2) n (read_pushimm code at (length code) o refl (there 12 o)) (omega arith) in
      let k = pushimm_total c.es c.hs s.ks (get_or code (at + 1) 0) s.goes in grown (finished + 1) s (omega arith) (omega arith))

  -- ---- LAMBDA and ADBMAL

  pub block_grows : get_or code at 0 < 11 → (get_or code at 0 ≡ 8 → ⊥) → Grown c (at + 1) finished
  block_grows h n =
      let t = c.total_is in
      let b = opcodes.0 in
      one_of (get_or code at 0) 9 (omega arith) (omega arith)
      (λ o. let s = plain _ 0 (at + 1) (λ q. omega arith) (read_lambda code at (length code) o refl (there 9 o)) (omega arith) in
      let k = lambda_total c.es c.hs s.ks s.goes in grown finished s (omega arith) (omega arith))
      (λ o. let s = plain _ 0 (at + 1) (λ q. omega arith) (read_adbmal code at (length code) o refl (there 10 o)) (omega arith) in
      let k = shut_total c.hs s.ks s.goes in grown finished s (omega arith) (omega arith))

  -- ---- PUSHI

  module _ (o : get_or code at 0 ≡ 13) where
    push_here : StartsPush code at (length code) c.rest
    push_here = starts_push code c.here lo (omega arith) o

    pub push_room : at + 4 ≤ length code
    push_room = push_here.words

    push_ends : Ends code (at + 4) (length code) (get_or code (at + 3) 0) push_here.left
    push_ends = bodies_end (get_or code (at + 3) 0) (at + 4) push_here.bodies push_here.left (omega arith) push_room push_here.here

    pub push_readable : Readable code (at + 4) (get_or code (at + 3) 0)
    push_readable = push_ends.readable

    pub push_grows : (p : ℕ) → p ≡ place_behind code (at + 4) (get_or code (at + 3) 0) → Grown c p (finished + 1)
    push_grows p e =
        let l = behind_low code (at + 4) (get_or code (at + 3) 0) in
        let s = stood push_here.starts (omega arith) in
        let k = pushi_total c.es c.hs s.ks (get_or code (at + 1) 0) (get_or code (at + 2) 0) push_here.bodies s.goes in
        let t = c.total_is in
        rw e (grown (finished + 1) s (omega arith) (omega arith))

-- ---- the loop

-- from the place where the build part began, after i - left instructions
pub record Onward {code : List ℕ} {from : ℕ} (c : Counted code from 0) (i at left finished : ℕ) : Type 0 where
  pub now : Counted code at finished
  pub entries : now.es ≡ c.es
  pub goes : build c.es false 0 0 (first i c.rest) c.hs ≡ build c.es false 0 0 (first left now.rest) now.hs

pub record Growing (code : List ℕ) (from i at left finished : ℕ) : Type 0 where
  pub now : Counted code at finished
  pub onward : (c : Counted code from 0) → Onward c i at left finished

pub growing_from : {code : List ℕ} {from : ℕ} (i : ℕ) → Counted code from 0 → Growing code from i from i 0
growing_from i c = record { now = c; onward = λ d. record { now = d; entries = refl; goes = refl } }

first_step : (es es₀ : List Slot) (rest : Program) (i : Instruction) (c : Program) (hs ks : List ℕ) (left : ℕ) → es ≡ es₀ → rest ≡ i ▸ c → build es false 0 0 i hs ≡ some ks → 0 < left
    → build es₀ false 0 0 (first left rest) hs ≡ build es₀ false 0 0 (first (left - 1) c) ks
first_step es es₀ rest i c hs ks zero e f g h = absurd (omega arith)
first_step es es₀ rest i c hs ks (suc left) e f g h =
    let z : suc left - 1 ≡ left = omega arith in
    let q : build es₀ false 0 0 i hs ≡ some ks = rw e at g in
    rw (z, f, q)

module _ {code : List ℕ} {from i at left finished : ℕ} (g : Growing code from i at left finished) where
  pub growing_on : {r : Built} {n : ℕ} → Grows code at finished r → 0 < left → n ≡ left - 1 → Growing code from i r.next n r.finished
  growing_on s h e = rw e record {
    now = (s.means g.now).next;
    onward = λ c.
        let o = g.onward c in
        let x = s.means o.now in
        record {
          now = x.next;
          entries = x.entries ∙ o.entries;
          goes = o.goes ∙ first_step o.now.es c.es o.now.rest x.i x.next.rest o.now.hs x.next.hs left o.entries x.begins x.goes h;
        };
  }

  pub growing_later : {r : Built} → Grows code at finished r → (at < r.next) × (r.next ≤ length code)
  growing_later s = ((s.means g.now).later, (s.means g.now).next.inside)

  finish : ((c : Counted code from 0) → first left (g.onward c).now.rest ≡ End) → Finishes code from i finished
  finish e = record {
    means = λ c.
        let o = g.onward c in
        record { hs = o.now.hs; goes = o.goes ∙ ended c.es o.now.hs (first left o.now.rest) (e c); total_is = o.now.total_is };
  }
    where
      ended : (es : List Slot) (hs : List ℕ) (p : Program) → p ≡ End → build es false 0 0 p hs ≡ some hs
      ended es hs p e = rw e

  pub growing_stopped : left ≡ 0 → Finishes code from i finished
  growing_stopped z = finish (λ c. none_of (g.onward c).now.rest left z)
    where
      none_of : (rest : Program) (n : ℕ) → n ≡ 0 → first n rest ≡ End
      none_of rest n e = rw e

  pub growing_done : length code ≤ at → Finishes code from i finished
  growing_done h = finish (λ c. all (g.onward c).now.inside (g.onward c).now.here)
    where
      first_end : (n : ℕ) → first n End ≡ End
      first_end zero = refl
      first_end (suc n) = refl

      all : {rest : Program} → at ≤ length code → program_at code at (length code) ≡ some rest → first left rest ≡ End
      all {rest} l e =
          let z : at ≡ length code = omega arith in
          let d : program_at code at (length code) ≡ some End = rw z (program_done code (length code)) in
          let x : rest ≡ End = cc in
          rw x (first_end left)
