-- The instruction at a place of the code: what stands there, or that nothing whole does. One law for the opcodes but PUSHI, one for PUSHI, and
-- what each of the former reads.
use mathlib.Core.Path.{◌≡◌, refl, sym, ap, ◌∙◌}
use Prim.Native.Nat.{ℕ, zero, suc, ◌+◌, ◌-◌, ◌*◌, ◌≤◌, ◌<◌}
use native.Mathlib.Omega.{arith}
use mathlib.Core.Bool.{Bool, true, false, cond}
use mathlib.Core.Option.{Option, none, some}
use mathlib.Core.List.{List, [], ◌∷◌}
use lib.Dec.{eqb, leb, eqb-suc-zero}
use lib.ListN.{length, get_or, take, drop, drop_of_length-le}
use lib.Seq.{drop-drop, get_or-drop}
use borrow.Author.Tests.{ne_eqb, le-leb, lt-leb, leb-true, leb-false, eqb-true, eqb-false}
use Rattle.documents.specs.declared.Refusal.{Refusal}
use Rattle.documents.specs.declared.Refusal.TheVariants.{DoesNotPass}
use Rattle.documents.specs.Lists.{need}
use Rattle.documents.specs.Instructions.{IS, ISABST, NEXT, CHECK, SET, EQVAR, EQIMM, EQI, CELL, LAMBDA, ADBMAL, PUSHVAR, PUSHIMM, PUSHI, End, ◌▸◌, None, Body, Instruction, Program, Bodies, Read, whole, ReadBodies, whole_bodies, opcode, fixed_after, body_count, pairs_in, plain_in, before, plain_then, bodies_then, body_then, program_from, bodies_from}
use Rattle.documents.proofs.Lists.{at_cons, never, case, on, off, needed, branch}
use Rattle.documents.proofs.Instructions.{program_pass, bodies_pass}
use Rattle.std.specs.Prelude.{Ok, Err}
use Rattle.instructions.specs.Places.{program_at, bodies_at, whole_within, read_at, place_if, fetched}

pub nothing : {A P : Type 0} {a : A} → none ≡ some a → P
nothing e = never (cc)

-- no opcode above 13 reads
no_plain : (w : ℕ) (ws : List ℕ) → 13 < w → plain_in w ws ≡ none
unfolding plain_in
no_plain w ws h =
    let ne : (k : ℕ) → k < 14 → w ≡ k → ⊥ = λ k l e. omega arith in
    rw (
      ne_eqb w 0 (ne 0 (omega arith)),
      ne_eqb w 1 (ne 1 (omega arith)),
      ne_eqb w 2 (ne 2 (omega arith)),
      ne_eqb w 3 (ne 3 (omega arith)),
      ne_eqb w 4 (ne 4 (omega arith)),
      ne_eqb w 5 (ne 5 (omega arith)),
      ne_eqb w 6 (ne 6 (omega arith)),
      ne_eqb w 7 (ne 7 (omega arith)),
      ne_eqb w 8 (ne 8 (omega arith)),
      ne_eqb w 9 (ne 9 (omega arith)),
      ne_eqb w 10 (ne 10 (omega arith)),
      ne_eqb w 11 (ne 11 (omega arith)),
      ne_eqb w 12 (ne 12 (omega arith)),
    )

-- what was read has the opcode that stands there
plain_opcode : (w : ℕ) (ws : List ℕ) (i : Instruction) (m : ℕ) → plain_in w ws ≡ some (whole i m) → opcode i ≡ w
unfolding plain_in
plain_opcode w ws i m e =
    branch w 0 e (λ p q. is q p) λ e.
    branch w 1 e (λ p q. is q p) λ e.
    branch w 2 e (λ p q. is q p) λ e.
    branch w 3 e (λ p q. is q p) λ e.
    branch w 4 e (λ p q. is q p) λ e.
    branch w 5 e (λ p q. is q p) λ e.
    branch w 6 e (λ p q. is q p) λ e.
    branch w 7 e (λ p q. is q p) λ e.
    branch w 8 e (λ p q. is q p) λ e.
    branch w 9 e (λ p q. is q p) λ e.
    branch w 10 e (λ p q. is q p) λ e.
    branch w 11 e (λ p q. is q p) λ e.
    branch w 12 e (λ p q. is q p) λ e.
    never (cc)
  where
    is : {j : Instruction} {n : ℕ} → some (whole j n) ≡ some (whole i m) → w ≡ opcode j → opcode i ≡ w
    is {j} e p = let z : j ≡ i = cc in rw (sym z) (sym p)

-- what is done with an instruction that was read
abbrev pub read_then : Option Read → (Instruction → ℕ → Option Program) → Option Program
read_then none f = none
read_then (some (whole i m)) f = f i m

abbrev pub pushed_then : Option ReadBodies → (Bodies → ℕ → Option Program) → Option Program
pushed_then none f = none
pushed_then (some (whole_bodies a m)) f = f a m

-- bodies leave no more words than there were
pub bodies_left : (ws : List ℕ) (k n c : ℕ) (o : Bodies) (m : ℕ) → bodies_from ws k n c ≡ some (whole_bodies o m) → m ≤ n
unfolding bodies_from
bodies_left [] k n zero o m h = let e : n ≡ m = cc in omega arith
bodies_left [] k n (suc c) o m h = never (let z = rw (eqb-suc-zero c) at h in cc)
bodies_left (w ∷ ws) (suc k) n c o m h = bodies_left ws k n c o m h
bodies_left (w ∷ ws) zero n zero o m h = let e : n ≡ m = cc in omega arith
bodies_left (w ∷ ws) zero n (suc c) o m h =
    let q = needed (leb (2 + get_or ws 0 0) n) _ (whole_bodies o m) h in
    go (program_from ws 1 (get_or ws 0 0)) (bodies_from ws (1 + get_or ws 0 0) (n - 2 - get_or ws 0 0) c)
    (λ a j e. bodies_left ws (1 + get_or ws 0 0) (n - 2 - get_or ws 0 0) c a j e) q.1
  where
    go : (p : Option Program) (b : Option ReadBodies) → ((a : Bodies) (j : ℕ) → b ≡ some (whole_bodies a j) → j ≤ n - 2 - get_or ws 0 0)
        → body_then w p b ≡ some (whole_bodies o m) → m ≤ n
    go none b ih h = never (cc)
    go (some p) none ih h = never (cc)
    go (some p) (some (whole_bodies a j)) ih h =
        let z : j ≡ m = cc in
        let l = ih a j refl in
        omega arith

-- there are as many as were asked for
pub bodies_count : (ws : List ℕ) (k n c : ℕ) (o : Bodies) (m : ℕ) → bodies_from ws k n c ≡ some (whole_bodies o m) → body_count o ≡ c
unfolding bodies_from
bodies_count [] k n zero o m h = let e : None ≡ o = cc in rw (sym e)
bodies_count [] k n (suc c) o m h = never (let z = rw (eqb-suc-zero c) at h in cc)
bodies_count (w ∷ ws) (suc k) n c o m h = bodies_count ws k n c o m h
bodies_count (w ∷ ws) zero n zero o m h = let e : None ≡ o = cc in rw (sym e)
bodies_count (w ∷ ws) zero n (suc c) o m h =
    let q = needed (leb (2 + get_or ws 0 0) n) _ (whole_bodies o m) h in
    go (program_from ws 1 (get_or ws 0 0)) (bodies_from ws (1 + get_or ws 0 0) (n - 2 - get_or ws 0 0) c)
    (λ a j e. bodies_count ws (1 + get_or ws 0 0) (n - 2 - get_or ws 0 0) c a j e) q.1
  where
    go : (p : Option Program) (b : Option ReadBodies) → ((a : Bodies) (j : ℕ) → b ≡ some (whole_bodies a j) → body_count a ≡ c)
        → body_then w p b ≡ some (whole_bodies o m) → body_count o ≡ suc c
    go none b ih h = never (cc)
    go (some p) none ih h = never (cc)
    go (some p) (some (whole_bodies a j)) ih h = let z : Body w p a ≡ o = cc in rw (sym z) (ap suc (ih a j refl))

module _ (t : List ℕ) (a e : ℕ) where
  pub read_opcode : (i : Instruction) (m : ℕ) → read_at t a e ≡ some (whole i m) → opcode i ≡ get_or t a 0
  unfolding read_at
  read_opcode i m h =
      let q = needed (leb (fixed_after (get_or t a 0)) (e - (a + 1))) _ (whole i m) h in
      go (plain_in (get_or t a 0) (drop (a + 1) t)) (λ j n e. plain_opcode (get_or t a 0) (drop (a + 1) t) j n e) q.1
    where
      go : (o : Option Read) → ((j : Instruction) (n : ℕ) → o ≡ some (whole j n) → opcode j ≡ get_or t a 0) → whole_within o (e - (a + 1)) ≡ some (whole i m) → opcode i ≡ get_or t a 0
      go none k h = never (cc)
      go (some (whole j n)) k h =
          let q = needed (leb n (e - (a + 1))) (some (whole j n)) (whole i m) h in
          let r = q.1 in
          let z : j ≡ i = cc in
          rw (sym z) (k j n refl)

  -- all of its words stand there
  pub read_within : (i : Instruction) (m : ℕ) → a < e → read_at t a e ≡ some (whole i m) → (a + 1 + fixed_after (get_or t a 0) ≤ e) × (a + 1 + m ≤ e)
  unfolding read_at
  read_within i m lo h =
      let q = needed (leb (fixed_after (get_or t a 0)) (e - (a + 1))) _ (whole i m) h in
      let k = leb-true (fixed_after (get_or t a 0)) (e - (a + 1)) q.0 in
      let l = go (plain_in (get_or t a 0) (drop (a + 1) t)) q.1 in
      (omega arith, omega arith)
    where
      go : (o : Option Read) → whole_within o (e - (a + 1)) ≡ some (whole i m) → m ≤ e - (a + 1)
      go none h = never (cc)
      go (some (whole j n)) h =
          let q = needed (leb n (e - (a + 1))) (some (whole j n)) (whole i m) h in
          let k = leb-true n (e - (a + 1)) q.0 in
          let r = q.1 in
          let z : n ≡ m = cc in
          omega arith

  -- ---- the reader's answer

  pub fetched_high : 13 < get_or t a 0 → Err DoesNotPass ≡ fetched t a e
  unfolding fetched
  fetched_high h = rw (lt-leb (get_or t a 0) 13 h)

  module _ (n : ℕ) (lo : get_or t a 0 ≤ 13) (q : n ≡ fixed_after (get_or t a 0)) (h : a < e) where
    pub fetched_short : e - a - 1 < n → Err DoesNotPass ≡ fetched t a e
    unfolding fetched
    fetched_short s = rw (le-leb (get_or t a 0) 13 lo, lt-leb (a + 1 + fixed_after (get_or t a 0)) e (omega arith))

    pub fetched_there : n ≤ e - a - 1 → Ok (a + 1 + n) ≡ fetched t a e
    unfolding fetched
    fetched_there s = rw (le-leb (get_or t a 0) 13 lo, le-leb (a + 1 + fixed_after (get_or t a 0)) e (omega arith), q)

  pub fetched_is : (n : ℕ) → fetched t a e ≡ Ok n → (n ≡ a + 1 + fixed_after (get_or t a 0)) × (n ≤ e)
  unfolding fetched
  fetched_is n p = go (leb (get_or t a 0) 13) (leb (a + 1 + fixed_after (get_or t a 0)) e) refl p
    where
      go : (b c : Bool) → c ≡ leb (a + 1 + fixed_after (get_or t a 0)) e → cond b (place_if c (a + 1 + fixed_after (get_or t a 0))) (Err DoesNotPass) ≡ Ok n
          → (n ≡ a + 1 + fixed_after (get_or t a 0)) × (n ≤ e)
      go true true q p = let h : n ≡ a + 1 + fixed_after (get_or t a 0) = cc in (h, rw h (leb-true (a + 1 + fixed_after (get_or t a 0)) e (sym q)))
      go true false q p = never (cc)
      go false c q p = never (cc)

  pub fetched_opcode : (n : ℕ) → fetched t a e ≡ Ok n → get_or t a 0 ≤ 13
  unfolding fetched
  fetched_opcode n p =
      case (λ b. cond b (place_if (leb (a + 1 + fixed_after (get_or t a 0)) e) (a + 1 + fixed_after (get_or t a 0))) (Err DoesNotPass) ≡ Ok n → get_or t a 0 ≤ 13)
      (leb (get_or t a 0) 13) (λ x q. leb-true (get_or t a 0) 13 (on _ x)) (λ x q. never (cc)) p

  -- with one opcode known
  pub fetched_op : (n w : ℕ) → fetched t a e ≡ Ok n → get_or t a 0 ≡ w → (n ≡ a + 1 + fixed_after w) × (n ≤ e)
  fetched_op n w p o = let f = fetched_is n p in (f.0 ∙ rw o, f.1)

  pub unfetched : (w : Refusal) → a < e → fetched t a e ≡ Err w → read_at t a e ≡ none
  unfolding fetched read_at
  unfetched w h p =
      case (λ b. cond b (place_if (leb (a + 1 + fixed_after (get_or t a 0)) e) (a + 1 + fixed_after (get_or t a 0))) (Err DoesNotPass) ≡ Err w → read_at t a e ≡ none)
      (leb (get_or t a 0) 13)
      (λ x.
      case (λ b. place_if b (a + 1 + fixed_after (get_or t a 0)) ≡ Err w → read_at t a e ≡ none) (leb (a + 1 + fixed_after (get_or t a 0)) e)
      (λ y q. never (cc))
      (λ y q. let k = leb-false (a + 1 + fixed_after (get_or t a 0)) e (off _ y) in rw (lt-leb (fixed_after (get_or t a 0)) (e - (a + 1)) (omega arith))))
      (λ x q.
      let k = leb-false (get_or t a 0) 13 (off _ x) in
      rw (no_plain (get_or t a 0) (drop (a + 1) t) k) (nothing (leb (fixed_after (get_or t a 0)) (e - (a + 1)))))
      p
    where
      nothing : (b : Bool) → need {A = Read} b none ≡ none
      nothing true = refl
      nothing false = refl

  -- ---- the program from there on

  module _ (lo : a < e) (hi : e ≤ length t) where
    left : e - a ≡ suc (e - (a + 1))
    left = omega arith

    later : (i : Instruction) (m : ℕ) → a + 1 + m ≤ e → program_from (drop (a + 1) t) m (e - (a + 1) - m) ≡ program_at t (a + 1 + m) e
    later i m h =
        let f : e - (a + 1) - m ≡ e - (a + 1 + m) = omega arith in
        program_pass (drop (a + 1) t) m (e - (a + 1) - m) ∙ rw (drop-drop m (a + 1) t, f)

    -- an instruction but PUSHI
    pub program_plain : (get_or t a 0 ≡ 13 → ⊥) → program_at t a e ≡ read_then (read_at t a e) (λ i m. before i (program_at t (a + 1 + m) e))
    unfolding program_from read_at
    program_plain o =
        rw (at_cons t a (omega arith), left, ne_eqb (get_or t a 0) 13 o)
        (outer (leb (fixed_after (get_or t a 0)) (e - (a + 1))) (plain_in (get_or t a 0) (drop (a + 1) t)))
      where
        inner : (i : Instruction) (m : ℕ) → need (leb m (e - (a + 1))) (before i (program_from (drop (a + 1) t) m (e - (a + 1) - m)))
            ≡ read_then (need (leb m (e - (a + 1))) (some (whole i m))) (λ i m. before i (program_at t (a + 1 + m) e))
        inner i m =
            case (λ b. need b (before i (program_from (drop (a + 1) t) m (e - (a + 1) - m))) ≡ read_then (need b (some (whole i m))) (λ i m. before i (program_at t (a + 1 + m) e)))
            (leb m (e - (a + 1))) (λ y. let k = leb-true m (e - (a + 1)) (on _ y) in ap (before i) (later i m (omega arith))) (λ y. refl)

        outer : (b : Bool) (o : Option Read) → need b (plain_then o (e - (a + 1)) (λ k m. program_from (drop (a + 1) t) k m))
            ≡ read_then (need b (whole_within o (e - (a + 1)))) (λ i m. before i (program_at t (a + 1 + m) e))
        outer false o = refl
        outer true none = refl
        outer true (some (whole i m)) = inner i m

    word : (j : ℕ) → get_or (drop (a + 1) t) j 0 ≡ get_or t (a + 1 + j) 0
    word j = get_or-drop (a + 1) t j 0

    -- a PUSHI
    pub program_push : a + 4 ≤ e → get_or t a 0 ≡ 13
        → program_at t a e ≡ pushed_then (bodies_at t (a + 4) e (get_or t (a + 3) 0)) (λ o m. before (PUSHI (get_or t (a + 1) 0) (get_or t (a + 2) 0) o) (program_at t (e - m) e))
    unfolding program_from
    program_push h o =
        let z₁ : a + 1 + 0 ≡ a + 1 = omega arith in
        let z₂ : a + 1 + 1 ≡ a + 2 = omega arith in
        let z₃ : a + 1 + 2 ≡ a + 3 = omega arith in
        let z₄ : a + 1 + 3 ≡ a + 4 = omega arith in
        let n : e - (a + 1) - 3 ≡ e - (a + 4) = omega arith in
        rw (
          at_cons t a (omega arith),
          left,
          o,
          le-leb 3 (e - (a + 1)) (omega arith),
          word 0,
          word 1,
          word 2,
          z₁,
          z₂,
          z₃,
          n,
          bodies_pass (drop (a + 1) t) 3 (e - (a + 4)) (get_or t (a + 3) 0),
          drop-drop 3 (a + 1) t,
          z₄,
        )
        (go (bodies_at t (a + 4) e (get_or t (a + 3) 0)) refl)
      where
        go : (b : Option ReadBodies) → bodies_at t (a + 4) e (get_or t (a + 3) 0) ≡ b
            → bodies_then b (get_or t (a + 1) 0) (get_or t (a + 2) 0) (e - (a + 1)) (λ k m. program_from (drop (a + 1) t) k m)
            ≡ pushed_then b (λ o m. before (PUSHI (get_or t (a + 1) 0) (get_or t (a + 2) 0) o) (program_at t (e - m) e))
        go none q = refl
        go (some (whole_bodies b m)) q =
            let l = bodies_left (drop (a + 4) t) 0 (e - (a + 4)) (get_or t (a + 3) 0) b m q in
            let f : a + 1 + (e - (a + 1) - m) ≡ e - m = omega arith in
            let g : e - (e - m) ≡ m = omega arith in
            ap (before (PUSHI (get_or t (a + 1) 0) (get_or t (a + 2) 0) b)) {y = program_at t (e - m) e}
            (program_pass (drop (a + 1) t) (e - (a + 1) - m) m ∙ rw (drop-drop (e - (a + 1) - m) (a + 1) t, f, g))

    pub program_short : e < a + 1 + fixed_after (get_or t a 0) → program_at t a e ≡ none
    unfolding program_from
    program_short h = rw (at_cons t a (omega arith), left, lt-leb (fixed_after (get_or t a 0)) (e - (a + 1)) (omega arith))

    pub program_unfetched : (w : Refusal) → fetched t a e ≡ Err w → program_at t a e ≡ none
    unfolding fetched
    program_unfetched w p =
        case (λ b. cond b (place_if (leb (a + 1 + fixed_after (get_or t a 0)) e) (a + 1 + fixed_after (get_or t a 0))) (Err DoesNotPass) ≡ Err w → program_at t a e ≡ none)
        (leb (get_or t a 0) 13)
        (λ x.
        case (λ b. place_if b (a + 1 + fixed_after (get_or t a 0)) ≡ Err w → program_at t a e ≡ none) (leb (a + 1 + fixed_after (get_or t a 0)) e)
        (λ y q. never (cc))
        (λ y q. program_short (leb-false (a + 1 + fixed_after (get_or t a 0)) e (off _ y))))
        (λ x q. let k = leb-false (get_or t a 0) 13 (off _ x) in program_plain (λ z. omega arith) ∙ rw (unfetched w lo p))
        p

-- ---- the first instruction of a program has the opcode that stands there

abbrev pub First : Program → ℕ → Type 0
First End w = ⊥
First (i ▸ c) w = opcode i ≡ w

first_before : (i : Instruction) (o : Option Program) (c : Program) (w : ℕ) → opcode i ≡ w → before i o ≡ some c → First c w
first_before i none c w e h = never (cc)
first_before i (some d) c w e h = let z : i ▸ d ≡ c = cc in rw (sym z) e

pub program_first : (t : List ℕ) (a e : ℕ) (c : Program) → a < e → e ≤ length t → program_at t a e ≡ some c → First c (get_or t a 0)
program_first t a e c lo hi h =
    case (λ q. First c (get_or t a 0)) (eqb (get_or t a 0) 13)
    (λ y.
    let o = eqb-true (get_or t a 0) 13 (on _ y) in
    case (λ q. First c (get_or t a 0)) (leb (a + 4) e)
    (λ z. pushed (bodies_at t (a + 4) e (get_or t (a + 3) 0)) o (sym (program_push t a e lo hi (leb-true (a + 4) e (on _ z)) o) ∙ h))
    (λ z.
    let k = leb-false (a + 4) e (off _ z) in
    let s : e < a + 1 + fixed_after (get_or t a 0) = rw o (omega arith) in
    nothing (sym (program_short t a e lo hi s) ∙ h)))
    (λ y. plain (read_at t a e) (λ i m r. read_opcode t a e i m r) (sym (program_plain t a e lo hi (eqb-false (get_or t a 0) 13 (off _ y))) ∙ h))
  where
    pushed : (o : Option ReadBodies) → get_or t a 0 ≡ 13
        → pushed_then o (λ o m. before (PUSHI (get_or t (a + 1) 0) (get_or t (a + 2) 0) o) (program_at t (e - m) e)) ≡ some c → First c (get_or t a 0)
    pushed none p q = nothing q
    pushed (some (whole_bodies b m)) p q = first_before (PUSHI (get_or t (a + 1) 0) (get_or t (a + 2) 0) b) (program_at t (e - m) e) c (get_or t a 0) (sym p) q

    plain : (o : Option Read) → ((i : Instruction) (m : ℕ) → o ≡ some (whole i m) → opcode i ≡ get_or t a 0)
        → read_then o (λ i m. before i (program_at t (a + 1 + m) e)) ≡ some c → First c (get_or t a 0)
    plain none k q = nothing q
    plain (some (whole i m)) k q = first_before i (program_at t (a + 1 + m) e) c (get_or t a 0) (k i m refl) q

-- ---- the end of a program

pub program_done : (t : List ℕ) (e : ℕ) → program_at t e e ≡ some End
unfolding program_from
program_done t e = let z : e - e ≡ 0 = omega arith in rw z (go (drop e t))
  where
    go : (ws : List ℕ) → program_from ws 0 0 ≡ some End
    go [] = refl
    go (w ∷ ws) = refl

-- ---- bodies

pub bodies_done : (t : List ℕ) (a e : ℕ) → bodies_at t a e 0 ≡ some (whole_bodies None (e - a))
unfolding bodies_from
bodies_done t a e = go (drop a t)
  where
    go : (ws : List ℕ) → bodies_from ws 0 (e - a) 0 ≡ some (whole_bodies None (e - a))
    go [] = refl
    go (w ∷ ws) = refl

module _ (t : List ℕ) (a e c : ℕ) where
  size : get_or (drop (a + 1) t) 0 0 ≡ get_or t (a + 1) 0
  size = let z : a + 1 + 0 ≡ a + 1 = omega arith in get_or-drop (a + 1) t 0 0 ∙ rw z

  -- a key and a count that are not there, or a body that is longer than the words
  pub bodies_short : e < a + 2 + get_or t (a + 1) 0 → bodies_at t a e (suc c) ≡ none
  unfolding bodies_from
  bodies_short h =
      case (λ b. bodies_at t a e (suc c) ≡ none) (leb (length t) a)
      (λ y. rw (drop_of_length-le t (leb-true (length t) a (on _ y))) nothing)
      (λ y. let k = leb-false (length t) a (off _ y) in rw (at_cons t a k) (short k))
    where
      nothing : bodies_from [] 0 (e - a) (suc c) ≡ none
      nothing = rw (eqb-suc-zero c)

      short : a < length t → bodies_from (get_or t a 0 ∷ drop (a + 1) t) 0 (e - a) (suc c) ≡ none
      short k = rw (size, lt-leb (2 + get_or t (a + 1) 0) (e - a) (omega arith))

  pub bodies_step : a + 2 + get_or t (a + 1) 0 ≤ e → e ≤ length t
      → bodies_at t a e (suc c) ≡ body_then (get_or t a 0) (program_at t (a + 2) (a + 2 + get_or t (a + 1) 0)) (bodies_at t (a + 2 + get_or t (a + 1) 0) e c)
  unfolding bodies_from
  bodies_step h k =
      let n = get_or t (a + 1) 0 in
      let z₁ : a + 1 + 1 ≡ a + 2 = omega arith in
      let z₂ : a + 1 + (1 + n) ≡ a + 2 + n = omega arith in
      let z₃ : a + 2 + n - (a + 2) ≡ n = omega arith in
      let z₄ : e - a - 2 - n ≡ e - (a + 2 + n) = omega arith in
      rw (
        at_cons t a (omega arith),
        size,
        le-leb (2 + n) (e - a) (omega arith),
        z₄,
        program_pass (drop (a + 1) t) 1 n,
        drop-drop 1 (a + 1) t,
        z₁,
        bodies_pass (drop (a + 1) t) (1 + n) (e - (a + 2 + n)) c,
        drop-drop (1 + n) (a + 1) t,
        z₂,
        z₃,
      )

-- ---- what is read, opcode by opcode

module _ (t : List ℕ) (a e : ℕ) where
  word₁ : get_or (drop (a + 1) t) 0 0 ≡ get_or t (a + 1) 0
  word₁ = get_or-drop (a + 1) t 0 0 ∙ ap (λ (i : ℕ). get_or t i 0) (omega arith)

  word₂ : get_or (drop (a + 1) t) 1 0 ≡ get_or t (a + 2) 0
  word₂ = get_or-drop (a + 1) t 1 0 ∙ ap (λ (i : ℕ). get_or t i 0) (omega arith)

  word₃ : get_or (drop (a + 1) t) 2 0 ≡ get_or t (a + 3) 0
  word₃ = get_or-drop (a + 1) t 2 0 ∙ ap (λ (i : ℕ). get_or t i 0) (omega arith)

  -- the opcode and all fixed words stand there
  module _ {n : ℕ} (w : ℕ) (o : get_or t a 0 ≡ w) (f : n ≡ a + 1 + fixed_after w) (h : n ≤ e) where
    read_with : (i : Instruction) (m : ℕ) → plain_in w (drop (a + 1) t) ≡ some (whole i m) → read_at t a e ≡ need (leb m (e - (a + 1))) (some (whole i m))
    unfolding read_at
    read_with i m p = rw (o, le-leb (fixed_after w) (e - (a + 1)) (omega arith), p)

    read_fixed : (i : Instruction) → plain_in w (drop (a + 1) t) ≡ some (whole i (fixed_after w)) → read_at t a e ≡ some (whole i (fixed_after w))
    read_fixed i p = read_with i (fixed_after w) p ∙ rw (le-leb (fixed_after w) (e - (a + 1)) (omega arith))

  module _ {n : ℕ} where
    pub read_is : get_or t a 0 ≡ 0 → n ≡ a + 1 + 2 → n ≤ e → read_at t a e ≡ some (whole (IS (get_or t (a + 1) 0) (get_or t (a + 2) 0)) 2)
    unfolding plain_in
    read_is o f h = read_fixed 0 o f h (IS (get_or t (a + 1) 0) (get_or t (a + 2) 0)) (rw (word₁, word₂))

    pub read_isabst : get_or t a 0 ≡ 1 → n ≡ a + 1 + 0 → n ≤ e → read_at t a e ≡ some (whole ISABST 0)
    unfolding plain_in
    read_isabst o f h = read_fixed 1 o f h ISABST refl

    pub read_next : get_or t a 0 ≡ 2 → n ≡ a + 1 + 0 → n ≤ e → read_at t a e ≡ some (whole NEXT 0)
    unfolding plain_in
    read_next o f h = read_fixed 2 o f h NEXT refl

    pub read_check : get_or t a 0 ≡ 3 → n ≡ a + 1 + 1 → n ≤ e
        → read_at t a e ≡ need (leb (1 + get_or t (a + 1) 0) (e - (a + 1))) (some (whole (CHECK (take (get_or t (a + 1) 0) (drop (a + 2) t))) (1 + get_or t (a + 1) 0)))
    unfolding plain_in
    read_check o f h =
        let z : a + 1 + 1 ≡ a + 2 = omega arith in
        read_with 3 o f h (CHECK (take (get_or t (a + 1) 0) (drop (a + 2) t))) (1 + get_or t (a + 1) 0) (rw (word₁, drop-drop 1 (a + 1) t, z))

    pub read_set : get_or t a 0 ≡ 4 → n ≡ a + 1 + 0 → n ≤ e → read_at t a e ≡ some (whole SET 0)
    unfolding plain_in
    read_set o f h = read_fixed 4 o f h SET refl

    pub read_eqvar : get_or t a 0 ≡ 5 → n ≡ a + 1 + 1 → n ≤ e → read_at t a e ≡ some (whole (EQVAR (get_or t (a + 1) 0)) 1)
    unfolding plain_in
    read_eqvar o f h = read_fixed 5 o f h (EQVAR (get_or t (a + 1) 0)) (rw word₁)

    pub read_eqimm : get_or t a 0 ≡ 6 → n ≡ a + 1 + 1 → n ≤ e → read_at t a e ≡ some (whole (EQIMM (get_or t (a + 1) 0)) 1)
    unfolding plain_in
    read_eqimm o f h = read_fixed 6 o f h (EQIMM (get_or t (a + 1) 0)) (rw word₁)

    pub read_eqi : get_or t a 0 ≡ 7 → n ≡ a + 1 + 3 → n ≤ e
        → read_at t a e ≡ need (leb (3 + 2 * get_or t (a + 3) 0) (e - (a + 1)))
        (some (whole (EQI (get_or t (a + 1) 0) (get_or t (a + 2) 0) (pairs_in (take (2 * get_or t (a + 3) 0) (drop (a + 4) t)))) (3 + 2 * get_or t (a + 3) 0)))
    unfolding plain_in
    read_eqi o f h =
        let z : a + 1 + 3 ≡ a + 4 = omega arith in
        read_with 7 o f h (EQI (get_or t (a + 1) 0) (get_or t (a + 2) 0) (pairs_in (take (2 * get_or t (a + 3) 0) (drop (a + 4) t)))) (3 + 2 * get_or t (a + 3) 0)
        (rw (word₁, word₂, word₃, drop-drop 3 (a + 1) t, z))

    pub read_cell : get_or t a 0 ≡ 8 → n ≡ a + 1 + 2 → n ≤ e → read_at t a e ≡ some (whole (CELL (get_or t (a + 1) 0) (get_or t (a + 2) 0)) 2)
    unfolding plain_in
    read_cell o f h = read_fixed 8 o f h (CELL (get_or t (a + 1) 0) (get_or t (a + 2) 0)) (rw (word₁, word₂))

    pub read_lambda : get_or t a 0 ≡ 9 → n ≡ a + 1 + 0 → n ≤ e → read_at t a e ≡ some (whole LAMBDA 0)
    unfolding plain_in
    read_lambda o f h = read_fixed 9 o f h LAMBDA refl

    pub read_adbmal : get_or t a 0 ≡ 10 → n ≡ a + 1 + 0 → n ≤ e → read_at t a e ≡ some (whole ADBMAL 0)
    unfolding plain_in
    read_adbmal o f h = read_fixed 10 o f h ADBMAL refl

    pub read_pushvar : get_or t a 0 ≡ 11 → n ≡ a + 1 + 1 → n ≤ e → read_at t a e ≡ some (whole (PUSHVAR (get_or t (a + 1) 0)) 1)
    unfolding plain_in
    read_pushvar o f h = read_fixed 11 o f h (PUSHVAR (get_or t (a + 1) 0)) (rw word₁)

    pub read_pushimm : get_or t a 0 ≡ 12 → n ≡ a + 1 + 1 → n ≤ e → read_at t a e ≡ some (whole (PUSHIMM (get_or t (a + 1) 0)) 1)
    unfolding plain_in
    read_pushimm o f h = read_fixed 12 o f h (PUSHIMM (get_or t (a + 1) 0)) (rw word₁)
