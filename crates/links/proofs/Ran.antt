-- A walk of build code at places: what the instruction at a place is, what stands behind it, and what `ran` says of both.
use mathlib.Core.Path.{◌≡◌, refl, sym, ap, ◌∙◌}
use Prim.Native.Nat.{ℕ, zero, suc, ◌+◌, ◌-◌, ◌≤◌, ◌<◌}
use native.Mathlib.Omega.{arith}
use mathlib.Core.Bool.{Bool, true, false, ◌&&◌}
use mathlib.Core.Option.{Option, none, some}
use mathlib.Core.List.{List}
use lib.Dec.{T, eqb, leb, ltb}
use lib.ListN.{length, get_or}
use borrow.Author.Tests.{leb-true, leb-false, ltb-true, eqb-true}
use Rattle.documents.specs.Lists.{need, and_then}
use Rattle.documents.specs.Instructions.{IS, ISABST, NEXT, CHECK, SET, EQVAR, EQIMM, EQI, CELL, LAMBDA, ADBMAL, PUSHVAR, PUSHIMM, PUSHI, End, ◌▸◌, None, Body, Instruction, Program, Bodies, whole, ReadBodies, whole_bodies, fixed_after, body_then}
use Rattle.documents.proofs.Lists.{case, on, off, of_and}
use Rattle.instructions.specs.Places.{program_at, bodies_at, read_at}
use Rattle.instructions.specs.Bodies.{body_end, place_behind}
use Rattle.instructions.proofs.Reading.{nothing, First, program_first, program_done, bodies_done, bodies_short, bodies_step, read_cell, read_lambda, read_adbmal, read_pushvar, read_pushimm}
use Rattle.instructions.proofs.Starts.{Starts, fixed_there, starts_plain, starts_push}
use Rattle.links.specs.Sequences.{is_one, ran}

-- ---- What `ran` says of the parts

asked : (q : Bool) (k : ℕ) (f : ℕ → Option ℕ) → T (is_one (and_then (need q (some k)) f)) → T q × T (is_one (f k))
asked true k f h = (tt, h)
asked false k f h = absurd h

asked_three : (p q r : Bool) (k : ℕ) (f : ℕ → Option ℕ) → T (is_one (and_then (need p (need q (need r (some k)))) f)) → T p × T q × T r × T (is_one (f k))
asked_three true true true k f h = (tt, tt, tt, h)
asked_three true true false k f h = absurd h
asked_three true false r k f h = absurd h
asked_three false q r k f h = absurd h

-- ---- A place in a sequence that ends at e, with h trees made so far

pub record Follows (t : List ℕ) (a e E h : ℕ) (c : Program) : Type 0 where
  pub here : program_at t a e ≡ some c
  pub runs : T (is_one (ran E c h))

-- the instruction i stands there, and the rest from place b on, with k trees made
pub record Next (t : List ℕ) (e E : ℕ) (c : Program) (i : Instruction) (b k : ℕ) : Type 0 where
  pub rest : Program
  pub is : c ≡ i ▸ rest
  pub within : b ≤ e
  pub behind : Follows t b e E k rest

-- bodies, n of them, from place q on and before place e, each of which makes one tree
pub record Held (t : List ℕ) (q e E n : ℕ) (b : Bodies) : Type 0 where
  pub left : ℕ
  pub within : q ≤ e
  pub here : bodies_at t q e n ≡ some (whole_bodies b left)
  pub runs : T (ran E b)

-- the first of them, and the others
pub record HeldNext (t : List ℕ) (q e E k : ℕ) (b : Bodies) : Type 0 where
  pub body : Program
  pub later : Bodies
  pub is : b ≡ Body (get_or t q 0) body later
  pub within : body_end t q ≤ e
  pub inside : Follows t (q + 2) (body_end t q) E 0 body
  pub behind : Held t (body_end t q) e E k later

-- a PUSHI at place a, with its bodies
pub record Pushes (t : List ℕ) (a e E h : ℕ) (c : Program) : Type 0 where
  pub bodies : Bodies
  pub entry : get_or t (a + 1) 0 < E
  pub low : get_or t (a + 2) 0 ≤ 127
  pub words : a + 4 ≤ e
  pub held : Held t (a + 4) e E (get_or t (a + 3) 0) bodies
  pub next : Next t e E c (PUSHI (get_or t (a + 1) 0) (get_or t (a + 2) 0) bodies) (place_behind t (a + 4) (get_or t (a + 3) 0)) (h + 1)

-- ---- Bodies

bodies_are : {t : List ℕ} {q e E k : ℕ} {b : Bodies} {m : ℕ} (c : Option Program) (o : Option ReadBodies)
    → program_at t (q + 2) (body_end t q) ≡ c → bodies_at t (body_end t q) e k ≡ o → body_end t q ≤ e → T (ran E b) → body_then (get_or t q 0) c o ≡ some (whole_bodies b m)
    → HeldNext t q e E k b
bodies_are none o p r l h w = nothing w
bodies_are (some c) none p r l h w = nothing w
bodies_are {t} {q} {e} {E} {k} {b} (some c) (some (whole_bodies a j)) p r l h w =
    let z : b ≡ Body (get_or t q 0) c a = cc in
    let g : T (is_one (ran E c 0) && ran E a) = rw z at h in
    let s = of_and (is_one (ran E c 0)) (ran E a) g in
    record {
      body = c;
      later = a;
      is = z;
      within = l;
      inside = record { here = p; runs = s.0 };
      behind = record { left = j; within = l; here = r; runs = s.1 };
    }

held_suc : {t : List ℕ} {q e E k : ℕ} {b : Bodies} → Held t q e E (suc k) b → e ≤ length t → HeldNext t q e E k b
held_suc {t} {q} {e} {E} {k} {b} s hi =
    case (λ x. HeldNext t q e E k b) (leb (body_end t q) e)
    (λ y.
    let l = leb-true (body_end t q) e (on _ y) in
    bodies_are (program_at t (q + 2) (body_end t q)) (bodies_at t (body_end t q) e k) refl refl l s.runs (sym (bodies_step t q e k l hi) ∙ s.here))
    (λ y. nothing (sym (bodies_short t q e k (leb-false (body_end t q) e (off _ y))) ∙ s.here))

pub held_next : {t : List ℕ} {q e E n : ℕ} {b : Bodies} → Held t q e E n b → e ≤ length t → 0 < n → HeldNext t q e E (n - 1) b
held_next {n = zero} s hi p = absurd (omega arith)
held_next {n = suc k} s hi p = let z : suc k - 1 ≡ k = omega arith in rw z (held_suc s hi)

pub held_none : {t : List ℕ} {q e E n : ℕ} {b : Bodies} → Held t q e E n b → n ≡ 0 → b ≡ None
held_none {t} {q} {e} {E} {n} {b} s p =
    let w : some (whole_bodies None (e - q)) ≡ some (whole_bodies b s.left) = sym (bodies_done t q e) ∙ ap (λ (k : ℕ). bodies_at t q e k) (sym p) ∙ s.here in
    cc

-- ---- Instructions

module _ {t : List ℕ} {a e E h : ℕ} {c : Program} (f : Follows t a e E h c) where
  pub follows_done : a ≡ e → (c ≡ End) × (h ≡ 1)
  follows_done p =
      let w : some End ≡ some c = sym (program_done t e) ∙ ap (λ (k : ℕ). program_at t k e) (sym p) ∙ f.here in
      let z : c ≡ End = cc in
      let g : T (eqb h 1) = rw z at f.runs in
      (z, eqb-true h 1 (on _ g))

  module _ (lo : a < e) (hi : e ≤ length t) where
    -- one of the build instructions
    pub follows_build : (8 ≤ get_or t a 0) × (get_or t a 0 ≤ 13)
    follows_build = go c f.runs (program_first t a e c lo hi f.here)
      where
        go : (d : Program) → T (is_one (ran E d h)) → First d (get_or t a 0) → (8 ≤ get_or t a 0) × (get_or t a 0 ≤ 13)
        go End r o = absurd o
        go (IS s n ▸ d) r o = absurd r
        go (ISABST ▸ d) r o = absurd r
        go (NEXT ▸ d) r o = absurd r
        go (CHECK vs ▸ d) r o = absurd r
        go (SET ▸ d) r o = absurd r
        go (EQVAR x ▸ d) r o = absurd r
        go (EQIMM n ▸ d) r o = absurd r
        go (EQI n D ps ▸ d) r o = absurd r
        go (CELL s n ▸ d) r o = (omega arith, omega arith)
        go (LAMBDA ▸ d) r o = (omega arith, omega arith)
        go (ADBMAL ▸ d) r o = (omega arith, omega arith)
        go (PUSHVAR x ▸ d) r o = (omega arith, omega arith)
        go (PUSHIMM n ▸ d) r o = (omega arith, omega arith)
        go (PUSHI n D b ▸ d) r o = (omega arith, omega arith)

    -- its words stand there
    pub follows_within : (k : ℕ) → fixed_after (get_or t a 0) ≡ k → a + 1 + k ≤ e
    follows_within k p = rw p at (fixed_there t f.here lo hi)

    -- the next place, with k trees made
    next : {i : Instruction} {b : ℕ} (s : Starts t e c i b) (k : ℕ) → T (is_one (ran E s.rest k)) → Next t e E c i b k
    next s k r = record { rest = s.rest; is = s.is; within = s.within; behind = record { here = s.behind; runs = r } }

    plain : (i : Instruction) (m b : ℕ) → (get_or t a 0 ≡ 13 → ⊥) → read_at t a e ≡ some (whole i m) → a + 1 + m ≡ b → Starts t e c i b
    plain = starts_plain t f.here lo hi

    pub cell_next : get_or t a 0 ≡ 8 → (get_or t (a + 2) 0 ≤ h) × Next t e E c (CELL (get_or t (a + 1) 0) (get_or t (a + 2) 0)) (a + 3) (h - get_or t (a + 2) 0 + 1)
    cell_next o =
        let s = plain _ 2 (a + 3) (λ p. omega arith) (read_cell t a e o refl (follows_within 2 (rw o))) (omega arith) in
        let g : T (is_one (and_then (need (leb (get_or t (a + 2) 0) h) (some (h - get_or t (a + 2) 0 + 1))) (ran E s.rest))) = rw s.is at f.runs in
        let r = asked (leb (get_or t (a + 2) 0) h) (h - get_or t (a + 2) 0 + 1) (ran E s.rest) g in
        (leb-true (get_or t (a + 2) 0) h (on _ r.0), next s _ r.1)

    pub lambda_next : get_or t a 0 ≡ 9 → Next t e E c LAMBDA (a + 1) h
    lambda_next o =
        let s = plain _ 0 (a + 1) (λ p. omega arith) (read_lambda t a e o refl (follows_within 0 (rw o))) (omega arith) in
        next s h (rw s.is at f.runs)

    pub adbmal_next : get_or t a 0 ≡ 10 → (1 ≤ h) × Next t e E c ADBMAL (a + 1) h
    adbmal_next o =
        let s = plain _ 0 (a + 1) (λ p. omega arith) (read_adbmal t a e o refl (follows_within 0 (rw o))) (omega arith) in
        let g : T (is_one (and_then (need (leb 1 h) (some h)) (ran E s.rest))) = rw s.is at f.runs in
        let r = asked (leb 1 h) h (ran E s.rest) g in
        (leb-true 1 h (on _ r.0), next s h r.1)

    pub pushvar_next : get_or t a 0 ≡ 11 → Next t e E c (PUSHVAR (get_or t (a + 1) 0)) (a + 2) (h + 1)
    pushvar_next o =
        let s = plain _ 1 (a + 2) (λ p. omega arith) (read_pushvar t a e o refl (follows_within 1 (rw o))) (omega arith) in
        next s (h + 1) (rw s.is at f.runs)

    pub pushimm_next : get_or t a 0 ≡ 12 → (get_or t (a + 1) 0 < E) × Next t e E c (PUSHIMM (get_or t (a + 1) 0)) (a + 2) (h + 1)
    pushimm_next o =
        let s = plain _ 1 (a + 2) (λ p. omega arith) (read_pushimm t a e o refl (follows_within 1 (rw o))) (omega arith) in
        let g : T (is_one (and_then (need (ltb (get_or t (a + 1) 0) E) (some (h + 1))) (ran E s.rest))) = rw s.is at f.runs in
        let r = asked (ltb (get_or t (a + 1) 0) E) (h + 1) (ran E s.rest) g in
        (ltb-true (get_or t (a + 1) 0) E (on _ r.0), next s (h + 1) r.1)

    pub pushi_next : get_or t a 0 ≡ 13 → Pushes t a e E h c
    pushi_next o =
        let p = starts_push t f.here lo hi o in
        let s = p.starts in
        let g : T (is_one (and_then (need (ltb (get_or t (a + 1) 0) E) (need (leb (get_or t (a + 2) 0) 127) (need (ran E p.bodies) (some (h + 1))))) (ran E s.rest))) = rw s.is at f.runs in
        let r = asked_three (ltb (get_or t (a + 1) 0) E) (leb (get_or t (a + 2) 0) 127) (ran E p.bodies) (h + 1) (ran E s.rest) g in
        record {
          bodies = p.bodies;
          entry = ltb-true (get_or t (a + 1) 0) E (on _ r.0);
          low = leb-true (get_or t (a + 2) 0) 127 (on _ r.1);
          words = p.words;
          held = record { left = p.left; within = p.words; here = p.here; runs = r.2 };
          next = next s (h + 1) r.3;
        }
