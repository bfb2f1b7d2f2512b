-- The build part at a place: what each instruction makes of the finished terms of the open blocks.
use mathlib.Core.Path.{◌≡◌, refl, sym, ◌∙◌}
use Prim.Native.Nat.{ℕ, suc, ◌+◌, ◌-◌, ◌≤◌, ◌<◌}
use native.Mathlib.Omega.{arith}
use mathlib.Core.Bool.{Bool, true, false, ◌&&◌, cond}
use mathlib.Core.Option.{Option, none, some}
use mathlib.Core.List.{List, [], ◌∷◌}
use lib.Dec.{eqb, leb, ltb}
use lib.ListN.{length, get_or}
use Rattle.std.specs.Prelude.{Result, Ok, Err}
use borrow.Author.Tests.{eq-eqb, ne_eqb, le-leb, lt-leb, lt-ltb, le-ltb, eqb-true, eqb-false}
use Rattle.documents.specs.declared.Refusal.{Refusal}
use Rattle.documents.specs.declared.Refusal.TheVariants.{DoesNotPass}
use Rattle.documents.specs.Lists.{need, and_then}
use Rattle.documents.specs.Instructions.{IS, ISABST, NEXT, CHECK, SET, EQVAR, EQIMM, EQI, CELL, LAMBDA, ADBMAL, PUSHVAR, PUSHIMM, PUSHI, Instruction, Program, Read, whole, opcode, before}
use Rattle.documents.specs.Passing.{Slot, blocks, shut, one_term, build}
use Rattle.documents.proofs.Lists.{never, case, on, off}
use Rattle.instructions.specs.Places.{program_at, read_at, fetched}
use Rattle.instructions.proofs.Reading.{read_opcode, fetched_op, program_plain, program_unfetched, program_done, read_cell, read_lambda, read_adbmal, read_pushvar, read_pushimm}
use Rattle.checker.specs.declared.build.Ended.{Ended}
use Rattle.checker.specs.declared.build.Ended.TheVariants as ended
use Rattle.checker.specs.Built.{terms_of, terms_at, makes_one, onward, ended_if}

-- no match instruction in the build part
no_build : (es : List Slot) (inside : Bool) (l nest : ℕ) (i : Instruction) (hs : List ℕ) → opcode i ≤ 7 → build es inside l nest i hs ≡ none
no_build es inside l nest (IS s n) hs h = refl
no_build es inside l nest ISABST hs h = refl
no_build es inside l nest NEXT hs h = refl
no_build es inside l nest (CHECK vs) hs h = refl
no_build es inside l nest SET hs h = refl
no_build es inside l nest (EQVAR x) hs h = refl
no_build es inside l nest (EQIMM e) hs h = refl
no_build es inside l nest (EQI e D ps) hs h = refl
no_build es inside l nest (CELL s n) hs h = absurd (omega arith)
no_build es inside l nest LAMBDA hs h = absurd (omega arith)
no_build es inside l nest ADBMAL hs h = absurd (omega arith)
no_build es inside l nest (PUSHVAR x) hs h = absurd (omega arith)
no_build es inside l nest (PUSHIMM e) hs h = absurd (omega arith)
no_build es inside l nest (PUSHI e D a) hs h = absurd (omega arith)

-- ---- from instruction to instruction

abbrev pub goes_on : Option (List ℕ) → (List ℕ → Bool) → Bool
goes_on none f = false
goes_on (some hs) f = f hs

module _ (t : List ℕ) (e : ℕ) (es : List Slot) (inside : Bool) (l nest : ℕ) where
  pub makes_none : (a : ℕ) (hs : List ℕ) → program_at t a e ≡ none → makes_one t e es inside l nest a hs ≡ false
  makes_none a hs p = rw p

  pub makes_done : (hs : List ℕ) → makes_one t e es inside l nest e hs ≡ one_term (some hs)
  makes_done hs = rw (program_done t e)

  -- an instruction that is read before the rest
  pub makes_before : (a p : ℕ) (i : Instruction) (hs : List ℕ) → program_at t a e ≡ before i (program_at t p e)
      → makes_one t e es inside l nest a hs ≡ goes_on (build es inside l nest i hs) (makes_one t e es inside l nest p)
  makes_before a p i hs r = rw r (go (program_at t p e) (build es inside l nest i hs) refl)
    where
      go : (o : Option Program) (b : Option (List ℕ)) → build es inside l nest i hs ≡ b
          → one_term (and_then (before i o) (λ c. build es inside l nest c hs)) ≡ goes_on b (λ ks. one_term (and_then o (λ c. build es inside l nest c ks)))
      go none none q = refl
      go none (some ks) q = refl
      go (some c) none q = rw q
      go (some c) (some ks) q = rw q

  module _ (a : ℕ) (lo : a < e) (hi : e ≤ length t) where
    makes_read : (i : Instruction) (m : ℕ) (hs : List ℕ) → (get_or t a 0 ≡ 13 → ⊥) → read_at t a e ≡ some (whole i m)
        → makes_one t e es inside l nest a hs ≡ goes_on (build es inside l nest i hs) (makes_one t e es inside l nest (a + 1 + m))
    makes_read i m hs o r = makes_before a (a + 1 + m) i hs (program_plain t a e lo hi o ∙ rw r)

    pub makes_unfetched : (w : Refusal) (hs : List ℕ) → fetched t a e ≡ Err w → makes_one t e es inside l nest a hs ≡ false
    makes_unfetched w hs p = makes_none a hs (program_unfetched t a e lo hi w p)

    pub makes_match : (hs : List ℕ) → get_or t a 0 ≤ 7 → makes_one t e es inside l nest a hs ≡ false
    makes_match hs h = go (read_at t a e) refl
      where
        go : (o : Option Read) → read_at t a e ≡ o → makes_one t e es inside l nest a hs ≡ false
        go none r = makes_none a hs (program_plain t a e lo hi (λ q. omega arith) ∙ rw r)
        go (some (whole i m)) r =
            let o = read_opcode t a e i m r in
            makes_read i m hs (λ q. omega arith) r ∙ rw (no_build es inside l nest i hs (omega arith))

    module _ (h : ℕ) (hs : List ℕ) {n : ℕ} where
      -- ---- CELL, PUSHVAR, PUSHIMM

      makes_cell : get_or t a 0 ≡ 8 → n ≡ a + 1 + 2 → n ≤ e
          → makes_one t e es inside l nest a (h ∷ hs) ≡ goes_on (build es inside l nest (CELL (get_or t (a + 1) 0) (get_or t (a + 2) 0)) (h ∷ hs)) (makes_one t e es inside l nest n)
      makes_cell o f k = makes_read (CELL (get_or t (a + 1) 0) (get_or t (a + 2) 0)) 2 (h ∷ hs) (λ q. omega arith) (read_cell t a e o f k) ∙ rw f

      makes_pushvar : get_or t a 0 ≡ 11 → n ≡ a + 1 + 1 → n ≤ e
          → makes_one t e es inside l nest a (h ∷ hs) ≡ goes_on (build es inside l nest (PUSHVAR (get_or t (a + 1) 0)) (h ∷ hs)) (makes_one t e es inside l nest n)
      makes_pushvar o f k = makes_read (PUSHVAR (get_or t (a + 1) 0)) 1 (h ∷ hs) (λ q. omega arith) (read_pushvar t a e o f k) ∙ rw f

      pub makes_pushimm : get_or t a 0 ≡ 12 → n ≡ a + 1 + 1 → n ≤ e
          → makes_one t e es inside l nest a (h ∷ hs) ≡ goes_on (build es inside l nest (PUSHIMM (get_or t (a + 1) 0)) (h ∷ hs)) (makes_one t e es inside l nest n)
      makes_pushimm o f k = makes_read (PUSHIMM (get_or t (a + 1) 0)) 1 (h ∷ hs) (λ q. omega arith) (read_pushimm t a e o f k) ∙ rw f

      -- ---- LAMBDA

      pub makes_open : get_or t a 0 ≡ 9 → n ≡ a + 1 + 0 → n ≤ e → l + length hs < 63 → nest + length hs < 64
          → makes_one t e es inside l nest a (h ∷ hs) ≡ makes_one t e es inside l nest n (0 ∷ h ∷ hs)
      makes_open o f k p q =
          let z : suc (length hs) - 1 ≡ length hs = omega arith in
          makes_read LAMBDA 0 (h ∷ hs) (λ q. omega arith) (read_lambda t a e o f k) ∙ rw (z, lt-ltb (l + length hs) 63 p, lt-ltb (nest + length hs) 64 q, f)

      pub makes_closed : get_or t a 0 ≡ 9 → n ≡ a + 1 + 0 → n ≤ e → ltb (l + length hs) 63 && ltb (nest + length hs) 64 ≡ false
          → makes_one t e es inside l nest a (h ∷ hs) ≡ false
      makes_closed o f k p =
          let z : suc (length hs) - 1 ≡ length hs = omega arith in
          makes_read LAMBDA 0 (h ∷ hs) (λ q. omega arith) (read_lambda t a e o f k) ∙ rw z (go (ltb (l + length hs) 63) (ltb (nest + length hs) 64) p)
        where
          go : (x y : Bool) → x && y ≡ false → goes_on (need x (need y (some (0 ∷ h ∷ hs)))) (makes_one t e es inside l nest (a + 1 + 0)) ≡ false
          go true true p = never (cc)
          go true false p = refl
          go false y p = refl

      -- ---- ADBMAL

      pub makes_shut : get_or t a 0 ≡ 10 → n ≡ a + 1 + 0 → n ≤ e
          → makes_one t e es inside l nest a (h ∷ hs) ≡ onward (ended_if (eqb h 1) (ended.Shut n)) (makes_one t e es inside l nest) hs
      unfolding ended_if
      makes_shut o f k = makes_read ADBMAL 0 (h ∷ hs) (λ q. omega arith) (read_adbmal t a e o f k) ∙ rw (sym f) (go hs (eqb h 1) refl)
        where
          go : (ks : List ℕ) (q : Bool) → eqb h 1 ≡ q → goes_on (shut (h ∷ ks)) (makes_one t e es inside l nest n) ≡ onward (ended_if q (ended.Shut n)) (makes_one t e es inside l nest) ks
          go [] true p = refl
          go [] false p = refl
          go (h₀ ∷ ks) true p = rw p
          go (h₀ ∷ ks) false p = rw p

  -- ---- the end of the words

  pub makes_ended : (h : ℕ) (hs : List ℕ) → makes_one t e es inside l nest e (h ∷ hs) ≡ onward (ended_if (eqb h 1) ended.Done) (makes_one t e es inside l nest) hs
  unfolding ended_if
  makes_ended h hs = makes_done (h ∷ hs) ∙ go hs (eqb h 1) refl
    where
      go : (ks : List ℕ) (q : Bool) → eqb h 1 ≡ q → one_term (some (h ∷ ks)) ≡ onward (ended_if q ended.Done) (makes_one t e es inside l nest) ks
      go [] true p = p
      go [] false p = p
      go (h₀ ∷ ks) true p = refl
      go (h₀ ∷ ks) false p = refl

-- ---- the terms after a CELL or PUSHVAR, whatever blocks are around

abbrev pub terms_on : Result ℕ Refusal → (ℕ → Bool) → Bool
terms_on (Ok h) f = f h
terms_on (Err w) f = false

module _ (es : List Slot) (inside : Bool) (l nest L h : ℕ) (hs : List ℕ) (around : l + length hs ≡ L) (f : List ℕ → Bool) where
  cell_on : (s n : ℕ) → goes_on (build es inside l nest (CELL s n) (h ∷ hs)) f ≡ terms_on (terms_of (build [] false L 0 (CELL s n) (h ∷ []))) (λ k. f (k ∷ hs))
  cell_on s n = go (leb s 65535) (leb n 8) (leb n h)
    where
      go : (x y z : Bool) → goes_on (need x (need y (need z (some ((h - n + 1) ∷ hs))))) f ≡ terms_on (terms_of (need x (need y (need z (some ((h - n + 1) ∷ [])))))) (λ k. f (k ∷ hs))
      go true true true = refl
      go true true false = refl
      go true false z = refl
      go false y z = refl

  inner : l + blocks (h ∷ hs) ≡ L
  inner = let z : suc (length hs) - 1 ≡ length hs = omega arith in omega arith

  outer : L + blocks (h ∷ []) ≡ L
  outer = omega arith

  one_on : (q : Bool) → goes_on (need q (some ((h + 1) ∷ hs))) f ≡ terms_on (terms_of (need q (some ((h + 1) ∷ [])))) (λ k. f (k ∷ hs))
  one_on true = refl
  one_on false = refl

  pushvar_on : (x : ℕ) → goes_on (build es inside l nest (PUSHVAR x) (h ∷ hs)) f ≡ terms_on (terms_of (build [] false L 0 (PUSHVAR x) (h ∷ []))) (λ k. f (k ∷ hs))
  pushvar_on x = rw (inner, outer) (one_on (ltb x L))

module _ (t : List ℕ) (a e : ℕ) (es : List Slot) (inside : Bool) (l nest L h : ℕ) (hs : List ℕ) (around : l + length hs ≡ L) (lo : a < e) (hi : e ≤ length t) where
  -- an instruction that is no LAMBDA, no ADBMAL and asks for no entry
  pub makes_plain : (n : ℕ) → fetched t a e ≡ Ok n → (get_or t a 0 ≡ 10 → ⊥) → (get_or t a 0 ≡ 9 → ⊥) → get_or t a 0 ≤ 11
      → makes_one t e es inside l nest a (h ∷ hs) ≡ terms_on (terms_at t a L h) (λ k. makes_one t e es inside l nest n (k ∷ hs))
  unfolding terms_at
  makes_plain n p w₁ w₂ w₃ =
      case Claim (eqb (get_or t a 0) 8)
      (λ y.
      let o = eqb-true (get_or t a 0) 8 (on _ y) in
      let f = fetched_op t a e n 8 p o in
      rw o (makes_cell t e es inside l nest a lo hi h hs o f.0 f.1
      ∙ cell_on es inside l nest L h hs around (makes_one t e es inside l nest n) (get_or t (a + 1) 0) (get_or t (a + 2) 0)))
      (λ y.
      case Claim (eqb (get_or t a 0) 11)
      (λ z.
      let o = eqb-true (get_or t a 0) 11 (on _ z) in
      let f = fetched_op t a e n 11 p o in
      rw o (makes_pushvar t e es inside l nest a lo hi h hs o f.0 f.1
      ∙ pushvar_on es inside l nest L h hs around (makes_one t e es inside l nest n) (get_or t (a + 1) 0)))
      (λ z.
      let n₈ = eqb-false (get_or t a 0) 8 (off _ y) in
      let n₁₁ = eqb-false (get_or t a 0) 11 (off _ z) in
      rw (off (eqb (get_or t a 0) 8) y, off (eqb (get_or t a 0) 11) z) (makes_match t e es inside l nest a lo hi (h ∷ hs) (low w₁ w₂ w₃ n₈ n₁₁))))
    where
      Claim : Bool → Type 0
      Claim q = makes_one t e es inside l nest a (h ∷ hs) ≡ terms_on (terms_at t a L h) (λ k. makes_one t e es inside l nest n (k ∷ hs))

      low : {w : ℕ} → (w ≡ 10 → ⊥) → (w ≡ 9 → ⊥) → w ≤ 11 → (w ≡ 8 → ⊥) → (w ≡ 11 → ⊥) → w ≤ 7
      low b c a d e = omega arith

-- ---- the functions' own tests, in the code's order

pub one_not : (h : ℕ) (r : Ended) → (h ≡ 1 → ⊥) → Err DoesNotPass ≡ ended_if (eqb h 1) r
unfolding ended_if
one_not h r n = rw (ne_eqb h 1 n)

pub one_is : (h : ℕ) (r : Ended) → h ≡ 1 → Ok r ≡ ended_if (eqb h 1) r
unfolding ended_if
one_is h r n = rw (eq-eqb h 1 n)

module _ (s n h : ℕ) where
  abbrev pub Cell : Result ℕ Refusal
  Cell = terms_of (build [] false 0 0 (CELL s n) (h ∷ []))

  pub cell_name : 65535 < s → Err DoesNotPass ≡ Cell
  cell_name p = rw (lt-leb s 65535 p)

  module _ (p : s ≤ 65535) where
    pub cell_count : 8 < n → Err DoesNotPass ≡ Cell
    cell_count q = rw (le-leb s 65535 p, lt-leb n 8 q)

    pub cell_few : n ≤ 8 → h < n → Err DoesNotPass ≡ Cell
    cell_few q r = rw (le-leb s 65535 p, le-leb n 8 q, lt-leb n h r)

    pub cell_there : n ≤ 8 → n ≤ h → Ok (h - n + 1) ≡ Cell
    cell_there q r = rw (le-leb s 65535 p, le-leb n 8 q, le-leb n h r)

module _ (t : List ℕ) (a l h : ℕ) where
  pub terms_cell : (r : Result ℕ Refusal) → get_or t a 0 ≡ 8 → r ≡ Cell (get_or t (a + 1) 0) (get_or t (a + 2) 0) h → r ≡ terms_at t a l h
  unfolding terms_at
  terms_cell r o e = e ∙ rw o

  open_here : l + (1 - 1) ≡ l
  open_here = omega arith

  pub terms_other : (get_or t a 0 ≡ 8 → ⊥) → (get_or t a 0 ≡ 11 → ⊥) → Err DoesNotPass ≡ terms_at t a l h
  unfolding terms_at
  terms_other x y = rw (ne_eqb (get_or t a 0) 8 x, ne_eqb (get_or t a 0) 11 y)

  pub terms_high : get_or t a 0 ≡ 11 → l ≤ get_or t (a + 1) 0 → Err DoesNotPass ≡ terms_at t a l h
  unfolding terms_at
  terms_high o k = rw (o, open_here, le-ltb (get_or t (a + 1) 0) l k)

  pub terms_pushvar : get_or t a 0 ≡ 11 → get_or t (a + 1) 0 < l → Ok (h + 1) ≡ terms_at t a l h
  unfolding terms_at
  terms_pushvar o k = rw (o, open_here, lt-ltb (get_or t (a + 1) 0) l k)

-- at most one term more
pub terms_grow : (t : List ℕ) (a l h k : ℕ) → terms_at t a l h ≡ Ok k → k ≤ h + 1
unfolding terms_at
terms_grow t a l h k e = first (eqb (get_or t a 0) 8) (eqb (get_or t a 0) 11) e
  where
    Bounded : Option (List ℕ) → Type 0
    Bounded o = terms_of o ≡ Ok k → k ≤ h + 1

    needs : (q : Bool) (o : Option (List ℕ)) → Bounded o → Bounded (need q o)
    needs true o b = b
    needs false o b = λ p. never (cc)

    made : (n : ℕ) → n ≤ h + 1 → Bounded (some (n ∷ []))
    made n b p = let z : n ≡ k = cc in omega arith

    first : (x y : Bool)
        → cond x (terms_of (build [] false l 0 (CELL (get_or t (a + 1) 0) (get_or t (a + 2) 0)) (h ∷ [])))
        (cond y (terms_of (build [] false l 0 (PUSHVAR (get_or t (a + 1) 0)) (h ∷ []))) (Err DoesNotPass))
        ≡ Ok k → k ≤ h + 1
    first true y = needs (leb (get_or t (a + 1) 0) 65535) _ (needs (leb (get_or t (a + 2) 0) 8) _ (needs (leb (get_or t (a + 2) 0) h) _ (made (h - get_or t (a + 2) 0 + 1) (omega arith))))
    first false true = needs (ltb (get_or t (a + 1) 0) (l + (1 - 1))) _ (made (h + 1) (omega arith))
    first false false = λ p. never (cc)

-- refused with one refusal
pub terms_refused : (t : List ℕ) (a l h : ℕ) (w : Refusal) → terms_at t a l h ≡ Err w → w ≡ DoesNotPass
unfolding terms_at
terms_refused t a l h w e = first (eqb (get_or t a 0) 8) (eqb (get_or t a 0) 11) e
  where
    Known : Result ℕ Refusal → Type 0
    Known r = r ≡ Err w → w ≡ DoesNotPass

    of : (o : Option (List ℕ)) → Known (terms_of o)
    of none p = cc
    of (some []) p = cc
    of (some (k ∷ [])) p = never (cc)
    of (some (k ∷ k₀ ∷ ks)) p = cc

    first : (x y : Bool)
        → Known (cond x (terms_of (build [] false l 0 (CELL (get_or t (a + 1) 0) (get_or t (a + 2) 0)) (h ∷ [])))
        (cond y (terms_of (build [] false l 0 (PUSHVAR (get_or t (a + 1) 0)) (h ∷ []))) (Err DoesNotPass)))
    first true y = of (build [] false l 0 (CELL (get_or t (a + 1) 0) (get_or t (a + 2) 0)) (h ∷ []))
    first false true = of (build [] false l 0 (PUSHVAR (get_or t (a + 1) 0)) (h ∷ []))
    first false false = λ p. cc
