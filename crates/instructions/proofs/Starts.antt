-- A program that was read from a place on: its first instruction stands there, and the others from behind that on.
use mathlib.Core.Path.{◌≡◌, refl, sym, ◌∙◌}
use Prim.Native.Nat.{ℕ, ◌+◌, ◌-◌, ◌≤◌, ◌<◌}
use native.Mathlib.Omega.{arith}
use mathlib.Core.Bool.{Bool, true, false}
use mathlib.Core.Option.{Option, none, some}
use mathlib.Core.List.{List}
use lib.Dec.{leb}
use lib.ListN.{length, get_or}
use borrow.Author.Tests.{leb-true, leb-false}
use Rattle.documents.specs.Lists.{need}
use Rattle.documents.specs.Instructions.{PUSHI, ◌▸◌, Instruction, Program, Bodies, Read, whole, ReadBodies, whole_bodies, fixed_after, before}
use Rattle.documents.proofs.Lists.{case, on, off, and_then_is}
use Rattle.instructions.specs.Places.{program_at, bodies_at, read_at}
use Rattle.instructions.specs.Bodies.{place_behind}
use Rattle.instructions.proofs.Reading.{nothing, read_then, pushed_then, read_within, program_plain, program_push, program_short}
use Rattle.instructions.proofs.Bodies.{bodies_end}

-- i is the first instruction of c, and the others stand from place b on
pub record Starts (t : List ℕ) (e : ℕ) (c : Program) (i : Instruction) (b : ℕ) : Type 0 where
  pub rest : Program
  pub is : c ≡ i ▸ rest
  pub within : b ≤ e
  pub behind : program_at t b e ≡ some rest

-- .. and it is a PUSHI with these bodies
pub record StartsPush (t : List ℕ) (a e : ℕ) (c : Program) : Type 0 where
  pub bodies : Bodies
  pub left : ℕ
  pub words : a + 4 ≤ e
  pub here : bodies_at t (a + 4) e (get_or t (a + 3) 0) ≡ some (whole_bodies bodies left)
  pub starts : Starts t e c (PUSHI (get_or t (a + 1) 0) (get_or t (a + 2) 0) bodies) (place_behind t (a + 4) (get_or t (a + 3) 0))

starts_before : {t : List ℕ} {e : ℕ} {c : Program} (i : Instruction) (b : ℕ) → before i (program_at t b e) ≡ some c → b ≤ e → Starts t e c i b
starts_before {t} {e} {c} i b w l =
    let q = and_then_is (program_at t b e) _ c w in
    let v = q.2 in
    record { rest = q.0; is = cc; within = l; behind = q.1 }

module _ (t : List ℕ) {a e : ℕ} {c : Program} (h : program_at t a e ≡ some c) (lo : a < e) (hi : e ≤ length t) where
  -- the fixed words are there
  pub fixed_there : a + 1 + fixed_after (get_or t a 0) ≤ e
  fixed_there =
      case (λ q. a + 1 + fixed_after (get_or t a 0) ≤ e) (leb (a + 1 + fixed_after (get_or t a 0)) e) (λ y. leb-true _ _ (on _ y))
      (λ y. nothing (sym (program_short t a e lo hi (leb-false _ _ (off _ y))) ∙ h))

  -- .. with the opcode known
  pub fixed_at : (w : ℕ) → get_or t a 0 ≡ w → a + 1 + fixed_after w ≤ e
  fixed_at w o = rw o at fixed_there

  -- what is read there, before the rest
  read_there : (x : Option Read) → (get_or t a 0 ≡ 13 → ⊥) → read_at t a e ≡ x → read_then x (λ i m. before i (program_at t (a + 1 + m) e)) ≡ some c
  read_there x o r = rw r at (sym (program_plain t a e lo hi o) ∙ h)

  pub starts_plain : (i : Instruction) (n b : ℕ) → (get_or t a 0 ≡ 13 → ⊥) → read_at t a e ≡ some (whole i n) → a + 1 + n ≡ b → Starts t e c i b
  starts_plain i n b o r p = rw (← p) (starts_before i (a + 1 + n) (read_there (some (whole i n)) o r) (read_within t a e i n lo r).1)

  -- a list or pairs of which all words are there, or nothing would be read
  pub read_if : {x : Read} (q : Bool) → (get_or t a 0 ≡ 13 → ⊥) → read_at t a e ≡ need q (some x) → read_at t a e ≡ some x
  read_if true o r = r
  read_if false o r = nothing (read_there none o r)

  pub starts_push : get_or t a 0 ≡ 13 → StartsPush t a e c
  starts_push o = go (bodies_at t (a + 4) e (get_or t (a + 3) 0)) refl (sym (program_push t a e lo hi words_there o) ∙ h)
    where
      words_there : a + 4 ≤ e
      words_there = let l = fixed_at 13 o in omega arith

      go : (x : Option ReadBodies) → bodies_at t (a + 4) e (get_or t (a + 3) 0) ≡ x
          → pushed_then x (λ b m. before (PUSHI (get_or t (a + 1) 0) (get_or t (a + 2) 0) b) (program_at t (e - m) e)) ≡ some c → StartsPush t a e c
      go none p w = nothing w
      go (some (whole_bodies b m)) p w =
          let s = bodies_end (get_or t (a + 3) 0) (a + 4) b m hi words_there p in
          record { bodies = b; left = m; words = words_there; here = p; starts = starts_before _ _ (rw s.same at w) s.high }
