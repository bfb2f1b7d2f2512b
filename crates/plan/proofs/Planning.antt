-- `planned`, one call after the other: what it comes to after each answer, and that its numbers are document 01's line.
use mathlib.Core.Path.{◌≡◌, refl, ap, ◌∙◌}
use Prim.Native.Nat.{ℕ, ◌*◌, ◌≤◌}
use native.Mathlib.Omega.{arith}
use mathlib.Core.Bool.{Bool, true, false, cond}
use mathlib.Core.List.{List, [], ◌∷◌}
use lib.Dec.{eqb}
use lib.ListN.{length, take, replicate, length-replicate}
use borrow.Author.Tests.{eq-eqb, ne_eqb}
use Rattle.documents.specs.Limits.{plan_limit, code_limit, working_words}
use Rattle.documents.specs.Calls.{ReadAnswer, read_call, CompileAnswer, compile_call, RunAnswer, run_call, run_line, compile_line, plan_line, read_line, plan_apply, file_side_words, file_subject_words}
use Rattle.answers.specs.declared.ReedReadAnswer.{ReedReadAnswer}
use Rattle.answers.specs.declared.ReedAnswer.{ReedAnswer}
use Rattle.reedbiscuit.specs.Answers.{Reads, Compiles}
use Rattle.plan.specs.Program.{Planned, after_run, after_compile, after_read, planned, Leaves}
use Rattle.plan.proofs.Counted.{read_fits, compile_fits, run_fits}

-- ---- After the reader

module _ (bytes left right subject : List ℕ) (a : ReedReadAnswer) (left' right' subject' : List ℕ) (h : Reads bytes left right subject a left' right' subject') where
  pub read_within : (a.left ≤ length left) × (a.right ≤ length right) × (a.subject ≤ length subject)
  read_within =
      let f = read_fits bytes left right subject in (
        omega (arith, f.0, ap (λ (x : ReadAnswer). x.left_words) h),
        omega (arith, f.1, ap (λ (x : ReadAnswer). x.right_words) h),
        omega (arith, f.2, ap (λ (x : ReadAnswer). x.subject_words) h),
      )

  pub read_leaves_lem : Leaves (read_call bytes left right subject) left' right' subject'
  read_leaves_lem = rw (← h) (refl, refl, refl)

  module _ (code working result : List ℕ) where
    pub read_stopped : (a.number ≡ 0 → ⊥) → record { number = a.number; words = 0; code = code; working = working; result = result } ≡ planned bytes left right subject code working result
    unfolding planned
    read_stopped n = rw (← h, ne_eqb a.number 0 n)

    pub read_done : a.number ≡ 0
        → after_compile (take a.subject subject') working result (compile_call (take a.left left') (take a.right right') code) ≡ planned bytes left right subject code working result
    unfolding planned
    read_done e = rw (← h, eq-eqb a.number 0 e)

-- ---- After compile

module _ (left right code : List ℕ) (a : ReedAnswer) (code' : List ℕ) (h : Compiles left right code a code') where
  pub compile_within : a.words ≤ length code
  compile_within = omega (arith, compile_fits left right code, ap (λ (x : CompileAnswer). x.words) h)

  module _ (subject working result : List ℕ) where
    pub compile_stopped : (a.number ≡ 0 → ⊥)
        → record { number = a.number; words = 0; code = code'; working = working; result = result } ≡ after_compile subject working result (compile_call left right code)
    compile_stopped n = rw (← h, ne_eqb a.number 0 n)

    pub compile_done : a.number ≡ 0
        → after_run code' (run_call (take a.words code') subject working result) ≡ after_compile subject working result (compile_call left right code)
    compile_done e = rw (← h, eq-eqb a.number 0 e)

-- ---- The line

-- number, word count, result words
abbrev numbers_of : Planned → List ℕ
numbers_of p = p.number ∷ p.words ∷ take p.words p.result

abbrev zero_working : List ℕ
zero_working = replicate working_words 0

abbrev zero_result : List ℕ
zero_result = replicate (2 * plan_limit) 0

abbrev zero_code : List ℕ
zero_code = replicate code_limit 0

compile_line_lem : (subject : List ℕ) (a : CompileAnswer) → numbers_of (after_compile subject zero_working zero_result a) ≡ compile_line subject a
compile_line_lem subject a = go (eqb a.number 0) (run_call (take a.words a.code) subject zero_working zero_result)
  where
    go : (b : Bool) (r : RunAnswer)
        → numbers_of (cond b (after_run a.code r) (record { number = a.number; words = 0; code = a.code; working = zero_working; result = zero_result })) ≡ cond b (run_line r) (a.number ∷ 0 ∷ [])
    go true r = refl
    go false r = refl

read_line_lem : (a : ReadAnswer) → numbers_of (after_read zero_code zero_working zero_result a) ≡ read_line a
unfolding plan_line
read_line_lem a = go (eqb a.number 0) _ (compile_line_lem (take a.subject_words a.subject) (compile_call (take a.left_words a.left) (take a.right_words a.right) zero_code))
  where
    go : (b : Bool) (p : Planned) {ns : List ℕ} → numbers_of p ≡ ns
        → numbers_of (cond b p (record { number = a.number; words = 0; code = zero_code; working = zero_working; result = zero_result })) ≡ cond b ns (a.number ∷ 0 ∷ [])
    go true p h = h
    go false p h = refl

-- ---- The words are in the result table

plan_fits : (bytes left right subject code working result : List ℕ) → (planned bytes left right subject code working result).words ≤ length result
unfolding planned
plan_fits bytes left right subject code working result = after_read_lem (read_call bytes left right subject)
  where
    stops : (b : Bool) (p q : Planned) → p.words ≤ length result → q.words ≡ 0 → (cond b p q).words ≤ length result
    stops true p q h z = h
    stops false p q h z = omega arith

    after_compile_lem : (s : List ℕ) (a : CompileAnswer) → (after_compile s working result a).words ≤ length result
    after_compile_lem s a = stops (eqb a.number 0) _ _ (run_fits (take a.words a.code) s working result) refl

    after_read_lem : (a : ReadAnswer) → (after_read code working result a).words ≤ length result
    after_read_lem a = stops (eqb a.number 0) _ _ (after_compile_lem (take a.subject_words a.subject) (compile_call (take a.left_words a.left) (take a.right_words a.right) code)) refl

-- ---- With the program's tables

module _ (bytes : List ℕ) (p : Planned)
    (h : p ≡ planned bytes (replicate file_side_words 0) (replicate file_side_words 0) (replicate file_subject_words 0) zero_code zero_working zero_result) where
  pub plan_line_lem : numbers_of p ≡ plan_apply bytes
  unfolding planned plan_apply
  plan_line_lem = ap numbers_of h ∙ read_line_lem (read_call bytes (replicate file_side_words 0) (replicate file_side_words 0) (replicate file_subject_words 0))

  pub plan_within : p.words ≤ 2 * plan_limit
  plan_within =
      omega (arith, ap (λ (x : Planned). x.words) h, length-replicate {A = ℕ} (2 * plan_limit) 0, plan_fits bytes (replicate file_side_words 0) (replicate file_side_words 0) (replicate file_subject_words 0) zero_code zero_working zero_result)
