-- The words that a call counts stand in the table that was lent for them.
use mathlib.Core.Path.{◌≡◌, refl, ap}
use Prim.Native.Nat.{ℕ, ◌/◌, ◌≤◌, min}
use native.Mathlib.Omega.{arith}
use mathlib.Core.Option.{Option, none, some}
use mathlib.Core.List.{List}
use lib.Dec.{leb}
use lib.ListN.{length}
use borrow.Author.Tests.{leb-true}
use Rattle.documents.specs.declared.Refusal.TheVariants.{DoesNotPass, BadFile}
use Rattle.documents.specs.Limits.{plan_limit, working_words, depth_limit, index_limit}
use Rattle.documents.specs.Tables.{nodes, table_of, depth, indices}
use Rattle.documents.specs.Instructions.{words}
use Rattle.documents.specs.Translation.{compile}
use Rattle.documents.specs.Machine.{run, finished}
use Rattle.documents.specs.Lists.{every}
use Rattle.documents.specs.Terms.{Term}
use Rattle.documents.specs.Numbers.{Answer, answered, refused, with, or_refuse, Rule, rule, rule_in, code_for, code_in, subject_in, outcome_of, result_for}
use Rattle.documents.specs.Calls.{File, file, file_in, read_answer, read_call, compile_answer, compile_call, run_answer, runs, run_call}
use Rattle.documents.proofs.Numbers.{unless_is, with_is}
use Rattle.documents.proofs.Tables.{length_table_of}
use Rattle.reader.proofs.Sections.{tables}

-- ---- Read

module _ (bytes left right subject : List ℕ) where
  abbrev Fit : File → Type 0
  Fit (file l r s) = (length l ≤ length left) × (length r ≤ length right) × (length s ≤ length subject)

  file_fits : (l r s : List ℕ) → file_in (length left) (length right) (length subject) bytes ≡ some (file l r s) → Fit (file l r s)
  file_fits l r s e =
      let t = tables (length left) (length right) (length subject) bytes (length l) (length r) (length s) _ _ refl refl (rw e) in
      (t.left_holds.fits, t.right_holds.fits, t.subject_holds.fits)

  pub read_fits : ((read_call bytes left right subject).left_words ≤ length left) × ((read_call bytes left right subject).right_words ≤ length right) × ((read_call bytes left right subject).subject_words ≤ length subject)
  unfolding read_call
  read_fits = go (file_in (length left) (length right) (length subject) bytes) refl
    where
      go : (o : Option File) → file_in (length left) (length right) (length subject) bytes ≡ o
          → let a = read_answer left right subject (or_refuse o BadFile) in (a.left_words ≤ length left) × (a.right_words ≤ length right) × (a.subject_words ≤ length subject)
      go none e = (omega arith, omega arith, omega arith)
      go (some (file l r s)) e = file_fits l r s e

-- ---- Compile

code_fits : (room : ℕ) (r : Rule) (ws : List ℕ) → code_for room r ≡ answered ws → length ws ≤ room
code_fits room (rule l r) ws e =
    let u = unless_is (leb (length (words (compile l r))) room) _ _ ws e in
    let q : words (compile l r) ≡ ws = cc u.1 in
    rw q at (leb-true (length (words (compile l r))) room u.0)

pub compile_fits : (left right code : List ℕ) → (compile_call left right code).words ≤ length code
unfolding compile_call
compile_fits left right code = go (rule_in left right)
  where
    answer : (a : Answer (List ℕ)) → ((ws : List ℕ) → a ≡ answered ws → length ws ≤ length code) → (compile_answer code a).words ≤ length code
    answer (answered ws) h = h ws refl
    answer (refused r) h = omega arith

    go : (a : Answer Rule) → (compile_answer code (with a (code_for (length code)))).words ≤ length code
    go (answered r) = answer (code_for (length code) r) (code_fits (length code) r)
    go (refused r) = omega arith

-- ---- Run

result_fits : (room : ℕ) (t : Term) (ws : List ℕ) → result_for room t ≡ answered ws → length ws ≤ room
unfolding result_for
result_fits room t ws e =
    let u = unless_is (leb (nodes t) (min plan_limit (room / 2))) _ _ ws e in
    let v = unless_is (leb (depth t) depth_limit) _ _ ws u.1 in
    let w = unless_is (every (λ x. leb x index_limit) (indices t)) _ _ ws v.1 in
    let q : table_of t ≡ ws = cc w.1 in
    omega (arith, leb-true (nodes t) (min plan_limit (room / 2)) u.0, length_table_of t, ap (λ (l : List ℕ). length l) q)

runs_fit : (code subject : List ℕ) (working room : ℕ) (ws : List ℕ) → runs code subject working room ≡ answered ws → length ws ≤ room
unfolding runs
runs_fit code subject working room ws e =
    let a = unless_is (leb working_words working) _ _ ws e in
    let b = with_is (code_in code) _ ws a.1 in
    let c = with_is (subject_in subject) _ ws b.2 in
    let d = with_is (outcome_of (run b.0 c.0)) _ ws c.2 in
    let f = with_is (or_refuse (finished d.0) DoesNotPass) _ ws d.2 in
    result_fits room f.0 ws f.2

pub run_fits : (code subject working result : List ℕ) → (run_call code subject working result).words ≤ length result
unfolding run_call
run_fits code subject working result = go (runs code subject (length working) (length result)) (runs_fit code subject (length working) (length result))
  where
    go : (a : Answer (List ℕ)) → ((ws : List ℕ) → a ≡ answered ws → length ws ≤ length result) → (run_answer working result a).words ≤ length result
    go (answered ws) h = h ws refl
    go (refused r) h = omega arith
