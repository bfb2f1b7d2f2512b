-- What a run comes to: 01's order of refusals, one law for each way out.
use mathlib.Core.Path.{◌≡◌, sym, ap, ◌∙◌}
use Prim.Native.Nat.{ℕ, suc, ◌+◌, ◌*◌, ◌/◌, ◌≤◌, ◌<◌, min}
use native.Mathlib.Omega.{arith}
use mathlib.Core.Bool.{true}
use mathlib.Core.List.{List, [], ◌∷◌, ◌++◌}
use lib.Dec.{leb-suc-suc}
use lib.ListN.{length, drop}
use lib.Seq.{sets-eq}
use borrow.Author.Tests.{le-leb, lt-leb}
use Rattle.std.specs.Prelude.{Result, Ok, Err}
use Rattle.documents.specs.declared.Refusal.{Refusal}
use Rattle.documents.specs.declared.Refusal.TheVariants.{DoesNotPass, MatchFails, WorkingTableShort}
use Rattle.documents.specs.Terms.{Term}
use Rattle.documents.specs.Tables.{table_of, nodes, depth}
use Rattle.documents.specs.Machine.{Entry, state, done, fails, run, finished}
use Rattle.documents.specs.Passing.{passes}
use Rattle.documents.specs.Numbers.{Answer, answered, refused, or_refuse, with, subject_in, code_in, outcome_of, result_for}
use Rattle.documents.specs.Calls.{at_front, zeros, run_answer, runs, run_call}
use Rattle.documents.proofs.Lists.{never, T_of}
use Rattle.documents.proofs.Tables.{length_table_of}
use Rattle.tables.specs.Parts.{front}
use Rattle.tables.specs.Answers.{sized}
use Rattle.safety.proofs.NeverStuck.{passing_obeys}
use Rattle.checker.specs.Matched.{verdict}
use Rattle.checker.proofs.Matching.{not_passed, verdict_why}
use Rattle.writer.specs.Written.{Wrote}
use Rattle.builder.specs.Weighing.{weighed_for}
use Rattle.builder.proofs.Readied.{program_of}
use Rattle.builder.proofs.Weighing.{weighed_small}
use Rattle.runner.specs.Answers.{given}

-- ---- up to the result

module _ (code subject work result : List ℕ) where
  pub run_short : length work < 8192 → given (Err WorkingTableShort) (zeros work) result ≡ run_call code subject work result
  unfolding run_call runs
  run_short h = rw (lt-leb 8192 (length work) h)

  module _ (l : 8192 ≤ length work) where
    pub run_unchecked : {r : Result (Unit {0}) Refusal} {w : Refusal} → r ≡ verdict (passes code) → r ≡ Err w
        → given (Err w) (zeros work) result ≡ run_call code subject work result
    unfolding run_call runs code_in
    run_unchecked {w = w} e f = rw (verdict_why code e f, le-leb 8192 (length work) l, not_passed (passes code) (sym f ∙ e))

    module _ (p : passes code ≡ true) where
      pub run_refused : {r : Result ℕ Refusal} {w : Refusal} → r ≡ sized (subject_in subject) → r ≡ Err w
          → given (Err w) (zeros work) result ≡ run_call code subject work result
      unfolding run_call runs code_in
      run_refused e f = rw (le-leb 8192 (length work) l, p, (passing_obeys code (T_of _ p)).1) (go (subject_in subject) (sym f ∙ e))
        where
          go : {w : Refusal} (a : Answer Term) → Err w ≡ sized a
              → given (Err w) (zeros work) result
              ≡ run_answer work result (with a (λ t. with (outcome_of (run (program_of code p) t)) (λ σ. with (or_refuse (finished σ) DoesNotPass) (result_for (length result)))))
          go (answered t) e = never (cc)
          go {w} (refused v) e = let z : v ≡ w = cc in rw z

      module _ (a : subject_in subject ≡ answered (front subject)) where
        runs_are : run_call code subject work result
            ≡ run_answer work result (with (outcome_of (run (program_of code p) (front subject))) (λ σ. with (or_refuse (finished σ) DoesNotPass) (result_for (length result))))
        unfolding run_call runs code_in
        runs_are = rw (le-leb 8192 (length work) l, p, (passing_obeys code (T_of _ p)).1, a)

        pub run_fails_lem : run (program_of code p) (front subject) ≡ fails → given (Err MatchFails) (zeros work) result ≡ run_call code subject work result
        run_fails_lem e = sym (runs_are ∙ rw e)

        pub run_makes : (env : List Entry) (u : Term) → run (program_of code p) (front subject) ≡ done (state [] env (u ∷ []) 0 [])
            → run_answer work result (result_for (length result) u) ≡ run_call code subject work result
        run_makes env u e = sym (runs_are ∙ rw e)

-- ---- the result: weighed at the root, with all the room that the result table has

weighed_result : (room : ℕ) (u : Term) → weighed_for (min 4096 (room / 2)) 1 u ≡ result_for room u
unfolding weighed_for result_for
weighed_result room u = let n : 1 + depth u ≡ suc (depth u) = omega arith in rw (n, leb-suc-suc (depth u) 64)

module _ (work result : List ℕ) (u : Term) where
  pub result_refused : (w : Refusal) → weighed_for (min 4096 (length result / 2)) 1 u ≡ refused w
      → given (Err w) (zeros work) result ≡ run_answer work result (result_for (length result) u)
  result_refused w e = ap (run_answer work result) (sym e ∙ weighed_result (length result) u)

  pub result_written : {result' : List ℕ} → weighed_for (min 4096 (length result / 2)) 1 u ≡ answered (table_of u) → Wrote result result' 0 (2 * nodes u) (table_of u)
      → given (Ok (2 * nodes u)) (zeros work) result' ≡ run_answer work result (result_for (length result) u)
  result_written {result'} e w =
      told_so (2 * nodes u) (length (table_of u)) result' (at_front result (table_of u)) (sym (length_table_of u)) (w.behind ∙ sym placed)
      ∙ ap (run_answer work result) (sym e ∙ weighed_result (length result) u)
    where
      told_so : (m n : ℕ) (d e : List ℕ) → m ≡ n → d ≡ e → given (Ok m) (zeros work) d ≡ given (Ok n) (zeros work) e
      told_so m n d e p q = rw (p, q)

      size : 0 + length (table_of u) ≡ 2 * nodes u
      size = let l = length_table_of u in omega arith

      placed : at_front result (table_of u) ≡ table_of u ++ drop (2 * nodes u) result
      placed =
          sets-eq (table_of u) result 0 (let l = size in let h = weighed_small (min 4096 (length result / 2)) 1 u (table_of u) e in omega arith)
          ∙ ap (λ (k : ℕ). table_of u ++ drop k result) size
