-- Demand 3, and what run and watch give for code that passes: they are the paper's machine, whoever compiled the code.
use mathlib.Core.Path.{◌≡◌, sym, ◌∙◌}
use mathlib.Core.Logic.{inl, inr}
use Prim.Native.Nat.{ℕ, ◌≤◌}
use native.Mathlib.Omega.{arith}
use mathlib.Core.Bool.{Bool, true, false, cond}
use mathlib.Core.Option.{some, some-injective}
use mathlib.Core.List.{List, [], ◌∷◌}
use lib.Dec.{T}
use lib.ListN.{length}
use borrow.Author.Tests.{le-leb}
use Rattle.documents.specs.declared.Refusal.TheVariants.{MatchFails}
use Rattle.documents.specs.Limits.{working_words}
use Rattle.documents.specs.Lists.{every, member}
use Rattle.documents.specs.Terms.{Term}
use Rattle.documents.specs.Rules.{freevars}
use Rattle.documents.specs.Instructions.{Program, program_in}
use Rattle.documents.specs.Machine.{Entry, State, state, done, fails, no_step, run, first}
use Rattle.documents.specs.Passing.{obeys, passes}
use Rattle.documents.specs.Numbers.{answered, refused, code_in, result_for}
use Rattle.documents.specs.Calls.{check_call, run_answer, runs, run_call, counts, watch_answer, watches, watch_call}
use Rattle.documents.proofs.Lists.{never, on, T_of}
use Rattle.documents.proofs.Numbers.{unless_is, or_refuse_is}
use Rattle.safety.specs.Finishes.{Finishes}
use Rattle.safety.proofs.NeverStuck.{passing_obeys, obeying_finishes}
use Rattle.safety.proofs.Counts.{Progress, Comes, progress_of_passing, first_counted}
use Rattle.promises.specs.Promises.{Passed}

pub check_passes : (code : List ℕ) → check_call code ≡ 0 → T (passes code)
unfolding check_call
check_passes code e = go (passes code) e
  where
    go : (q : Bool) → ◌≡◌ {A = ℕ} (cond q 0 11) 0 → T q
    go true e = tt
    go false e = absurd (omega arith)

pub passes_check : (code : List ℕ) → T (passes code) → check_call code ≡ 0
unfolding check_call
passes_check code p = rw (on (passes code) p)

pub code_passed : (code : List ℕ) (c : Program) → code_in code ≡ answered c → (check_call code ≡ 0) × (program_in code ≡ some c)
unfolding code_in
code_passed code c e = let a = unless_is (passes code) _ _ c e in (passes_check code (T_of (passes code) a.0), or_refuse_is (program_in code) _ c a.1)

pub passed_reads : (code : List ℕ) → check_call code ≡ 0 → (c : Program) × (program_in code ≡ some c)
passed_reads code e = let o = passing_obeys code (check_passes code e) in (o.0, o.1)

module _ (code subject : List ℕ) (c : Program) (t : Term) (p : Passed code subject c t) where
  pub passed_obeys : T (obeys c)
  passed_obeys =
      let o = passing_obeys code (check_passes code p.checks) in
      rw (some-injective o.0 c (sym o.1 ∙ p.program)) at o.2

  passed_code : code_in code ≡ answered c
  unfolding code_in
  passed_code = rw (on (passes code) (check_passes code p.checks), p.program)

  -- ---- Demand 3

  pub passed_steps : run c t ≡ no_step → ⊥
  passed_steps s = go (obeying_finishes c t passed_obeys)
    where
      go : Finishes c t → ⊥
      go (inl f) = never (cc)
      go (inr (u, env, free, e)) = never (cc)

  pub passed_ends : (run c t ≡ fails → ⊥)
      → (u : Term) × (env : List Entry) × (run c t ≡ done (state [] env (u ∷ []) 0 [])) × T (every (member (freevars t)) (freevars u))
  passed_ends n = go (obeying_finishes c t passed_obeys)
    where
      go : Finishes c t → (u : Term) × (env : List Entry) × (run c t ≡ done (state [] env (u ∷ []) 0 [])) × T (every (member (freevars t)) (freevars u))
      go (inl f) = absurd (n f)
      go (inr (u, env, free, e)) = (u, env, e, free)

  -- ---- Run

  module _ (working result : List ℕ) (room : working_words ≤ length working) where
    pub run_fails_lem : run c t ≡ fails → run_call code subject working result ≡ run_answer working result (refused MatchFails)
    unfolding run_call runs
    run_fails_lem e = rw (le-leb working_words (length working) room, passed_code, p.subjects, e)

    pub run_ends_lem : (u : Term) (env : List Entry) → run c t ≡ done (state [] env (u ∷ []) 0 [])
        → run_call code subject working result ≡ run_answer working result (result_for (length result) u)
    unfolding run_call runs
    run_ends_lem u env e = rw (le-leb working_words (length working) room, passed_code, p.subjects, e)

  -- ---- Watch

  module _ (i : ℕ) where
    pub watch_steps_lem : run (first i c) t ≡ no_step → ⊥
    watch_steps_lem s = let q = progress_of_passing c i passed_obeys in go q.0 (first_counted c t i q.0 passed_obeys q.1)
      where
        go : (q : Progress) → Comes q (run (first i c) t) → ⊥
        go q (inl f) = never (cc)
        go q (inr (τ, e, k)) = never (cc)

    pub watch_fails_lem : run (first i c) t ≡ fails → watch_call code subject i ≡ watch_answer (refused MatchFails)
    unfolding watch_call watches
    watch_fails_lem e = rw (passed_code, p.subjects, e)

    pub watch_ends_lem : (σ : State) → run (first i c) t ≡ done σ → watch_call code subject i ≡ counts t σ
    unfolding watch_call watches
    watch_ends_lem σ e = rw (passed_code, p.subjects, e)
