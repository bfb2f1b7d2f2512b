-- What a run that is done leaves is an accepted subject again. It keeps the limits, since 13, 14 and 15 were not due; no name, count or metavariable
-- comes in that a table cannot hold, since the code has passed (safety/proofs/Named); and the words at the front of the result table are its table.
use mathlib.Core.Path.{◌≡◌, refl, sym, ap, ◌∙◌}
use Prim.Native.Nat.{ℕ, ◌+◌, ◌≤◌}
use native.Mathlib.Omega.{arith}
use mathlib.Core.List.{List, [], ◌∷◌}
use lib.Dec.{leb}
use lib.ListN.{length, take, drop}
use lib.Seq.{sets-eq, take_at}
use borrow.Author.Tests.{leb-true}
use Rattle.documents.specs.Limits.{working_words}
use Rattle.documents.specs.Terms.{Term}
use Rattle.documents.specs.Instructions.{Program}
use Rattle.documents.specs.Machine.{Entry, state, done, run, made}
use Rattle.documents.specs.Numbers.{Answer, answered, refused, subject_in, code_in, result_for}
use Rattle.documents.specs.Calls.{at_front, RunAnswer, run_answer, runs, run_call}
use Rattle.documents.proofs.Numbers.{unless_is, with_is}
use Rattle.documents.proofs.Tables.{length_table_of}
use Rattle.safety.proofs.Named.{Named, made_named}
use Rattle.rewriting.proofs.Splicing.{result_within}
use Rattle.rewriting.proofs.Kept.{subject_named, named_subject}
use Rattle.promises.specs.Promises.{Passed}
use Rattle.promises.proofs.Refused.{not_done_lem}
use Rattle.promises.proofs.Passed.{code_passed, passed_obeys, passed_ends, run_fails_lem, run_ends_lem}

-- words that were put at the front are taken off it again
front_taken : (old ws : List ℕ) → length ws ≤ length old → take (length ws) (at_front old ws) ≡ ws
front_taken old ws h = rw (sets-eq ws old 0 (omega arith)) (take_at ws (drop (0 + length ws) old) (length ws) refl)

-- the words of a result that keeps the limits
pub left_again : (result : List ℕ) (u : Term) (ws : List ℕ) → Named u → result_for (length result) u ≡ answered ws
    → subject_in (take (length ws) (at_front result ws)) ≡ answered u
left_again result u ws n e =
    let h = result_within (length result) u ws e in
    let s = h.0.small in
    ap subject_in (front_taken result ws (omega (arith, ap length h.1, length_table_of u)) ∙ h.1) ∙ named_subject (length result) u ws n e

not_refused : (working result : List ℕ) (a : Answer (List ℕ)) → (run_answer working result a).number ≡ 0 → (ws : List ℕ) × (a ≡ answered ws)
not_refused working result (answered ws) e = (ws, refl)
not_refused working result (refused r) e = absurd (omega (arith, not_done_lem r))

module _ (code subject working result : List ℕ) where
  -- the working table was long enough, the code passed, the subject was accepted
  asked : (run_call code subject working result).number ≡ 0
      → (working_words ≤ length working) × (c : Program) × (t : Term) × (code_in code ≡ answered c) × (subject_in subject ≡ answered t)
  unfolding run_call runs
  asked z =
      let (ws, e) = not_refused working result _ z in
      let a = unless_is (leb working_words (length working)) _ _ ws e in
      let b = with_is (code_in code) _ ws a.1 in
      let d = with_is (subject_in subject) _ ws b.2 in
      (leb-true working_words (length working) a.0, b.0, d.0, b.1, d.1)

  pub run_given_lem : (run_call code subject working result).number ≡ 0 → (c : Program) × (t : Term) × Passed code subject c t
  run_given_lem z =
      let a = asked z in
      let p = code_passed code a.1 a.3 in
      (a.1, a.2, record { checks = p.0; program = p.1; subjects = a.4 })

  pub run_again : (c : Program) (t : Term) → Passed code subject c t → (run_call code subject working result).number ≡ 0
      → (u : Term) × (env : List Entry) × (run c t ≡ done (state [] env (u ∷ []) 0 []))
      × (subject_in (take (run_call code subject working result).words (run_call code subject working result).result) ≡ answered u)
  run_again c t p z =
      let room = (asked z).0 in
      let (u, env, e, f) = passed_ends code subject c t p
      (λ f. let q = ap (λ (a : RunAnswer). a.number) (run_fails_lem code subject c t p working result room f) in absurd (omega arith)) in
      let q = run_ends_lem code subject c t p working result room u env e in
      let (ws, r) = not_refused working result (result_for (length result) u) (sym (ap (λ (a : RunAnswer). a.number) q) ∙ z) in
      let whole : run_call code subject working result ≡ run_answer working result (answered ws) = q ∙ ap (run_answer working result) r in
      let n = made_named c t u (passed_obeys code subject c t p) (subject_named subject t p.subjects) (ap made e) in
      (u, env, e, ap (λ (a : RunAnswer). subject_in (take a.words a.result)) whole ∙ left_again result u ws n r)
