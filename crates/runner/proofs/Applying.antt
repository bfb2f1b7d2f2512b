-- Before the build part: the refusals that are due, and what the check, the survey and the match part leave to the rest.
use mathlib.Core.Path.{◌≡◌, refl, sym, ap, ◌∙◌}
use Prim.Native.Nat.{ℕ, ◌-◌, ◌≤◌}
use native.Mathlib.Omega.{arith}
use mathlib.Core.Bool.{true}
use mathlib.Core.List.{List, [], ◌++◌, append-nil}
use lib.ListN.{length, take, drop, replicate, length-drop}
use lib.Seq.{length-take-le, drop_at, drop-length}
use Rattle.std.specs.Prelude.{Result, Ok, Err}
use Rattle.documents.specs.declared.Refusal.{Refusal}
use Rattle.documents.specs.Passing.{passes}
use Rattle.documents.specs.Numbers.{Answer, answered, refused}
use Rattle.documents.specs.Calls.{zeros, run_answer, runs, run_call}
use Rattle.documents.proofs.Lists.{T_of}
use Rattle.tables.proofs.Accepted.{subject_there}
use Rattle.safety.proofs.NeverStuck.{passing_obeys}
use Rattle.survey.specs.Places.{Surveyed}
use Rattle.matcher.specs.declared.Matched.{Matched}
use Rattle.matcher.specs.Ready.{ComesTo, Comes}
use Rattle.builder.specs.Weighing.{Begun, Building}
use Rattle.builder.proofs.Readied.{program_of}
use Rattle.runner.specs.Answers.{given, Applied}
use Rattle.runner.proofs.Answering.{run_fails_lem}

-- ---- Tables of one length

zeros_same : (work work' : List ℕ) → length work' ≡ length work → zeros work' ≡ zeros work
zeros_same work work' e = ap (λ (n : ℕ). replicate n 0) e

call_same : (code subject work work' result : List ℕ) → length work' ≡ length work → run_call code subject work' result ≡ run_call code subject work result
unfolding run_call
call_same code subject work work' result e = go (runs code subject (length work') (length result)) ∙ ap (λ (n : ℕ). run_answer work result (runs code subject n (length result))) e
  where
    go : (a : Answer (List ℕ)) → run_answer work' result a ≡ run_answer work result a
    go (answered ws) = rw e
    go (refused w) = rw e

module _ {code subject work work' result result' : List ℕ} {r : Result ℕ Refusal} where
  -- what is said of a call is said of it with other contents of the working table
  pub applied_before : {mid : List ℕ} → length mid ≡ length work → Applied code subject mid work' result result' r → Applied code subject work work' result result' r
  applied_before {mid} e a = record {
    long = a.long ∙ e;
    says = ap (λ (l : List ℕ). given r l result') (sym (zeros_same work mid e)) ∙ (a.says ∙ call_same code subject work mid result e);
  }

  -- and the working table then cleared
  pub applied_cleared : {cleared : List ℕ} → Applied code subject work work' result result' r → cleared ≡ zeros work' → given r cleared result' ≡ run_call code subject work result
  applied_cleared a e = ap (λ (l : List ℕ). given r l result') (e ∙ zeros_same work work' a.long) ∙ a.says

-- ---- After the survey

module _ (code subject work places : List ℕ) where
  -- the places in the working table, from 4,096 on
  abbrev pub surveyed : List ℕ
  surveyed = take 4096 work ++ (places ++ drop (length work - 4096) (drop 4096 work))

  places_there : 8192 ≤ length work → drop 4096 surveyed ≡ places
  places_there h =
      let none : drop (length work - 4096) (drop 4096 work) ≡ [] = ap (λ (k : ℕ). drop k (drop 4096 work)) (sym (length-drop 4096 work)) ∙ drop-length (drop 4096 work) in
      drop_at (take 4096 work) (places ++ drop (length work - 4096) (drop 4096 work)) 4096 (length-take-le 4096 work (omega arith))
      ∙ (ap (λ (l : List ℕ). places ++ l) none ∙ append-nil places)

  pub begun_from : {r : Result ℕ Refusal} {n : ℕ} → 8192 ≤ length work → length surveyed ≡ length work → passes code ≡ true → Surveyed subject places r → r ≡ Ok n
      → Begun code subject surveyed
  begun_from {r} {n} h l p s e =
      let a = subject_there subject s.size e in
      record {
        long = omega arith;
        passed = p;
        accepted = a.0;
        places = ap (λ (k : ℕ). take k (drop 4096 surveyed)) (sym a.1) ∙ (ap (λ (l : List ℕ). take n l) (places_there h) ∙ s.table n e);
      }

-- ---- After the match part

module _ {code subject work : List ℕ} (b : Begun code subject work) {entries : List ℕ} {r : Result Matched Refusal} (c : Comes code subject entries r) where
  comes_to : ComesTo code subject entries (program_of code b.passed) r
  comes_to = c.means (program_of code b.passed) (passing_obeys code (T_of _ b.passed)).1

  pub match_fails : {result : List ℕ} {w : Refusal} → r ≡ Err w → Applied code subject work work result result (Err w)
  match_fails {result} {w} e =
      let k : ComesTo code subject entries (program_of code b.passed) (Err w) = rw e at comes_to in
      record { long = refl; says = rw k.0 (run_fails_lem code subject work result b.long b.passed b.accepted k.1) }

  module _ {matched : Matched} (e : r ≡ Ok matched) where
    pub entries_few : matched.entries ≤ 16
    entries_few = let k : ComesTo code subject entries (program_of code b.passed) (Ok matched) = rw e at comes_to in k.0.few

    -- the part of the table that is lent has as many words as there are entries
    pub entries_lent : length entries ≡ 16 → matched.entries ≡ length (take matched.entries entries)
    entries_lent l = let w = entries_few in sym (length-take-le matched.entries entries (omega arith))

    pub building_from : length entries ≡ 16 → Building code matched.build subject (take matched.entries entries) work
    building_from l = record {
      begun = b;
      table = entries;
      made = matched.entries;
      enough = l;
      these = refl;
      ready = λ d p. let k : ComesTo code subject entries d (Ok matched) = rw e at (c.means d p) in k.0;
    }
