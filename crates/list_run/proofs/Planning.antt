-- The subject as the first plan, and the last plan in the result table. Of 13, 14, 15 an accepted subject can break only the first, and the room that counts is
-- that of the result table.
use mathlib.Core.Path.{◌≡◌, refl, sym, ap, ◌∙◌}
use Prim.Native.Nat.{ℕ, ◌+◌, ◌*◌, ◌/◌, ◌≤◌, ◌<◌, min}
use native.Mathlib.Omega.{arith}
use mathlib.Core.Bool.{true}
use mathlib.Core.List.{List, ◌++◌}
use lib.Dec.{leb}
use lib.ListN.{length, take, drop, replicate}
use lib.Seq.{sets-eq, take_at, length-take-le}
use borrow.Author.Tests.{lt-leb}
use Rattle.std.specs.Prelude.{Result, Ok, Err}
use Rattle.documents.specs.declared.Refusal.{Refusal}
use Rattle.documents.specs.declared.Refusal.TheVariants.{ResultTooLarge}
use Rattle.documents.specs.Limits.{plan_limit}
use Rattle.documents.specs.Terms.{Term}
use Rattle.documents.specs.Tables.{nodes}
use Rattle.documents.specs.Instructions.{Program}
use Rattle.documents.specs.Numbers.{refused, subject_in, result_for}
use Rattle.documents.specs.Calls.{at_front, zeros}
use Rattle.documents.proofs.Numbers.{Held, subject_in_held}
use Rattle.tables.specs.Parts.{front}
use Rattle.tables.specs.Answers.{sized}
use Rattle.tables.proofs.Accepted.{subject_there}
use Rattle.matcher.proofs.Parts.{whole_length}
use Rattle.rewriting.specs.RuleTable.{listed}
use Rattle.rewriting.specs.ListCall.{rule_limit, rewrites, list_answer, list_call}
use Rattle.rewriting.proofs.Sequence.{rewrites_breaks}
use Rattle.rewriting.proofs.Splicing.{within_result}
use Rattle.rule_table.specs.Places.{Places, LaidAs}
use Rattle.dispatch.specs.Sorted.{Sorted}
use Rattle.rewriter.specs.Replaces.{plan_in}
use Rattle.rewriter.proofs.NextPlan.{fits_low}
use Rattle.list_run.specs.declared.Ended.{Ended}
use Rattle.list_run.specs.Answers.{given, Applied, Begun, Accepted, Turning, TurnedAs, Turns}
use Rattle.list_run.proofs.Answering.{list_bad, list_refused, list_is, rewrites_room}

-- ---- The rules

module _ (rules starts : List ℕ) {r : Result ℕ Refusal} (l : LaidAs rules starts r) where
  laid_is : (x : Result ℕ Refusal) → r ≡ x → LaidAs rules starts x
  laid_is x e = rw e at l

  pub laid_inside : {n : ℕ} → r ≡ Ok n → n ≤ length starts
  laid_inside {n} e = (laid_is (Ok n) e).2

  pub begun_from : {n number : ℕ} {work : List ℕ} → r ≡ Ok n → leb (length (listed rules)) rule_limit ≡ true → number ≤ 1000 → 16384 ≤ length work
      → (cs : List Program) × Begun rules (take n starts) number work cs
  begun_from {n} e f a w = let k = laid_is (Ok n) e in (k.0, record { few = f; allowed = a; long = w; good = k.1; places = k.3 })

  pub bad_rule : {subject : List ℕ} {number : ℕ} {work result : List ℕ} {w : Refusal} → r ≡ Err w → leb (length (listed rules)) rule_limit ≡ true → number ≤ 1000
      → 16384 ≤ length work → Applied rules subject number work work result result (Err w)
  bad_rule {subject} {number} {work} {result} {w} e f a h = record { long = refl; says = list_bad rules subject number work result f a h (laid_is (Err w) e) }

-- ---- The subject

module _ {rules starts : List ℕ} {number : ℕ} {work : List ℕ} (p : (cs : List Program) × Begun rules starts number work cs) {subject : List ℕ} {r : Result ℕ Refusal} (s : r ≡ sized (subject_in subject)) where
  pub accepted_from : {n : ℕ} {work' : List ℕ} → r ≡ Ok n → length work' ≡ length work → (cs : List Program) × Accepted rules starts subject number work' cs
  accepted_from e l =
      let b = p.1 in (
        p.0,
        record {
          begun = record { few = b.few; allowed = b.allowed; long = let h = b.long in omega arith; good = b.good; places = b.places };
          accepted = (subject_there subject s e).0;
        },
      )

  pub unfit : {work' result : List ℕ} {w : Refusal} → r ≡ Err w → length work' ≡ length work → Applied rules subject number work work' result result (Err w)
  unfit {result = result} e l =
      let b = p.1 in
      record { long = l; says = list_refused rules subject number work result b.few b.allowed b.long b.good s e }

-- ---- The plans

module _ {rules starts subject : List ℕ} {number : ℕ} {work : List ℕ} (p : (cs : List Program) × Accepted rules starts subject number work cs) where
  held : Held plan_limit subject (front subject)
  held = (subject_in_held subject (front subject) p.1.accepted).0

  words_are : 2 * nodes (front subject) ≡ length subject
  words_are = whole_length subject p.1.accepted

  pub subject_few : length subject ≤ 8192
  subject_few = let h = held.small in let w = words_are in omega arith

  module _ (result : List ℕ) where
    -- the call comes to what the rewriting comes to
    comes_to : list_call rules subject number work result ≡ list_answer work result (rewrites p.0 (front subject) number (length result))
    comes_to =
        let b = p.1.begun in
        list_is rules subject number work result b.few b.allowed b.long b.good p.1.accepted

    module _ {most : ℕ} (m : most ≡ min 4096 (length result / 2)) where
      large : most < length subject / 2 → result_for (length result) (front subject) ≡ refused ResultTooLarge
      unfolding result_for
      large h = rw (lt-leb (nodes (front subject)) (min 4096 (length result / 2)) (let w = words_are in omega arith))

      -- 13 of the subject
      pub subject_large : most < length subject / 2 → Applied rules subject number work work result result (Err ResultTooLarge)
      subject_large h = record {
        long = refl;
        says = sym (comes_to ∙ ap (list_answer work result) (rewrites_breaks p.0 (length result) number (front subject) ResultTooLarge (large h)));
      }

      -- the subject at the front of a table
      module _ {plan : List ℕ} (c : plan ≡ subject ++ drop (length subject) (replicate 8192 0)) where
        front_is : take (length subject) plan ≡ subject
        front_is = ap (take (length subject)) c ∙ take_at subject (drop (length subject) (replicate 8192 0)) (length subject) refl

        plan_is : plan_in plan (length subject) ≡ front subject
        plan_is = ap front front_is

        turning : length subject / 2 ≤ most → length plan ≡ 8192 → {roots seconds : List ℕ} → Sorted p.0 roots seconds
            → Turning rules starts roots seconds plan (length subject) most work p.0
        turning h l s = record {
          places = p.1.begun.places;
          sorted = s;
          table_long = l;
          work_long = p.1.begun.long;
          inside = subject_few;
          few = omega arith;
          accepted = rw (front_is) p.1.accepted;
          keeps = rw plan_is (within_result (2 * most) (front subject) (record {
            small = let w = words_are in omega arith;
            shallow = held.shallow;
            low = fits_low (front subject) held.fits;
          }));
        }

        pub may_turn : length subject / 2 ≤ most → length plan ≡ 8192 → {roots seconds : List ℕ} → ((cs : List Program) → Places rules starts cs → Sorted cs roots seconds)
            → ((cs : List Program) × Turning rules starts roots seconds plan (length subject) most work cs) × (number ≤ 1000)
        may_turn h l s = ((p.0, turning h l (s p.0 p.1.begun.places)), p.1.begun.allowed)

        module _ (h : length subject / 2 ≤ most) (l : length plan ≡ 8192) {roots seconds plan' work' : List ℕ} {words' : ℕ} (s : (cs : List Program) → Places rules starts cs → Sorted cs roots seconds)
            {r : Result Ended Refusal} (t : Turns rules starts roots seconds plan plan' (length subject) words' number most work work' r) where
          -- what the loop says, of the subject and the result table
          turned_as : (x : Result Ended Refusal) → r ≡ x → TurnedAs plan (length subject) number most plan' words' p.0 x
          turned_as x e = let k = t.says p.0 (turning h l (s p.0 p.1.begun.places)) in rw e at k

          same_room : rewrites p.0 (plan_in plan (length subject)) number (2 * most) ≡ rewrites p.0 (front subject) number (length result)
          same_room =
              ap (λ (u : Term). rewrites p.0 u number (2 * most)) plan_is
              ∙ rewrites_room (2 * most) (length result) (omega arith) p.0 (front subject) number

          pub turned_refused : {w : Refusal} → r ≡ Err w → Applied rules subject number work work' result result r
          turned_refused {w} e = rw e (record {
            long = t.work_stays;
            says = sym (comes_to ∙ ap (list_answer work result) (sym same_room ∙ turned_as (Err w) e));
          })

          module _ {ended : Ended} (e : r ≡ Ok ended) where
            last : TurnedAs plan (length subject) number most plan' words' p.0 (Ok ended)
            last = turned_as (Ok ended) e

            -- the part that is lent has the plan's words
            pub last_length : length (take words' plan') ≡ words'
            last_length = let f = last.0 in let n = last.1 in let y = t.table_stays in length-take-le words' plan' (omega arith)

            pub last_fits : length (take words' plan') ≤ length result
            last_fits = let f = last.0 in let n = last.1 in let y = last_length in omega arith

            pub turned_plan : {result' : List ℕ} → result' ≡ take words' plan' ++ drop (length (take words' plan')) result
                → Applied rules subject number work work' result result' (Ok ended)
            turned_plan {result'} c = record {
              long = t.work_stays;
              says = told_so ended.words (length (take words' plan')) result' (at_front result (take words' plan')) (last.1 ∙ sym last_length) (c ∙ sym put)
                  ∙ sym (comes_to ∙ ap (list_answer work result) (sym same_room ∙ last.2));
            }
              where
                told_so : (a b : ℕ) (d e : List ℕ) → a ≡ b → d ≡ e
                    → given (Ok (record { words = a; rewrites = ended.rewrites; normal = ended.normal })) (zeros work) d
                    ≡ given (Ok (record { words = b; rewrites = ended.rewrites; normal = ended.normal })) (zeros work) e
                told_so a b d e x y = rw (x, y)

                zero_more : 0 + length (take words' plan') ≡ length (take words' plan')
                zero_more = omega arith

                put : at_front result (take words' plan') ≡ take words' plan' ++ drop (length (take words' plan')) result
                put = sets-eq (take words' plan') result 0 (let f = last_fits in omega arith) ∙ ap (λ (i : ℕ). take words' plan' ++ drop i result) zero_more
