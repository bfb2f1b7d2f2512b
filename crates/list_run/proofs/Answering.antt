-- What a list run comes to: request 1's order of refusals, one law for each way out.
use mathlib.Core.Path.{◌≡◌, refl, sym, ap, ◌∙◌}
use Prim.Native.Nat.{ℕ, ◌/◌, ◌≤◌, ◌<◌, min}
use mathlib.Core.Bool.{true, false, and-false}
use mathlib.Core.List.{List, [], ◌∷◌}
use lib.Dec.{leb}
use lib.ListN.{length, replicate}
use borrow.Author.Tests.{le-leb, lt-leb}
use Rattle.std.specs.Prelude.{Result, Err}
use Rattle.documents.specs.declared.Refusal.{Refusal}
use Rattle.documents.specs.declared.Refusal.TheVariants.{ListTooLong, WorkingTableShort}
use Rattle.documents.specs.Limits.{plan_limit}
use Rattle.documents.specs.Terms.{Term}
use Rattle.documents.specs.Instructions.{Program}
use Rattle.documents.specs.Numbers.{Answer, answered, refused, with, subject_in, result_for}
use Rattle.documents.specs.Calls.{zeros}
use Rattle.documents.proofs.Lists.{never}
use Rattle.tables.specs.Parts.{front}
use Rattle.tables.specs.Answers.{sized}
use Rattle.rewriting.specs.Rewrites.{plans}
use Rattle.rewriting.specs.RuleTable.{listed, rules_in}
use Rattle.rewriting.specs.ListCall.{rule_limit, plans_for, Rewritten, rewritten, rewrites, list_runs, list_answer, list_call}
use Rattle.list_run.specs.declared.Ended.{Ended}
use Rattle.list_run.specs.Answers.{given, Applied}

-- ---- 37, 16, 11, and the subject's refusals

module _ (rules subject : List ℕ) (number : ℕ) (work result : List ℕ) where
  pub list_many : 1000 < number → given (Err ListTooLong) (zeros work) result ≡ list_call rules subject number work result
  unfolding list_call list_runs
  list_many h = rw (lt-leb number 1000 h, and-false (leb (length (listed rules)) rule_limit))

  pub list_over : leb (length (listed rules)) rule_limit ≡ false → given (Err ListTooLong) (zeros work) result ≡ list_call rules subject number work result
  unfolding list_call list_runs
  list_over e = rw e

  module _ (few : leb (length (listed rules)) rule_limit ≡ true) (allowed : number ≤ 1000) where
    pub list_short : length work < 16384 → given (Err WorkingTableShort) (zeros work) result ≡ list_call rules subject number work result
    unfolding list_call list_runs
    list_short h = rw (few, le-leb number 1000 allowed, lt-leb 16384 (length work) h)

    module _ (long : 16384 ≤ length work) where
      pub list_bad : {w : Refusal} → rules_in rules ≡ refused w → given (Err w) (zeros work) result ≡ list_call rules subject number work result
      unfolding list_call list_runs
      list_bad e = rw (few, le-leb number 1000 allowed, le-leb 16384 (length work) long, e)

      module _ {cs : List Program} (good : rules_in rules ≡ answered cs) where
        pub list_refused : {r : Result ℕ Refusal} {w : Refusal} → r ≡ sized (subject_in subject) → r ≡ Err w
            → given (Err w) (zeros work) result ≡ list_call rules subject number work result
        unfolding list_call list_runs
        list_refused e f = rw (few, le-leb number 1000 allowed, le-leb 16384 (length work) long, good) (go (subject_in subject) (sym f ∙ e))
          where
            go : {w : Refusal} (a : Answer Term) → Err w ≡ sized a
                → given (Err w) (zeros work) result ≡ list_answer work result (with a (λ t. rewrites cs t number (length result)))
            go (answered t) e = never (cc)
            go {w} (refused v) e = let z : v ≡ w = cc in rw z

        pub list_is : subject_in subject ≡ answered (front subject)
            → list_call rules subject number work result ≡ list_answer work result (rewrites cs (front subject) number (length result))
        unfolding list_call list_runs
        list_is a = rw (few, le-leb number 1000 allowed, le-leb 16384 (length work) long, good, a)

-- ---- The working table holds anything, and is cleared

zeros_same : (a b : List ℕ) → length b ≡ length a → zeros b ≡ zeros a
zeros_same a b e = ap (λ (n : ℕ). replicate n 0) e

call_same : (rules subject : List ℕ) (number : ℕ) (work mid result : List ℕ) → length mid ≡ length work
    → list_call rules subject number mid result ≡ list_call rules subject number work result
unfolding list_call
call_same rules subject number work mid result e =
    go (list_runs rules subject number (length mid) (length result)) ∙ ap (λ (n : ℕ). list_answer work result (list_runs rules subject number n (length result))) e
  where
    go : (a : Answer Rewritten) → list_answer mid result a ≡ list_answer work result a
    go (answered (rewritten ws n q)) = rw e
    go (refused w) = rw e

module _ {rules subject : List ℕ} {number : ℕ} {work work' result result' : List ℕ} {r : Result Ended Refusal} where
  -- what is said of a call is said of it with other contents of the working table
  pub applied_before : {mid : List ℕ} → length mid ≡ length work → Applied rules subject number mid work' result result' r → Applied rules subject number work work' result result' r
  applied_before {mid} e a = record {
    long = a.long ∙ e;
    says = ap (λ (l : List ℕ). given r l result') (sym (zeros_same work mid e)) ∙ (a.says ∙ call_same rules subject number work mid result e);
  }

  -- and the working table then cleared
  pub applied_cleared : {cleared : List ℕ} → Applied rules subject number work work' result result' r → cleared ≡ zeros work'
      → given r cleared result' ≡ list_call rules subject number work result
  applied_cleared a e = ap (λ (l : List ℕ). given r l result') (e ∙ zeros_same work work' a.long) ∙ a.says

-- ---- The room that a result table gives: two tables with room for as many nodes refuse the same plans

module _ (a b : ℕ) (e : min plan_limit (a / 2) ≡ min plan_limit (b / 2)) where
  pub result_room : (t : Term) → result_for a t ≡ result_for b t
  unfolding result_for
  result_room t = rw e

  plans_room : (ts : List Term) → plans_for a ts ≡ plans_for b ts
  plans_room [] = refl
  plans_room (t ∷ []) = result_room t
  plans_room (t ∷ u ∷ us) = rw (result_room t, plans_room (u ∷ us))

  pub rewrites_room : (cs : List Program) (t : Term) (number : ℕ) → rewrites cs t number a ≡ rewrites cs t number b
  unfolding rewrites
  rewrites_room cs t number = rw (plans_room (plans cs number t))
