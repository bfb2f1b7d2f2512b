-- Request 1's order: the number of the call is the first that is due. The rules' refusals come first, one rule after the other, then the subject's,
-- then those of each plan of the sequence; 12 is in no list of what may be due.
use mathlib.Core.Path.{◌≡◌, refl, sym, ap, ◌∙◌}
use Prim.Native.Nat.{ℕ}
use mathlib.Core.Bool.{Bool, true, false, not, ◌&&◌, ◌||◌, cond}
use mathlib.Core.Option.{Option, none, some}
use mathlib.Core.List.{List, [], ◌∷◌, ◌++◌}
use lib.Dec.{eqb, leb}
use lib.ListN.{length}
use Rattle.documents.specs.declared.Refusal.TheVariants.{WorkingTableShort, ListTooLong}
use Rattle.documents.specs.Lists.{every}
use Rattle.documents.specs.Terms.{Term}
use Rattle.documents.specs.Tables.{term_in}
use Rattle.documents.specs.Instructions.{Program}
use Rattle.documents.specs.Numbers.{number_of, Answer, answered, refused, with, code_in, subject_in, result_for}
use Rattle.documents.proofs.Lists.{never, both_true, every_append}
use Rattle.rewriting.specs.Rewrites.{plans}
use Rattle.rewriting.specs.RuleTable.{Listed, whole, cut, listed, all_in, rules_in}
use Rattle.rewriting.specs.ListCall.{rule_limit, rewrite_limit, list_working_words, plans_for, Rewritten, rewritten, rewrites, list_runs, list_answer, list_call}
use Rattle.promises.specs.Order.{Due, due, first_due, subject_order, rules_order, programs_in, plans_order, of_these, list_order}
use Rattle.promises.proofs.Ordered.{numbered, first_unless, with_with, subject_order_lem, code_order, result_order}

-- ---- The rules

module _ {A : Type 0} (rest : List Due) where
  rules_order_lem : (rs : List Listed) (f : List Program → Answer A) → ((cs : List Program) → programs_in rs ≡ some cs → numbered (f cs) ≡ first_due rest)
      → numbered (with (all_in rs) f) ≡ first_due (rules_order rs ++ rest)
  rules_order_lem [] f h = h [] refl
  rules_order_lem (cut ∷ rs) f h = refl
  rules_order_lem (whole code ∷ rs) f h =
      ap numbered (with_with (code_in code) (λ c. with (all_in rs) (λ cs. answered (c ∷ cs))) f)
      ∙ code_order (λ c. with (with (all_in rs) (λ cs. answered (c ∷ cs))) f) (rules_order rs ++ rest) code (λ c e o.
      ap numbered (with_with (all_in rs) (λ cs. answered (c ∷ cs)) f)
      ∙ rules_order_lem rs (λ cs. f (c ∷ cs)) (λ cs d. h (c ∷ cs) (rw (e, d))))

-- ---- The plans

plans_order_lem : {A : Type 0} (room : ℕ) (ts : List Term) (f : List ℕ → Answer A) → ((ws : List ℕ) → numbered (f ws) ≡ 0)
    → numbered (with (plans_for room ts) f) ≡ first_due (plans_order room ts)
plans_order_lem room [] f h = h []
plans_order_lem room (t ∷ []) f h = result_order f [] room t (h _)
plans_order_lem room (t ∷ u ∷ us) f h =
    ap numbered (with_with (result_for room t) (λ ws. plans_for room (u ∷ us)) f)
    ∙ result_order (λ ws. with (plans_for room (u ∷ us)) f) (plans_order room (u ∷ us)) room t (plans_order_lem room (u ∷ us) f h)

-- ---- The call

not_both : (p q : Bool) → not (p && q) ≡ not p || not q
not_both true q = refl
not_both false q = refl

module _ (rules subject : List ℕ) (number : ℕ) where
  abbrev sequence_order : ℕ → List Due
  sequence_order room = of_these (programs_in (listed rules)) (term_in subject) (λ cs t. plans_order room (plans cs number t))

  runs_order : (working room : ℕ) → numbered (list_runs rules subject number working room) ≡ first_due (list_order rules subject number working room)
  unfolding list_runs rules_in rewrites
  runs_order working room =
      first_unless (leb (length (listed rules)) rule_limit && leb number rewrite_limit) ListTooLong _
      ∙ rw (
        not_both (leb (length (listed rules)) rule_limit) (leb number rewrite_limit),
        first_unless (leb list_working_words working) WorkingTableShort (with (all_in (listed rules)) (λ cs. with (subject_in subject) (λ t. rewrites cs t number room))),
      )
      (ap (λ (n : ℕ).
      cond (not (leb (length (listed rules)) rule_limit) || not (leb number rewrite_limit)) (number_of ListTooLong)
      (cond (not (leb list_working_words working)) (number_of WorkingTableShort) n))
      (rules_order_lem (subject_order subject ++ sequence_order room) (listed rules) _ (λ cs e.
      subject_order_lem (λ t. rewrites cs t number room) (sequence_order room) subject (λ t d.
      rw (e, d) (plans_order_lem room (plans cs number t) _ (λ ws. refl))))))

  pub list_order_lem : (working result : List ℕ)
      → (list_call rules subject number working result).number ≡ first_due (list_order rules subject number (length working) (length result))
  unfolding list_call
  list_order_lem working result = go (list_runs rules subject number (length working) (length result)) ∙ runs_order (length working) (length result)
    where
      go : (a : Answer Rewritten) → (list_answer working result a).number ≡ numbered a
      go (answered (rewritten ws n q)) = refl
      go (refused r) = refl

-- ---- 12 does not occur

abbrev not_twelve : Due → Bool
not_twelve (due n q) = not (eqb n 12)

no_twelve : (ds : List Due) → every not_twelve ds ≡ true → first_due ds ≡ 12 → ⊥
no_twelve [] e f = never (cc (ap (λ (n : ℕ). eqb n 12) f))
no_twelve (due n true ∷ ds) e f = never (cc ((both_true (not (eqb n 12)) (every not_twelve ds) e).0, ap (λ (k : ℕ). not (eqb k 12)) f))
no_twelve (due n false ∷ ds) e f = no_twelve ds (both_true (not (eqb n 12)) (every not_twelve ds) e).1 f

rules_twelve : (rs : List Listed) → every not_twelve (rules_order rs) ≡ true
rules_twelve [] = refl
rules_twelve (r ∷ rs) = rules_twelve rs

plans_twelve : (room : ℕ) (ts : List Term) → every not_twelve (plans_order room ts) ≡ true
plans_twelve room [] = refl
plans_twelve room (t ∷ ts) = plans_twelve room ts

sequence_twelve : (room : ℕ) (o : Option (List Program)) (p : Option Term) (f : List Program → Term → List Term)
    → every not_twelve (of_these o p (λ cs t. plans_order room (f cs t))) ≡ true
sequence_twelve room none p f = refl
sequence_twelve room (some cs) none f = refl
sequence_twelve room (some cs) (some t) f = plans_twelve room (f cs t)

pub never_twelve_lem : (rules subject : List ℕ) (number : ℕ) (working result : List ℕ) → (list_call rules subject number working result).number ≡ 12 → ⊥
never_twelve_lem rules subject number working result e =
    no_twelve (list_order rules subject number (length working) (length result))
    (every_append not_twelve (rules_order (listed rules)) (subject_order subject ++ sequence_order rules subject number (length result))
    ∙ ap (λ q. q && every not_twelve (subject_order subject ++ sequence_order rules subject number (length result))) (rules_twelve (listed rules))
    ∙ sequence_twelve (length result) (programs_in (listed rules)) (term_in subject) (λ cs t. plans cs number t))
    (sym (list_order_lem rules subject number working result) ∙ e)
