-- Request 1: the call that runs a list of rules to the end. For all that goes in, the old contents of the lent tables too: the number, the words,
-- the rewrites made, whether no rule matches any more, and every lent word afterwards. Contracts cite `list_call`.
use Rattle.std.specs.Prelude.{ℕ, ◌-◌, Bool, false, ◌&&◌, List, [], ◌∷◌, leb, length}
use Rattle.documents.specs.declared.Refusal.TheVariants.{WorkingTableShort, ListTooLong}
use Rattle.documents.specs.Terms.{Term}
use Rattle.documents.specs.Instructions.{Program}
use Rattle.documents.specs.Numbers.{number_of, Answer, answered, refused, unless, with, subject_in, result_for}
use Rattle.documents.specs.Calls.{at_front, zeros}
use Rattle.rewriting.specs.Rewrites.{is_none, once, plans, last_plan}
use Rattle.rewriting.specs.RuleTable.{listed, rules_in}

-- ---- Request 1's numbers

-- 'up to 32 compiled rules'
abbrev pub rule_limit : ℕ
rule_limit = 32

-- 'a number of rewrites, 0 to 1,000'
abbrev pub rewrite_limit : ℕ
rewrite_limit = 1000

-- 'The working table needs 16,384 words.'
abbrev pub list_working_words : ℕ
list_working_words = 16384

-- ---- The sequence: 13, 14, 15

-- '13, 14 and 15 read over each whole plan of the sequence, the subject included; the first plan that breaks one decides.' What is answered is the
-- table of the last plan. (There is always one: the subject.)
abbrev pub plans_for : ℕ → List Term → Answer (List ℕ)
plans_for room [] = answered []
plans_for room (t ∷ []) = result_for room t
plans_for room (t ∷ u ∷ us) = with (result_for room t) (λ ws. plans_for room (u ∷ us))

-- 'The result carries the plan, the number of rewrites made (one less than the plans in the defined sequence) and whether no rule matches any
-- more.'
pub data Rewritten : Type 0 where
  rewritten : List ℕ → ℕ → Bool → Rewritten

-- the rewriting of an accepted plan, with a number of rewrites allowed, for a result table of so many words; the last plan is looked at once more
unfoldable pub rewrites : List Program → Term → ℕ → ℕ → Answer Rewritten
rewrites rules t number room =
    with (plans_for room (plans rules number t)) (λ ws.
    answered (rewritten ws (length (plans rules number t) - 1) (is_none (once rules (last_plan rules number t)))))

-- ---- The call: 37, 16, 11, subject 2, 1, 3, 4, then 13, 14, 15; 12 does not occur

-- '37 over 32 rules, a cut one counted, or 1,000 rewrites, 16, then 11 for the first bad rule, subject 2, 1, 3, 4', and what the rewriting comes to,
-- for working and result tables of so many words
unfoldable pub list_runs : List ℕ → List ℕ → ℕ → ℕ → ℕ → Answer Rewritten
list_runs rules subject number working room =
    unless (leb (length (listed rules)) rule_limit && leb number rewrite_limit) ListTooLong
    (unless (leb list_working_words working) WorkingTableShort
    (with (rules_in rules) (λ cs.
    with (subject_in subject) (λ t.
    rewrites cs t number room))))

pub record ListAnswer : Type 0 where
  pub number : ℕ
  pub words : ℕ
  pub rewrites : ℕ
  pub normal : Bool
  pub working : List ℕ
  pub result : List ℕ

-- a refusal changes no result word, and all else that the call gives is 0 or no; the working table is all zeros after every call
abbrev pub list_answer : List ℕ → List ℕ → Answer Rewritten → ListAnswer
list_answer working result (answered (rewritten ws n q)) =
    record { number = 0; words = length ws; rewrites = n; normal = q; working = zeros working; result = at_front result ws }
list_answer working result (refused r) =
    record { number = number_of r; words = 0; rewrites = 0; normal = false; working = zeros working; result = result }

-- rules, subject, number of rewrites, and the two lent tables
unfoldable pub list_call : List ℕ → List ℕ → ℕ → List ℕ → List ℕ → ListAnswer
list_call rules subject number working result = list_answer working result (list_runs rules subject number (length working) (length result))
