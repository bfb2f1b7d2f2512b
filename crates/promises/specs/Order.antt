-- 'Order' (document 01; request 1 at the end): the numbers of each call in the order in which they are looked for, each with what makes it due. What
-- is asked of a term is not due of a table that holds none, and so on: then an earlier number is.
use Rattle.std.specs.Prelude.{ℕ, ◌*◌, ◌/◌, min, Bool, true, false, not, ◌&&◌, ◌||◌, cond, List, [], ◌∷◌, ◌++◌, leb, length}
use Rattle.std.proofs.Math.Option.{Option, none, some}
use Rattle.documents.specs.Limits.{side_limit, plan_limit, depth_limit, metavariable_limit, working_words, index_limit}
use Rattle.documents.specs.Lists.{every, is_empty, and_then}
use Rattle.documents.specs.Terms.{Term}
use Rattle.documents.specs.Tables.{term_in, nodes, depth, indices}
use Rattle.documents.specs.Rules.{metas, simple, is_symbol, closed, contains}
use Rattle.documents.specs.Instructions.{Program, words, program_in}
use Rattle.documents.specs.Machine.{State, Outcome, done, fails, no_step, run, first, made}
use Rattle.documents.specs.Translation.{symbol_table, compile}
use Rattle.documents.specs.Passing.{passes}
use Rattle.documents.specs.Calls.{file_in}
use Rattle.rewriting.specs.Rewrites.{plans}
use Rattle.rewriting.specs.RuleTable.{Listed, whole, cut, listed}
use Rattle.rewriting.specs.ListCall.{rule_limit, rewrite_limit, list_working_words}

-- a number, and whether it is due
pub data Due : Type 0 where
  due : ℕ → Bool → Due

-- the first number that is due, 0 if none is
abbrev pub first_due : List Due → ℕ
first_due [] = 0
first_due (due n q ∷ ds) = cond q n (first_due ds)

-- more than the most that is allowed
abbrev pub over : ℕ → ℕ → Bool
over most n = not (leb n most)

abbrev pub missing : {A : Type 0} → Option A → Bool
missing none = true
missing (some a) = false

-- true of what is there
abbrev pub of : {A : Type 0} → Option A → (A → Bool) → Bool
of none p = false
of (some a) p = p a

abbrev pub of_both : {A B : Type 0} → Option A → Option B → (A → B → Bool) → Bool
of_both a b p = of a (λ x. of b (p x))

-- A table within its node limit: 2, 1, 3
abbrev pub table_order : ℕ → List ℕ → List Due
table_order limit ws = due 2 (over (2 * limit) (length ws)) ∷ due 1 (missing (term_in ws)) ∷ due 3 (of (term_in ws) (λ t. over depth_limit (depth t))) ∷ []

-- A subject: 2, 1, 3, 4
abbrev pub subject_order : List ℕ → List Due
subject_order ws = table_order plan_limit ws ++ (due 4 (of (term_in ws) (λ t. not (is_empty (metas t)))) ∷ [])

-- Read: 17, for three tables of so many words
abbrev pub read_order : List ℕ → ℕ → ℕ → ℕ → List Due
read_order file left right subject = due 17 (missing (file_in left right subject file)) ∷ []

-- 'Compile: left 2, 1, 3; right 2, 1, 3; then 5, 6, 7, 8, 9, 10', for a code table of so many words
abbrev pub compile_order : List ℕ → List ℕ → ℕ → List Due
compile_order left right room =
    table_order side_limit left ++ (table_order side_limit right
    ++ (due 5 (of (term_in left) (λ l. not (is_symbol l)))
    ∷ due 6 (of_both (term_in left) (term_in right) (λ l r. not (closed l && closed r)))
    ∷ due 7 (of (term_in left) (λ l. not (simple l)))
    ∷ due 8 (of_both (term_in left) (term_in right) (λ l r. not (contains (metas r) (metas l))))
    ∷ due 9 (of (term_in left) (λ l. over metavariable_limit (length (symbol_table l))))
    ∷ due 10 (of_both (term_in left) (term_in right) (λ l r. over room (length (words (compile l r)))))
    ∷ []))

-- 'Check: 11'
abbrev pub check_order : List ℕ → List Due
check_order code = due 11 (not (passes code)) ∷ []

-- a match instruction fails
abbrev pub failed : Outcome State → Bool
failed (done σ) = false
failed fails = true
failed no_step = false

-- the result of code on a subject breaks a limit
abbrev pub result_breaks : List ℕ → List ℕ → (Term → Bool) → Bool
result_breaks code subject breaks = of_both (program_in code) (term_in subject) (λ c t. of (made (run c t)) breaks)

-- 'Run: 16, 11, subject 2, 1, 3, 4, then 12, 13, 14, 15', for working and result tables of so many words
abbrev pub run_order : List ℕ → List ℕ → ℕ → ℕ → List Due
run_order code subject working result =
    due 16 (not (leb working_words working))
    ∷ due 11 (not (passes code))
    ∷ (subject_order subject
    ++ (due 12 (of_both (program_in code) (term_in subject) (λ c t. failed (run c t)))
    ∷ due 13 (result_breaks code subject (λ u. over (min plan_limit (result / 2)) (nodes u)))
    ∷ due 14 (result_breaks code subject (λ u. over depth_limit (depth u)))
    ∷ due 15 (result_breaks code subject (λ u. not (every (λ x. leb x index_limit) (indices u))))
    ∷ []))

-- Watch: 11, 2, 1, 3, 4, 12
abbrev pub watch_order : List ℕ → List ℕ → ℕ → List Due
watch_order code subject i =
    due 11 (not (passes code)) ∷ (subject_order subject ++ (due 12 (of_both (program_in code) (term_in subject) (λ c t. failed (run (first i c) t))) ∷ []))

-- ---- Request 1: a list of rules, run to the end

-- a bad rule: its code does not pass, or it is cut short by the end
abbrev pub bad : Listed → Bool
bad (whole code) = not (passes code)
bad cut = true

-- '11 for the first bad rule'
abbrev pub rules_order : List Listed → List Due
rules_order [] = []
rules_order (r ∷ rs) = due 11 (bad r) ∷ rules_order rs

-- the programs of rules that are all whole
abbrev pub programs_in : List Listed → Option (List Program)
programs_in [] = some []
programs_in (whole code ∷ rs) = and_then (program_in code) (λ c. and_then (programs_in rs) (λ cs. some (c ∷ cs)))
programs_in (cut ∷ rs) = none

-- 13, 14, 15 of a whole plan, for a result table of so many words
abbrev pub plan_order : ℕ → Term → List Due
plan_order result t =
    due 13 (over (min plan_limit (result / 2)) (nodes t))
    ∷ due 14 (over depth_limit (depth t))
    ∷ due 15 (not (every (λ x. leb x index_limit) (indices t)))
    ∷ []

-- 'the first plan that breaks one decides'
abbrev pub plans_order : ℕ → List Term → List Due
plans_order result [] = []
plans_order result (t ∷ ts) = plan_order result t ++ plans_order result ts

-- what is asked of rules and a subject, where they are there
abbrev pub of_these : Option (List Program) → Option Term → (List Program → Term → List Due) → List Due
of_these none t f = []
of_these (some cs) none f = []
of_these (some cs) (some t) f = f cs t

-- '37 over 32 rules, a cut one counted, or 1,000 rewrites, 16, then 11 for the first bad rule, subject 2, 1, 3, 4, then 13, 14, 15', for working and
-- result tables of so many words
abbrev pub list_order : List ℕ → List ℕ → ℕ → ℕ → ℕ → List Due
list_order rules subject number working result =
    due 37 (over rule_limit (length (listed rules)) || over rewrite_limit number)
    ∷ due 16 (not (leb list_working_words working))
    ∷ (rules_order (listed rules)
    ++ (subject_order subject
    ++ of_these (programs_in (listed rules)) (term_in subject) (λ cs t. plans_order result (plans cs number t))))
