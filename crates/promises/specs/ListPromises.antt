-- What we promise of request 1, a list of rules, run to the end: the request's sentences, and the three demands read over its call. `list_call` is the
-- call as rewriting/specs/ListCall defines it, `plans` the defined sequence and `once` one rewrite (rewriting/specs/Rewrites).
-- proofs/ListPromises proves each record.
use Rattle.std.specs.Prelude.{◌≡◌, ◌↔◌, ℕ, suc, ◌+◌, ◌≤◌, ◌<◌, true, false, List, [], ◌∷◌, T, length, take, replicate}
use Rattle.std.proofs.Math.Option.{none, some}
use Rattle.std.proofs.Math.ListN.{get_elem?}
use Rattle.documents.specs.Lists.{every, member}
use Rattle.documents.specs.Terms.{Term}
use Rattle.documents.specs.Tables.{table_of, subterm}
use Rattle.documents.specs.Rules.{Val, metas, among, freevars}
use Rattle.documents.specs.Instructions.{Program}
use Rattle.documents.specs.Machine.{Entry, state, done, fails, no_step, run}
use Rattle.documents.specs.Numbers.{answered, Rule, subject_in, result_for}
use Rattle.documents.specs.Calls.{at_front}
use Rattle.rewriting.specs.Rewrites.{once, plans, last_plan}
use Rattle.rewriting.specs.Turning.{RewriteBy, Normal, AllAccepted, programs_of, codes_of, TurnsAt, Rewrite, NoMatch}
use Rattle.rewriting.specs.RuleTable.{rules_in, rule_table}
use Rattle.rewriting.specs.ListCall.{list_call}
use Rattle.promises.specs.Order.{first_due, list_order}

-- ---- Demand 1, of this call

pub record ListDemand1 : Type 0 where
  -- 'Refusals: 37 .., 16, then 11 for the first bad rule, subject 2, 1, 3, 4, then 13, 14, 15.' Any lists and any number of rewrites: the number given is
  -- the first that is due, and 0 if none is.
  pub order : (rules subject : List ℕ) (number : ℕ) (working result : List ℕ)
      → (list_call rules subject number working result).number ≡ first_due (list_order rules subject number (length working) (length result))
  -- '12 does not occur.'
  pub never_twelve : (rules subject : List ℕ) (number : ℕ) (working result : List ℕ) → (list_call rules subject number working result).number ≡ 12 → ⊥
  -- 'It leaves .. the result table .. with [its] old contents.' All else that the call gives is then 0 or no.
  pub leaves : (rules subject : List ℕ) (number : ℕ) (working result : List ℕ) → 0 < (list_call rules subject number working result).number
      → ((list_call rules subject number working result).words ≡ 0)
      × ((list_call rules subject number working result).rewrites ≡ 0)
      × ((list_call rules subject number working result).normal ≡ false)
      × ((list_call rules subject number working result).result ≡ result)
  -- 'The working table comes back filled with zeros from every run.'
  pub zeros : (rules subject : List ℕ) (number : ℕ) (working result : List ℕ)
      → (list_call rules subject number working result).working ≡ replicate (length working) 0

-- ---- The sequence of plans, and what a call that is done gives

-- 'Code may come from anybody's compiler.' The programs cs stand in a table of good rules, the term t in an accepted subject.
pub record ListGiven (rules subject : List ℕ) (cs : List Program) (t : Term) : Type 0 where
  pub good : rules_in rules ≡ answered cs
  pub subjects : subject_in subject ≡ answered t

-- 'The result carries the plan, the number of rewrites made .. and whether no rule matches any more', for the programs cs on t
pub record Carries (cs : List Program) (t : Term) (rules subject : List ℕ) (number : ℕ) (working result : List ℕ) : Type 0 where
  -- the plan is the last of the sequence: its words stand at the front of the result table,
  pub plan : (list_call rules subject number working result).result ≡ at_front result (table_of (last_plan cs number t))
  pub words : (list_call rules subject number working result).words ≡ length (table_of (last_plan cs number t))
  -- and are an accepted subject again
  pub again : subject_in (take (list_call rules subject number working result).words (list_call rules subject number working result).result)
      ≡ answered (last_plan cs number t)
  -- 'one less than the plans in the defined sequence'
  pub made : (list_call rules subject number working result).rewrites + 1 ≡ length (plans cs number t)
  -- the flag is yes exactly when each rule's run fails on every subterm of the last plan
  pub normal : ((list_call rules subject number working result).normal ≡ true) ↔ Normal cs (last_plan cs number t)

pub record ListDone : Type 0 where
  -- Where the call is done, the rules were good and the subject accepted.
  pub given : (rules subject : List ℕ) (number : ℕ) (working result : List ℕ) → (list_call rules subject number working result).number ≡ 0
      → (cs : List Program) × (t : Term) × ListGiven rules subject cs t
  pub carries : (rules subject : List ℕ) (number : ℕ) (working result : List ℕ) (cs : List Program) (t : Term) → ListGiven rules subject cs t
      → (list_call rules subject number working result).number ≡ 0 → Carries cs t rules subject number working result
  -- 'The defined sequence': the subject is the first plan,
  pub first : (cs : List Program) (number : ℕ) (t : Term) → get_elem? (plans cs number t) 0 ≡ some t
  -- each further one is the plan before it, rewritten once,
  pub each : (cs : List Program) (number : ℕ) (t : Term) (k : ℕ) (a b : Term) → get_elem? (plans cs number t) k ≡ some a
      → get_elem? (plans cs number t) (suc k) ≡ some b → once cs a ≡ some b
  -- and there are as many rewrites as the number allows, fewer only where no rule matches any more.
  pub most : (cs : List Program) (number : ℕ) (t : Term) → length (plans cs number t) ≤ number + 1
  pub early : (cs : List Program) (number : ℕ) (t : Term) → length (plans cs number t) < number + 1 → once cs (last_plan cs number t) ≡ none
  -- 'Each time at the first node in prefix order where some rule matches, by the first such rule there': for any programs, over numbered nodes and
  -- rules, and there is no rewrite exactly where no rule matches.
  pub rewrites : (cs : List Program) (a b : Term) → (once cs a ≡ some b) ↔ RewriteBy cs a b
  pub ends : (rules : List ℕ) (cs : List Program) → rules_in rules ≡ answered cs → (a : Term) → (once cs a ≡ none) ↔ Normal cs a
  -- '13, 14 and 15 read over each whole plan of the sequence, the subject included': where the call is done each plan keeps them, and is itself an
  -- accepted subject.
  pub keeps : (rules subject : List ℕ) (number : ℕ) (working result : List ℕ) (cs : List Program) (t : Term) → ListGiven rules subject cs t
      → (list_call rules subject number working result).number ≡ 0 → (k : ℕ) (a : Term) → get_elem? (plans cs number t) k ≡ some a
      → (result_for (length result) a ≡ answered (table_of a)) × (subject_in (table_of a) ≡ answered a)

-- ---- 'Demands 2 and 3 hold for each rewrite of a subterm'

-- Demand 2: compiled rules, and each plan a of the sequence of an accepted subject
pub record ListDemand2 : Type 0 where
  -- The codes of accepted rules, each behind its word count, make a table of good rules.
  pub good : (rules : List Rule) → AllAccepted rules → rules_in (rule_table (codes_of rules)) ≡ answered (programs_of rules)
  -- A rewrite is made 'exactly when some valuation turns the left side' of some rule into some node's subterm. It is at the first such node, by the
  -- first such rule there, and puts 'the right side under it' in that place.
  pub rewrites : (rules : List Rule) → AllAccepted rules → (subject : List ℕ) (t : Term) → subject_in subject ≡ answered t
      → (number k : ℕ) (a : Term) → get_elem? (plans (programs_of rules) number t) k ≡ some a → (b : Term)
      → (once (programs_of rules) a ≡ some b) ↔ Rewrite rules a b
  -- No two of these differ.
  pub one_rewrite : (rules : List Rule) → AllAccepted rules → (a : Term) → metas a ≡ [] → (b c : Term) → Rewrite rules a b → Rewrite rules a c → b ≡ c
  -- No rule matches any more exactly when no valuation turns any rule's left side into any subterm.
  pub no_match : (rules : List Rule) → AllAccepted rules → (subject : List ℕ) (t : Term) → subject_in subject ≡ answered t
      → (number k : ℕ) (a : Term) → get_elem? (plans (programs_of rules) number t) k ≡ some a → (once (programs_of rules) a ≡ none) ↔ NoMatch rules a
  -- 'On the left side's metavariables there is only one.'
  pub only_one : (rules : List Rule) → AllAccepted rules → (a : Term) (n i : ℕ) (l r : Term) (v w : Val) → TurnsAt rules a n i l r v → TurnsAt rules a n i l r w
      → (z k : ℕ) → T (among (metas l) (z, k)) → v z k ≡ w z k

-- Demand 3: good rules from anybody, and any plan a
pub record ListDemand3 : Type 0 where
  -- No run of a rule on a subterm 'meets an instruction that has no step'.
  pub steps : (rules : List ℕ) (cs : List Program) → rules_in rules ≡ answered cs → (a : Term) (n i : ℕ) (u : Term) (c : Program)
      → subterm a n ≡ some u → get_elem? cs i ≡ some c → run c u ≡ no_step → ⊥
  -- 'If no match instruction fails, it ends with one finished term, and every variable free there is free in the' subterm,
  pub ends : (rules : List ℕ) (cs : List Program) → rules_in rules ≡ answered cs → (a : Term) (n i : ℕ) (u : Term) (c : Program)
      → subterm a n ≡ some u → get_elem? cs i ≡ some c → (run c u ≡ fails → ⊥)
      → (w : Term) × (env : List Entry) × (run c u ≡ done (state [] env (w ∷ []) 0 [])) × T (every (member (freevars u)) (freevars w))
  -- every variable free in the new plan is free in the old one,
  pub free : (rules : List ℕ) (cs : List Program) → rules_in rules ≡ answered cs → (a b : Term) → once cs a ≡ some b
      → T (every (member (freevars a)) (freevars b))
  -- and every variable free in a plan of the sequence is free in the subject.
  pub all_free : (rules : List ℕ) (cs : List Program) → rules_in rules ≡ answered cs → (number : ℕ) (t : Term) (k : ℕ) (a : Term)
      → get_elem? (plans cs number t) k ≡ some a → T (every (member (freevars t)) (freevars a))
