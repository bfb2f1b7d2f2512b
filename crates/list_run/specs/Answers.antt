-- What the list run's answers stand for (request 1), and what is known on the way to one.
use Rattle.std.specs.Prelude.{◌≡◌, ℕ, ◌+◌, ◌*◌, ◌≤◌, ◌<◌, true, false, List, leb, length, get_or, take, Result, Ok, Err}
use Rattle.documents.specs.Tables.{table_of}
use Rattle.documents.specs.Instructions.{Program}
use Rattle.documents.specs.Numbers.{number_of, answered, refused, subject_in, result_for}
use Rattle.documents.specs.Calls.{zeros}
use Rattle.tables.specs.Parts.{front}
use Rattle.rewriting.specs.RuleTable.{listed, rules_in}
use Rattle.rewriting.specs.ListCall.{rule_limit, rewritten, rewrites, ListAnswer, list_call}
use Rattle.rule_table.specs.Places.{code_at, Places}
use Rattle.dispatch.specs.Sorted.{Sorted}
use Rattle.rewriter.specs.declared.Redex.{Redex}
use Rattle.rewriter.specs.Replaces.{plan_in, Replacing, Replaces}
use Rattle.list_run.specs.declared.Ended.{Ended}
use Rattle.documents.specs.declared.Refusal.{Refusal}
use Rattle.search.specs.declared.Rules.{Rules}
use Rattle.rewriter.specs.declared.Plan.{Plan}

-- ---- The call

-- request 1's number, words, rewrites and flag, and the lent tables afterwards, for each answer
abbrev pub given : Result Ended Refusal → List ℕ → List ℕ → ListAnswer
given (Ok e) work result = record { number = 0; words = e.words; rewrites = e.rewrites; normal = e.normal; working = work; result = result }
given (Err w) work result = record { number = number_of w; words = 0; rewrites = 0; normal = false; working = work; result = result }

-- The answer, and the result table, are those of the call; the working table has its length, and may hold anything.
pub record Applied (rules subject : List ℕ) (number : ℕ) (work work' result result' : List ℕ) (r : Result Ended Refusal) : Type 0 where
  pub long : length work' ≡ length work
  pub says : given r (zeros work) result' ≡ list_call rules subject number work result

-- ---- On the way

-- nothing was refused before the subject
pub record Begun (rules starts : List ℕ) (number : ℕ) (work : List ℕ) (cs : List Program) : Type 0 where
  pub few : leb (length (listed rules)) rule_limit ≡ true
  pub allowed : number ≤ 1000
  pub long : 16384 ≤ length work
  pub good : rules_in rules ≡ answered cs
  pub places : Places rules starts cs

-- .. nor of the subject
pub record Accepted (rules starts subject : List ℕ) (number : ℕ) (work : List ℕ) (cs : List Program) : Type 0 where
  pub begun : Begun rules starts number work cs
  pub accepted : subject_in subject ≡ answered (front subject)

-- ---- The sequence of plans

-- a plan at the front of a table that keeps the limits, and good rules, sorted
pub record Turning (rules starts roots seconds plan : List ℕ) (words most : ℕ) (work : List ℕ) (cs : List Program) : Type 0 where
  pub places : Places rules starts cs
  pub sorted : Sorted cs roots seconds
  pub table_long : length plan ≡ 8192
  pub work_long : 16384 ≤ length work
  pub inside : words ≤ 8192
  pub few : most ≤ 4096
  pub accepted : subject_in (take words plan) ≡ answered (plan_in plan words)
  pub keeps : result_for (2 * most) (plan_in plan words) ≡ answered (table_of (plan_in plan words))

module _ (plan : List ℕ) (words number most : ℕ) (plan' : List ℕ) (words' : ℕ) (cs : List Program) where
  -- what the rewriting comes to: the last plan, at the front of the table
  abbrev pub TurnedAs : Result Ended Refusal → Type 0
  TurnedAs (Ok e) = (e.words ≤ 2 * most) × (e.words ≡ words') × (rewrites cs (plan_in plan words) number (2 * most) ≡ answered (rewritten (take words' plan') e.rewrites e.normal))
  TurnedAs (Err w) = rewrites cs (plan_in plan words) number (2 * most) ≡ refused w

pub record Turns (rules starts roots seconds plan plan' : List ℕ) (words words' number most : ℕ) (work work' : List ℕ) (r : Result Ended Refusal) : Type 0 where
  pub table_stays : length plan' ≡ length plan
  pub work_stays : length work' ≡ length work
  pub says : (cs : List Program) → Turning rules starts roots seconds plan words most work cs → TurnedAs plan words number most plan' words' cs r

-- ---- One of them

-- a redex, with its rule's code and its entries
pub record Rewriting (rules starts : List ℕ) (redex : Redex) (entries plan : List ℕ) (words most : ℕ) (work : List ℕ) : Type 0 where
  pub rule : redex.rule < length starts
  pub inside : get_or starts redex.rule 0 + 1 + get_or rules (get_or starts redex.rule 0) 0 ≤ length rules
  pub few : redex.entries ≤ length entries
  pub replacing : Replacing (code_at rules (get_or starts redex.rule 0)) redex (take redex.entries entries) plan words most work

-- ---- The same of what the loop is handed: the rules as one, and the plan as one

module _ (rules : Rules) where
  abbrev pub TurningIn : Plan → (most : ℕ) (work : List ℕ) (cs : List Program) → Type 0
  TurningIn plan = Turning rules.table.now rules.starts.now rules.buckets.now.roots rules.buckets.now.seconds plan.table plan.words

  abbrev pub TurnsIn : (plan plan' : Plan) (number most : ℕ) (work work' : List ℕ) (r : Result Ended Refusal) → Type 0
  TurnsIn plan plan' = Turns rules.table.now rules.starts.now rules.buckets.now.roots rules.buckets.now.seconds plan.table plan'.table plan.words plan'.words

  abbrev pub RewritingIn : (redex : Redex) (entries : List ℕ) (plan : Plan) (most : ℕ) (work : List ℕ) → Type 0
  RewritingIn redex entries plan = Rewriting rules.table.now rules.starts.now redex entries plan.table plan.words

  abbrev pub ReplacesIn : (redex : Redex) (entries : List ℕ) (plan plan' : Plan) (most : ℕ) (work work' : List ℕ) (r : Result (Unit {0}) Refusal) → Type 0
  ReplacesIn redex entries plan plan' =
      Replaces (code_at rules.table.now (get_or rules.starts.now redex.rule 0)) redex (take redex.entries entries) plan.table plan'.table plan.words plan'.words
