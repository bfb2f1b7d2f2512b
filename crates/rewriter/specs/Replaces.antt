-- One rewrite of a plan at a redex: what it relies on, and what stands in the plan's table afterwards. The plan is the front of a table.
use Rattle.std.specs.Prelude.{◌≡◌, ℕ, ◌+◌, ◌-◌, ◌*◌, ◌/◌, ◌≤◌, true, List, ◌++◌, length, take, drop, Result, Ok, Err}
use Rattle.std.proofs.Math.Option.{some}
use Rattle.documents.specs.Terms.{Term}
use Rattle.documents.specs.Tables.{table_of, nodes, subterm}
use Rattle.documents.specs.Instructions.{Program, program_in}
use Rattle.documents.specs.Machine.{run, made}
use Rattle.documents.specs.Passing.{passes}
use Rattle.documents.specs.Numbers.{answered, refused, subject_in, result_for}
use Rattle.tables.specs.Parts.{front}
use Rattle.rewriting.specs.Replacing.{replace, depth_at}
use Rattle.matcher.specs.Ready.{Ready}
use Rattle.builder.specs.Weighing.{Ends, Built, WeighedAs}
use Rattle.builder.specs.declared.Weighed.{Weighed}
use Rattle.rewriter.specs.declared.Redex.{Redex}
use Rattle.documents.specs.declared.Refusal.{Refusal}

-- ---- The redex in its plan

-- the plan at the front of a table
abbrev pub plan_in : List ℕ → ℕ → Term
plan_in plan words = front (take words plan)

-- the words of the redex
abbrev pub redex_in : List ℕ → Redex → List ℕ
redex_in plan redex = take redex.words (drop (2 * redex.node) plan)

-- An accepted plan within the limits, and a node of it where the match part of code that passes has come to the build part.
pub record Replacing (code : List ℕ) (redex : Redex) (entries plan : List ℕ) (words most : ℕ) (work : List ℕ) : Type 0 where
  pub table_long : length plan ≡ 8192
  pub work_long : 16384 ≤ length work
  pub inside : words ≤ 8192
  pub accepted : subject_in (take words plan) ≡ answered (plan_in plan words)
  pub small : nodes (plan_in plan words) ≤ most
  pub few : most ≤ 4096
  pub passed : passes code ≡ true
  pub old : Term
  pub here : subterm (plan_in plan words) redex.node ≡ some old
  pub words_are : redex.words ≡ 2 * nodes old
  pub level_is : redex.level ≡ depth_at (plan_in plan words) redex.node
  pub table : List ℕ
  pub enough : length table ≡ 16
  pub these : entries ≡ take redex.entries table
  pub ready : (c : Program) → program_in code ≡ some c → Ready code (drop (2 * redex.node) (take words plan)) table c redex.build redex.entries

-- ---- Weighed

-- the nodes that the next plan leaves to what the rule makes
abbrev pub room_for : ℕ → ℕ → Redex → ℕ
room_for most words redex = most - (words - redex.words) / 2

pub record WeighsRedex (code : List ℕ) (redex : Redex) (entries plan : List ℕ) (words most : ℕ) (work work' : List ℕ) (r : Result Weighed Refusal) : Type 0 where
  pub long : length work' ≡ length work
  pub term : Term
  pub ends : Ends code (redex_in plan redex) term
  pub says : WeighedAs code (redex_in plan redex) entries (take 8192 work') (room_for most words redex) redex.level term r

-- ---- Exchanged

-- the words of the next plan
abbrev pub exchanged : List ℕ → ℕ → Redex → List ℕ → List ℕ
exchanged plan words redex new = take (2 * redex.node) plan ++ (new ++ drop (2 * redex.node + redex.words) (take words plan))

-- the redex's words, where the new ones end, and room for what is behind
pub record SettingAside (plan work : List ℕ) (words first end next : ℕ) : Type 0 where
  pub table_long : length plan ≡ 8192
  pub work_long : 16384 ≤ length work
  pub inside : words ≤ 8192
  pub begins : first ≤ end
  pub ends : end ≤ words
  pub behind : first ≤ next
  pub fits : next + (words - end) ≤ 8192

-- the redex aside, and what was behind it where the next plan has it
pub record SetAside (plan plan' work work' : List ℕ) (words first end next : ℕ) : Type 0 where
  pub table_stays : length plan' ≡ length plan
  pub work_stays : length work' ≡ length work
  pub links : take 8192 work' ≡ take 8192 work
  pub aside : take (end - first) (drop 8192 work') ≡ take (end - first) (drop first plan)
  pub before : take first plan' ≡ take first plan
  pub behind : take (words - end) (drop next plan') ≡ take (words - end) (drop end plan)

-- The redex, and what was weighed for it: nodes and the root of its tree. The next plan has room in the table.
pub record Exchanging (code : List ℕ) (redex : Redex) (entries plan : List ℕ) (words : ℕ) (work : List ℕ) (n z : ℕ) : Type 0 where
  pub table_long : length plan ≡ 8192
  pub work_long : 16384 ≤ length work
  pub inside : 2 * redex.node + redex.words ≤ words
  pub within : words ≤ 8192
  pub fits : words - redex.words + 2 * n ≤ 8192
  pub term : Term
  pub size : n ≡ nodes term
  pub built : Built code (redex_in plan redex) entries (take 8192 work) z term

pub record Exchanges (code : List ℕ) (redex : Redex) (entries plan plan' : List ℕ) (words : ℕ) (work work' : List ℕ) (n z : ℕ) : Type 0 where
  pub table_stays : length plan' ≡ length plan
  pub work_stays : length work' ≡ length work
  pub front_is : (u : Term) → n ≡ nodes u → Built code (redex_in plan redex) entries (take 8192 work) z u
      → take (words - redex.words + 2 * n) plan' ≡ exchanged plan words redex (table_of u)

-- ---- Replaced

module _ (plan : List ℕ) (node words most : ℕ) (old : Term) (plan' : List ℕ) (words' : ℕ) (c : Program) where
  -- what the rule makes of the old subterm stands in its place, in the next plan's table; or the next plan breaks a limit
  abbrev pub ReplacedAs : Result (Unit {0}) Refusal → Type 0
  ReplacedAs (Ok _) =
      (w : Term) × (made (run c old) ≡ some w)
      × (result_for (2 * most) (replace (plan_in plan words) node w) ≡ answered (table_of (replace (plan_in plan words) node w)))
      × (take words' plan' ≡ table_of (replace (plan_in plan words) node w)) × (words' ≤ 2 * most)
  ReplacedAs (Err r) = (w : Term) × (made (run c old) ≡ some w) × (result_for (2 * most) (replace (plan_in plan words) node w) ≡ refused r)

pub record Replaces (code : List ℕ) (redex : Redex) (entries plan plan' : List ℕ) (words words' most : ℕ) (work work' : List ℕ) (r : Result (Unit {0}) Refusal) : Type 0 where
  pub table_stays : length plan' ≡ length plan
  pub work_stays : length work' ≡ length work
  pub says : (old : Term) → subterm (plan_in plan words) redex.node ≡ some old → (c : Program) → program_in code ≡ some c
      → ReplacedAs plan redex.node words most old plan' words' c r
