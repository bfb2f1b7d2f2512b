-- What the search for the next rewrite relies on, and what it finds: at one node, and over a plan. A plan is exactly the words of an accepted subject.
use Rattle.std.specs.Prelude.{◌≡◌, ℕ, ◌*◌, List, length, get_or, drop, Option, Some, None}
use Rattle.std.proofs.Math.Option.{none, some}
use Rattle.std.proofs.Math.ListN.{get_elem?}
use Rattle.documents.specs.Terms.{Term}
use Rattle.documents.specs.Tables.{nodes, subterm}
use Rattle.documents.specs.Instructions.{Program}
use Rattle.documents.specs.Machine.{run}
use Rattle.documents.specs.Machine as machine
use Rattle.tables.specs.Parts.{front}
use Rattle.rewriting.specs.Rewrites.{by_first_rule, once}
use Rattle.rewriting.proofs.FirstNode.{SilentBefore}
use Rattle.rewriting.proofs.Searching.{Searched}
use Rattle.matcher.specs.Ready.{Begins, Ready}
use Rattle.rule_table.specs.Places.{code_at, Places}
use Rattle.dispatch.specs.Sorted.{Sorted, Candidates}
use Rattle.levels.specs.Levels.{Above}
use Rattle.rewriter.specs.declared.Redex.{Redex}
use Rattle.levels.specs.declared.Levels.{Levels}
use Rattle.search.specs.declared.Tried.{Tried}
use Rattle.search.specs.declared.Rules.{Rules}

-- ---- At one node

-- a set of rules that holds all that match the subject at the front of a part
pub record Trying (rules starts : List ℕ) (set : ℕ) (part entries : List ℕ) (cs : List Program) : Type 0 where
  pub places : Places rules starts cs
  pub candidates : Candidates cs (front part) set
  pub begins : Begins part
  pub room : length entries ≡ 16

module _ (rules starts part entries : List ℕ) (cs : List Program) where
  -- rule i is the first that matches: its build part begins at a place of its code, with so many entries
  pub record Matches (i at made words : ℕ) : Type 0 where
    pub program : Program
    pub listed : get_elem? cs i ≡ some program
    pub ready : Ready (code_at rules (get_or starts i 0)) part entries program at made
    pub words_are : words ≡ 2 * nodes (front part)
    pub new : Term
    pub makes : machine.made (run program (front part)) ≡ some new
    pub first : by_first_rule cs (front part) ≡ some new

  abbrev pub TriedAs : Option Tried → Type 0
  TriedAs (Some t) = Matches t.rule t.matched.build t.matched.entries t.matched.words
  TriedAs None = by_first_rule cs (front part) ≡ none

-- whichever programs the rules are
pub record Tries (rules starts : List ℕ) (set : ℕ) (part entries entries' : List ℕ) (r : Option Tried) : Type 0 where
  pub long : length entries' ≡ 16
  pub says : (cs : List Program) → Trying rules starts set part entries cs → TriedAs rules starts part entries' cs r

-- ---- Over a plan

-- Good rules, sorted; what stands above the node that was rewritten last; and up to which node none matches, besides those that end by that one.
pub record Searching (rules starts roots seconds plan : List ℕ) (from : ℕ) (above : List ℕ) (level : ℕ) (entries : List ℕ) (looked : ℕ) (cs : List Program) : Type 0 where
  pub places : Places rules starts cs
  pub sorted : Sorted cs roots seconds
  pub above_is : Above plan from above level
  pub searched : Searched (by_first_rule cs) (front plan) from looked
  pub room : length entries ≡ 16

module _ (rules starts plan above entries : List ℕ) (cs : List Program) where
  -- the first node where a rule matches, with the first rule that does, and what stands above that node
  pub record Redexed (r : Redex) : Type 0 where
    pub old : Term
    pub here : subterm (front plan) r.node ≡ some old
    pub is_front : front (drop (2 * r.node) plan) ≡ old
    pub earlier : SilentBefore (by_first_rule cs) (front plan) r.node
    pub matches : Matches rules starts (drop (2 * r.node) plan) entries cs r.rule r.build r.entries r.words
    pub above_is : Above plan r.node above r.level

  abbrev pub FoundAs : Option Redex → Type 0
  FoundAs (Some r) = Redexed r
  FoundAs None = once cs (front plan) ≡ none

-- from the root on, or from that node on
pub record Finds (rules starts roots seconds plan : List ℕ) (from : ℕ) (above above' : List ℕ) (level : ℕ) (entries entries' : List ℕ) (looked : ℕ) (r : Option Redex) : Type 0 where
  pub long : length entries' ≡ 16
  pub says : (cs : List Program) → Searching rules starts roots seconds plan from above level entries looked cs → FoundAs rules starts plan above' entries' cs r

-- of the nodes above alone: where none of them matches, none before that node does
abbrev pub FoundAbove : (rules starts plan : List ℕ) (from : ℕ) (above above' entries' : List ℕ) (cs : List Program) → Option Redex → Type 0
FoundAbove rules starts plan from above above' entries' cs (Some r) = Redexed rules starts plan above' entries' cs r
FoundAbove rules starts plan from above above' entries' cs None = (above' ≡ above) × Searched (by_first_rule cs) (front plan) from from

pub record FindsAbove (rules starts roots seconds plan : List ℕ) (from : ℕ) (above above' : List ℕ) (level : ℕ) (entries entries' : List ℕ) (r : Option Redex) : Type 0 where
  pub long : length entries' ≡ 16
  pub says : (cs : List Program) → Searching rules starts roots seconds plan from above level entries 0 cs → FoundAbove rules starts plan from above above' entries' cs r

-- ---- The same of what the search is handed: the rules as one, and the words above with their level

-- a node where a rule matches
abbrev pub redex_of : ℕ → ℕ → Tried → Redex
redex_of node level t = record { node = node; level = level; words = t.matched.words; rule = t.rule; build = t.matched.build; entries = t.matched.entries }

module _ (rules : Rules) where
  abbrev pub TryingIn : (set : ℕ) (part entries : List ℕ) (cs : List Program) → Type 0
  TryingIn = Trying rules.table.now rules.starts.now

  abbrev pub TriesIn : (set : ℕ) (part entries entries' : List ℕ) (r : Option Tried) → Type 0
  TriesIn = Tries rules.table.now rules.starts.now

  module _ (plan : List ℕ) (from : ℕ) where
    abbrev pub SearchingIn : (above : Levels) (entries : List ℕ) (looked : ℕ) (cs : List Program) → Type 0
    SearchingIn above = Searching rules.table.now rules.starts.now rules.buckets.now.roots rules.buckets.now.seconds plan from above.words above.level

    abbrev pub FindsIn : (above above' : Levels) (entries entries' : List ℕ) (looked : ℕ) (r : Option Redex) → Type 0
    FindsIn above above' = Finds rules.table.now rules.starts.now rules.buckets.now.roots rules.buckets.now.seconds plan from above.words above'.words above.level

    abbrev pub FindsAboveIn : (above above' : Levels) (entries entries' : List ℕ) (r : Option Redex) → Type 0
    FindsAboveIn above above' = FindsAbove rules.table.now rules.starts.now rules.buckets.now.roots rules.buckets.now.seconds plan from above.words above'.words above.level
