-- The table of rules as the list run holds it: where the word count of each rule stands.
use Rattle.std.specs.Prelude.{◌≡◌, ℕ, ◌+◌, ◌≤◌, List, length, get_or, take, drop, Result, Ok, Err}
use Rattle.std.proofs.Math.Option.{some}
use Rattle.std.proofs.Math.ListN.{get_elem?}
use Rattle.documents.specs.declared.Refusal.{Refusal}
use Rattle.documents.specs.Instructions.{Program}
use Rattle.documents.specs.Numbers.{answered, refused, code_in}
use Rattle.rewriting.specs.RuleTable.{rules_in}
use Rattle.rewriting.specs.ListCall.{rule_limit}

-- the code of the rule whose word count stands at a place
unfoldable pub code_at : List ℕ → ℕ → List ℕ
code_at rules start = take (get_or rules start 0) (drop (start + 1) rules)

-- a word count stands there, its code is all there, and it is that of a program
pub record Placed (rules : List ℕ) (start : ℕ) (c : Program) : Type 0 where
  pub inside : start + 1 + get_or rules start 0 ≤ length rules
  pub code : code_in (code_at rules start) ≡ answered c

-- the places of the rules, in their order
pub record Places (rules starts : List ℕ) (cs : List Program) : Type 0 where
  pub count : length starts ≡ length cs
  pub few : length cs ≤ rule_limit
  pub each : (i : ℕ) (c : Program) → get_elem? cs i ≡ some c → Placed rules (get_or starts i 0) c

-- the places of all rules, if they are good; or the refusal of the first bad one
abbrev pub LaidAs : List ℕ → List ℕ → Result ℕ Refusal → Type 0
LaidAs rules starts (Ok n) = (cs : List Program) × (rules_in rules ≡ answered cs) × (n ≤ length starts) × Places rules (take n starts) cs
LaidAs rules starts (Err w) = rules_in rules ≡ refused w
