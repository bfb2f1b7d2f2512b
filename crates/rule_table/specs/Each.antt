-- The rules of a table one by one: where that stands, and what a step of it gives.
use Rattle.std.specs.Prelude.{◌≡◌, ℕ, ◌+◌, ◌-◌, ◌≤◌, ◌<◌, List, length, get_or, Option, Result, Ok, Err}
use Rattle.std.specs.Option.{MatchOption}
use Rattle.documents.specs.declared.Refusal.{Refusal}
use Rattle.documents.specs.declared.Refusal.TheVariants.{DoesNotPass}
use Rattle.rule_table.specs.declared.each.EachRule.{EachRule}

-- not behind the table's end
abbrev pub Stands : EachRule → Type 0
Stands s = s.at ≤ length s.rules.now

-- before the first rule of a table
abbrev pub starts : List ℕ → EachRule → Type 0
starts rules s = (s.rules.now ≡ rules) × (s.at ≡ 0)

-- Where the rule at a place stands, and the place behind its code; or that the table ends before its code does, and the table's end.
abbrev pub rule_at : List ℕ → ℕ → Result ℕ Refusal → ℕ → Type 0
rule_at rules at (Ok start) next = (start ≡ at) × (next ≡ at + 1 + get_or rules at 0) × (next ≤ length rules)
rule_at rules at (Err w) next = (w ≡ DoesNotPass) × (next ≡ length rules) × (length rules - at - 1 < get_or rules at 0)

-- A step gives the rule there and goes on behind it. At the table's end there is none.
abbrev pub rule_gives : EachRule → Option (Result ℕ Refusal) → EachRule → Type 0
rule_gives s r t = (t.rules ≡ s.rules) × MatchOption r ((s.at ≡ length s.rules.now) × (t ≡ s)) (λ rule. (s.at < length s.rules.now) × rule_at s.rules.now s.at rule t.at)

-- each rule has a word at least
abbrev pub words_left : EachRule → ℕ
words_left s = length s.rules.now - s.at
