-- Rules counted in a walk: those before a place, and those that the words from there on hold, are all.
use mathlib.Core.Path.{◌≡◌, sym, ap, ◌∙◌}
use Prim.Native.Nat.{ℕ, suc, ◌+◌, ◌-◌, ◌≤◌, ◌<◌}
use native.Mathlib.Omega.{arith}
use mathlib.Core.Bool.{true, false}
use mathlib.Core.List.{List}
use lib.Dec.{leb}
use lib.ListN.{length, get_or, drop, drop_of_length-le}
use lib.Seq.{drop-drop}
use borrow.Author.Tests.{le-leb, lt-leb}
use Rattle.documents.proofs.Lists.{at_cons}
use Rattle.std.specs.Prelude.{Result, Ok, Err}
use Rattle.documents.specs.declared.Refusal.{Refusal}
use Rattle.rule_table.specs.Each.{rule_at}
use Rattle.rewriting.specs.RuleTable.{listed}
use Rattle.rewriting.specs.ListCall.{rule_limit}
use Rattle.rewriting.proofs.RuleTables.{listed_count}

-- the word count at a place, and the rules behind its code
pub counted_at : (rules : List ℕ) (at : ℕ) → at < length rules
    → length (listed (drop at rules)) ≡ suc (length (listed (drop (at + 1 + get_or rules at 0) rules)))
counted_at rules at h =
    ap (λ (l : List ℕ). length (listed l)) (at_cons rules at h)
    ∙ listed_count (get_or rules at 0) (drop (at + 1) rules)
    ∙ ap (λ (l : List ℕ). suc (length (listed l))) (drop-drop (get_or rules at 0) (at + 1) rules)

none_behind : (rules : List ℕ) (at : ℕ) → length rules ≤ at → length (listed (drop at rules)) ≡ 0
none_behind rules at h = ap (λ (l : List ℕ). length (listed l)) (drop_of_length-le rules h)

pub record Counted (rules : List ℕ) (at count : ℕ) : Type 0 where
  pub inside : at ≤ length rules
  pub few : count ≤ rule_limit
  pub rest : length (listed rules) ≡ count + length (listed (drop at rules))

pub counted_none : (rules : List ℕ) → Counted rules 0 0
counted_none rules = record { inside = omega arith; few = omega arith; rest = omega arith }

module _ {rules : List ℕ} {at count : ℕ} (c : Counted rules at count) where
  pub all_counted : length rules ≤ at → true ≡ leb (length (listed rules)) rule_limit
  all_counted h = sym (le-leb (length (listed rules)) rule_limit (omega (arith, c, none_behind rules at h)))

  module _ (h : at < length rules) where
    pub counted_more : (count ≡ rule_limit → ⊥) → at + 1 + get_or rules at 0 ≤ length rules → Counted rules (at + 1 + get_or rules at 0) (count + 1)
    counted_more n l = record { inside = l; few = omega (arith, c, n); rest = omega (arith, c.rest, counted_at rules at h) }

    pub too_many : count ≡ rule_limit → false ≡ leb (length (listed rules)) rule_limit
    too_many n = sym (lt-leb (length (listed rules)) rule_limit (omega (arith, c.rest, counted_at rules at h)))

    -- a rule that is cut short by the end is counted, and is the last
    pub counted_cut : (count ≡ rule_limit → ⊥) → length rules - at - 1 < get_or rules at 0 → Counted rules (length rules) (count + 1)
    counted_cut n l =
        let z = none_behind rules (at + 1 + get_or rules at 0) (omega arith) in
        let y = none_behind rules (length rules) (omega arith) in
        record { inside = omega arith; few = omega (arith, c.few, n); rest = omega (arith, c.rest, counted_at rules at h, z, y) }

-- a step that gave a rule
pub counted_step : {rules : List ℕ} {at count : ℕ} (next : ℕ) (r : Result ℕ Refusal) → Counted rules at count → (count ≡ rule_limit → ⊥) → at < length rules
    → rule_at rules at r next → Counted rules next (count + 1)
counted_step next (Ok start) c n h g = rw g.1 (counted_more c h n (rw g.1 at g.2))
counted_step next (Err w) c n h g = rw g.1 (counted_cut c h n g.2)
