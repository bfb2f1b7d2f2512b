-- The rules of a list, as the search is handed them.
use Rattle.std.specs.Prelude.{ℕ, ◌+◌, ◌≤◌, ◌<◌, length, get_or}
use Rattle.search.specs.declared.Rules.{Rules}

-- there is such a rule, and its code lies within the table
abbrev pub HasRule : Rules → ℕ → Type 0
HasRule rules i = (i < length rules.starts.now) × (get_or rules.starts.now i 0 + 1 + get_or rules.table.now (get_or rules.starts.now i 0) 0 ≤ length rules.table.now)
