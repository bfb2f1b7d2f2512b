-- Two subterms under a renaming (004, section 4.2: EQI).
use Rattle.std.specs.Prelude.{Option, ℕ, ◌+◌, ◌-◌, Bool, ◌&&◌, cond, List, eqb, ltb}
use Rattle.documents.specs.Limits.{kind_step}
use Rattle.documents.specs.Terms.{Term, rename}
use Rattle.documents.specs.Instructions.{pairs_in}
use Rattle.documents.specs.Machine.{equal, renaming, equal_under}
use Rattle.tables.specs.Parts.{walked}

-- the old term is the new one when the pairs, words of code, and d rename it; D is d + 64
abbrev pub agrees : List ℕ → ℕ → Term → Term → Bool
agrees pairs D old new = equal (rename (renaming (pairs_in pairs) D) old) new

-- a walk of the two, below k abstractions, that stops at a difference
abbrev pub compared : List ℕ → ℕ → ℕ → Term → Term → Option ℕ
compared pairs D k old new = walked (equal_under (pairs_in pairs) D k old new) old

-- a variable's word w, renamed below k abstractions, is the word v: which then is a variable's
unfoldable pub same_variable : List (ℕ × ℕ) → ℕ → ℕ → ℕ → ℕ → Bool
same_variable ps D k w v = ltb v kind_step && eqb (cond (ltb w k) w (renaming ps D (w - k) + k)) v
