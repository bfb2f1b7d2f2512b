-- Words in the lent code table, from a place on.
use Rattle.std.specs.Prelude.{◌≡◌, ℕ, ◌+◌, ◌≤◌, List, length}
use Rattle.std.proofs.lemmas.List.Edits.{sets}
use Rattle.documents.specs.Limits.{code_limit}

-- The table has room for the words. No code has more than 4,096, so a body's length and each place are words themselves.
pub record Fits (code : List ℕ) (at : ℕ) (ws : List ℕ) : Type 0 where
  pub room : at + length ws ≤ length code
  pub small : at + length ws ≤ code_limit

-- The words stand from that place on, the rest of the table is as it was, and next is the place behind them.
pub record Wrote (old new : List ℕ) (at next : ℕ) (ws : List ℕ) : Type 0 where
  pub code : new ≡ sets old at ws
  pub place : next ≡ at + length ws
