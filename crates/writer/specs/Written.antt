-- Words written before a place of a table, and those that may be asked for there.
use Rattle.std.specs.Prelude.{◌≡◌, ℕ, zero, suc, ◌+◌, ◌-◌, ◌≤◌, List, [], ◌∷◌, ◌++◌, length, take, drop, get_or}

-- the table was d and is e: from r to `end` stand ws, and nothing else has changed
pub record Wrote (d e : List ℕ) (r end : ℕ) (ws : List ℕ) : Type 0 where
  pub ends : r + length ws ≡ end
  pub before : take r e ≡ take r d
  pub behind : drop r e ≡ ws ++ drop end d

-- whatever words are wanted, they were written
pub record Writes (Wanted : List ℕ → Type 0) (d e : List ℕ) (r end : ℕ) : Type 0 where
  pub does : (ws : List ℕ) → Wanted ws → length ws ≤ end → Wrote d e r end ws

-- words are wanted for which there is room
pub record Room (Wanted : List ℕ → Type 0) (end : ℕ) : Type 0 where
  pub words : List ℕ
  pub wanted : Wanted words
  pub fit : length words ≤ end

-- what is noted of the open LAMBDAs and of the nodes above, which stand from 64 on, is as it was
pub record Same (l level : ℕ) (d e : List ℕ) : Type 0 where
  pub lambdas : take l e ≡ take l d
  pub above : take level (drop 64 e) ≡ take level (drop 64 d)

-- NSTACK, newest first, of an array that holds OFFSET at each of l open LAMBDAs
unfoldable pub nstack : ℕ → ℕ → List ℕ → List ℕ
nstack off zero opened = []
nstack off (suc l) opened = (off - get_or opened l 0) ∷ nstack off l opened
