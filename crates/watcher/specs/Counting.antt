-- Finished terms of the build part, counted as the check counts them (document 01, 'When code passes').
use Rattle.std.specs.Prelude.{◌≡◌, ℕ, ◌≤◌, ◌<◌, false, List, T, length}
use Rattle.std.proofs.Math.Option.{some}
use Rattle.documents.specs.Limits.{code_limit}
use Rattle.documents.specs.Instructions.{◌▸◌, Instruction, Program}
use Rattle.documents.specs.Machine.{first}
use Rattle.documents.specs.Passing.{Slot, one_term, build}
use Rattle.instructions.specs.Places.{program_at}
use Rattle.safety.proofs.Counts.{total}
use Rattle.watcher.specs.declared.count.Built.{Built}

-- A place of the build part. What the check has there: the rest of the code, the entries, and the finished terms of each open block, which are
-- so many together.
pub record Counted (code : List ℕ) (at finished : ℕ) : Type 0 where
  pub rest : Program
  pub es : List Slot
  pub hs : List ℕ
  pub words : length code ≤ code_limit
  pub inside : at ≤ length code
  pub here : program_at code at (length code) ≡ some rest
  pub checked : T (one_term (build es false 0 0 rest hs))
  pub total_is : total hs ≡ finished
  pub few : finished ≤ at

-- the instruction there goes on to this place and count
pub record Grown {code : List ℕ} {at finished : ℕ} (c : Counted code at finished) (p n : ℕ) : Type 0 where
  pub i : Instruction
  pub next : Counted code p n
  pub begins : c.rest ≡ i ▸ next.rest
  pub entries : next.es ≡ c.es
  pub goes : build c.es false 0 0 i c.hs ≡ some next.hs
  pub later : at < p

-- .. wherever the check may be
pub record Grows (code : List ℕ) (at finished : ℕ) (r : Built) : Type 0 where
  pub means : (c : Counted code at finished) → Grown c r.next r.finished

-- so many are there after the first i instructions
pub record Finished {code : List ℕ} {at finished : ℕ} (c : Counted code at finished) (i n : ℕ) : Type 0 where
  pub hs : List ℕ
  pub goes : build c.es false 0 0 (first i c.rest) c.hs ≡ some hs
  pub total_is : total hs ≡ n

pub record Finishes (code : List ℕ) (from i n : ℕ) : Type 0 where
  pub means : (c : Counted code from 0) → Finished c i n
