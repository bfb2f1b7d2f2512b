-- `instructions::fetch` gives the place behind the fixed words. The opcode is at most 13 where the table is asked, so the count is 01's.
use native.Mathlib.Omega.{arith}
use Rattle.instructions.proofs.Reading.{fetched_high, fetched_short, fetched_there}
use Rattle.instructions.proofs.fetch.Goals as goal

pub returns-then-op-gt-PUSHI : goal.returns-then-op-gt-PUSHI
returns-then-op-gt-PUSHI c = fetched_high _ _ _ c.if-op-gt-PUSHI.true

pub returns-then-end-at : goal.returns-then-end-at
returns-then-end-at c = fetched_short _ _ _ _ (omega arith) c.fixed_words-words.ensures (omega arith) c.if-end-at.true

pub returns : goal.returns
returns c = fetched_there _ _ _ _ (omega arith) c.fixed_words-words.ensures (omega arith) (omega arith)
