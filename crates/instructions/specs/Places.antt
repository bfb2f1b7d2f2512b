-- Code from a place on, and the instruction reader.
use Rattle.std.specs.Prelude.{ℕ, ◌+◌, ◌-◌, Bool, cond, List, leb, get_or, drop, Result, Ok, Err}
use Rattle.std.proofs.Math.Option.{Option, none, some}
use Rattle.documents.specs.declared.Refusal.{Refusal}
use Rattle.documents.specs.declared.Refusal.TheVariants.{DoesNotPass}
use Rattle.documents.specs.Lists.{need}
use Rattle.documents.specs.Instructions.{Program, Read, whole, ReadBodies, op_pushi, fixed_after, plain_in, program_from, bodies_from}

-- the program from place a to place e
abbrev pub program_at : List ℕ → ℕ → ℕ → Option Program
program_at t a e = program_from (drop a t) 0 (e - a)

-- c bodies from place a on, before place e
abbrev pub bodies_at : List ℕ → ℕ → ℕ → ℕ → Option ReadBodies
bodies_at t a e c = bodies_from (drop a t) 0 (e - a) c

-- an instruction, if its words are among the n after the opcode
abbrev pub whole_within : Option Read → ℕ → Option Read
whole_within none n = none
whole_within (some (whole i m)) n = need (leb m n) (some (whole i m))

-- the instruction but PUSHI at place a, before place e
unfoldable pub read_at : List ℕ → ℕ → ℕ → Option Read
read_at t a e = let w = get_or t a 0 in need (leb (fixed_after w) (e - (a + 1))) (whole_within (plain_in w (drop (a + 1) t)) (e - (a + 1)))

-- a place that a test allows
abbrev pub place_if : Bool → ℕ → Result ℕ Refusal
place_if q p = cond q (Ok p) (Err DoesNotPass)

-- Where the fixed words of the instruction at place a end, if they stand before e.
unfoldable pub fetched : List ℕ → ℕ → ℕ → Result ℕ Refusal
fetched t a e = let w = get_or t a 0 in cond (leb w op_pushi) (place_if (leb (a + 1 + fixed_after w) e) (a + 1 + fixed_after w)) (Err DoesNotPass)
