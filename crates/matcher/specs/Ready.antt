-- What the match part is handed, and what it leaves to the build part.
use Rattle.std.specs.Prelude.{◌≡◌, ℕ, ◌-◌, ◌*◌, ◌≤◌, ◌<◌, false, List, [], ◌∷◌, T, length, get_or, take, drop, Result, Ok, Err}
use Rattle.std.proofs.Math.Option.{some}
use Rattle.documents.specs.declared.Refusal.{Refusal}
use Rattle.documents.specs.declared.Refusal.TheVariants.{MatchFails}
use Rattle.documents.specs.Tables.{nodes, subterm}
use Rattle.documents.specs.Instructions.{Program, program_in}
use Rattle.documents.specs.Machine.{Entry, state, fails, exec, run}
use Rattle.documents.specs.Passing.{Slot, one_term, build}
use Rattle.documents.specs.Numbers.{answered, subject_in}
use Rattle.tables.specs.Parts.{front, Begins as BeginsTerms}
use Rattle.instructions.specs.Places.{program_at}
use Rattle.safety.proofs.Entries.{EntriesOk}
use Rattle.trees.specs.Trees.{entry_of}
use Rattle.matcher.specs.declared.Matched.{Matched}

-- a part of a table that begins with an accepted subject; what stands behind it are whole terms, as behind each node of a plan
pub record Begins (part : List ℕ) : Type 0 where
  pub whole : BeginsTerms 1 part
  pub inside : 2 * nodes (front part) ≤ length part
  pub accepted : subject_in (take (2 * nodes (front part)) part) ≡ answered (front part)

-- the build part, with what the machine has there; entries are counted from the newest, and the table of their places has the newest last
pub record Ready (code part entries : List ℕ) (c : Program) (at made : ℕ) : Type 0 where
  pub rest : Program
  pub env : List Entry
  pub es : List Slot
  pub inside : at < length code
  pub here : program_at code at (length code) ≡ some rest
  pub goes : run c (front part) ≡ exec rest (state [] env [] 0 [])
  pub checked : T (one_term (build es false 0 0 rest (0 ∷ [])))
  pub ok : EntriesOk (λ x. Unit {0}) es env
  pub few : made ≤ 16
  pub count : length env ≡ made
  pub terms : (e : ℕ) → e < made → entry_of env e ≡ front (drop (get_or entries (made - 1 - e) 0) part)
  pub stands : (e : ℕ) → e < made → (m : ℕ) × (get_or entries (made - 1 - e) 0 ≡ 2 * m) × (subterm (front part) m ≡ some (entry_of env e))

module _ (code part entries : List ℕ) (c : Program) where
  -- the match fails, or the build part begins, and the words of the subject are told
  abbrev pub ComesTo : Result Matched Refusal → Type 0
  ComesTo (Ok m) = Ready code part entries c m.build m.entries × (m.words ≡ 2 * nodes (front part))
  ComesTo (Err w) = (w ≡ MatchFails) × (run c (front part) ≡ fails)

-- with the code's program
pub record Comes (code part entries : List ℕ) (r : Result Matched Refusal) : Type 0 where
  pub means : (c : Program) → program_in code ≡ some c → ComesTo code part entries c r
