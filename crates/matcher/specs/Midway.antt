-- The machine between two match instructions (004, section 4.1), as the matcher holds it: word places of the part for the top and for each
-- entry, and a count of the current terms. The check's own state says how deep each of them stands.
use Rattle.std.specs.Prelude.{◌≡◌, ℕ, ◌+◌, ◌*◌, ◌≤◌, ◌<◌, cond, List, [], ◌∷◌, T, eqb, length, get_or, drop, set, Result, Ok, Err}
use Rattle.std.proofs.Math.Option.{some}
use Rattle.documents.specs.declared.Refusal.{Refusal}
use Rattle.documents.specs.declared.Refusal.TheVariants.{MatchFails}
use Rattle.documents.specs.Terms.{Nil, Cons, Terms}
use Rattle.documents.specs.Tables.{nodes, subterm}
use Rattle.documents.specs.Instructions.{◌▸◌, Instruction, Program, op_set}
use Rattle.documents.specs.Machine.{Current, current, Entry, entry, State, state, done, fails, exec}
use Rattle.documents.specs.Passing.{current_limit, entry_limit, Slot, slot, matching, parts}
use Rattle.documents.proofs.Nodes.{Numbered}
use Rattle.tables.specs.Parts.{front, terms}
use Rattle.tables.proofs.Walks.{Walking}
use Rattle.instructions.specs.Places.{program_at}
use Rattle.safety.proofs.Matching.{Agrees}
use Rattle.matcher.specs.declared.Standing.{Standing}
use Rattle.matcher.specs.Ready.{Begins}

-- which variables are free does not matter here
abbrev pub Any : ℕ → Type 0
Any x = Unit {0}

-- terms that stand one after the other, under so many abstractions each, the first at node m
abbrev pub in_line : List ℕ → ℕ → Terms → List Current
in_line [] m ts = []
in_line (d ∷ ds) m Nil = []
in_line (d ∷ ds) m (Cons t ts) = current d m t ∷ in_line ds (m + nodes t) ts

-- the entries at their word places, the newest last there and first here
abbrev pub entered : List ℕ → List ℕ → List Slot → List Entry
entered part entries [] = []
entered part entries (slot b g ∷ es) = entry b (front (drop (get_or entries (length es) 0) part)) ∷ entered part entries es

-- a word place at which a subterm of the subject begins
pub record Stands (part : List ℕ) (place : ℕ) : Type 0 where
  pub node : ℕ
  pub place_is : place ≡ 2 * node
  pub here : subterm (front part) node ≡ some (front (drop place part))

pub record Midway (code part entries : List ℕ) (at top current made : ℕ) : Type 0 where
  -- what the check has there: the rest of the code, depths, entries and guard
  pub rest : Program
  pub ds : List ℕ
  pub es : List Slot
  pub g : List ℕ
  pub inside : at < length code
  pub here : program_at code at (length code) ≡ some rest
  pub checked : T (parts rest (matching ds es g))
  -- the current terms, consecutive up to the subject's end
  pub accepted : Begins part
  pub walking : Walking part current top
  pub node : ℕ
  pub place_is : top ≡ 2 * node
  pub depths : length ds ≡ current
  pub many : current ≤ current_limit
  -- the entries
  pub room : length entries ≡ entry_limit
  pub count : length es ≡ made
  pub few : made ≤ entry_limit
  pub stands : (i : ℕ) → i < made → Stands part (get_or entries i 0)
  pub numbered : Numbered (front part) (in_line ds node (terms current (drop top part)))
  pub agrees : Agrees Any (matching ds es g) (in_line ds node (terms current (drop top part))) (entered part entries es)

module _ {code part entries : List ℕ} {at top current made : ℕ} (m : Midway code part entries at top current made) where
  -- the machine's state
  abbrev pub state_of : State
  state_of = state (in_line m.ds m.node (terms current (drop top part))) (entered part entries m.es) [] 0 []

-- a SET enters the top
abbrev pub entries_after : ℕ → List ℕ → ℕ → ℕ → List ℕ
entries_after op entries made top = cond (eqb op op_set) (set entries made top) entries

abbrev pub made_after : ℕ → ℕ → ℕ
made_after op made = cond (eqb op op_set) (made + 1) made

module _ {code part entries : List ℕ} {at top current made : ℕ} (m : Midway code part entries at top current made) where
  -- the instruction there goes on, with these entries, to this place, top and count
  pub record Moves (entries' : List ℕ) (made' p top' current' : ℕ) : Type 0 where
    pub i : Instruction
    pub next : Midway code part entries' p top' current' made'
    pub begins : m.rest ≡ i ▸ next.rest
    pub goes : exec i (state_of m) ≡ done (state_of next)
    pub later : at < p

  -- it fails
  pub record Fails (w : Refusal) : Type 0 where
    pub i : Instruction
    pub c : Program
    pub begins : m.rest ≡ i ▸ c
    pub goes : exec i (state_of m) ≡ fails
    pub why : w ≡ MatchFails

  abbrev pub After : Result Standing Refusal → Type 0
  After (Ok s) = Moves (entries_after (get_or code at 0) entries made top) (made_after (get_or code at 0) made) s.at s.top s.current
  After (Err w) = Fails w

  -- a test goes on at a place, with the same entries and current terms
  abbrev pub Tested : Result ℕ Refusal → Type 0
  Tested (Ok p) = Moves (entries_after (get_or code at 0) entries made top) (made_after (get_or code at 0) made) p top current
  Tested (Err w) = Fails w

-- the match instruction at that place, wherever the check may be
pub record Steps (code part entries : List ℕ) (s : Standing) (r : Result Standing Refusal) : Type 0 where
  pub means : (m : Midway code part entries s.at s.top s.current s.made) → After m r

-- the same of an instruction that tests the top
pub record Tests (code part entries : List ℕ) (s : Standing) (r : Result ℕ Refusal) : Type 0 where
  pub means : (m : Midway code part entries s.at s.top s.current s.made) → Tested m r
