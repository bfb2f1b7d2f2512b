-- What a rule makes of an accepted subject, weighed and then written: of a run at the root of a plan, and of a rewrite at any node of it.
use Rattle.std.specs.Prelude.{Result, Ok, Err, ◌≡◌, ℕ, ◌+◌, ◌≤◌, true, List, [], ◌∷◌, leb, length, take, drop}
use Rattle.std.proofs.Math.Option.{some}
use Rattle.documents.specs.declared.Refusal.TheVariants.{ResultTooLarge, ResultTooDeep, ResultIndexTooLarge}
use Rattle.documents.specs.Limits.{depth_limit, index_limit}
use Rattle.documents.specs.Lists.{every}
use Rattle.documents.specs.Terms.{Term}
use Rattle.documents.specs.Tables.{table_of, nodes, depth, indices}
use Rattle.documents.specs.Instructions.{Program, program_in}
use Rattle.documents.specs.Machine.{Entry, state, done, run}
use Rattle.documents.specs.Passing.{passes}
use Rattle.documents.specs.Numbers.{Answer, answered, refused, unless, subject_in}
use Rattle.tables.specs.Parts.{front}
use Rattle.survey.specs.Places.{places_of}
use Rattle.matcher.specs.Ready.{Ready}
use Rattle.links.specs.Standing.{Scene}
use Rattle.writer.specs.Wanted.{TreeAt}
use Rattle.builder.specs.declared.Weighed.{Weighed}
use Rattle.documents.specs.declared.Refusal.{Refusal}

-- ---- What is known before

-- Code that passes, an accepted subject, and the places of its nodes in the working table.
pub record Begun (code subject work : List ℕ) : Type 0 where
  pub long : 8192 ≤ length work
  pub passed : passes code ≡ true
  pub accepted : subject_in subject ≡ answered (front subject)
  pub places : take (nodes (front subject)) (drop 4096 work) ≡ places_of 1 0 (front subject)

-- .. and the match part has come to the build part at a place, with these entries.
pub record Building (code : List ℕ) (at : ℕ) (subject entries work : List ℕ) : Type 0 where
  pub begun : Begun code subject work
  pub table : List ℕ
  pub made : ℕ
  pub enough : length table ≡ 16
  pub these : entries ≡ take made table
  pub ready : (c : Program) → program_in code ≡ some c → Ready code subject table c at made

-- ---- 13, 14, 15

-- Of a whole that keeps them, but for a part whose root is at a level of it, the whole's own being at 1, and which has so much room.
unfoldable pub weighed_for : ℕ → ℕ → Term → Answer (List ℕ)
weighed_for room level u =
    unless (leb (nodes u) room) ResultTooLarge
    (unless (leb (level + depth u) (depth_limit + 1)) ResultTooDeep
    (unless (every (λ x. leb x index_limit) (indices u)) ResultIndexTooLarge
    (answered (table_of u))))

-- the term that the paper's machine ends with
abbrev pub Ends : List ℕ → List ℕ → Term → Type 0
Ends code subject u = (c : Program) → program_in code ≡ some c → (env : List Entry) × (run c (front subject) ≡ done (state [] env (u ∷ []) 0 []))

-- it stands ready to be written, its tree with the root at a place of the code
pub record Built (code subject entries work : List ℕ) (z : ℕ) (u : Term) : Type 0 where
  pub scene : Scene code subject entries work
  pub tree : TreeAt code subject entries work (length code) 0 0 0 [] z (table_of u)

module _ (code subject entries work' : List ℕ) (room level : ℕ) (u : Term) where
  abbrev pub WeighedAs : Result Weighed Refusal → Type 0
  WeighedAs (Ok w) = (w.nodes ≡ nodes u) × (weighed_for room level u ≡ answered (table_of u)) × Built code subject entries work' w.root u
  WeighedAs (Err w) = weighed_for room level u ≡ refused w

pub record Weighs (code subject entries work work' : List ℕ) (room level : ℕ) (r : Result Weighed Refusal) : Type 0 where
  pub long : length work' ≡ length work
  pub term : Term
  pub ends : Ends code subject term
  pub says : WeighedAs code subject entries work' room level term r
