-- What a walk of build code relies on, of all that the check asks: how many trees there are before each instruction, and that entries are there.
use Rattle.std.specs.Prelude.{◌≡◌, ℕ, zero, suc, ◌+◌, ◌-◌, ◌≤◌, Bool, true, false, ◌&&◌, List, [], ◌∷◌, T, eqb, leb, ltb, length, get_or}
use Rattle.std.proofs.Math.Option.{Option, none, some}
use Rattle.documents.specs.Lists.{need, and_then}
use Rattle.documents.specs.Terms.{one, many}
use Rattle.documents.specs.Instructions.{Piece, instruction, program, bodies, Code, IS, ISABST, NEXT, CHECK, SET, EQVAR, EQIMM, EQI, CELL, LAMBDA, ADBMAL, PUSHVAR, PUSHIMM, PUSHI, End, ◌▸◌, None, Body, Program}
use Rattle.instructions.specs.Places.{program_at}
use Rattle.instructions.specs.Bodies.{body_end}
use Rattle.trees.specs.Trees.{Tree, Bound, Leaf, More, top_of, grown}

abbrev pub is_one : Option ℕ → Bool
is_one none = false
is_one (some h) = eqb h 1

-- the number of trees after an instruction or a program, from a number of trees before it; whether each body makes one
abbrev pub Ran : Piece → Type 0
Ran instruction = ℕ → Option ℕ
Ran program = ℕ → Option ℕ
Ran bodies = Bool

-- with E entries
abbrev pub ran : {p : Piece} → ℕ → Code p → Ran p
ran E (IS s n) = λ h. none
ran E ISABST = λ h. none
ran E NEXT = λ h. none
ran E (CHECK vs) = λ h. none
ran E SET = λ h. none
ran E (EQVAR x) = λ h. none
ran E (EQIMM e) = λ h. none
ran E (EQI e D ps) = λ h. none
ran E (CELL s n) = λ h. need (leb n h) (some (h - n + 1))
ran E LAMBDA = λ h. some h
ran E ADBMAL = λ h. need (leb 1 h) (some h)
ran E (PUSHVAR x) = λ h. some (h + 1)
ran E (PUSHIMM e) = λ h. need (ltb e E) (some (h + 1))
ran E (PUSHI e D a) = λ h. need (ltb e E) (need (leb D 127) (need (ran E a) (some (h + 1))))
ran E End = λ h. some h
ran E (i ▸ c) = λ h. and_then (ran E i h) (ran E c)
ran E None = true
ran E (Body k c a) = is_one (ran E c 0) && ran E a

-- the tree of the code from place a to place e
abbrev pub tree_in : Option Program → Tree one
tree_in none = Bound 0
tree_in (some c) = top_of (grown c [])

unfoldable pub tree_at : List ℕ → ℕ → ℕ → Tree one
tree_at t a e = tree_in (program_at t a e)

-- code from place a to place e that makes one tree
pub record Sequenced (t : List ℕ) (a e E : ℕ) : Type 0 where
  pub program : Program
  pub here : program_at t a e ≡ some program
  pub runs : T (is_one (ran E program 0))

-- c bodies from place q on that make one each
abbrev pub Bodied : List ℕ → ℕ → ℕ → ℕ → Type 0
Bodied t q zero E = Unit {0}
Bodied t q (suc c) E = (body_end t q ≤ length t) × Sequenced t (q + 2) (body_end t q) E × Bodied t (body_end t q) c E

-- their keys, and their trees
unfoldable pub keys_at : List ℕ → ℕ → ℕ → List ℕ
keys_at t q zero = []
keys_at t q (suc c) = get_or t q 0 ∷ keys_at t (body_end t q) c

unfoldable pub trees_at : List ℕ → ℕ → ℕ → Tree many
trees_at t q zero = Leaf
trees_at t q (suc c) = More (tree_at t (q + 2) (body_end t q)) (trees_at t (body_end t q) c)
