-- Instructions, and code as words (document 01, 'Rules, valuations, translation'; 004, section 4.2). In opcode order everywhere.
use Rattle.std.specs.Prelude.{ℕ, zero, suc, ◌+◌, ◌-◌, ◌*◌, cond, List, [], ◌∷◌, ◌++◌, eqb, leb, length, get_or, take, drop}
use Rattle.std.proofs.Math.Option.{Option, none, some}
use Rattle.documents.specs.Lists.{need, and_then}

-- An instruction, a program (a list of instructions) and the bodies of a PUSHI are one data type, told apart by a sort.
pub data Piece : Type 0 where
  instruction program bodies : Piece

infixr 40 ◌▸◌
pub data Code : Piece → Type 0 where
  -- name, count
  IS : ℕ → ℕ → Code instruction
  ISABST : Code instruction
  NEXT : Code instruction
  -- indices
  CHECK : List ℕ → Code instruction
  SET : Code instruction
  -- index
  EQVAR : ℕ → Code instruction
  -- entry
  EQIMM : ℕ → Code instruction
  -- entry, d + 64, pairs of indices
  EQI : ℕ → ℕ → List (ℕ × ℕ) → Code instruction
  -- name, count
  CELL : ℕ → ℕ → Code instruction
  LAMBDA : Code instruction
  ADBMAL : Code instruction
  -- index
  PUSHVAR : ℕ → Code instruction
  -- entry
  PUSHIMM : ℕ → Code instruction
  -- entry, d + 64, bodies
  PUSHI : ℕ → ℕ → Code bodies → Code instruction
  -- a program
  End : Code program
  ◌▸◌ : Code instruction → Code program → Code program
  -- bodies, each behind its key
  None : Code bodies
  Body : ℕ → Code program → Code bodies → Code bodies

abbrev pub Instruction : Type 0
Instruction = Code instruction

abbrev pub Program : Type 0
Program = Code program

abbrev pub Bodies : Type 0
Bodies = Code bodies

-- ---- The fourteen opcodes

abbrev pub op_is : ℕ
op_is = 0

abbrev pub op_isabst : ℕ
op_isabst = 1

abbrev pub op_next : ℕ
op_next = 2

abbrev pub op_check : ℕ
op_check = 3

abbrev pub op_set : ℕ
op_set = 4

abbrev pub op_eqvar : ℕ
op_eqvar = 5

abbrev pub op_eqimm : ℕ
op_eqimm = 6

abbrev pub op_eqi : ℕ
op_eqi = 7

abbrev pub op_cell : ℕ
op_cell = 8

abbrev pub op_lambda : ℕ
op_lambda = 9

abbrev pub op_adbmal : ℕ
op_adbmal = 10

abbrev pub op_pushvar : ℕ
op_pushvar = 11

abbrev pub op_pushimm : ℕ
op_pushimm = 12

abbrev pub op_pushi : ℕ
op_pushi = 13

abbrev pub opcode : Instruction → ℕ
opcode (IS s n) = op_is
opcode ISABST = op_isabst
opcode NEXT = op_next
opcode (CHECK vs) = op_check
opcode SET = op_set
opcode (EQVAR x) = op_eqvar
opcode (EQIMM e) = op_eqimm
opcode (EQI e D ps) = op_eqi
opcode (CELL s n) = op_cell
opcode LAMBDA = op_lambda
opcode ADBMAL = op_adbmal
opcode (PUSHVAR x) = op_pushvar
opcode (PUSHIMM e) = op_pushimm
opcode (PUSHI e D a) = op_pushi

-- the number of fixed words after each of the fourteen opcodes
abbrev pub fixed_words : List ℕ
fixed_words = 2 ∷ 0 ∷ 0 ∷ 1 ∷ 0 ∷ 1 ∷ 1 ∷ 3 ∷ 2 ∷ 0 ∷ 0 ∷ 1 ∷ 1 ∷ 3 ∷ []

abbrev pub fixed_after : ℕ → ℕ
fixed_after op = get_or fixed_words op 0

abbrev pub body_count : Bodies → ℕ
body_count None = 0
body_count (Body k c a) = suc (body_count a)

abbrev pub keys : Bodies → List ℕ
keys None = []
keys (Body k c a) = k ∷ keys a

abbrev pub pair_words : List (ℕ × ℕ) → List ℕ
pair_words [] = []
pair_words (p ∷ ps) = p.0 ∷ p.1 ∷ pair_words ps

-- Code as words: opcode first.
abbrev pub words : {p : Piece} → Code p → List ℕ
words (IS s n) = op_is ∷ s ∷ n ∷ []
words ISABST = op_isabst ∷ []
words NEXT = op_next ∷ []
words (CHECK vs) = op_check ∷ length vs ∷ vs
words SET = op_set ∷ []
words (EQVAR x) = op_eqvar ∷ x ∷ []
words (EQIMM e) = op_eqimm ∷ e ∷ []
words (EQI e D ps) = op_eqi ∷ e ∷ D ∷ length ps ∷ pair_words ps
words (CELL s n) = op_cell ∷ s ∷ n ∷ []
words LAMBDA = op_lambda ∷ []
words ADBMAL = op_adbmal ∷ []
words (PUSHVAR x) = op_pushvar ∷ x ∷ []
words (PUSHIMM e) = op_pushimm ∷ e ∷ []
words (PUSHI e D a) = op_pushi ∷ e ∷ D ∷ body_count a ∷ words a
words End = []
words (i ▸ c) = words i ++ words c
words None = []
words (Body k c a) = k ∷ length (words c) ∷ (words c ++ words a)

-- Words as code. Whole instructions only: the words of each lie within those that are left.
abbrev pub pairs_in : List ℕ → List (ℕ × ℕ)
pairs_in [] = []
pairs_in (x ∷ []) = []
pairs_in (x ∷ y ∷ ws) = (x, y) ∷ pairs_in ws

-- an instruction, and the number of its words after the opcode
pub data Read : Type 0 where
  whole : Instruction → ℕ → Read

-- the instruction of opcode op whose further words begin ws; a PUSHI is read below, and no other opcode has one
unfoldable pub plain_in : ℕ → List ℕ → Option Read
plain_in op ws =
    cond (eqb op op_is) (some (whole (IS (get_or ws 0 0) (get_or ws 1 0)) 2))
    (cond (eqb op op_isabst) (some (whole ISABST 0))
    (cond (eqb op op_next) (some (whole NEXT 0))
    (cond (eqb op op_check) (some (whole (CHECK (take (get_or ws 0 0) (drop 1 ws))) (1 + get_or ws 0 0)))
    (cond (eqb op op_set) (some (whole SET 0))
    (cond (eqb op op_eqvar) (some (whole (EQVAR (get_or ws 0 0)) 1))
    (cond (eqb op op_eqimm) (some (whole (EQIMM (get_or ws 0 0)) 1))
    (cond (eqb op op_eqi) (some (whole (EQI (get_or ws 0 0) (get_or ws 1 0) (pairs_in (take (2 * get_or ws 2 0) (drop 3 ws)))) (3 + 2 * get_or ws 2 0)))
    (cond (eqb op op_cell) (some (whole (CELL (get_or ws 0 0) (get_or ws 1 0)) 2))
    (cond (eqb op op_lambda) (some (whole LAMBDA 0))
    (cond (eqb op op_adbmal) (some (whole ADBMAL 0))
    (cond (eqb op op_pushvar) (some (whole (PUSHVAR (get_or ws 0 0)) 1))
    (cond (eqb op op_pushimm) (some (whole (PUSHIMM (get_or ws 0 0)) 1))
    none))))))))))))

-- an instruction before the rest of a program
abbrev pub before : Instruction → Option Program → Option Program
before i o = and_then o (λ c. some (i ▸ c))

-- bodies, and the number of words that are left behind them
pub data ReadBodies : Type 0 where
  whole_bodies : Bodies → ℕ → ReadBodies

abbrev pub plain_then : Option Read → ℕ → (ℕ → ℕ → Option Program) → Option Program
plain_then none n k = none
plain_then (some (whole i m)) n k = need (leb m n) (before i (k m (n - m)))

abbrev pub bodies_then : Option ReadBodies → ℕ → ℕ → ℕ → (ℕ → ℕ → Option Program) → Option Program
bodies_then none e D n k = none
bodies_then (some (whole_bodies a m)) e D n k = before (PUSHI e D a) (k (n - m) m)

abbrev pub body_then : ℕ → Option Program → Option ReadBodies → Option ReadBodies
body_then key none o = none
body_then key (some c) none = none
body_then key (some c) (some (whole_bodies a m)) = some (whole_bodies (Body key c a) m)

-- The list is walked word by word, with a number of words to pass over first, since a word says how many words a list or a body has.
unfoldable mutual
  -- the program in the n words after the first k
  pub program_from : List ℕ → ℕ → ℕ → Option Program
  program_from [] k n = need (eqb n 0) (some End)
  program_from (w ∷ ws) (suc k) n = program_from ws k n
  program_from (w ∷ ws) zero zero = some End
  program_from (w ∷ ws) zero (suc n) =
      need (leb (fixed_after w) n)
      (cond (eqb w op_pushi)
      (bodies_then (bodies_from ws 3 (n - 3) (get_or ws 2 0)) (get_or ws 0 0) (get_or ws 1 0) n (λ k m. program_from ws k m))
      (plain_then (plain_in w ws) n (λ k m. program_from ws k m)))

  -- c bodies in the n words after the first k: each a key, the number of the body's words, the body
  pub bodies_from : List ℕ → ℕ → ℕ → ℕ → Option ReadBodies
  bodies_from [] k n c = need (eqb c 0) (some (whole_bodies None n))
  bodies_from (w ∷ ws) (suc k) n c = bodies_from ws k n c
  bodies_from (w ∷ ws) zero n zero = some (whole_bodies None n)
  bodies_from (w ∷ ws) zero n (suc c) =
      need (leb (2 + get_or ws 0 0) n)
      (body_then w (program_from ws 1 (get_or ws 0 0)) (bodies_from ws (1 + get_or ws 0 0) (n - 2 - get_or ws 0 0) c))

-- The program that code words hold, if they are whole instructions.
abbrev pub program_in : List ℕ → Option Program
program_in ws = program_from ws 0 (length ws)
