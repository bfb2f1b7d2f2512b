-- When code passes (document 01).
use Rattle.std.specs.Prelude.{ℕ, zero, suc, ◌+◌, ◌-◌, Bool, true, false, not, ◌&&◌, ◌||◌, cond, List, [], ◌∷◌, eqb, leb, ltb, length}
use Rattle.std.proofs.Math.Option.{Option, none, some}
use Rattle.std.proofs.Math.ListN.{get_elem?}
use Rattle.documents.specs.Limits.{argument_limit, index_limit, code_limit, d_shift}
use Rattle.documents.specs.Lists.{every, member, up_to, need, and_then}
use Rattle.documents.specs.Instructions.{Piece, instruction, program, bodies, Code, IS, ISABST, NEXT, CHECK, SET, EQVAR, EQIMM, EQI, CELL, LAMBDA, ADBMAL, PUSHVAR, PUSHIMM, PUSHI, End, ◌▸◌, None, Body, Instruction, Program, op_cell, opcode, body_count, keys, program_in}
use Rattle.documents.specs.Machine.{firsts}

-- ---- 01's numbers for code, in its order
abbrev pub current_limit : ℕ
current_limit = 256

-- abstractions above a current term, and open LAMBDAs
abbrev pub open_limit : ℕ
open_limit = 63

abbrev pub entry_limit : ℕ
entry_limit = 16

abbrev pub check_limit : ℕ
check_limit = 63

-- pairs of an EQI, keys of a PUSHI
abbrev pub pair_limit : ℕ
pair_limit = 8

abbrev pub nest_limit : ℕ
nest_limit = 64

-- An entry: its depth b, and its guard.
pub data Slot : Type 0 where
  slot : ℕ → List ℕ → Slot

abbrev pub with_slot : {A : Type 0} → Option Slot → (ℕ → List ℕ → Option A) → Option A
with_slot none f = none
with_slot (some (slot b g)) f = f b g

-- ks cover every index below b outside the guard g
abbrev pub covers : ℕ → List ℕ → List ℕ → Bool
covers b g ks = every (λ i. member g i || member ks i) (up_to b)

abbrev pub seconds : List (ℕ × ℕ) → List ℕ
seconds [] = []
seconds (p ∷ ps) = p.1 ∷ seconds ps

abbrev pub all_below : ℕ → List ℕ → Bool
all_below d vs = every (λ x. ltb x d) vs

-- ---- Match

-- The depths of the current terms, the top first; the entries, the newest first; the list of the CHECK directly before, else empty.
pub data Matching : Type 0 where
  matching : List ℕ → List Slot → List ℕ → Matching

abbrev pub times : ℕ → ℕ → List ℕ → List ℕ
times zero d ds = ds
times (suc n) d ds = d ∷ times n d ds

-- a match instruction, with a current term of depth d above those of depths ds
abbrev pub match_top : Instruction → ℕ → List ℕ → List Slot → List ℕ → Option Matching
match_top (IS s n) d ds es g =
    need (leb s index_limit) (need (leb n argument_limit) (need (leb (length ds + n) current_limit) (some (matching (times n d ds) es []))))
match_top ISABST d ds es g = need (ltb d open_limit) (some (matching ((d + 1) ∷ ds) es []))
match_top NEXT d ds es g = some (matching ds es [])
match_top (CHECK vs) d ds es g = need (leb (length vs) check_limit) (need (all_below d vs) (some (matching (d ∷ ds) es vs)))
match_top SET d ds es g = need (ltb (length es) entry_limit) (some (matching (d ∷ ds) (slot d g ∷ es) []))
match_top (EQVAR x) d ds es g = need (ltb x d) (some (matching (d ∷ ds) es []))
match_top (EQIMM e) d ds es g = with_slot (get_elem? es e) (λ b h. need (eqb d b) (some (matching (d ∷ ds) es [])))
match_top (EQI e D ps) d ds es g = with_slot (get_elem? es e) (λ b h.
    need (eqb (D + b) (d + d_shift)) (need (leb (length ps) pair_limit)
    (need (all_below b (firsts ps)) (need (covers b h (firsts ps)) (need (all_below d (seconds ps)) (some (matching (d ∷ ds) es [])))))))
match_top (CELL s n) d ds es g = none
match_top LAMBDA d ds es g = none
match_top ADBMAL d ds es g = none
match_top (PUSHVAR x) d ds es g = none
match_top (PUSHIMM e) d ds es g = none
match_top (PUSHI e D a) d ds es g = none

-- each instruction needs a current term
abbrev pub match_step : Instruction → Matching → Option Matching
match_step i (matching [] es g) = none
match_step i (matching (d ∷ ds) es g) = match_top i d ds es g

-- ---- Build

-- The finished terms of each open block, the innermost first; at the end of the list those of the body, or of the whole, itself.
-- So l, the open LAMBDAs, are those where the body began and one for each open block.
abbrev pub blocks : List ℕ → ℕ
blocks hs = length hs - 1

-- one finished term more in the innermost block
abbrev pub one_more : List ℕ → Option (List ℕ)
one_more [] = none
one_more (h ∷ hs) = some ((h + 1) ∷ hs)

-- CELL takes n of the innermost block and adds one
abbrev pub take_many : ℕ → List ℕ → Option (List ℕ)
take_many n [] = none
take_many n (h ∷ hs) = need (leb n h) (some ((h - n + 1) ∷ hs))

-- ADBMAL closes a block that holds exactly one
abbrev pub shut : List ℕ → Option (List ℕ)
shut [] = none
shut (h ∷ []) = none
shut (h ∷ h₀ ∷ hs) = need (eqb h 1) (some ((h₀ + 1) ∷ hs))

-- exactly one term, and no open block
abbrev pub one_term : Option (List ℕ) → Bool
one_term none = false
one_term (some []) = false
one_term (some (h ∷ [])) = eqb h 1
one_term (some (h ∷ h₀ ∷ hs)) = false

abbrev pub Building : Piece → Type 0
Building instruction = List ℕ → Option (List ℕ)
Building program = List ℕ → Option (List ℕ)
Building bodies = Bool

-- `inside`: in a body. l and nest: the open LAMBDAs, and the blocks and bodies around, where this body (or the whole) began.
abbrev pub build : {p : Piece} → List Slot → Bool → ℕ → ℕ → Code p → Building p
build es inside l nest (IS s n) = λ hs. none
build es inside l nest ISABST = λ hs. none
build es inside l nest NEXT = λ hs. none
build es inside l nest (CHECK vs) = λ hs. none
build es inside l nest SET = λ hs. none
build es inside l nest (EQVAR x) = λ hs. none
build es inside l nest (EQIMM e) = λ hs. none
build es inside l nest (EQI e D ps) = λ hs. none
build es inside l nest (CELL s n) = λ hs. need (leb s index_limit) (need (leb n argument_limit) (take_many n hs))
build es inside l nest LAMBDA = λ hs. need (ltb (l + blocks hs) open_limit) (need (ltb (nest + blocks hs) nest_limit) (some (0 ∷ hs)))
build es inside l nest ADBMAL = shut
build es inside l nest (PUSHVAR x) = λ hs. need (ltb x (l + blocks hs)) (one_more hs)
build es inside l nest (PUSHIMM e) = λ hs. need (not inside) (with_slot (get_elem? es e) (λ b g. need (eqb (l + blocks hs) b) (one_more hs)))
build es inside l nest (PUSHI e D a) = λ hs. with_slot (get_elem? es e) (λ b g.
    need (eqb (D + b) (l + blocks hs + d_shift)) (need (leb (body_count a) pair_limit) (need (all_below b (keys a)) (need (covers b g (keys a))
    (need (build es true (l + blocks hs) (nest + blocks hs) a) (one_more hs))))))
build es inside l nest End = λ hs. some hs
build es inside l nest (i ▸ c) = λ hs. and_then (build es inside l nest i hs) (build es inside l nest c)
build es inside l nest None = true
-- each body obeys the build rules alone, from l, closes its own blocks and makes exactly one term
build es inside l nest (Body k c a) = ltb nest nest_limit && one_term (build es true l (nest + 1) c (0 ∷ [])) && build es inside l nest a

-- ---- The whole

abbrev pub is_match : Instruction → Bool
is_match i = ltb (opcode i) op_cell

-- none current at the end of the match part; the build part makes exactly one term
abbrev pub builds : Matching → Program → Bool
builds (matching [] es g) c = one_term (build es false 0 0 c (0 ∷ []))
builds (matching (d ∷ ds) es g) c = false

abbrev pub and_then_holds : {A : Type 0} → Option A → (A → Bool) → Bool
and_then_holds none f = false
and_then_holds (some a) f = f a

-- First a match part, then a build part.
abbrev pub parts : Program → Matching → Bool
parts End m = false
parts (i ▸ c) m = cond (is_match i) (and_then_holds (match_step i m) (parts c)) (builds m (i ▸ c))

-- to begin with, one current term of depth 0
abbrev pub obeys : Program → Bool
obeys c = parts c (matching (0 ∷ []) [] [])

-- 1 to 4,096 words, whole instructions only
abbrev pub passes : List ℕ → Bool
passes ws = leb 1 (length ws) && leb (length ws) code_limit && and_then_holds (program_in ws) obeys
