-- The match instructions (document 01, 'When code passes').
use Rattle.std.specs.Prelude.{◌≡◌, ℕ, ◌+◌, ◌*◌, Bool, true, false, ◌&&◌, cond, List, [], leb, length, get_or, take, drop, replicate, Result, Ok, Err}
use Rattle.std.proofs.Math.Option.{Option, none, some}
use Rattle.documents.specs.declared.Refusal.{Refusal}
use Rattle.documents.specs.declared.Refusal.TheVariants.{DoesNotPass}
use Rattle.documents.specs.Instructions.{IS, ISABST, NEXT, CHECK, SET, EQVAR, EQIMM, EQI, CELL, LAMBDA, ADBMAL, PUSHVAR, PUSHIMM, PUSHI, Instruction, Read, whole, pairs_in}
use Rattle.documents.specs.Passing.{check_limit, all_below, Slot, match_top}
use Rattle.instructions.specs.Places.{read_at, place_if}
use Rattle.turns.specs.declared.Turned.{Turned}

-- whether a match instruction may stand where the top has depth d, with so many terms below it
abbrev pub is_there : {A : Type 0} → Option A → Bool
is_there none = false
is_there (some a) = true

abbrev pub allowed : Instruction → ℕ → ℕ → List Slot → Bool
allowed i d below es = is_there (match_top i d (replicate below 0) es [])

-- how many terms take the top's place, and their depth
abbrev pub terms_put : Instruction → ℕ
terms_put (IS s n) = n
terms_put ISABST = 1
terms_put NEXT = 0
terms_put (CHECK vs) = 1
terms_put SET = 1
terms_put (EQVAR x) = 1
terms_put (EQIMM e) = 1
terms_put (EQI e D ps) = 1
terms_put (CELL s n) = 1
terms_put LAMBDA = 1
terms_put ADBMAL = 1
terms_put (PUSHVAR x) = 1
terms_put (PUSHIMM e) = 1
terms_put (PUSHI e D a) = 1

abbrev pub depth_put : Instruction → ℕ → ℕ
depth_put (IS s n) d = d
depth_put ISABST d = d + 1
depth_put NEXT d = d
depth_put (CHECK vs) d = d
depth_put SET d = d
depth_put (EQVAR x) d = d
depth_put (EQIMM e) d = d
depth_put (EQI e D ps) d = d
depth_put (CELL s n) d = d
depth_put LAMBDA d = d
depth_put ADBMAL d = d
depth_put (PUSHVAR x) d = d
depth_put (PUSHIMM e) d = d
depth_put (PUSHI e D a) d = d

abbrev pub turned : ℕ → ℕ → ℕ → Result Turned Refusal
turned p n d = Ok (record { next = p; terms = n; depth = d })

abbrev pub turn_if : Bool → ℕ → ℕ → ℕ → Result Turned Refusal
turn_if q p n d = cond q (turned p n d) (Err DoesNotPass)

abbrev pub turn_by : Option Read → ℕ → ℕ → ℕ → List Slot → Result Turned Refusal
turn_by none a d below es = Err DoesNotPass
turn_by (some (whole i m)) a d below es = turn_if (allowed i d below es) (a + 1 + m) (terms_put i) (depth_put i d)

-- the match instruction at place a
unfoldable pub turn_at : List ℕ → ℕ → ℕ → ℕ → List Slot → Result Turned Refusal
turn_at t a d below es = turn_by (read_at t a (length t)) a d below es

-- an instruction that leaves the top, whatever is below it
abbrev pub stayed : Result ℕ Refusal → ℕ → Result Turned Refusal
stayed (Ok p) d = turned p 1 d
stayed (Err w) d = Err w

pub record StaysAt (t : List ℕ) (a d : ℕ) (es : List Slot) (r : Result ℕ Refusal) : Type 0 where
  pub means : (below : ℕ) → stayed r d ≡ turn_at t a d below es

-- a CHECK at place a, and an EQI
unfoldable pub check_at : List ℕ → ℕ → ℕ → Result ℕ Refusal
check_at t a d =
    let n = get_or t (a + 1) 0 in
    place_if (leb n check_limit && (leb (a + 2 + n) (length t) && all_below d (take n (drop (a + 2) t)))) (a + 2 + n)

unfoldable pub eqi_at : List ℕ → ℕ → ℕ → List Slot → Result ℕ Refusal
eqi_at t a d es =
    let n = get_or t (a + 3) 0 in
    place_if (leb (a + 4 + 2 * n) (length t) && allowed (EQI (get_or t (a + 1) 0) (get_or t (a + 2) 0) (pairs_in (take (2 * n) (drop (a + 4) t)))) d 0 es) (a + 4 + 2 * n)
