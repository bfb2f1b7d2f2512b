-- The check's limits hold after each instruction: at most 256 current terms and 16 entries in the match part, at most 63 open LAMBDAs and 64
-- blocks and bodies in the build part. Each instruction that adds one tests for it, so this is by cases on the instruction.
use mathlib.Core.Path.{◌≡◌}
use Prim.Native.Nat.{ℕ, zero, suc, ◌+◌, ◌-◌, ◌≤◌}
use native.Mathlib.Omega.{arith}
use mathlib.Core.Bool.{Bool, false, not, cond}
use mathlib.Core.Option.{some}
use mathlib.Core.List.{List, [], ◌∷◌}
use lib.Dec.{eqb, leb, ltb}
use lib.ListN.{length, get_elem?}
use borrow.Author.Tests.{leb-true, ltb-true}
use Rattle.documents.specs.Limits.{argument_limit, index_limit, d_shift}
use Rattle.documents.specs.Lists.{and_then}
use Rattle.documents.specs.Instructions.{IS, ISABST, NEXT, CHECK, SET, EQVAR, EQIMM, EQI, CELL, LAMBDA, ADBMAL, PUSHVAR, PUSHIMM, PUSHI, End, ◌▸◌, Instruction, Program}
use Rattle.documents.specs.Machine.{firsts, first}
use Rattle.documents.specs.Passing.{current_limit, open_limit, entry_limit, check_limit, pair_limit, nest_limit, Slot, covers, seconds, all_below, Matching, matching, match_top, match_step, blocks, one_more, take_many, shut, build, is_match}
use Rattle.documents.proofs.Lists.{never, case, needed, and_then_is}
use Rattle.documents.proofs.Passing.{length_times}
use Rattle.safety.proofs.Asked.{slot_there, push_asked}
use Rattle.safety.proofs.Counts.{Progress, in_match, current_count, entry_count, built_after, progress, beginning}

-- ---- The match part

abbrev pub Within : Matching → Type 0
Within (matching ds es g) = (length ds ≤ current_limit) × (length es ≤ entry_limit)

within_of : {m m' : Matching} → some m ≡ some m' → Within m → Within m'
within_of {m} {m'} e h = let p : m ≡ m' = cc in rw p at h

top_within : (i : Instruction) (d : ℕ) (ds : List ℕ) (es : List Slot) (g : List ℕ) (m : Matching) → match_top i d ds es g ≡ some m
    → suc (length ds) ≤ current_limit → length es ≤ entry_limit → Within m
top_within (IS s n) d ds es g m w c o =
    let q = needed (leb (length ds + n) current_limit) _ m (needed (leb n argument_limit) _ m (needed (leb s index_limit) _ m w).1).1 in
    let h = leb-true (length ds + n) current_limit q.0 in
    let k = length_times n d ds in
    within_of q.1 (omega arith, o)
top_within ISABST d ds es g m w c o = within_of (needed (ltb d open_limit) _ m w).1 (c, o)
top_within NEXT d ds es g m w c o = within_of w (omega arith, o)
top_within (CHECK vs) d ds es g m w c o = within_of (needed (all_below d vs) _ m (needed (leb (length vs) check_limit) _ m w).1).1 (c, o)
top_within SET d ds es g m w c o =
    let q = needed (ltb (length es) entry_limit) _ m w in
    let h = ltb-true (length es) entry_limit q.0 in
    within_of q.1 (c, h)
top_within (EQVAR x) d ds es g m w c o = within_of (needed (ltb x d) _ m w).1 (c, o)
top_within (EQIMM e) d ds es g m w c o =
    let r = slot_there (get_elem? es e) _ m w in
    within_of (needed (eqb d r.0) _ m r.2).1 (c, o)
top_within (EQI e D ps) d ds es g m w c o =
    let r = slot_there (get_elem? es e) _ m w in
    let b = r.0 in
    within_of
    (needed (all_below d (seconds ps)) _ m (needed (covers b r.1 (firsts ps)) _ m (needed (all_below b (firsts ps)) _ m
    (needed (leb (length ps) pair_limit) _ m (needed (eqb (D + b) (d + d_shift)) _ m r.2).1).1).1).1).1 (c, o)
top_within (CELL s n) d ds es g m w c o = never (cc)
top_within LAMBDA d ds es g m w c o = never (cc)
top_within ADBMAL d ds es g m w c o = never (cc)
top_within (PUSHVAR x) d ds es g m w c o = never (cc)
top_within (PUSHIMM e) d ds es g m w c o = never (cc)
top_within (PUSHI e D a) d ds es g m w c o = never (cc)

pub match_within : (i : Instruction) (m m' : Matching) → match_step i m ≡ some m' → Within m → Within m'
match_within i (matching [] es g) m' w h = never (cc)
match_within i (matching (d ∷ ds) es g) m' w h = top_within i d ds es g m' w h.0 h.1

-- ---- The numbers after the first i instructions

abbrev pub Limited : Progress → Type 0
Limited p = (current_count p ≤ current_limit) × (entry_count p ≤ entry_limit)

limited_of : {p q : Progress} → some p ≡ some q → Limited p → Limited q
limited_of {p} {q} e h = let z : p ≡ q = cc in rw z at h

built_limited : (i : ℕ) (c : Program) (m : Matching) (p : Progress) → built_after i c m ≡ some p → Within m → Limited p
built_limited i c (matching ds es g) p e h =
    let q = and_then_is (build es false 0 0 (first i c) (0 ∷ [])) _ p e in
    limited_of q.2 (omega arith, h.1)

match_limited : (m : Matching) → Within m → Limited (in_match m)
match_limited (matching ds es g) h = h

progress_within : (i : ℕ) (c : Program) (m : Matching) (p : Progress) → progress i c m ≡ some p → Within m → Limited p
progress_within zero c m p e h = limited_of e (match_limited m h)
progress_within (suc i) End m p e h = limited_of e (match_limited m h)
progress_within (suc i) (j ▸ c) m p e h =
    case (λ q. cond q (and_then (match_step j m) (progress i c)) (built_after (suc i) (j ▸ c) m) ≡ some p → Limited p) (is_match j)
    (λ y w. let q = and_then_is (match_step j m) _ p w in progress_within i c q.0 p q.2 (match_within j m q.0 q.1 h))
    (λ y w. built_limited (suc i) (j ▸ c) m p w h) e

-- at most 256 current terms and 16 entries
pub progress_limited : (c : Program) (i : ℕ) (p : Progress) → progress i c beginning ≡ some p → Limited p
progress_limited c i p e = progress_within i c beginning p e (omega arith)

-- ---- The build part

-- the open LAMBDAs, and the blocks and bodies around
abbrev pub Nested : ℕ → ℕ → List ℕ → Type 0
Nested l nest hs = (l + blocks hs ≤ open_limit) × (nest + blocks hs ≤ nest_limit)

nested_of : (l nest : ℕ) (hs ks : List ℕ) → some hs ≡ some ks → Nested l nest hs → Nested l nest ks
nested_of l nest hs ks e h = let p : hs ≡ ks = cc in rw p at h

more_nested : (l nest : ℕ) (hs ks : List ℕ) → one_more hs ≡ some ks → Nested l nest hs → Nested l nest ks
more_nested l nest [] ks e h = never (cc)
more_nested l nest (x ∷ hs) ks e h = nested_of l nest ((x + 1) ∷ hs) ks e h

taken_nested : (n l nest : ℕ) (hs ks : List ℕ) → take_many n hs ≡ some ks → Nested l nest hs → Nested l nest ks
taken_nested n l nest [] ks e h = never (cc)
taken_nested n l nest (x ∷ hs) ks e h = nested_of l nest ((x - n + 1) ∷ hs) ks (needed (leb n x) _ ks e).1 h

shut_nested : (l nest : ℕ) (hs ks : List ℕ) → shut hs ≡ some ks → Nested l nest hs → Nested l nest ks
shut_nested l nest [] ks e h = never (cc)
shut_nested l nest (x ∷ []) ks e h = never (cc)
shut_nested l nest (x ∷ y ∷ hs) ks e h = nested_of l nest ((y + 1) ∷ hs) ks (needed (eqb x 1) _ ks e).1 (omega arith)

step_nested : (es : List Slot) (inside : Bool) (l nest : ℕ) (i : Instruction) (hs ks : List ℕ) → build es inside l nest i hs ≡ some ks
    → Nested l nest hs → Nested l nest ks
step_nested es inside l nest (IS s n) hs ks e h = never (cc)
step_nested es inside l nest ISABST hs ks e h = never (cc)
step_nested es inside l nest NEXT hs ks e h = never (cc)
step_nested es inside l nest (CHECK vs) hs ks e h = never (cc)
step_nested es inside l nest SET hs ks e h = never (cc)
step_nested es inside l nest (EQVAR x) hs ks e h = never (cc)
step_nested es inside l nest (EQIMM n) hs ks e h = never (cc)
step_nested es inside l nest (EQI n D ps) hs ks e h = never (cc)
step_nested es inside l nest (CELL s n) hs ks e h = taken_nested n l nest hs ks (needed (leb n argument_limit) _ ks (needed (leb s index_limit) _ ks e).1).1 h
step_nested es inside l nest LAMBDA hs ks e h =
    let p = needed (ltb (l + blocks hs) open_limit) _ ks e in
    let q = needed (ltb (nest + blocks hs) nest_limit) _ ks p.1 in
    let a = ltb-true (l + blocks hs) open_limit p.0 in
    let b = ltb-true (nest + blocks hs) nest_limit q.0 in
    nested_of l nest (0 ∷ hs) ks q.1 (omega arith)
step_nested es inside l nest ADBMAL hs ks e h = shut_nested l nest hs ks e h
step_nested es inside l nest (PUSHVAR x) hs ks e h = more_nested l nest hs ks (needed (ltb x (l + blocks hs)) _ ks e).1 h
step_nested es inside l nest (PUSHIMM n) hs ks e h =
    let r = slot_there (get_elem? es n) _ ks (needed (not inside) _ ks e).1 in
    more_nested l nest hs ks (needed (eqb (l + blocks hs) r.0) _ ks r.2).1 h
step_nested es inside l nest (PUSHI n D a) hs ks e h =
    let r = slot_there (get_elem? es n) _ ks e in
    more_nested l nest hs ks (push_asked es l nest D a hs ks r.0 r.1 r.2).more h

-- at most 63 open LAMBDAs, and 64 blocks and bodies, wherever that was so to begin with
pub build_nested : (es : List Slot) (inside : Bool) (l nest : ℕ) (c : Program) (hs ks : List ℕ) → build es inside l nest c hs ≡ some ks
    → Nested l nest hs → Nested l nest ks
build_nested es inside l nest End hs ks e h = nested_of l nest hs ks e h
build_nested es inside l nest (i ▸ c) hs ks e h =
    let q = and_then_is (build es inside l nest i hs) _ ks e in
    build_nested es inside l nest c q.0 ks q.2 (step_nested es inside l nest i hs q.0 q.1 h)
