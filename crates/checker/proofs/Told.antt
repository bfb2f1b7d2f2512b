-- Guards told by their sets: an entry asks of its guard only which indices it lists, so every test comes out the same where each list is that of
-- its set's members.
use mathlib.Core.Path.{◌≡◌, refl, ap, ◌∙◌}
use Prim.Native.Nat.{ℕ, zero, suc, ◌+◌}
use mathlib.Core.Bool.{Bool, true, false, not}
use mathlib.Core.Option.{Option, none, some}
use mathlib.Core.List.{List, [], ◌∷◌}
use lib.Dec.{eqb, leb, ltb}
use lib.ListN.{length, get_elem?, replicate}
use Rattle.documents.specs.Lists.{need, and_then}
use Rattle.documents.specs.Instructions.{Piece, instruction, program, bodies, Code, IS, ISABST, NEXT, CHECK, SET, EQVAR, EQIMM, EQI, CELL, LAMBDA, ADBMAL, PUSHVAR, PUSHIMM, PUSHI, End, ◌▸◌, None, Body, Instruction, Read, whole, body_count, keys}
use Rattle.documents.specs.Machine.{firsts}
use Rattle.documents.specs.Passing.{Slot, slot, with_slot, covers, seconds, all_below, Matching, matching, blocks, one_more, build}
use Rattle.documents.proofs.Lists.{and_then_ext}
use Rattle.instructions.specs.Places.{read_at}
use Rattle.indices.specs.Sets.{members, gathered}
use Rattle.indices.proofs.Covers.{covers_gathered}
use Rattle.turns.specs.Turns.{is_there, allowed, terms_put, depth_put, turn_if, turn_by, turn_at}

abbrev pub told : Slot → Slot
told (slot b g) = slot b (members (gathered 0 g))

abbrev pub all_told : List Slot → List Slot
all_told [] = []
all_told (s ∷ es) = told s ∷ all_told es

pub length_told : (es : List Slot) → length (all_told es) ≡ length es
length_told [] = refl
length_told (s ∷ es) = ap suc (length_told es)

abbrev told_there : Option Slot → Option Slot
told_there none = none
told_there (some s) = some (told s)

there_told : (es : List Slot) (x : ℕ) → get_elem? (all_told es) x ≡ told_there (get_elem? es x)
there_told [] x = refl
there_told (s ∷ es) zero = refl
there_told (s ∷ es) (suc x) = there_told es x

-- ---- build

abbrev Same : (p : Piece) → List Slot → Bool → ℕ → ℕ → Code p → Type 0
Same instruction es inside l nest i = (hs : List ℕ) → build (all_told es) inside l nest i hs ≡ build es inside l nest i hs
Same program es inside l nest c = (hs : List ℕ) → build (all_told es) inside l nest c hs ≡ build es inside l nest c hs
Same bodies es inside l nest a = build (all_told es) inside l nest a ≡ build es inside l nest a

pub build_told : {p : Piece} (c : Code p) (es : List Slot) (inside : Bool) (l nest : ℕ) → Same p es inside l nest c
build_told (IS s n) es inside l nest = λ hs. refl
build_told ISABST es inside l nest = λ hs. refl
build_told NEXT es inside l nest = λ hs. refl
build_told (CHECK vs) es inside l nest = λ hs. refl
build_told SET es inside l nest = λ hs. refl
build_told (EQVAR x) es inside l nest = λ hs. refl
build_told (EQIMM e) es inside l nest = λ hs. refl
build_told (EQI e D ps) es inside l nest = λ hs. refl
build_told (CELL s n) es inside l nest = λ hs. refl
build_told LAMBDA es inside l nest = λ hs. refl
build_told ADBMAL es inside l nest = λ hs. refl
build_told (PUSHVAR x) es inside l nest = λ hs. refl
build_told (PUSHIMM e) es inside l nest = λ hs. rw (there_told es e) (go hs (get_elem? es e))
  where
    go : (hs : List ℕ) (o : Option Slot) → need (not inside) (with_slot (told_there o) (λ b g. need (eqb (l + blocks hs) b) (one_more hs)))
        ≡ need (not inside) (with_slot o (λ b g. need (eqb (l + blocks hs) b) (one_more hs)))
    go hs none = refl
    go hs (some (slot b g)) = refl
build_told (PUSHI e D a) es inside l nest = λ hs. rw (there_told es e) (go hs (get_elem? es e) (build_told a es true (l + blocks hs) (nest + blocks hs)))
  where
    go : (hs : List ℕ) (o : Option Slot) → build (all_told es) true (l + blocks hs) (nest + blocks hs) a ≡ build es true (l + blocks hs) (nest + blocks hs) a
        → with_slot (told_there o) (λ b g.
        need (eqb (D + b) (l + blocks hs + 64)) (need (leb (body_count a) 8) (need (all_below b (keys a)) (need (covers b g (keys a))
        (need (build (all_told es) true (l + blocks hs) (nest + blocks hs) a) (one_more hs))))))
        ≡ with_slot o (λ b g.
        need (eqb (D + b) (l + blocks hs + 64)) (need (leb (body_count a) 8) (need (all_below b (keys a)) (need (covers b g (keys a))
        (need (build es true (l + blocks hs) (nest + blocks hs) a) (one_more hs))))))
    go hs none h = refl
    go hs (some (slot b g)) h = rw (covers_gathered b g (keys a), h)
build_told End es inside l nest = λ hs. refl
build_told (i ▸ c) es inside l nest = λ hs.
    ap (λ o. and_then o (build (all_told es) inside l nest c)) (build_told i es inside l nest hs)
    ∙ and_then_ext (build es inside l nest i hs) (build (all_told es) inside l nest c) (build es inside l nest c) (build_told c es inside l nest)
build_told None es inside l nest = refl
build_told (Body k c a) es inside l nest = rw (build_told c es true l (nest + 1) (0 ∷ []), build_told a es inside l nest)

-- ---- match

-- whether it is there does not hang on what is carried along
there_need : (q : Bool) (o u : Option Matching) → is_there o ≡ is_there u → is_there (need q o) ≡ is_there (need q u)
there_need true o u e = e
there_need false o u e = refl

pub allowed_told : (i : Instruction) (d below : ℕ) (es : List Slot) → allowed i d below (all_told es) ≡ allowed i d below es
allowed_told (IS s n) d below es =
    there_need (leb s 65535) _ _ (there_need (leb n 8) _ _ (there_need (leb (length (replicate {A = ℕ} below 0) + n) 256) (some _) (some _) refl))
allowed_told ISABST d below es = there_need (ltb d 63) (some _) (some _) refl
allowed_told NEXT d below es = refl
allowed_told (CHECK vs) d below es = there_need (leb (length vs) 63) _ _ (there_need (all_below d vs) (some _) (some _) refl)
allowed_told SET d below es = rw (length_told es) (there_need (ltb (length es) 16) (some _) (some _) refl)
allowed_told (EQVAR x) d below es = there_need (ltb x d) (some _) (some _) refl
allowed_told (EQIMM e) d below es = rw (there_told es e) (go (get_elem? es e))
  where
    go : (o : Option Slot) → is_there (with_slot (told_there o) (λ b g. need (eqb d b) (some (matching (d ∷ replicate below 0) (all_told es) []))))
        ≡ is_there (with_slot o (λ b g. need (eqb d b) (some (matching (d ∷ replicate below 0) es []))))
    go none = refl
    go (some (slot b g)) = there_need (eqb d b) (some _) (some _) refl
allowed_told (EQI e D ps) d below es = rw (there_told es e) (go (get_elem? es e))
  where
    go : (o : Option Slot)
        → is_there (with_slot (told_there o) (λ b g. need (eqb (D + b) (d + 64)) (need (leb (length ps) 8) (need (all_below b (firsts ps)) (need (covers b g (firsts ps)) (need (all_below d (seconds ps)) (some (matching (d ∷ replicate below 0) (all_told es) []))))))))
        ≡ is_there (with_slot o (λ b g. need (eqb (D + b) (d + 64)) (need (leb (length ps) 8) (need (all_below b (firsts ps)) (need (covers b g (firsts ps)) (need (all_below d (seconds ps)) (some (matching (d ∷ replicate below 0) es []))))))))
    go none = refl
    go (some (slot b g)) =
        rw (covers_gathered b g (firsts ps))
        (there_need (eqb (D + b) (d + 64)) _ _ (there_need (leb (length ps) 8) _ _ (there_need (all_below b (firsts ps)) _ _
        (there_need (covers b g (firsts ps)) _ _ (there_need (all_below d (seconds ps)) (some _) (some _) refl)))))
allowed_told (CELL s n) d below es = refl
allowed_told LAMBDA d below es = refl
allowed_told ADBMAL d below es = refl
allowed_told (PUSHVAR x) d below es = refl
allowed_told (PUSHIMM e) d below es = refl
allowed_told (PUSHI e D a) d below es = refl

pub turn_told : (t : List ℕ) (a d below : ℕ) (es : List Slot) → turn_at t a d below (all_told es) ≡ turn_at t a d below es
unfolding turn_at
turn_told t a d below es = go (read_at t a (length t))
  where
    go : (o : Option Read) → turn_by o a d below (all_told es) ≡ turn_by o a d below es
    go none = refl
    go (some (whole i m)) = ap (λ q. turn_if q (a + 1 + m) (terms_put i) (depth_put i d)) (allowed_told i d below es)
