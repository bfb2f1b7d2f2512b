-- The tree of build code that the check has passed is safe: its names and counts fit, and what it binds is open. The blocks that are open hold
-- trees here, as in trees' Growing, which says what code makes of them; this asks for no entries.
use mathlib.Core.Path.{◌≡◌, refl, ap, ap₂, ◌∙◌}
use Prim.Native.Nat.{ℕ, zero, suc, ◌+◌, ◌-◌, ◌≤◌, ◌<◌}
use native.Mathlib.Nat.{le_of_suc-le-suc, not-suc-le-zero}
use native.Mathlib.Omega.{arith}
use mathlib.Core.Bool.{Bool, true, false, not}
use mathlib.Core.Option.{Option, some}
use mathlib.Core.List.{List, [], ◌∷◌, ◌++◌, map}
use lib.Dec.{T, eqb, leb, ltb}
use lib.ListN.{length, get_elem?}
use borrow.Author.Tests.{eqb-true, leb-true, ltb-true}
use Rattle.documents.specs.Limits.{argument_limit, index_limit}
use Rattle.documents.specs.Terms.{one, many}
use Rattle.documents.specs.Instructions.{Piece, instruction, program, bodies, Code, IS, ISABST, NEXT, CHECK, SET, EQVAR, EQIMM, EQI, CELL, LAMBDA, ADBMAL, PUSHVAR, PUSHIMM, PUSHI, End, ◌▸◌, None, Body, Instruction, Program, Bodies, keys}
use Rattle.documents.specs.Passing.{open_limit, nest_limit, Slot, blocks, one_term, build}
use Rattle.documents.proofs.Lists.{never, needed, and_then_is}
use Rattle.safety.proofs.Asked.{slot_there, push_asked, one_term_lem, body_asked}
use Rattle.safety.proofs.Building.{level, level_is, counts_are}
use Rattle.trees.specs.Trees.{Tree, Cell, Block, Bound, Whole, Pushed, Leaf, More, count, taken, left, top_of, grown}
use Rattle.trees.proofs.Growing.{Blocks, flat, length_left, taken_of_block, left_of_block}
use Rattle.links.specs.Standing.{Safe}

-- ---- Trees of a block

abbrev pub AllSafe : ℕ → List (Tree one) → Type 0
AllSafe l [] = Unit {0}
AllSafe l (p ∷ ps) = Safe l p × AllSafe l ps

taken_safe : (l n : ℕ) (qs : Tree many) (ps : List (Tree one)) → Safe l qs → AllSafe l ps → Safe l (taken n qs ps)
taken_safe l zero qs ps g h = g
taken_safe l (suc n) qs [] g h = g
taken_safe l (suc n) qs (p ∷ ps) g h = taken_safe l n (More p qs) ps (h.0, g) h.1

left_safe : (l n : ℕ) (ps : List (Tree one)) → AllSafe l ps → AllSafe l (left n ps)
left_safe l zero ps h = h
left_safe l (suc n) [] h = tt
left_safe l (suc n) (p ∷ ps) h = left_safe l n ps h.1

pub count_taken : (n : ℕ) (qs : Tree many) (ps : List (Tree one)) → n ≤ length ps → count (taken n qs ps) ≡ count qs + n
count_taken zero qs ps h = omega arith
count_taken (suc n) qs [] h = absurd (not-suc-le-zero h)
count_taken (suc n) qs (p ∷ ps) h = let k = count_taken n (More p qs) ps (le_of_suc-le-suc h) in omega arith

-- blocks with their trees, no more than may be open
abbrev pub BlocksSafe : ℕ → Blocks → Type 0
BlocksSafe l [] = Unit {0}
BlocksSafe l (ps ∷ B) = (level B l ≤ open_limit) × AllSafe (level B l) ps × BlocksSafe l B

-- from these blocks to blocks that the check counts as hs and `grown` makes of them
pub record Step (l : ℕ) (grow : List (Tree one) → List (Tree one)) (ps : List (Tree one)) (B : Blocks) (hs : List ℕ) : Type 0 where
  pub top : List (Tree one)
  pub around : Blocks
  pub counted : hs ≡ map length (top ∷ around)
  pub safe : BlocksSafe l (top ∷ around)
  pub grows : grow (ps ++ flat B) ≡ top ++ flat around

pub record BodiesSafe (l : ℕ) (a : Bodies) : Type 0 where
  pub arity : length (keys a) ≡ count (grown a)
  pub safe : Safe l (grown a)

-- code that makes one tree makes a safe one
one_safe : (l : ℕ) (c : Program) → Step l (grown c) [] [] (1 ∷ []) → Safe l (top_of (grown c []))
one_safe l c s = go s.top s.around s.counted s.safe s.grows
  where
    go : (ps : List (Tree one)) (B : Blocks) → 1 ∷ [] ≡ map length (ps ∷ B) → BlocksSafe l (ps ∷ B) → grown c [] ≡ ps ++ flat B → Safe l (top_of (grown c []))
    go ps (b ∷ B) e f w = never (cc)
    go [] [] e f w = never (cc)
    go (p ∷ ps) [] e f w = rw w f.1.0

-- ---- Instructions

module _ (es : List Slot) where
  abbrev Growing : (Bool → ℕ → ℕ → List ℕ → Option (List ℕ)) → (List (Tree one) → List (Tree one)) → Type 0
  Growing check grow =
      (inside : Bool) (l nest : ℕ) (ps : List (Tree one)) (B : Blocks) (hs : List ℕ) → check inside l nest (map length (ps ∷ B)) ≡ some hs
      → BlocksSafe l (ps ∷ B) → Step l grow ps B hs

  abbrev pub Claim : (p : Piece) → Code p → Type 0
  Claim instruction i = Growing (λ inside l nest. build es inside l nest i) (grown i)
  Claim program c = Growing (λ inside l nest. build es inside l nest c) (grown c)
  Claim bodies a = (inside : Bool) (l nest : ℕ) → l ≤ open_limit → T (build es inside l nest a) → BodiesSafe l a

  CELL-safe : (s n : ℕ) → Claim instruction (CELL s n)
  CELL-safe s n inside l nest ps B hs e f =
      let q₁ = needed (leb s index_limit) _ hs e in
      let q₂ = needed (leb n argument_limit) _ hs q₁.1 in
      let q₃ = needed (leb n (length ps)) _ hs q₂.1 in
      let s-fits = leb-true s index_limit q₁.0 in
      let n-fits = leb-true n argument_limit q₂.0 in
      let h = leb-true n (length ps) q₃.0 in
      let k = count_taken n Leaf ps h in
      record {
        top = Cell s (taken n Leaf ps) ∷ left n ps;
        around = B;
        counted = counts_are (length ps - n + 1) _ _ hs q₃.1 (let k = length_left n ps in omega arith);
        safe = (f.0, ((s-fits, omega arith, taken_safe _ n Leaf ps tt f.1), left_safe _ n ps f.1), f.2);
        grows = ap₂ (λ (qs : Tree many) (rest : List (Tree one)). Cell s qs ∷ rest) (taken_of_block n Leaf ps (flat B) h) (left_of_block n ps (flat B) h);
      }

  LAMBDA-safe : Claim instruction LAMBDA
  LAMBDA-safe inside l nest ps B hs e f =
      let p = needed (ltb (l + blocks (map length (ps ∷ B))) open_limit) _ hs e in
      let q = needed (ltb (nest + blocks (map length (ps ∷ B))) nest_limit) _ hs p.1 in
      let h : level B l < open_limit = rw (level_is l ps B) at (ltb-true (l + blocks (map length (ps ∷ B))) open_limit p.0) in
      record { top = []; around = ps ∷ B; counted = counts_are 0 0 _ hs q.1 refl; safe = (h, tt, f); grows = refl }

  ADBMAL-safe : Claim instruction ADBMAL
  ADBMAL-safe inside l nest ps [] hs e f = never (cc)
  ADBMAL-safe inside l nest ps (b ∷ B) hs e f =
      let q = needed (eqb (length ps) 1) _ hs e in
      go ps f (eqb-true (length ps) 1 q.0) (counts_are (length b + 1) (suc (length b)) _ hs q.1 (omega arith))
    where
      go : (ps : List (Tree one)) → BlocksSafe l (ps ∷ b ∷ B) → length ps ≡ 1 → hs ≡ suc (length b) ∷ map length B → Step l (grown ADBMAL) ps (b ∷ B) hs
      go [] f e k = absurd (omega arith)
      go (p ∷ q ∷ ps) f e k = absurd (omega arith)
      go (p ∷ []) f e k = record { top = Block p ∷ b; around = B; counted = k; safe = (f.2.0, ((f.0, f.1.0), f.2.1), f.2.2); grows = refl }

  PUSHVAR-safe : (x : ℕ) → Claim instruction (PUSHVAR x)
  PUSHVAR-safe x inside l nest ps B hs e f =
      let q = needed (ltb x (l + blocks (map length (ps ∷ B)))) _ hs e in
      let h : x < level B l = rw (level_is l ps B) at (ltb-true x (l + blocks (map length (ps ∷ B))) q.0) in
      record { top = Bound x ∷ ps; around = B; counted = counts_are (length ps + 1) _ _ hs q.1 (omega arith); safe = (f.0, (h, f.1), f.2); grows = refl }

  PUSHIMM-safe : (n : ℕ) → Claim instruction (PUSHIMM n)
  PUSHIMM-safe n inside l nest ps B hs e f =
      let r = slot_there (get_elem? es n) _ hs (needed (not inside) _ hs e).1 in
      let q = needed (eqb (l + blocks (map length (ps ∷ B))) r.0) _ hs r.2 in
      record { top = Whole n ∷ ps; around = B; counted = counts_are (length ps + 1) _ _ hs q.1 (omega arith); safe = (f.0, (tt, f.1), f.2); grows = refl }

  PUSHI-safe : (n D : ℕ) (a : Bodies) → Claim bodies a → Claim instruction (PUSHI n D a)
  PUSHI-safe n D a each inside l nest ps B hs e f =
      let m = map length (ps ∷ B) in
      let r = slot_there (get_elem? es n) _ hs e in
      let q = push_asked es l nest D a m hs r.0 r.1 r.2 in
      let t : T (build es true (level B l) (nest + blocks m) a) = rw (level_is l ps B) at q.bodies in
      let s = each true (level B l) (nest + blocks m) f.0 t in
      record {
        top = Pushed n D (keys a) (grown a) ∷ ps;
        around = B;
        counted = counts_are (length ps + 1) _ _ hs q.more (omega arith);
        safe = (f.0, ((s.arity, s.safe), f.1), f.2);
        grows = refl;
      }

  safe_then : (i : Instruction) (c : Program) (l : ℕ) (ps : List (Tree one)) (B : Blocks) (hs ks : List ℕ)
      → (s : Step l (grown i) ps B hs) → Step l (grown c) s.top s.around ks → Step l (grown (i ▸ c)) ps B ks
  safe_then i c l ps B hs ks s t =
      record { top = t.top; around = t.around; counted = t.counted; safe = t.safe; grows = ap (grown c) s.grows ∙ t.grows }

  -- what the check passes grows safe trees
  pub safe_as_checked : {p : Piece} (c : Code p) → Claim p c
  safe_as_checked (IS s n) = λ inside l nest ps B hs e f. never (cc)
  safe_as_checked ISABST = λ inside l nest ps B hs e f. never (cc)
  safe_as_checked NEXT = λ inside l nest ps B hs e f. never (cc)
  safe_as_checked (CHECK vs) = λ inside l nest ps B hs e f. never (cc)
  safe_as_checked SET = λ inside l nest ps B hs e f. never (cc)
  safe_as_checked (EQVAR x) = λ inside l nest ps B hs e f. never (cc)
  safe_as_checked (EQIMM n) = λ inside l nest ps B hs e f. never (cc)
  safe_as_checked (EQI n D vs) = λ inside l nest ps B hs e f. never (cc)
  safe_as_checked (CELL s n) = CELL-safe s n
  safe_as_checked LAMBDA = LAMBDA-safe
  safe_as_checked ADBMAL = ADBMAL-safe
  safe_as_checked (PUSHVAR x) = PUSHVAR-safe x
  safe_as_checked (PUSHIMM n) = PUSHIMM-safe n
  safe_as_checked (PUSHI n D a) = PUSHI-safe n D a (safe_as_checked a)
  safe_as_checked End = λ inside l nest ps B hs e f. record { top = ps; around = B; counted = counts_are (length ps) _ _ hs e refl; safe = f; grows = refl }
  safe_as_checked (i ▸ c) = λ inside l nest ps B hs e f.
      let q = and_then_is (build es inside l nest i (map length (ps ∷ B))) _ hs e in
      let s = safe_as_checked i inside l nest ps B q.0 q.1 f in
      safe_then i c l ps B q.0 hs s (safe_as_checked c inside l nest s.top s.around hs (rw s.counted at q.2) s.safe)
  safe_as_checked None = λ inside l nest o t. record { arity = refl; safe = tt }
  safe_as_checked (Body k c a) = λ inside l nest o t.
      let q = body_asked es inside l nest k c a t in
      let m = one_safe l c (safe_as_checked c true l (nest + 1) [] [] (1 ∷ []) q.0 (o, tt, tt)) in
      let r = safe_as_checked a inside l nest o q.1 in
      record { arity = ap suc r.arity; safe = (m, r.safe) }

-- a checked build part
pub checked_safe : (es : List Slot) (c : Program) → T (one_term (build es false 0 0 c (0 ∷ []))) → Safe 0 (top_of (grown c []))
checked_safe es c t = one_safe 0 c (safe_as_checked es c false 0 0 [] [] (1 ∷ []) (one_term_lem _ t) (omega arith, tt, tt))
