-- Code compiled from an accepted rule passes: the match part leaves the rows of the symbol table as entries and no current term, the build part then
-- makes one term, and the words are neither too many nor none.
use mathlib.Core.Path.{◌≡◌, refl}
use Prim.Native.Nat.{ℕ, ◌≤◌}
use native.Mathlib.Omega.{arith}
use mathlib.Core.Bool.{false}
use mathlib.Core.Option.{some}
use mathlib.Core.List.{List, [], ◌∷◌}
use lib.Dec.{T}
use lib.ListN.{length}
use borrow.Author.Tests.{le-leb}
use Rattle.documents.specs.Limits.{code_limit}
use Rattle.documents.specs.Terms.{Term}
use Rattle.documents.specs.Instructions.{IS, ISABST, NEXT, CHECK, SET, EQVAR, EQIMM, EQI, CELL, LAMBDA, ADBMAL, PUSHVAR, PUSHIMM, PUSHI, End, ◌▸◌, Program, words, program_from, program_in}
use Rattle.documents.specs.Translation.{symbol_table, rhs, compile}
use Rattle.documents.specs.Passing.{Slot, matching, builds, parts, obeys, passes}
use Rattle.documents.proofs.Instructions.{program_in_words}
use Rattle.documents.proofs.Numbers.{Accepted}
use Rattle.kahrs.proofs.Locations.{lhs_left}
use Rattle.kahrs.proofs.Main.{crs_rule_lem}
use Rattle.compiled.proofs.WordCount.{compiled_fits}
use Rattle.compiled.proofs.Rows.{slots, update_good}
use Rattle.compiled.proofs.MatchPart.{left_passes}
use Rattle.compiled.proofs.BuildPart.{right_makes}

-- code that the build rules follow has no match instruction at its front
parts_of_builds : (es : List Slot) (c : Program) → T (builds (matching [] es []) c) → T (parts c (matching [] es []))
parts_of_builds es End h = absurd h
parts_of_builds es (IS s n ▸ c) h = absurd h
parts_of_builds es (ISABST ▸ c) h = absurd h
parts_of_builds es (NEXT ▸ c) h = absurd h
parts_of_builds es (CHECK vs ▸ c) h = absurd h
parts_of_builds es (SET ▸ c) h = absurd h
parts_of_builds es (EQVAR x ▸ c) h = absurd h
parts_of_builds es (EQIMM e ▸ c) h = absurd h
parts_of_builds es (EQI e D ps ▸ c) h = absurd h
parts_of_builds es (CELL s n ▸ c) h = h
parts_of_builds es (LAMBDA ▸ c) h = h
parts_of_builds es (ADBMAL ▸ c) h = h
parts_of_builds es (PUSHVAR x ▸ c) h = h
parts_of_builds es (PUSHIMM e ▸ c) h = h
parts_of_builds es (PUSHI e D a ▸ c) h = h

pub compiled_obeys : (left right : List ℕ) (l r : Term) → Accepted left right l r → T (obeys (compile l r))
compiled_obeys left right l r a =
    let c = crs_rule_lem l r a.crs a.left_held.shallow in
    let tab = symbol_table l in
    let good = update_good 0 l [] (omega arith) c.simple tt in
    let k = a.left_held.small in
    let d = a.right_held.shallow in
    let b = right_makes tab good 0 0 r (omega arith) (omega arith) c.closed a.right_held.fits c.known false 0 0 0 [] refl refl in
    rw (lhs_left l c.simple)
    (left_passes 0 l [] (rhs tab 0 r) [] (omega arith) c.simple a.left_held.fits tt (omega arith) a.few
    (parts_of_builds (slots tab) (rhs tab 0 r) (rw b tt)))

-- no words are the program without instructions, which makes no term
some_word : (ws : List ℕ) (c : Program) → program_in ws ≡ some c → T (obeys c) → 1 ≤ length ws
unfolding program_from
some_word [] c e h = let q : c ≡ End = cc in absurd (rw q at h)
some_word (w ∷ ws) c e h = omega arith

-- demand 3: code compiled from an accepted rule always passes
pub compiled_passes : (left right : List ℕ) (l r : Term) → Accepted left right l r → T (passes (words (compile l r)))
compiled_passes left right l r a =
    let o = compiled_obeys left right l r a in
    rw (
      le-leb 1 (length (words (compile l r))) (some_word (words (compile l r)) (compile l r) (program_in_words (compile l r)) o),
      le-leb (length (words (compile l r))) code_limit (compiled_fits left right l r a),
      program_in_words (compile l r),
    ) o
