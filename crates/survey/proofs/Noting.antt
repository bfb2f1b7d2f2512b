-- The walk of a subject that is known to be accepted: what is refused is not met, since no refusal is the answer to the subject, and where the walk ends
-- it has laid out all places.
use mathlib.Core.Path.{◌≡◌, refl, ap, ◌∙◌}
use Prim.Native.Nat.{ℕ, ◌+◌, ◌*◌, ◌%◌, ◌≤◌, ◌<◌}
use mathlib.Core.Bool.{Bool, true, false}
use mathlib.Core.List.{List, []}
use lib.Dec.{leb}
use lib.ListN.{length, take, get_or}
use borrow.Author.Tests.{leb-true, leb-false}
use Rattle.documents.specs.Tables.{nodes, depth}
use Rattle.documents.specs.Numbers.{answered, subject_in}
use Rattle.documents.specs.declared.Refusal.{Refusal}
use Rattle.documents.proofs.Lists.{never}
use Rattle.std.specs.Prelude.{Result, Ok, Err}
use Rattle.tables.specs.Answers.{sized, is_good}
use Rattle.tables.specs.Parts.{front}
use Rattle.survey.specs.Places.{places_of, Surveyed, Unfit, may_stand}
use Rattle.survey.proofs.Surveying.{Surveying, surveyed_long, refused_bad, refused_deep, refused_unfit, refused_here}

module _ (subject : List ℕ) (a : subject_in subject ≡ answered (front subject)) where
  not_refused : (r : Refusal) → Err r ≡ sized (subject_in subject) → ⊥
  not_refused r e = let q : Err r ≡ Ok (nodes (front subject)) = e ∙ ap sized a in never (cc)

  pub short : length subject ≤ 8192
  short = go (leb (length subject) 8192) (leb-true (length subject) 8192) (leb-false (length subject) 8192)
    where
      go : (q : Bool) → (q ≡ true → length subject ≤ 8192) → (q ≡ false → 8192 < length subject) → length subject ≤ 8192
      go true f g = f refl
      go false f g = absurd (not_refused _ (surveyed_long subject [] (g refl)).size)

  fit : Unfit subject → ⊥
  fit u = go (is_good subject) (leb (depth (front subject)) 64) refl refl
    where
      go : (p q : Bool) → is_good subject ≡ p → leb (depth (front subject)) 64 ≡ q → ⊥
      go false q g d = not_refused _ (refused_bad subject short g)
      go true false g d = not_refused _ (refused_deep subject g short d)
      go true true g d = not_refused _ (refused_unfit subject g short u d)

  -- no node is refused
  pub stands : {places waiting : List ℕ} {kept here node : ℕ} → Surveying subject places waiting kept here node → 2 * node + 1 < length subject
      → may_stand (get_or subject (2 * node) 0) (get_or subject (2 * node + 1) 0) (here % 65536) ≡ true
  stands {here = here} {node = node} s h = go (may_stand (get_or subject (2 * node) 0) (get_or subject (2 * node + 1) 0) (here % 65536)) refl
    where
      go : (q : Bool) → may_stand (get_or subject (2 * node) 0) (get_or subject (2 * node + 1) 0) (here % 65536) ≡ q → q ≡ true
      go true e = refl
      go false e = absurd (fit (refused_here s h e).1)

  pub noted : {places : List ℕ} {r : Result ℕ Refusal} → Surveyed subject places r → take (nodes (front subject)) places ≡ places_of 1 0 (front subject)
  noted v = v.table _ (v.size ∙ ap sized a)
