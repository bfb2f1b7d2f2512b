-- The build part (document 01, 'When code passes').
use Rattle.std.specs.Prelude.{◌≡◌, ℕ, ◌+◌, ◌-◌, ◌≤◌, ◌<◌, Bool, true, false, not, ◌&&◌, cond, List, [], ◌∷◌, eqb, ltb, length, get_or, Result, Ok, Err}
use Rattle.std.proofs.Math.Option.{Option, none, some}
use Rattle.documents.specs.declared.Refusal.{Refusal}
use Rattle.documents.specs.declared.Refusal.TheVariants.{DoesNotPass}
use Rattle.documents.specs.Lists.{and_then}
use Rattle.documents.specs.Instructions.{CELL, PUSHVAR, PUSHI, Bodies, ReadBodies, whole_bodies, op_cell, op_pushvar, op_pushimm, keys}
use Rattle.documents.specs.Passing.{Slot, all_below, one_term, build}
use Rattle.instructions.specs.Places.{program_at, bodies_at, place_if}
use Rattle.indices.specs.Sets.{gathered, full}
use Rattle.turns.specs.Turns.{is_there}
use Rattle.checker.specs.declared.build.Ended.{Ended}
use Rattle.checker.specs.declared.build.Ended.TheVariants as ended

-- the finished terms of the innermost block, where no block was opened or closed
abbrev pub terms_of : Option (List ℕ) → Result ℕ Refusal
terms_of none = Err DoesNotPass
terms_of (some []) = Err DoesNotPass
terms_of (some (h ∷ [])) = Ok h
terms_of (some (h ∷ h₀ ∷ hs)) = Err DoesNotPass

-- the instruction at place a, if it is a CELL or PUSHVAR; neither asks for an entry
unfoldable pub terms_at : List ℕ → ℕ → ℕ → ℕ → Result ℕ Refusal
terms_at t a l h =
    let w = get_or t a 0 in
    let x = get_or t (a + 1) 0 in
    cond (eqb w op_cell) (terms_of (build [] false l 0 (CELL x (get_or t (a + 2) 0)) (h ∷ [])))
    (cond (eqb w op_pushvar) (terms_of (build [] false l 0 (PUSHVAR x) (h ∷ []))) (Err DoesNotPass))

abbrev pub place_behind : Option ReadBodies → ℕ → (Bodies → Bool) → Result ℕ Refusal
place_behind none e f = Err DoesNotPass
place_behind (some (whole_bodies a m)) e f = place_if (f a) (e - m)

-- c bodies from place a on: keys below b that with those of a set are all below b, and each body obeys
unfoldable pub bodies_obey : List ℕ → ℕ → ℕ → ℕ → List Slot → ℕ → ℕ → ℕ → ℕ → Result ℕ Refusal
bodies_obey t a e c es l nest b m = place_behind (bodies_at t a e c) e (λ o. all_below b (keys o) && full (gathered m (keys o)) b && build es true l nest o)

-- a PUSHI whose operands begin at place a
unfoldable pub push_obeys : List ℕ → ℕ → ℕ → List Slot → ℕ → ℕ → Result ℕ Refusal
push_obeys t a e es l nest =
    place_behind (bodies_at t (a + 3) e (get_or t (a + 2) 0)) e (λ o. is_there (build es false l nest (PUSHI (get_or t a 0) (get_or t (a + 1) 0) o) (0 ∷ [])))

-- the operands of a PUSHIMM, or else of a PUSHI, stand before e
abbrev pub Operands : List ℕ → ℕ → ℕ → Type 0
Operands t a e = (get_or t (a - 1) 0 ≡ op_pushimm → ⊥) → a + 3 ≤ e

-- A PUSHIMM or PUSHI whose operands begin at place a; b is its entry's depth. More blocks and bodies than LAMBDAs: in a body.
unfoldable pub entry_obeys : List ℕ → ℕ → ℕ → List Slot → ℕ → ℕ → ℕ → Result ℕ Refusal
entry_obeys t a e es l nest b = cond (eqb (get_or t (a - 1) 0) op_pushimm) (place_if (not (ltb l nest) && eqb l b) (a + 1)) (push_obeys t a e es l nest)

-- Whether the instructions from place a to e, after hs, make one term. l and nest: where the body, or the whole, began.
abbrev pub makes_one : List ℕ → ℕ → List Slot → Bool → ℕ → ℕ → ℕ → List ℕ → Bool
makes_one t e es inside l nest a hs = one_term (and_then (program_at t a e) (λ c. build es inside l nest c hs))

-- What an answer says of the blocks around, hs: it goes on behind an ADBMAL, if one is open; all is done, if none is.
abbrev pub onward : Result Ended Refusal → (ℕ → List ℕ → Bool) → List ℕ → Bool
onward (Ok (ended.Shut p)) go [] = false
onward (Ok (ended.Shut p)) go (h ∷ hs) = go p ((h + 1) ∷ hs)
onward (Ok ended.Done) go [] = true
onward (Ok ended.Done) go (h ∷ hs) = false
onward (Err w) go hs = false

unfoldable pub ended_if : Bool → Ended → Result Ended Refusal
ended_if q r = cond q (Ok r) (Err DoesNotPass)

-- The instructions from place a on, in a fresh block or body with l and nest around it, whatever blocks hs of the same body are open.
pub record Ends (t : List ℕ) (a e : ℕ) (es : List Slot) (l nest : ℕ) (inside : Bool) (r : Result Ended Refusal) : Type 0 where
  pub means : (l₀ nest₀ : ℕ) (hs : List ℕ) → l₀ + length hs ≡ l → nest₀ + length hs ≡ nest
      → makes_one t e es inside l₀ nest₀ a (0 ∷ hs) ≡ onward r (makes_one t e es inside l₀ nest₀) hs
  pub placed : (p : ℕ) → r ≡ Ok (ended.Shut p) → (a < p) × (p ≤ e)
  pub refusal : (w : Refusal) → r ≡ Err w → w ≡ DoesNotPass
