-- A PUSHI at a place: its entry, its keys and its bodies, one after the other.
use mathlib.Core.Path.{◌≡◌, refl, sym, ap, ◌∙◌}
use Prim.Native.Nat.{ℕ, suc, ◌+◌, ◌-◌, ◌≤◌, ◌<◌}
use native.Mathlib.Omega.{arith}
use mathlib.Core.Bool.{Bool, true, false, not, ◌&&◌, cond, and-false, and-true, and_assoc}
use mathlib.Core.Option.{Option, none, some}
use mathlib.Core.List.{List, [], ◌∷◌}
use lib.Dec.{eqb, leb, ltb}
use lib.ListN.{length, get_or, get_elem?, drop}
use Rattle.std.specs.Prelude.{Result, Ok, Err, Some}
use borrow.Author.Tests.{eq-eqb, ne_eqb, le-leb, lt-leb, lt-ltb, le-ltb}
use Rattle.documents.specs.declared.Refusal.{Refusal}
use Rattle.documents.specs.declared.Refusal.TheVariants.{DoesNotPass}
use Rattle.documents.specs.Lists.{need, and_then}
use Rattle.documents.specs.Instructions.{PUSHI, Program, Bodies, ReadBodies, whole_bodies, body_count, keys, body_then}
use Rattle.documents.specs.Passing.{Slot, slot, with_slot, covers, all_below, one_term, build}
use Rattle.documents.proofs.Lists.{never, case}
use Rattle.instructions.specs.Places.{program_at, bodies_at, place_if}
use Rattle.instructions.proofs.Reading.{bodies_left, bodies_count, bodies_done, bodies_short, bodies_step, program_push}
use Rattle.indices.specs.Sets.{inserted, gathered, full}
use Rattle.indices.proofs.Covers.{covers_members}
use Rattle.turns.specs.declared.entries.Entries.{Entries}
use Rattle.turns.specs.declared.entries.Entry.{Entry}
use Rattle.turns.specs.Held.{entries_of, found_in}
use Rattle.turns.specs.Turns.{is_there}
use Rattle.turns.proofs.Entered.{found_slot}
use Rattle.turns.proofs.Turning.{slot_test}
use Rattle.checker.specs.Built.{place_behind, bodies_obey, push_obeys, entry_obeys, makes_one}
use Rattle.checker.proofs.Making.{goes_on, makes_none, makes_before, makes_pushimm}

-- ---- bodies, one after the other

-- what one body asks, and what the others ask
abbrev pub allow : Bool → Result ℕ Refusal → Result ℕ Refusal
allow q p = cond q p (Err DoesNotPass)

allow_refused : (q : Bool) → Err DoesNotPass ≡ allow q (Err DoesNotPass)
allow_refused true = refl
allow_refused false = refl

apart : (k n o a f b : Bool) (p : ℕ) → place_if (((k && a) && f) && ((n && o) && b)) p ≡ allow (k && (n && o)) (place_if ((a && f) && b) p)
apart true true true a f b p = refl
apart true true false a f b p = rw (and-false (a && f))
apart true false o a f b p = rw (and-false (a && f))
apart false n o a f b p = refl

module _ (t : List ℕ) (e : ℕ) (es : List Slot) (l nest b : ℕ) where
  pub obey_done : (a m : ℕ) → a ≤ e → bodies_obey t a e 0 es l nest b m ≡ place_if (full m b) a
  unfolding bodies_obey gathered
  obey_done a m h = let z : e - (e - a) ≡ a = omega arith in rw (bodies_done t a e, and-true (full m b), z)

  module _ (a c m : ℕ) where
    pub obey_short : e < a + 2 + get_or t (a + 1) 0 → bodies_obey t a e (suc c) es l nest b m ≡ Err DoesNotPass
    unfolding bodies_obey
    obey_short h = rw (bodies_short t a e c h)

    pub obey_step : a + 2 + get_or t (a + 1) 0 ≤ e → e ≤ length t
        → bodies_obey t a e (suc c) es l nest b m
        ≡ allow (ltb (get_or t a 0) b && (ltb nest 64 && makes_one t (a + 2 + get_or t (a + 1) 0) es true l (nest + 1) (a + 2) (0 ∷ [])))
        (bodies_obey t (a + 2 + get_or t (a + 1) 0) e c es l nest b (inserted m (get_or t a 0)))
    unfolding bodies_obey gathered
    obey_step h k =
        rw (bodies_step t a e c h k) (go (program_at t (a + 2) (a + 2 + get_or t (a + 1) 0)) (bodies_at t (a + 2 + get_or t (a + 1) 0) e c))
      where
        go : (p : Option Program) (o : Option ReadBodies)
            → place_behind (body_then (get_or t a 0) p o) e (λ o. all_below b (keys o) && full (gathered m (keys o)) b && build es true l nest o)
            ≡ allow (ltb (get_or t a 0) b && (ltb nest 64 && one_term (and_then p (λ c. build es true l (nest + 1) c (0 ∷ [])))))
            (place_behind o e (λ o. all_below b (keys o) && full (gathered (inserted m (get_or t a 0)) (keys o)) b && build es true l nest o))
        go none o = rw (and-false (ltb nest 64), and-false (ltb (get_or t a 0) b))
        go (some p) none = allow_refused (ltb (get_or t a 0) b && (ltb nest 64 && one_term (build es true l (nest + 1) p (0 ∷ []))))
        go (some p) (some (whole_bodies o j)) =
            apart (ltb (get_or t a 0) b) (ltb nest 64) (one_term (build es true l (nest + 1) p (0 ∷ []))) (all_below b (keys o)) (full (gathered (inserted m (get_or t a 0)) (keys o)) b)
            (build es true l nest o) (e - j)

-- ---- the entry

behind_same : (o : Option ReadBodies) (e : ℕ) (f g : Bodies → Bool) → ((a : Bodies) (m : ℕ) → o ≡ some (whole_bodies a m) → f a ≡ g a) → place_behind o e f ≡ place_behind o e g
behind_same none e f g h = refl
behind_same (some (whole_bodies a m)) e f g h = ap (λ q. place_if q (e - m)) (h a m refl)

behind_never : (o : Option ReadBodies) (e : ℕ) (f : Bodies → Bool) → ((a : Bodies) (m : ℕ) → o ≡ some (whole_bodies a m) → f a ≡ false) → place_behind o e f ≡ Err DoesNotPass
behind_never none e f h = refl
behind_never (some (whole_bodies a m)) e f h = rw (h a m refl)

-- a PUSHI's tests, with l and nest around it
abbrev pub push_test : List Slot → ℕ → ℕ → ℕ → Bodies → ℕ → List ℕ → Bool
push_test es D l nest o b g = eqb (D + b) (l + 64) && (leb (body_count o) 8 && (all_below b (keys o) && (covers b g (keys o) && build es true l nest o)))

five_needs : {A B : Type 0} (q r s u v : Bool) (x : A) (f : Option A → B) → f (need q (need r (need s (need u (need v (some x)))))) ≡ f (need (q && (r && (s && (u && v)))) (some x))
five_needs true true true true v x f = refl
five_needs true true true false v x f = refl
five_needs true true false u v x f = refl
five_needs true false s u v x f = refl
five_needs false r s u v x f = refl

push_build : (es : List Slot) (inside : Bool) (l nest L N x D : ℕ) (o : Bodies) (h : ℕ) (hs : List ℕ) → l + length hs ≡ L → nest + length hs ≡ N
    → build es inside l nest (PUSHI x D o) (h ∷ hs) ≡ need (slot_test (get_elem? es x) (push_test es D L N o)) (some ((h + 1) ∷ hs))
push_build es inside l nest L N x D o h hs p q =
    let z : suc (length hs) - 1 ≡ length hs = omega arith in
    rw (z, p, q) (go (get_elem? es x))
  where
    go : (s : Option Slot) → with_slot s (λ b g.
        need (eqb (D + b) (L + 64)) (need (leb (body_count o) 8) (need (all_below b (keys o)) (need (covers b g (keys o)) (need (build es true L N o) (some ((h + 1) ∷ hs)))))))
        ≡ need (slot_test s (push_test es D L N o)) (some ((h + 1) ∷ hs))
    go none = refl
    go (some (slot b g)) = five_needs (eqb (D + b) (L + 64)) (leb (body_count o) 8) (all_below b (keys o)) (covers b g (keys o)) (build es true L N o) ((h + 1) ∷ hs) (λ x. x)

there_if : (q : Bool) (x : List ℕ) → is_there (need q (some x)) ≡ q
there_if true x = refl
there_if false x = refl

module _ (t : List ℕ) (a e : ℕ) (es : List Slot) (l nest : ℕ) where
  push_is : push_obeys t a e es l nest ≡ place_behind (bodies_at t (a + 3) e (get_or t (a + 2) 0)) e (λ o. slot_test (get_elem? es (get_or t a 0)) (push_test es (get_or t (a + 1) 0) l nest o))
  unfolding push_obeys
  push_is = behind_same (bodies_at t (a + 3) e (get_or t (a + 2) 0)) e _ _ (λ o m r.
      ap is_there (push_build es false l nest l nest (get_or t a 0) (get_or t (a + 1) 0) o 0 [] (omega arith) (omega arith))
      ∙ there_if (slot_test (get_elem? es (get_or t a 0)) (push_test es (get_or t (a + 1) 0) l nest o)) (1 ∷ []))

pub push_absent : (t : List ℕ) (a e : ℕ) (es : List Slot) (l nest : ℕ) → get_elem? es (get_or t a 0) ≡ none → push_obeys t a e es l nest ≡ Err DoesNotPass
push_absent t a e es l nest f = push_is t a e es l nest ∙ behind_never (bodies_at t (a + 3) e (get_or t (a + 2) 0)) e _ (λ o m r. rw f)

module _ (t : List ℕ) (a e : ℕ) (n : Entries) (l nest : ℕ) where
  module _ (x : Entry) (f : found_in n.stored (get_or t a 0) ≡ Some x) where
    abbrev b : ℕ
    b = x.depth

    abbrev g : ℕ
    g = x.guard

    pub push_other : (get_or t (a + 1) 0 + b ≡ l + 64 → ⊥) → Err DoesNotPass ≡ push_obeys t a e (entries_of n) l nest
    push_other q = sym (push_is t a e (entries_of n) l nest ∙ behind_never (bodies_at t (a + 3) e (get_or t (a + 2) 0)) e _
        (λ o m r. rw (found_slot n (get_or t a 0) x f, ne_eqb (get_or t (a + 1) 0 + b) (l + 64) q)))

    pub push_many : 8 < get_or t (a + 2) 0 → Err DoesNotPass ≡ push_obeys t a e (entries_of n) l nest
    push_many h = sym (push_is t a e (entries_of n) l nest ∙ behind_never (bodies_at t (a + 3) e (get_or t (a + 2) 0)) e _
        (λ o m r.
        let c = bodies_count (drop (a + 3) t) 0 (e - (a + 3)) (get_or t (a + 2) 0) o m r in
        rw (found_slot n (get_or t a 0) x f, c, lt-leb (get_or t (a + 2) 0) 8 h, and-false (eqb (get_or t (a + 1) 0 + b) (l + 64)))))

    pub push_bodies : get_or t (a + 1) 0 + b ≡ l + 64 → get_or t (a + 2) 0 ≤ 8
        → bodies_obey t (a + 3) e (get_or t (a + 2) 0) (entries_of n) l nest b g ≡ push_obeys t a e (entries_of n) l nest
    unfolding bodies_obey
    push_bodies q h = sym (push_is t a e (entries_of n) l nest ∙ behind_same (bodies_at t (a + 3) e (get_or t (a + 2) 0)) e _ _
        (λ o j r.
        let c = bodies_count (drop (a + 3) t) 0 (e - (a + 3)) (get_or t (a + 2) 0) o j r in
        rw (
          found_slot n (get_or t a 0) x f,
          c,
          le-leb (get_or t (a + 2) 0) 8 h,
          eq-eqb (get_or t (a + 1) 0 + b) (l + 64) q,
          covers_members b g (keys o),
          ← (and_assoc (all_below b (keys o)) (full (gathered g (keys o)) b) (build (entries_of n) true l nest o)),
        )))

-- ---- where it ends, and what it makes

behind_range : (t : List ℕ) (a e c : ℕ) (f : Bodies → Bool) (p : ℕ) → place_behind (bodies_at t a e c) e f ≡ Ok p → a ≤ e → (a ≤ p) × (p ≤ e)
behind_range t a e c f p h k = go (bodies_at t a e c) refl h
  where
    go : (o : Option ReadBodies) → bodies_at t a e c ≡ o → place_behind o e f ≡ Ok p → (a ≤ p) × (p ≤ e)
    go none q r = never (cc)
    go (some (whole_bodies o m)) q r =
        let l = bodies_left (drop a t) 0 (e - a) c o m q in
        case (λ x. place_if x (e - m) ≡ Ok p → (a ≤ p) × (p ≤ e)) (f o)
        (λ y s. let z : e - m ≡ p = cc in (omega arith, omega arith)) (λ y s. never (cc)) r

pub push_range : (t : List ℕ) (a e : ℕ) (es : List Slot) (l nest p : ℕ) → push_obeys t a e es l nest ≡ Ok p → a + 3 ≤ e → (a + 3 ≤ p) × (p ≤ e)
unfolding push_obeys
push_range t a e es l nest p h k = behind_range t (a + 3) e (get_or t (a + 2) 0) _ p h k

abbrev pub place_on : Result ℕ Refusal → (ℕ → Bool) → Bool
place_on (Ok p) f = f p
place_on (Err w) f = false

module _ (t : List ℕ) (a e : ℕ) (es : List Slot) (inside : Bool) (l nest L N h : ℕ) (hs : List ℕ) (lo : a + 4 ≤ e) (hi : e ≤ length t) where
  pub makes_push : get_or t a 0 ≡ 13 → l + length hs ≡ L → nest + length hs ≡ N
      → makes_one t e es inside l nest a (h ∷ hs) ≡ place_on (push_obeys t (a + 1) e es L N) (λ p. makes_one t e es inside l nest p ((h + 1) ∷ hs))
  makes_push o p q =
      let z₁ : a + 1 + 1 ≡ a + 2 = omega arith in
      let z₂ : a + 1 + 2 ≡ a + 3 = omega arith in
      let z₃ : a + 1 + 3 ≡ a + 4 = omega arith in
      rw (push_is t (a + 1) e es L N, z₁, z₂, z₃) (go (bodies_at t (a + 4) e (get_or t (a + 3) 0)) refl)
    where
      step : (r : Bool) (m : ℕ) → goes_on (need r (some ((h + 1) ∷ hs))) (makes_one t e es inside l nest (e - m)) ≡ place_on (place_if r (e - m)) (λ p. makes_one t e es inside l nest p ((h + 1) ∷ hs))
      step true m = refl
      step false m = refl

      go : (b : Option ReadBodies) → bodies_at t (a + 4) e (get_or t (a + 3) 0) ≡ b
          → makes_one t e es inside l nest a (h ∷ hs)
          ≡ place_on (place_behind b e (λ o. slot_test (get_elem? es (get_or t (a + 1) 0)) (push_test es (get_or t (a + 2) 0) L N o))) (λ p. makes_one t e es inside l nest p ((h + 1) ∷ hs))
      go none r = makes_none t e es inside l nest a (h ∷ hs) (program_push t a e (omega arith) hi lo o ∙ rw r)
      go (some (whole_bodies b m)) r =
          makes_before t e es inside l nest a (e - m) (PUSHI (get_or t (a + 1) 0) (get_or t (a + 2) 0) b) (h ∷ hs) (program_push t a e (omega arith) hi lo o ∙ rw r)
          ∙ ap (λ (k : Option (List ℕ)). goes_on k (makes_one t e es inside l nest (e - m))) (push_build es inside l nest L N (get_or t (a + 1) 0) (get_or t (a + 2) 0) b h hs p q)
          ∙ step (slot_test (get_elem? es (get_or t (a + 1) 0)) (push_test es (get_or t (a + 2) 0) L N b)) m

-- ---- PUSHIMM

module _ (t : List ℕ) (a e : ℕ) (es : List Slot) (inside : Bool) (l nest L h : ℕ) (hs : List ℕ) (lo : a < e) (hi : e ≤ length t) where
  pub makes_whole : (n b : ℕ) (g : List ℕ) → get_or t a 0 ≡ 12 → n ≡ a + 1 + 1 → n ≤ e → l + length hs ≡ L → get_elem? es (get_or t (a + 1) 0) ≡ some (slot b g)
      → makes_one t e es inside l nest a (h ∷ hs) ≡ place_on (place_if (not inside && eqb L b) n) (λ p. makes_one t e es inside l nest p ((h + 1) ∷ hs))
  makes_whole n b g o f k p s =
      let z : suc (length hs) - 1 ≡ length hs = omega arith in
      makes_pushimm t e es inside l nest a lo hi h hs o f k ∙ rw (s, z, p) (go inside (eqb L b))
    where
      go : (x y : Bool) → goes_on (need (not x) (need y (some ((h + 1) ∷ hs)))) (makes_one t e es inside l nest n) ≡ place_on (place_if (not x && y) n) (λ p. makes_one t e es inside l nest p ((h + 1) ∷ hs))
      go true y = refl
      go false true = refl
      go false false = refl

-- ---- either, by the opcode before its operands

module _ (t : List ℕ) (a e : ℕ) (es : List Slot) (l nest b : ℕ) where
  pub entry_whole : (r : Result ℕ Refusal) → get_or t (a - 1) 0 ≡ 12 → r ≡ place_if (not (ltb l nest) && eqb l b) (a + 1) → r ≡ entry_obeys t a e es l nest b
  unfolding entry_obeys
  entry_whole r o q = q ∙ rw (eq-eqb (get_or t (a - 1) 0) 12 o)

  pub entry_push : (r : Result ℕ Refusal) → (get_or t (a - 1) 0 ≡ 12 → ⊥) → r ≡ push_obeys t a e es l nest → r ≡ entry_obeys t a e es l nest b
  unfolding entry_obeys
  entry_push r o q = q ∙ rw (ne_eqb (get_or t (a - 1) 0) 12 o)

-- in a body; another depth; the entry as it is
pub whole_inside : (l nest b p : ℕ) → l < nest → Err DoesNotPass ≡ place_if (not (ltb l nest) && eqb l b) p
whole_inside l nest b p h = rw (lt-ltb l nest h)

pub whole_other : (l nest b p : ℕ) → nest ≤ l → (l ≡ b → ⊥) → Err DoesNotPass ≡ place_if (not (ltb l nest) && eqb l b) p
whole_other l nest b p h n = rw (le-ltb l nest h, ne_eqb l b n)

pub whole_there : (l nest b p : ℕ) → nest ≤ l → l ≡ b → Ok p ≡ place_if (not (ltb l nest) && eqb l b) p
whole_there l nest b p h n = rw (le-ltb l nest h, eq-eqb l b n)

-- ---- refused with one refusal

module _ (w : Refusal) where
  if_refused : (q : Bool) (p : ℕ) → place_if q p ≡ Err w → w ≡ DoesNotPass
  if_refused true p e = never (cc)
  if_refused false p e = cc

  behind_refused : (o : Option ReadBodies) (e : ℕ) (f : Bodies → Bool) → place_behind o e f ≡ Err w → w ≡ DoesNotPass
  behind_refused none e f r = cc
  behind_refused (some (whole_bodies a m)) e f r = if_refused (f a) (e - m) r

  pub entry_refused : (t : List ℕ) (a e : ℕ) (es : List Slot) (l nest b : ℕ) → entry_obeys t a e es l nest b ≡ Err w → w ≡ DoesNotPass
  unfolding entry_obeys push_obeys
  entry_refused t a e es l nest b = go (eqb (get_or t (a - 1) 0) 12)
    where
      go : (q : Bool) → cond q (place_if (not (ltb l nest) && eqb l b) (a + 1)) (push_obeys t a e es l nest) ≡ Err w → w ≡ DoesNotPass
      go true r = if_refused (not (ltb l nest) && eqb l b) (a + 1) r
      go false r = behind_refused (bodies_at t (a + 3) e (get_or t (a + 2) 0)) e _ r
