-- A block, a body or the whole from its first instruction on: what each turn keeps, and each way to end.
use mathlib.Core.Path.{◌≡◌, refl, sym, ap, ◌∙◌}
use Prim.Native.Nat.{ℕ, suc, ◌+◌, ◌-◌, ◌≤◌, ◌<◌}
use native.Mathlib.Omega.{arith}
use mathlib.Core.Bool.{Bool, true, false, not, ◌&&◌, and-false}
use mathlib.Core.Option.{none, some}
use mathlib.Core.List.{List, [], ◌∷◌}
use lib.Dec.{eqb, leb, ltb}
use lib.ListN.{length, get_or, get_elem?}
use denote.Enum.Declared.{tag_of}
use Rattle.std.specs.Prelude.{Result, Ok, Err, IfOk}
use borrow.Author.Tests.{eqb-true, eqb-false, ne_eqb, lt-ltb, le-ltb, ltb-true, ltb-false, leb-true, leb-false}
use Rattle.documents.specs.declared.Refusal.{Refusal}
use Rattle.documents.specs.declared.Refusal.TheVariants.{DoesNotPass}
use Rattle.documents.specs.Lists.{need}
use Rattle.documents.specs.Passing.{Slot, slot}
use Rattle.documents.proofs.Lists.{never, case, on, off, T_of, of_and}
use Rattle.instructions.specs.Places.{place_if, fetched}
use Rattle.instructions.proofs.Reading.{fetched_is, fetched_op, fetched_opcode}
use Rattle.indices.specs.Sets.{inserted, full}
use Rattle.checker.specs.declared.build.Ended.{Ended}
use Rattle.checker.specs.declared.build.Ended.TheVariants as ended
use Rattle.checker.specs.contracts.build.Ended.{the_type}
use Rattle.checker.specs.Built.{terms_at, bodies_obey, Operands, entry_obeys, makes_one, onward, ended_if, Ends}
use Rattle.checker.proofs.Making.{goes_on, terms_on, terms_grow, makes_unfetched, makes_open, makes_closed, makes_shut, makes_ended, makes_plain, makes_pushimm}
use Rattle.checker.proofs.Pushing.{allow, place_on, makes_push, makes_whole, push_absent, push_range, obey_done, obey_short, obey_step}

-- What was made from place a₀ to place a: h terms of the innermost block, whatever blocks are around.
pub record Going (t : List ℕ) (a₀ e : ℕ) (es : List Slot) (l nest : ℕ) (inside : Bool) (a h : ℕ) : Type 0 where
  pub same : (l₀ nest₀ : ℕ) (hs : List ℕ) → l₀ + length hs ≡ l → nest₀ + length hs ≡ nest
      → makes_one t e es inside l₀ nest₀ a₀ (0 ∷ hs) ≡ makes_one t e es inside l₀ nest₀ a (h ∷ hs)
  pub grows : a₀ + h ≤ a
  pub within : a ≤ e

-- what an answer that is neither means
pub not_shut : (r : Result Ended Refusal) → ((p : ℕ) → r ≡ Ok (ended.Shut p) → ⊥) → (go : ℕ → List ℕ → Bool) (h : ℕ) (hs : List ℕ) → onward r go (h ∷ hs) ≡ false
not_shut (Ok (ended.Shut p)) n go h hs = absurd (n p refl)
not_shut (Ok ended.Done) n go h hs = refl
not_shut (Err w) n go h hs = refl

pub not_done_lem : (r : Result Ended Refusal) → (r ≡ Ok ended.Done → ⊥) → (go : ℕ → List ℕ → Bool) → onward r go [] ≡ false
not_done_lem (Ok (ended.Shut p)) n go = refl
not_done_lem (Ok ended.Done) n go = absurd (n refl)
not_done_lem (Err w) n go = refl

ended_refused : (r : Ended) (b : Bool) (w : Refusal) → ended_if b r ≡ Err w → w ≡ DoesNotPass
unfolding ended_if
ended_refused r true w q = never (cc)
ended_refused r false w q = cc

module _ {t : List ℕ} {a₀ e : ℕ} {es : List Slot} {l nest : ℕ} {inside : Bool} {a h : ℕ} (g : Going t a₀ e es l nest inside a h) where
  -- nothing comes of it
  refused : ((l₀ nest₀ : ℕ) (hs : List ℕ) → l₀ + length hs ≡ l → nest₀ + length hs ≡ nest → makes_one t e es inside l₀ nest₀ a (h ∷ hs) ≡ false)
      → Ends t a₀ e es l nest inside (Err DoesNotPass)
  refused k = record { means = λ l₀ nest₀ hs p q. g.same l₀ nest₀ hs p q ∙ k l₀ nest₀ hs p q; placed = λ p q. never (cc); refusal = λ w q. cc }

  -- one instruction more, or a block, or a PUSHI
  on_to : (p k : ℕ) → a < p → p ≤ e → k ≤ h + 1
      → ((l₀ nest₀ : ℕ) (hs : List ℕ) → l₀ + length hs ≡ l → nest₀ + length hs ≡ nest → makes_one t e es inside l₀ nest₀ a (h ∷ hs) ≡ makes_one t e es inside l₀ nest₀ p (k ∷ hs))
      → Going t a₀ e es l nest inside p k
  on_to p k x y z m =
      let u = g.grows in
      record { same = λ l₀ nest₀ hs r s. g.same l₀ nest₀ hs r s ∙ m l₀ nest₀ hs r s; grows = omega arith; within = y }

  -- the words are used up
  pub ends_done : (r : Result Ended Refusal) → e ≤ a → r ≡ ended_if (eqb h 1) ended.Done → Ends t a₀ e es l nest inside r
  unfolding ended_if
  ends_done r k q =
      let w = g.within in
      let z : a ≡ e = omega arith in
      record {
        means = λ l₀ nest₀ hs x y. g.same l₀ nest₀ hs x y ∙ rw (z, q) (makes_ended t e es inside l₀ nest₀ h hs);
        placed = λ p s. never (no (eqb h 1) p (sym q ∙ s));
        refusal = λ w s. ended_refused _ (eqb h 1) w (sym q ∙ s);
      }
    where
      no : (b : Bool) (p : ℕ) → ended_if b ended.Done ≡ Ok (ended.Shut p) → ◌≡◌ {A = ℕ} 0 1
      no true p q = cc
      no false p q = cc

  module _ (lo : a < e) (hi : e ≤ length t) where
    pub ends_unfetched : (w : Refusal) → fetched t a e ≡ Err w → Ends t a₀ e es l nest inside (Err DoesNotPass)
    ends_unfetched w p = refused (λ l₀ nest₀ hs x y. makes_unfetched t e es inside l₀ nest₀ a lo hi w (h ∷ hs) p)

    module _ {n : ℕ} (f : fetched t a e ≡ Ok n) where
      -- ADBMAL
      pub ends_shut : (r : Result Ended Refusal) → get_or t a 0 ≡ 10 → r ≡ ended_if (eqb h 1) (ended.Shut n) → Ends t a₀ e es l nest inside r
      unfolding ended_if
      ends_shut r o q =
          let k = fetched_op t a e n 10 f o in
          let u = g.grows in
          record {
            means = λ l₀ nest₀ hs x y. g.same l₀ nest₀ hs x y ∙ rw q (makes_shut t e es inside l₀ nest₀ a lo hi h hs o k.0 k.1);
            placed = λ p s. let z = is (eqb h 1) p (sym q ∙ s) in (omega arith, omega arith);
            refusal = λ w s. ended_refused _ (eqb h 1) w (sym q ∙ s);
          }
        where
          is : (b : Bool) (p : ℕ) → ended_if b (ended.Shut n) ≡ Ok (ended.Shut p) → n ≡ p
          is true p q = cc
          is false p q = never (cc)

      -- LAMBDA
      module _ (o : get_or t a 0 ≡ 9) where
        pub ends_closed : ltb l 63 && ltb nest 64 ≡ false → Ends t a₀ e es l nest inside (Err DoesNotPass)
        ends_closed q =
            let k = fetched_op t a e n 9 f o in
            refused (λ l₀ nest₀ hs x y. makes_closed t e es inside l₀ nest₀ a lo hi h hs o k.0 k.1 (rw (x, y) q))

        module _ (q : ltb l 63 && ltb nest 64 ≡ true) where
          pub open_low : (l < 63) × (nest < 64)
          open_low = let p = of_and (ltb l 63) (ltb nest 64) (T_of _ q) in (ltb-true l 63 (on _ p.0), ltb-true nest 64 (on _ p.1))

          opened : (r : Result Ended Refusal) → Ends t n e es (l + 1) (nest + 1) inside r → (l₀ nest₀ : ℕ) (hs : List ℕ) → l₀ + length hs ≡ l → nest₀ + length hs ≡ nest
              → makes_one t e es inside l₀ nest₀ a (h ∷ hs) ≡ onward r (makes_one t e es inside l₀ nest₀) (h ∷ hs)
          opened r s l₀ nest₀ hs x y =
              let k = fetched_op t a e n 9 f o in
              let p = open_low in
              let u : l₀ + suc (length hs) ≡ l + 1 = omega arith in
              let v : nest₀ + suc (length hs) ≡ nest + 1 = omega arith in
              makes_open t e es inside l₀ nest₀ a lo hi h hs o k.0 k.1 (omega arith) (omega arith) ∙ s.means l₀ nest₀ (h ∷ hs) u v

          pub ends_block : {r : Result Ended Refusal} → Ends t n e es (l + 1) (nest + 1) inside r → ((p : ℕ) → r ≡ Ok (ended.Shut p) → ⊥) → Ends t a₀ e es l nest inside (Err DoesNotPass)
          ends_block {r} s k = refused (λ l₀ nest₀ hs x y. opened r s l₀ nest₀ hs x y ∙ not_shut r k (makes_one t e es inside l₀ nest₀) h hs)

          pub going_block : {r : Result Ended Refusal} (p : ℕ) → Ends t n e es (l + 1) (nest + 1) inside r → r ≡ Ok (ended.Shut p) → Going t a₀ e es l nest inside p (h + 1)
          going_block {r} p s z =
              let k = fetched_op t a e n 9 f o in
              let w = s.placed p z in
              on_to p (h + 1) (omega arith) w.1 (omega arith) (λ l₀ nest₀ hs x y. opened r s l₀ nest₀ hs x y ∙ rw z)

      -- PUSHIMM or PUSHI
      module _ (o : 11 < get_or t a 0) where
        which : (get_or t a 0 ≡ 12 → ⊥) → get_or t a 0 ≡ 13
        which k = let h = fetched_opcode t a e n f in omega arith

        here : a + 1 - 1 ≡ a
        here = omega arith

        -- its operands
        pub entry_operand : a + 2 ≤ e
        entry_operand =
            case (λ q. a + 2 ≤ e) (eqb (get_or t a 0) 12)
            (λ u. let k = fetched_op t a e n 12 f (eqb-true (get_or t a 0) 12 (on _ u)) in omega arith)
            (λ u. let k = fetched_op t a e n 13 f (which (eqb-false (get_or t a 0) 12 (off _ u))) in omega arith)

        pub entry_operands : Operands t (a + 1) e
        entry_operands k = let j = fetched_op t a e n 13 f (which (λ q. k (rw here q))) in omega arith

        -- no such entry
        pub ends_absent : get_elem? es (get_or t (a + 1) 0) ≡ none → Ends t a₀ e es l nest inside (Err DoesNotPass)
        ends_absent s = refused (λ l₀ nest₀ hs x y.
            case (λ q. makes_one t e es inside l₀ nest₀ a (h ∷ hs) ≡ false) (eqb (get_or t a 0) 12)
            (λ u.
            let w = eqb-true (get_or t a 0) 12 (on _ u) in
            let k = fetched_op t a e n 12 f w in
            makes_pushimm t e es inside l₀ nest₀ a lo hi h hs w k.0 k.1 ∙ rw s (no_need (not inside) (makes_one t e es inside l₀ nest₀ n)))
            (λ u.
            let w = which (eqb-false (get_or t a 0) 12 (off _ u)) in
            let k = fetched_op t a e n 13 f w in
            makes_push t a e es inside l₀ nest₀ l nest h hs (omega arith) hi w x y ∙ rw (push_absent t (a + 1) e es l nest s)))
          where
            no_need : (q : Bool) (p : List ℕ → Bool) → goes_on (need q none) p ≡ false
            no_need true p = refl
            no_need false p = refl

        module _ {r : Result ℕ Refusal} {b : ℕ} {gs : List ℕ} (i : inside ≡ ltb l nest) (s : get_elem? es (get_or t (a + 1) 0) ≡ some (slot b gs)) (q : r ≡ entry_obeys t (a + 1) e es l nest b) where
          entered : (l₀ nest₀ : ℕ) (hs : List ℕ) → l₀ + length hs ≡ l → nest₀ + length hs ≡ nest
              → makes_one t e es inside l₀ nest₀ a (h ∷ hs) ≡ place_on r (λ p. makes_one t e es inside l₀ nest₀ p ((h + 1) ∷ hs))
          unfolding entry_obeys
          entered l₀ nest₀ hs x y =
              case (λ c. makes_one t e es inside l₀ nest₀ a (h ∷ hs) ≡ place_on r (λ p. makes_one t e es inside l₀ nest₀ p ((h + 1) ∷ hs))) (eqb (get_or t a 0) 12)
              (λ u.
              let w = eqb-true (get_or t a 0) 12 (on _ u) in
              let k = fetched_op t a e n 12 f w in
              makes_whole t a e es inside l₀ nest₀ l h hs lo hi n b gs w k.0 k.1 x s ∙ rw (q, here, w, i, k.0))
              (λ u.
              let v = eqb-false (get_or t a 0) 12 (off _ u) in
              let w = which v in
              let k = fetched_op t a e n 13 f w in
              makes_push t a e es inside l₀ nest₀ l nest h hs (omega arith) hi w x y ∙ rw (q, here, ne_eqb (get_or t a 0) 12 v))

          pub ends_entry : (w : Refusal) → r ≡ Err w → Ends t a₀ e es l nest inside (Err DoesNotPass)
          ends_entry w z = refused (λ l₀ nest₀ hs x y. entered l₀ nest₀ hs x y ∙ rw z)

          pub entry_range : (p : ℕ) → r ≡ Ok p → (a < p) × (p ≤ e)
          unfolding entry_obeys
          entry_range p z =
              case (λ c. (a < p) × (p ≤ e)) (eqb (get_or t a 0) 12)
              (λ u.
              let w = eqb-true (get_or t a 0) 12 (on _ u) in
              let k = fetched_op t a e n 12 f w in
              let m : a + 1 + 1 ≡ p = placed_if (not (ltb l nest) && eqb l b) (rw (here, w) at (sym q ∙ z)) in
              (omega arith, omega arith))
              (λ u.
              let v = eqb-false (get_or t a 0) 12 (off _ u) in
              let w = which v in
              let k = fetched_op t a e n 13 f w in
              let m = push_range t (a + 1) e es l nest p (rw (here, ne_eqb (get_or t a 0) 12 v) at (sym q ∙ z)) (omega arith) in
              (omega arith, m.1))
            where
              placed_if : (c : Bool) → place_if c (a + 1 + 1) ≡ Ok p → a + 1 + 1 ≡ p
              placed_if true e = cc
              placed_if false e = never (cc)

          pub going_entry : (p : ℕ) → r ≡ Ok p → Going t a₀ e es l nest inside p (h + 1)
          going_entry p z =
              let w = entry_range p z in
              on_to p (h + 1) w.0 w.1 (omega arith) (λ l₀ nest₀ hs x y. entered l₀ nest₀ hs x y ∙ rw z)

      -- the others
      module _ {r : Result ℕ Refusal} (x₁ : get_or t a 0 ≡ 10 → ⊥) (x₂ : get_or t a 0 ≡ 9 → ⊥) (x₃ : get_or t a 0 ≤ 11) (q : r ≡ terms_at t a l h) where
        plain : (l₀ nest₀ : ℕ) (hs : List ℕ) → l₀ + length hs ≡ l → makes_one t e es inside l₀ nest₀ a (h ∷ hs) ≡ terms_on r (λ k. makes_one t e es inside l₀ nest₀ n (k ∷ hs))
        plain l₀ nest₀ hs x = makes_plain t a e es inside l₀ nest₀ l h hs x lo hi n f x₁ x₂ x₃ ∙ rw q

        pub ends_plain : (w : Refusal) → r ≡ Err w → Ends t a₀ e es l nest inside (Err DoesNotPass)
        ends_plain w z = refused (λ l₀ nest₀ hs x y. plain l₀ nest₀ hs x ∙ rw z)

        pub going_plain : (k : ℕ) → r ≡ Ok k → Going t a₀ e es l nest inside n k
        going_plain k z =
            let w = fetched_is t a e n f in
            on_to n k (omega arith) w.1 (terms_grow t a l h k (sym q ∙ z)) (λ l₀ nest₀ hs x y. plain l₀ nest₀ hs x ∙ rw z)

-- ---- in a body or not, one level further down

module _ {t : List ℕ} {a e : ℕ} {es : List Slot} (l nest : ℕ) {L N : ℕ} {r : Result Ended Refusal} where
  pub block_inside : L ≡ l + 1 → N ≡ nest + 1 → Ends t a e es L N (ltb L N) r → Ends t a e es (l + 1) (nest + 1) (ltb l nest) r
  block_inside p q s =
      let h : Ends t a e es (l + 1) (nest + 1) (ltb (l + 1) (nest + 1)) r = rw (p, q) at s in
      rw (same l nest) at h
    where
      same : (l nest : ℕ) → ltb (l + 1) (nest + 1) ≡ ltb l nest
      same l nest =
          case (λ q. ltb (l + 1) (nest + 1) ≡ q) (ltb l nest)
          (λ y. let h = ltb-true l nest (on _ y) in lt-ltb (l + 1) (nest + 1) (omega arith))
          (λ y. let h = ltb-false l nest (off _ y) in le-ltb (l + 1) (nest + 1) (omega arith))

  pub body_inside : l ≤ nest → L ≡ l → N ≡ nest + 1 → Ends t a e es L N (ltb L N) r → Ends t a e es l (nest + 1) true r
  body_inside h p q s =
      let k : Ends t a e es l (nest + 1) (ltb l (nest + 1)) r = rw (p, q) at s in
      rw (lt-ltb l (nest + 1) (omega arith)) at k

-- neither way to end
module _ {r : Result Ended Refusal} where
  pub shut_not : (w : Refusal) → r ≡ Err w → (p : ℕ) → r ≡ Ok (ended.Shut p) → ⊥
  shut_not w f p g = cc

  pub done_not : (w : Refusal) → r ≡ Err w → r ≡ Ok ended.Done → ⊥
  done_not w f g = cc

  pub other_shut : (how : Ended) → r ≡ Ok how → ((p : ℕ) → how ≡ ended.Shut p → ⊥) → (p : ℕ) → r ≡ Ok (ended.Shut p) → ⊥
  other_shut how f n p g = n p (cc)

  pub other_done : (how : Ended) → r ≡ Ok how → (how ≡ ended.Done → ⊥) → r ≡ Ok ended.Done → ⊥
  other_done how f n g = n (cc)

-- ---- bodies: c are left at place a, with the keys in m

pub record Bodied (t : List ℕ) (a₀ e c₀ : ℕ) (es : List Slot) (l nest b m₀ a c m : ℕ) : Type 0 where
  pub same : bodies_obey t a₀ e c₀ es l nest b m₀ ≡ bodies_obey t a e c es l nest b m
  pub later : a₀ ≤ a
  pub within : a ≤ e

module _ {t : List ℕ} {a₀ e c₀ : ℕ} {es : List Slot} {l nest b m₀ a c m : ℕ} (g : Bodied t a₀ e c₀ es l nest b m₀ a c m) where
  -- all are there
  module _ (none_left : c ≤ 0) where
    all_there : bodies_obey t a₀ e c₀ es l nest b m₀ ≡ place_if (full m b) a
    all_there = let z : c ≡ 0 = omega arith in g.same ∙ rw z (obey_done t e es l nest b a m g.within)

    pub obey_bare : full m b ≡ false → Err DoesNotPass ≡ bodies_obey t a₀ e c₀ es l nest b m₀
    obey_bare q = sym (all_there ∙ rw q)

    pub obey_all : full m b ≡ true → Ok a ≡ bodies_obey t a₀ e c₀ es l nest b m₀
    obey_all q = sym (all_there ∙ rw q)

  module _ (h : 0 < c) where
    another : c ≡ suc (c - 1)
    another = omega arith

    long : e < a + 2 + get_or t (a + 1) 0 → Err DoesNotPass ≡ bodies_obey t a₀ e c₀ es l nest b m₀
    long q = sym (g.same ∙ ap (λ (k : ℕ). bodies_obey t a e k es l nest b m) another ∙ obey_short t e es l nest b a (c - 1) m q)

    pub obey_few : e - a < 2 → Err DoesNotPass ≡ bodies_obey t a₀ e c₀ es l nest b m₀
    obey_few q = let w = g.within in long (omega arith)

    pub obey_long : 2 ≤ e - a → e - a - 2 < get_or t (a + 1) 0 → Err DoesNotPass ≡ bodies_obey t a₀ e c₀ es l nest b m₀
    obey_long p q = let w = g.within in long (omega arith)

    module _ (hi : e ≤ length t) where
      step : a + 2 + get_or t (a + 1) 0 ≤ e → (q : Bool) → ltb (get_or t a 0) b && (ltb nest 64 && makes_one t (a + 2 + get_or t (a + 1) 0) es true l (nest + 1) (a + 2) (0 ∷ [])) ≡ q
          → bodies_obey t a₀ e c₀ es l nest b m₀ ≡ allow q (bodies_obey t (a + 2 + get_or t (a + 1) 0) e (c - 1) es l nest b (inserted m (get_or t a 0)))
      step k q r = g.same ∙ ap (λ (k : ℕ). bodies_obey t a e k es l nest b m) another ∙ obey_step t e es l nest b a (c - 1) m k hi ∙ rw r

      pub obey_key : b ≤ get_or t a 0 → Err DoesNotPass ≡ bodies_obey t a₀ e c₀ es l nest b m₀
      obey_key p =
          case (λ q. Err DoesNotPass ≡ bodies_obey t a₀ e c₀ es l nest b m₀) (leb (a + 2 + get_or t (a + 1) 0) e)
          (λ y. sym (step (leb-true (a + 2 + get_or t (a + 1) 0) e (on _ y)) false (rw (le-ltb (get_or t a 0) b p))))
          (λ y. long (leb-false (a + 2 + get_or t (a + 1) 0) e (off _ y)))

      module _ (k : get_or t (a + 1) 0 ≤ e - a - 2) (two : 2 ≤ e - a) where
        fits : a + 2 + get_or t (a + 1) 0 ≤ e
        fits = omega arith

        pub obey_deep : 64 ≤ nest → Err DoesNotPass ≡ bodies_obey t a₀ e c₀ es l nest b m₀
        obey_deep p = sym (step fits false (rw (le-ltb nest 64 p, and-false (ltb (get_or t a 0) b))))

        module _ {r : Result Ended Refusal} (s : Ends t (a + 2) (a + 2 + get_or t (a + 1) 0) es l (nest + 1) true r) where
          body : makes_one t (a + 2 + get_or t (a + 1) 0) es true l (nest + 1) (a + 2) (0 ∷ []) ≡ onward r (makes_one t (a + 2 + get_or t (a + 1) 0) es true l (nest + 1)) []
          body = s.means l (nest + 1) [] (omega arith) (omega arith)

          pub obey_bad : (r ≡ Ok ended.Done → ⊥) → Err DoesNotPass ≡ bodies_obey t a₀ e c₀ es l nest b m₀
          obey_bad n = sym (step fits false (rw (body, not_done_lem r n (makes_one t (a + 2 + get_or t (a + 1) 0) es true l (nest + 1)), and-false (ltb nest 64), and-false (ltb (get_or t a 0) b))))

          pub bodied_next : (i : ℕ) → get_or t a 0 < b → nest < 64 → r ≡ Ok ended.Done → i ≡ inserted m (get_or t a 0)
              → Bodied t a₀ e c₀ es l nest b m₀ (a + 2 + get_or t (a + 1) 0) (c - 1) i
          bodied_next i p q d u =
              let v = g.later in
              record { same = step fits true (rw (lt-ltb (get_or t a 0) b p, lt-ltb nest 64 q, body, d)) ∙ rw u; later = omega arith; within = fits }

-- ---- what an answer knows of which one case is excluded: it is another end, or refused

pub key_not_shut : (r : Result Ended Refusal) → IfOk r (λ how. tag_of the_type how ≡ 1) → (p : ℕ) → r ≡ Ok (ended.Shut p) → ⊥
key_not_shut (Ok (ended.Shut p)) k q e = omega arith
key_not_shut (Ok ended.Done) k q e = never (cc)
key_not_shut (Err w) k q e = never (cc)

pub key_not_done : (r : Result Ended Refusal) → IfOk r (λ how. tag_of the_type how ≡ 0) → r ≡ Ok ended.Done → ⊥
key_not_done (Ok (ended.Shut p)) k e = never (cc)
key_not_done (Ok ended.Done) k e = omega arith
key_not_done (Err w) k e = never (cc)
