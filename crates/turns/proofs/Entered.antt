-- What the arrays of the state stand for: the current terms, the entries, and an entry by its number.
use mathlib.Core.Path.{◌≡◌, refl, sym, ap, ◌∙◌}
use Prim.Native.Nat.{ℕ, zero, suc, ◌+◌, ◌-◌, ◌≤◌, ◌<◌}
use native.Mathlib.Numerals.{add-one}
use native.Mathlib.Omega.{arith}
use mathlib.Core.Bool.{false, cond}
use mathlib.Core.Option.{none, some}
use Rattle.std.specs.Prelude.{Option, Some, None}
use mathlib.Core.List.{List, ◌∷◌}
use lib.Dec.{eqb, ltb}
use lib.ListN.{length, get_or, get_elem?, set}
use lib.Seq.{get_or-set_same, get_or-set_other}
use borrow.Author.Tests.{lt-ltb, le-ltb, ltb-true, ltb-false}
use Rattle.documents.specs.Passing.{slot}
use Rattle.documents.proofs.Lists.{never, case, on, off}
use Rattle.indices.specs.Sets.{members}
use Rattle.turns.specs.declared.entries.Entries.{Entries}
use Rattle.turns.specs.declared.entries.Stored.{Stored}
use Rattle.turns.specs.declared.entries.Entry.{Entry}
use Rattle.turns.specs.Held.{slots, entries_of, found_in, same_depth}

-- ---- entries

slots_length : (n : ℕ) (ds gs : List ℕ) → length (slots n ds gs) ≡ n
unfolding slots
slots_length zero ds gs = refl
slots_length (suc n) ds gs = ap suc (slots_length n ds gs)

pub entries_length : (e : Entries) → length (entries_of e) ≡ e.stored.count
entries_length e = slots_length e.stored.count e.stored.depths e.stored.guards

slots_set : (n i : ℕ) (ds gs : List ℕ) (d g : ℕ) → n ≤ i → slots n (set ds i d) (set gs i g) ≡ slots n ds gs
unfolding slots
slots_set zero i ds gs d g h = refl
slots_set (suc n) i ds gs d g h =
    let ne : n ≡ i → ⊥ = λ e. omega arith in
    rw (get_or-set_other ds i n d 0 ne, get_or-set_other gs i n g 0 ne, slots_set n i ds gs d g (omega arith))

-- a SET's entry is the newest
pub slots_more : (n : ℕ) (ds gs : List ℕ) (d g : ℕ) → n < length ds → n < length gs
    → slots (n + 1) (set ds n d) (set gs n g) ≡ slot d (members g) ∷ slots n ds gs
unfolding slots
slots_more n ds gs d g h k =
    rw (add-one n, get_or-set_same ds n d 0 h, get_or-set_same gs n g 0 k, slots_set n n ds gs d g (omega arith))

slot_none : (n : ℕ) (ds gs : List ℕ) (x : ℕ) → n ≤ x → get_elem? (slots n ds gs) x ≡ none
unfolding slots
slot_none zero ds gs x h = refl
slot_none (suc n) ds gs zero h = absurd (omega arith)
slot_none (suc n) ds gs (suc x) h = slot_none n ds gs x (omega arith)

slot_at : (n : ℕ) (ds gs : List ℕ) (x : ℕ) → x < n → get_elem? (slots n ds gs) x ≡ some (slot (get_or ds (n - 1 - x) 0) (members (get_or gs (n - 1 - x) 0)))
unfolding slots
slot_at zero ds gs x h = absurd (omega arith)
slot_at (suc n) ds gs zero h = let e : suc n - 1 - 0 ≡ n = omega arith in rw e
slot_at (suc n) ds gs (suc x) h = let e : suc n - 1 - suc x ≡ n - 1 - x = omega arith in slot_at n ds gs x (omega arith) ∙ rw e

module _ (s : Stored) (x : ℕ) where
  abbrev at_place : Entry
  at_place = record { depth = get_or s.depths (s.count - 1 - x) 0; guard = get_or s.guards (s.count - 1 - x) 0 }

  pub found_missing : s.count ≤ x → None ≡ found_in s x
  unfolding found_in
  found_missing h = rw (le-ltb x s.count h)

  pub found_entry : {i b : ℕ} → (x < s.count) × (i ≡ s.count - 1 - x) → b ≡ get_or s.depths i 0 → found_in s x ≡ Some (record { depth = b; guard = get_or s.guards i 0 })
  unfolding found_in
  found_entry h f = rw (lt-ltb x s.count h.0, f, h.1)

  there_none : found_in s x ≡ None → s.count ≤ x
  unfolding found_in
  there_none h =
      case (λ b. cond b (Some at_place) None ≡ None → s.count ≤ x)
      (ltb x s.count) (λ y p. never (cc)) (λ y p. ltb-false x s.count (off _ y)) h

  there : (f : Entry) → found_in s x ≡ Some f → (x < s.count) × (f ≡ at_place)
  unfolding found_in
  there f h =
      case (λ q. cond q (Some at_place) None ≡ Some f → (x < s.count) × (f ≡ at_place))
      (ltb x s.count) (λ y p. let z : at_place ≡ f = cc in (ltb-true x s.count (on _ y), sym z)) (λ y p. never (cc)) h

-- the slot that was found
module _ (e : Entries) (x : ℕ) where
  pub found_none : found_in e.stored x ≡ None → get_elem? (entries_of e) x ≡ none
  found_none h = slot_none e.stored.count e.stored.depths e.stored.guards x (there_none e.stored x h)

  module _ (f : Entry) (h : found_in e.stored x ≡ Some f) where
    pub found_slot : get_elem? (entries_of e) x ≡ some (slot f.depth (members f.guard))
    found_slot =
        let k = there e.stored x f h in
        slot_at e.stored.count e.stored.depths e.stored.guards x k.0 ∙ ap (λ (g : Entry). some (slot g.depth (members g.guard))) (sym k.1)

    pub found_low : f.depth ≤ 63
    found_low =
        let z : f.depth ≡ get_or e.stored.depths (e.stored.count - 1 - x) 0 = ap (λ (g : Entry). g.depth) (there e.stored x f h).1 in
        rw z (e.low (e.stored.count - 1 - x))

pub same_missing : (f : Option Entry) (d : ℕ) → f ≡ None → false ≡ same_depth f d
unfolding same_depth
same_missing f d e = rw e

pub same_entry : (f : Option Entry) (g : Entry) (d : ℕ) → f ≡ Some g → eqb d g.depth ≡ same_depth f d
unfolding same_depth
same_entry f g d e = rw e
