-- What each match instruction at a place makes of the current term.
use mathlib.Core.Path.{◌≡◌, refl, sym, ap, ◌∙◌}
use Prim.Native.Nat.{ℕ, zero, suc, ◌+◌, ◌-◌, ◌*◌, ◌≤◌, ◌<◌}
use native.Mathlib.Omega.{arith}
use mathlib.Core.Bool.{Bool, true, false, ◌&&◌, cond, and-false, and-true}
use mathlib.Core.Option.{Option, none, some}
use mathlib.Core.List.{List, [], ◌∷◌}
use lib.Dec.{eqb, leb, ltb}
use lib.ListN.{length, get_or, get_elem?, take, drop, replicate, length-drop, length-replicate}
use lib.Seq.{length-take-le}
use Rattle.std.specs.Prelude.{Result, Ok, Err, Some, None}
use Rattle.std.specs.Prelude as program
use Rattle.std.specs.List.{list_all}
use borrow.Author.Tests.{eq-eqb, ne_eqb, le-leb, lt-leb, lt-ltb, le-ltb, leb-true, leb-false, ltb-true}
use Rattle.documents.specs.declared.Refusal.{Refusal}
use Rattle.documents.specs.declared.Refusal.TheVariants.{DoesNotPass}
use Rattle.documents.specs.Lists.{need}
use Rattle.documents.specs.Instructions.{IS, ISABST, NEXT, CHECK, SET, EQVAR, EQIMM, EQI, CELL, LAMBDA, ADBMAL, PUSHVAR, PUSHIMM, PUSHI, Instruction, Read, whole, opcode, fixed_after, pairs_in}
use Rattle.documents.specs.Machine.{firsts}
use Rattle.documents.specs.Passing.{Slot, slot, with_slot, covers, seconds, all_below, Matching, matching}
use Rattle.documents.proofs.Lists.{never, case, on, off}
use Rattle.instructions.specs.Places.{read_at, place_if, fetched}
use Rattle.instructions.proofs.Reading.{unfetched, read_opcode, read_within, read_is, read_isabst, read_next, read_check, read_set, read_eqvar, read_eqimm, read_eqi}
use Rattle.indices.specs.Sets.{members, gathered, full, firsts_in}
use Rattle.indices.proofs.Covers.{covers_members}
use Rattle.turns.specs.declared.Turned.{Turned}
use Rattle.turns.specs.declared.entries.Entries.{Entries}
use Rattle.turns.specs.declared.entries.Entry.{Entry}
use Rattle.turns.specs.Held.{entries_of, found_in, same_depth}
use Rattle.turns.specs.Turns.{is_there, allowed, terms_put, depth_put, turned, turn_if, turn_by, turn_at, stayed, StaysAt, check_at, eqi_at}
use Rattle.turns.proofs.Entered.{found_none, found_slot}

-- ---- tests in a row

two_tests : {A : Type 0} (q r : Bool) (o : A) → is_there (need q (need r (some o))) ≡ q && r
two_tests true true o = refl
two_tests true false o = refl
two_tests false r o = refl

three_tests : {A : Type 0} (q r s : Bool) (o : A) → is_there (need q (need r (need s (some o)))) ≡ q && (r && s)
three_tests true r s o = two_tests r s o
three_tests false r s o = refl

five_tests : {A : Type 0} (q r s u v : Bool) (o : A) → is_there (need q (need r (need s (need u (need v (some o)))))) ≡ q && (r && (s && (u && v)))
five_tests true true s u v o = three_tests s u v o
five_tests true false s u v o = refl
five_tests false r s u v o = refl

pub stayed_if : (q : Bool) (p d : ℕ) → stayed (place_if q p) d ≡ turn_if q p 1 d
stayed_if true p d = refl
stayed_if false p d = refl

-- ---- an entry's tests

abbrev pub slot_test : Option Slot → (ℕ → List ℕ → Bool) → Bool
slot_test none f = false
slot_test (some (slot b g)) f = f b g

-- those of an EQI with these pairs
abbrev pub eqi_test : ℕ → List (ℕ × ℕ) → ℕ → ℕ → List ℕ → Bool
eqi_test D ps d b g = eqb (D + b) (d + 64) && (leb (length ps) 8 && (all_below b (firsts ps) && (covers b g (firsts ps) && all_below d (seconds ps))))

module _ (x d below : ℕ) (es : List Slot) where
  allowed_eqi : (D : ℕ) (ps : List (ℕ × ℕ)) → allowed (EQI x D ps) d below es ≡ slot_test (get_elem? es x) (eqi_test D ps d)
  allowed_eqi D ps = go (get_elem? es x)
    where
      go : (o : Option Slot)
          → is_there (with_slot o (λ b h. need (eqb (D + b) (d + 64)) (need (leb (length ps) 8) (need (all_below b (firsts ps)) (need (covers b h (firsts ps)) (need (all_below d (seconds ps)) (some (matching (d ∷ replicate below 0) es []))))))))
          ≡ slot_test o (eqi_test D ps d)
      go none = refl
      go (some (slot b g)) = five_tests (eqb (D + b) (d + 64)) (leb (length ps) 8) (all_below b (firsts ps)) (covers b g (firsts ps)) (all_below d (seconds ps)) _

  allowed_eqimm : allowed (EQIMM x) d below es ≡ slot_test (get_elem? es x) (λ b g. eqb d b)
  allowed_eqimm = go (get_elem? es x)
    where
      one : (q : Bool) (m : Matching) → is_there (need q (some m)) ≡ q
      one true m = refl
      one false m = refl

      go : (o : Option Slot) → is_there (with_slot o (λ b h. need (eqb d b) (some (matching (d ∷ replicate below 0) es [])))) ≡ slot_test o (λ b g. eqb d b)
      go none = refl
      go (some (slot b g)) = one (eqb d b) _

pub same_depth_lem : (e : Entries) (x d : ℕ) → slot_test (get_elem? (entries_of e) x) (λ b g. eqb d b) ≡ same_depth (found_in e.stored x) d
unfolding same_depth
same_depth_lem e x d = go (found_in e.stored x) refl
  where
    go : (f : program.Option Entry) → found_in e.stored x ≡ f → slot_test (get_elem? (entries_of e) x) (λ b g. eqb d b) ≡ same_depth f d
    go None p = rw (found_none e x p)
    go (Some f) p = rw (found_slot e x f p)

-- ---- 01's word for a test of each

pub every_all : (d : ℕ) (l : List ℕ) → list_all (λ x. ltb x d) l ≡ all_below d l
every_all d [] = refl
every_all d (x ∷ l) = ap (λ (b : Bool). ltb x d && b) (every_all d l)

-- ---- the reader refuses with one refusal

pub fetched_refused : (t : List ℕ) (a e : ℕ) (w : Refusal) → fetched t a e ≡ Err w → w ≡ DoesNotPass
unfolding fetched
fetched_refused t a e w p = go (leb (get_or t a 0) 13) (leb (a + 1 + fixed_after (get_or t a 0)) e) p
  where
    go : (b c : Bool) → cond b (place_if c (a + 1 + fixed_after (get_or t a 0))) (Err DoesNotPass) ≡ Err w → w ≡ DoesNotPass
    go true true q = never (cc)
    go true false q = cc
    go false c q = cc

-- ---- the instruction at place a, with a top of depth d

module _ (t : List ℕ) (a d : ℕ) (es : List Slot) where
  pub turn_read : (below : ℕ) (i : Instruction) (m : ℕ) → read_at t a (length t) ≡ some (whole i m)
      → turn_at t a d below es ≡ turn_if (allowed i d below es) (a + 1 + m) (terms_put i) (depth_put i d)
  unfolding turn_at
  turn_read below i m e = rw e

  pub turn_none : (below : ℕ) → read_at t a (length t) ≡ none → turn_at t a d below es ≡ Err DoesNotPass
  unfolding turn_at
  turn_none below e = rw e

  pub turn_unfetched : (below : ℕ) (w : Refusal) → a < length t → fetched t a (length t) ≡ Err w → Err w ≡ turn_at t a d below es
  turn_unfetched below w h p = rw (fetched_refused t a (length t) w p) (sym (turn_none below (unfetched t a (length t) w h p)))

  module _ {n : ℕ} (below : ℕ) where
    pub turn_is : (r : Result Turned Refusal) → get_or t a 0 ≡ 0 → n ≡ a + 1 + 2 → n ≤ length t
        → r ≡ turn_if (leb (get_or t (a + 1) 0) 65535 && (leb (get_or t (a + 2) 0) 8 && leb (below + get_or t (a + 2) 0) 256)) n (get_or t (a + 2) 0) d → r ≡ turn_at t a d below es
    turn_is r o f h e =
        let s = get_or t (a + 1) 0 in
        let c = get_or t (a + 2) 0 in
        let k : length (replicate {A = ℕ} below 0) ≡ below = length-replicate below 0 in
        e ∙ sym (turn_read below (IS s c) 2 (read_is t a (length t) o f h)
        ∙ rw (three_tests (leb s 65535) (leb c 8) (leb (length (replicate {A = ℕ} below 0) + c) 256) _, k, f))

    pub turn_deep : get_or t a 0 ≡ 1 → n ≡ a + 1 + 0 → n ≤ length t → 63 ≤ d → Err DoesNotPass ≡ turn_at t a d below es
    turn_deep o f h k = sym (turn_read below ISABST 0 (read_isabst t a (length t) o f h) ∙ rw (le-ltb d 63 k))

    pub turn_isabst : get_or t a 0 ≡ 1 → n ≡ a + 1 + 0 → n ≤ length t → d < 63 → turned n 1 (d + 1) ≡ turn_at t a d below es
    turn_isabst o f h k = sym (turn_read below ISABST 0 (read_isabst t a (length t) o f h) ∙ rw (lt-ltb d 63 k, f))

    pub turn_next : get_or t a 0 ≡ 2 → n ≡ a + 1 + 0 → n ≤ length t → turned n 0 d ≡ turn_at t a d below es
    turn_next o f h = sym (turn_read below NEXT 0 (read_next t a (length t) o f h) ∙ rw f)

  pub turn_stays : {r : Result ℕ Refusal} (p below : ℕ) → StaysAt t a d es r → r ≡ Ok p → turned p 1 d ≡ turn_at t a d below es
  turn_stays p below s e = rw e at (s.means below)

  pub turn_refused : {r : Result ℕ Refusal} (w : Refusal) (below : ℕ) → StaysAt t a d es r → r ≡ Err w → Err w ≡ turn_at t a d below es
  turn_refused w below s e = rw e at (s.means below)

  -- ---- CHECK to EQI

  module _ {n : ℕ} where
    pub stays_check : (r : Result ℕ Refusal) → get_or t a 0 ≡ 3 → n ≡ a + 1 + 1 → n ≤ length t → r ≡ check_at t a d → StaysAt t a d es r
    unfolding check_at
    stays_check r o f h e = record { means = λ below. ap (λ (p : Result ℕ Refusal). stayed p d) e ∙ go below }
      where
        go : (below : ℕ) → stayed (check_at t a d) d ≡ turn_at t a d below es
        go below =
            let c = get_or t (a + 1) 0 in
            let vs = take c (drop (a + 2) t) in
            case (λ q. stayed (place_if (leb c 63 && (q && all_below d vs)) (a + 2 + c)) d ≡ turn_at t a d below es) (leb (a + 2 + c) (length t))
            (λ y.
            let l = leb-true (a + 2 + c) (length t) (on _ y) in
            let k : length vs ≡ c = length-take-le c (drop (a + 2) t) (rw (length-drop (a + 2) t) (omega arith)) in
            let p : a + 1 + (1 + c) ≡ a + 2 + c = omega arith in
            stayed_if (leb c 63 && all_below d vs) (a + 2 + c) d
            ∙ sym (turn_read below (CHECK vs) (1 + c) (read_check t a (length t) o f h ∙ rw (le-leb (1 + c) (length t - (a + 1)) (omega arith)))
            ∙ rw (two_tests (leb (length vs) 63) (all_below d vs) _, k, p)))
            (λ y.
            let l = leb-false (a + 2 + c) (length t) (off _ y) in
            rw (and-false (leb c 63)) (sym (turn_none below (read_check t a (length t) o f h ∙ rw (lt-leb (1 + c) (length t - (a + 1)) (omega arith))))))

    pub stays_full : get_or t a 0 ≡ 4 → n ≡ a + 1 + 0 → n ≤ length t → 16 ≤ length es → StaysAt t a d es (Err DoesNotPass)
    stays_full o f h k = record { means = λ below. sym (turn_read below SET 0 (read_set t a (length t) o f h) ∙ rw (le-ltb (length es) 16 k)) }

    pub stays_set : get_or t a 0 ≡ 4 → n ≡ a + 1 + 0 → n ≤ length t → length es < 16 → StaysAt t a d es (Ok n)
    stays_set o f h k = record { means = λ below. sym (turn_read below SET 0 (read_set t a (length t) o f h) ∙ rw (lt-ltb (length es) 16 k, f)) }

    pub stays_high : get_or t a 0 ≡ 5 → n ≡ a + 1 + 1 → n ≤ length t → d ≤ get_or t (a + 1) 0 → StaysAt t a d es (Err DoesNotPass)
    stays_high o f h k = record { means = λ below. sym (turn_read below (EQVAR (get_or t (a + 1) 0)) 1 (read_eqvar t a (length t) o f h) ∙ rw (le-ltb (get_or t (a + 1) 0) d k)) }

    pub stays_eqvar : get_or t a 0 ≡ 5 → n ≡ a + 1 + 1 → n ≤ length t → get_or t (a + 1) 0 < d → StaysAt t a d es (Ok n)
    stays_eqvar o f h k = record { means = λ below. sym (turn_read below (EQVAR (get_or t (a + 1) 0)) 1 (read_eqvar t a (length t) o f h) ∙ rw (lt-ltb (get_or t (a + 1) 0) d k, f)) }

    eqimm_if : (below : ℕ) → get_or t a 0 ≡ 6 → n ≡ a + 1 + 1 → n ≤ length t → turn_at t a d below es ≡ turn_if (slot_test (get_elem? es (get_or t (a + 1) 0)) (λ b g. eqb d b)) n 1 d
    eqimm_if below o f h = turn_read below (EQIMM (get_or t (a + 1) 0)) 1 (read_eqimm t a (length t) o f h) ∙ rw (allowed_eqimm (get_or t (a + 1) 0) d below es, f)

    pub stays_eqi : (r : Result ℕ Refusal) → get_or t a 0 ≡ 7 → n ≡ a + 1 + 3 → n ≤ length t → r ≡ eqi_at t a d es → StaysAt t a d es r
    unfolding eqi_at
    stays_eqi r o f h e = record { means = λ below. ap (λ (p : Result ℕ Refusal). stayed p d) e ∙ go below }
      where
        go : (below : ℕ) → stayed (eqi_at t a d es) d ≡ turn_at t a d below es
        go below =
            let x = get_or t (a + 1) 0 in
            let D = get_or t (a + 2) 0 in
            let c = get_or t (a + 3) 0 in
            let ps = pairs_in (take (2 * c) (drop (a + 4) t)) in
            case (λ q. stayed (place_if (q && allowed (EQI x D ps) d 0 es) (a + 4 + 2 * c)) d ≡ turn_at t a d below es) (leb (a + 4 + 2 * c) (length t))
            (λ y.
            let l = leb-true (a + 4 + 2 * c) (length t) (on _ y) in
            let p : a + 1 + (3 + 2 * c) ≡ a + 4 + 2 * c = omega arith in
            stayed_if (allowed (EQI x D ps) d 0 es) (a + 4 + 2 * c) d
            ∙ sym (turn_read below (EQI x D ps) (3 + 2 * c) (read_eqi t a (length t) o f h ∙ rw (le-leb (3 + 2 * c) (length t - (a + 1)) (omega arith)))
            ∙ rw (allowed_eqi x d below es D ps, sym (allowed_eqi x d 0 es D ps), p)))
            (λ y.
            let l = leb-false (a + 4 + 2 * c) (length t) (off _ y) in
            sym (turn_none below (read_eqi t a (length t) o f h ∙ rw (lt-leb (3 + 2 * c) (length t - (a + 1)) (omega arith)))))

-- EQIMM, with the entries in arrays
module _ (t : List ℕ) (a d : ℕ) (e : Entries) {n : ℕ} (o : get_or t a 0 ≡ 6) (f : n ≡ a + 1 + 1) (h : n ≤ length t) where
  pub stays_other : same_depth (found_in e.stored (get_or t (a + 1) 0)) d ≡ false → StaysAt t a d (entries_of e) (Err DoesNotPass)
  stays_other q = record { means = λ below. sym (eqimm_if t a d (entries_of e) below o f h ∙ rw (same_depth_lem e (get_or t (a + 1) 0) d, q)) }

  pub stays_eqimm : same_depth (found_in e.stored (get_or t (a + 1) 0)) d ≡ true → StaysAt t a d (entries_of e) (Ok n)
  stays_eqimm q = record { means = λ below. sym (eqimm_if t a d (entries_of e) below o f h ∙ rw (same_depth_lem e (get_or t (a + 1) 0) d, q)) }

-- ---- the tests of an IS, in the code's order

module _ (s c below next d : ℕ) where
  abbrev pub Arguments : Result Turned Refusal
  Arguments = turn_if (leb s 65535 && (leb c 8 && leb (below + c) 256)) next c d

  pub name_high : 65535 < s → Err DoesNotPass ≡ Arguments
  name_high h = rw (lt-leb s 65535 h)

  module _ (n : s ≤ 65535) where
    pub count_high : 8 < c → Err DoesNotPass ≡ Arguments
    count_high h = rw (le-leb s 65535 n, lt-leb c 8 h)

    pub current_many : c ≤ 8 → 256 < below + c → Err DoesNotPass ≡ Arguments
    current_many h k = rw (le-leb s 65535 n, le-leb c 8 h, lt-leb (below + c) 256 k)

    pub arguments_there : c ≤ 8 → below + c ≤ 256 → turned next c d ≡ Arguments
    arguments_there h k = rw (le-leb s 65535 n, le-leb c 8 h, le-leb (below + c) 256 k)

-- ---- those of a CHECK

module _ (t : List ℕ) (a d : ℕ) where
  pub check_long : 63 < get_or t (a + 1) 0 → Err DoesNotPass ≡ check_at t a d
  unfolding check_at
  check_long h = rw (lt-leb (get_or t (a + 1) 0) 63 h)

  module _ (k : get_or t (a + 1) 0 ≤ 63) where
    pub check_past : length t < a + 2 + get_or t (a + 1) 0 → Err DoesNotPass ≡ check_at t a d
    unfolding check_at
    check_past h = rw (le-leb (get_or t (a + 1) 0) 63 k, lt-leb (a + 2 + get_or t (a + 1) 0) (length t) h)

    module _ (h : a + 2 + get_or t (a + 1) 0 ≤ length t) where
      span : a + 2 + get_or t (a + 1) 0 - (a + 2) ≡ get_or t (a + 1) 0
      span = omega arith

      pub check_high : false ≡ all_below d (take (a + 2 + get_or t (a + 1) 0 - (a + 2)) (drop (a + 2) t)) → Err DoesNotPass ≡ check_at t a d
      unfolding check_at
      check_high q = let q₁ = rw span at q in rw (le-leb (get_or t (a + 1) 0) 63 k, le-leb (a + 2 + get_or t (a + 1) 0) (length t) h, sym q₁)

      pub check_there : true ≡ all_below d (take (a + 2 + get_or t (a + 1) 0 - (a + 2)) (drop (a + 2) t)) → Ok (a + 2 + get_or t (a + 1) 0) ≡ check_at t a d
      unfolding check_at
      check_there q = let q₁ = rw span at q in rw (le-leb (get_or t (a + 1) 0) 63 k, le-leb (a + 2 + get_or t (a + 1) 0) (length t) h, sym q₁)

-- ---- those of an EQI

pairs_length : (n : ℕ) (l : List ℕ) → 2 * n ≤ length l → length (pairs_in (take (2 * n) l)) ≡ n
pairs_length zero l h = refl
pairs_length (suc n) [] h = absurd (omega arith)
pairs_length (suc n) (x ∷ []) h = absurd (omega arith)
pairs_length (suc n) (x ∷ y ∷ l) h = let e : 2 * suc n ≡ suc (suc (2 * n)) = omega arith in rw e (ap suc (pairs_length n l (omega arith)))

-- first indices below b, second ones below d, and all below b covered
abbrev pub filled : program.Option ℕ → ℕ → Bool
filled (Some m) b = full m b
filled None b = false

filled_is : (q r s : Bool) (m b : ℕ) → s ≡ full m b → filled (cond (q && r) (Some m) None) b ≡ q && (s && r)
filled_is true true s m b e = sym (and-true s ∙ e)
filled_is true false s m b e = sym (and-false s)
filled_is false r s m b e = refl

module _ (t : List ℕ) (a d : ℕ) (e : Entries) where
  eqi_test_lem : eqi_at t a d (entries_of e)
      ≡ place_if (leb (a + 4 + 2 * get_or t (a + 3) 0) (length t) && slot_test (get_elem? (entries_of e) (get_or t (a + 1) 0)) (eqi_test (get_or t (a + 2) 0) (pairs_in (take (2 * get_or t (a + 3) 0) (drop (a + 4) t))) d)) (a + 4 + 2 * get_or t (a + 3) 0)
  unfolding eqi_at
  eqi_test_lem = rw (allowed_eqi (get_or t (a + 1) 0) d 0 (entries_of e) (get_or t (a + 2) 0) (pairs_in (take (2 * get_or t (a + 3) 0) (drop (a + 4) t))))

  pub eqi_missing : found_in e.stored (get_or t (a + 1) 0) ≡ None → Err DoesNotPass ≡ eqi_at t a d (entries_of e)
  eqi_missing f = sym (eqi_test_lem ∙ rw (found_none e (get_or t (a + 1) 0) f, and-false (leb (a + 4 + 2 * get_or t (a + 3) 0) (length t))))

  module _ (b g : ℕ) (f : found_in e.stored (get_or t (a + 1) 0) ≡ Some (record { depth = b; guard = g })) where
    eqi_found : eqi_at t a d (entries_of e)
        ≡ place_if (leb (a + 4 + 2 * get_or t (a + 3) 0) (length t) && eqi_test (get_or t (a + 2) 0) (pairs_in (take (2 * get_or t (a + 3) 0) (drop (a + 4) t))) d b (members g)) (a + 4 + 2 * get_or t (a + 3) 0)
    eqi_found = eqi_test_lem ∙ rw (found_slot e (get_or t (a + 1) 0) (record { depth = b; guard = g }) f)

    pub eqi_other : (get_or t (a + 2) 0 + b ≡ d + 64 → ⊥) → Err DoesNotPass ≡ eqi_at t a d (entries_of e)
    eqi_other q = sym (eqi_found ∙ rw (ne_eqb (get_or t (a + 2) 0 + b) (d + 64) q, and-false (leb (a + 4 + 2 * get_or t (a + 3) 0) (length t))))

    module _ (q : get_or t (a + 2) 0 + b ≡ d + 64) where
      pub eqi_past : length t < a + 4 + 2 * get_or t (a + 3) 0 → Err DoesNotPass ≡ eqi_at t a d (entries_of e)
      eqi_past h = sym (eqi_found ∙ rw (lt-leb (a + 4 + 2 * get_or t (a + 3) 0) (length t) h))

      listed_pairs : a + 4 + 2 * get_or t (a + 3) 0 ≤ length t → length (pairs_in (take (2 * get_or t (a + 3) 0) (drop (a + 4) t))) ≡ get_or t (a + 3) 0
      listed_pairs h = pairs_length (get_or t (a + 3) 0) (drop (a + 4) t) (rw (length-drop (a + 4) t) (omega arith))

      pub eqi_many : 8 < get_or t (a + 3) 0 → Err DoesNotPass ≡ eqi_at t a d (entries_of e)
      eqi_many k =
          case (λ p. Err DoesNotPass ≡ eqi_at t a d (entries_of e)) (leb (a + 4 + 2 * get_or t (a + 3) 0) (length t))
          (λ y.
          let h = leb-true (a + 4 + 2 * get_or t (a + 3) 0) (length t) (on _ y) in
          sym (eqi_found ∙ rw (le-leb (a + 4 + 2 * get_or t (a + 3) 0) (length t) h, eq-eqb (get_or t (a + 2) 0 + b) (d + 64) q, listed_pairs h, lt-leb (get_or t (a + 3) 0) 8 k)))
          (λ y. eqi_past (leb-false (a + 4 + 2 * get_or t (a + 3) 0) (length t) (off _ y)))

      pub eqi_sets : (s : program.Option ℕ) → get_or t (a + 3) 0 ≤ 8 → a + 4 + 2 * get_or t (a + 3) 0 ≤ length t
          → s ≡ firsts_in (pairs_in (take (a + 4 + 2 * get_or t (a + 3) 0 - (a + 4)) (drop (a + 4) t))) g b d
          → place_if (filled s b) (a + 4 + 2 * get_or t (a + 3) 0) ≡ eqi_at t a d (entries_of e)
      unfolding firsts_in
      eqi_sets s k h v =
          let ps = pairs_in (take (2 * get_or t (a + 3) 0) (drop (a + 4) t)) in
          let z : a + 4 + 2 * get_or t (a + 3) 0 - (a + 4) ≡ 2 * get_or t (a + 3) 0 = omega arith in
          let v₁ : s ≡ firsts_in ps g b d = rw z at v in
          let w = filled_is (all_below b (firsts ps)) (all_below d (seconds ps)) (covers b (members g) (firsts ps)) (gathered g (firsts ps)) b
          (covers_members b g (firsts ps)) in
          rw (v₁, w) (sym (eqi_found ∙ rw (
            le-leb (a + 4 + 2 * get_or t (a + 3) 0) (length t) h,
            eq-eqb (get_or t (a + 2) 0 + b) (d + 64) q,
            listed_pairs h,
            le-leb (get_or t (a + 3) 0) 8 k,
          )))

      module _ (s : program.Option ℕ) (k : get_or t (a + 3) 0 ≤ 8) (h : a + 4 + 2 * get_or t (a + 3) 0 ≤ length t)
          (v : s ≡ firsts_in (pairs_in (take (a + 4 + 2 * get_or t (a + 3) 0 - (a + 4)) (drop (a + 4) t))) g b d) where
        pub eqi_high : s ≡ None → Err DoesNotPass ≡ eqi_at t a d (entries_of e)
        eqi_high w = ap (λ (i : program.Option ℕ). place_if (filled i b) (a + 4 + 2 * get_or t (a + 3) 0)) (sym w) ∙ eqi_sets s k h v

        pub eqi_bare : (n : ℕ) → s ≡ Some n → full n b ≡ false → Err DoesNotPass ≡ eqi_at t a d (entries_of e)
        eqi_bare n w x = ap (λ (p : Bool). place_if p (a + 4 + 2 * get_or t (a + 3) 0)) (sym x) ∙ ap (λ (i : program.Option ℕ). place_if (filled i b) (a + 4 + 2 * get_or t (a + 3) 0)) (sym w) ∙ eqi_sets s k h v

        pub eqi_there : (n : ℕ) → s ≡ Some n → full n b ≡ true → Ok (a + 4 + 2 * get_or t (a + 3) 0) ≡ eqi_at t a d (entries_of e)
        eqi_there n w x = ap (λ (p : Bool). place_if p (a + 4 + 2 * get_or t (a + 3) 0)) (sym x) ∙ ap (λ (i : program.Option ℕ). place_if (filled i b) (a + 4 + 2 * get_or t (a + 3) 0)) (sym w) ∙ eqi_sets s k h v

-- ---- the fixed words, with the opcode known

pub fixed_of : (t : List ℕ) (a : ℕ) {n : ℕ} (k : ℕ) → n ≡ a + 1 + fixed_after (get_or t a 0) → get_or t a 0 ≡ k → n ≡ a + 1 + fixed_after k
fixed_of t a k f o = f ∙ rw o

-- ---- the limits hold after a turn

pub needed_there : {A : Type 0} (q : Bool) (o : Option A) → is_there (need q o) ≡ true → (q ≡ true) × (is_there o ≡ true)
needed_there true o h = (refl, h)
needed_there false o h = never (cc)

module _ (d below : ℕ) (es : List Slot) (k : below < 256) (l : d ≤ 63) where
  abbrev Range : Instruction → Type 0
  Range i = (below + terms_put i ≤ 256) × (depth_put i d ≤ 63) × (opcode i ≡ 4 → length es < 16)

  allowed_range : (i : Instruction) → opcode i ≤ 7 → allowed i d below es ≡ true → Range i
  allowed_range (IS s n) o h =
      let q = needed_there (leb n 8) _ (needed_there (leb s 65535) _ h).1 in
      let r = needed_there (leb (length (replicate {A = ℕ} below 0) + n) 256) _ q.1 in
      let z : length (replicate {A = ℕ} below 0) ≡ below = length-replicate below 0 in
      let u = leb-true (length (replicate {A = ℕ} below 0) + n) 256 r.0 in
      (omega arith, l, λ e. absurd (omega arith))
  allowed_range ISABST o h =
      let q = needed_there (ltb d 63) _ h in
      let u = ltb-true d 63 q.0 in
      (omega arith, omega arith, λ e. absurd (omega arith))
  allowed_range NEXT o h = (omega arith, l, λ e. absurd (omega arith))
  allowed_range (CHECK vs) o h = (omega arith, l, λ e. absurd (omega arith))
  allowed_range SET o h = let q = needed_there (ltb (length es) 16) _ h in (omega arith, l, λ e. ltb-true (length es) 16 q.0)
  allowed_range (EQVAR x) o h = (omega arith, l, λ e. absurd (omega arith))
  allowed_range (EQIMM e) o h = (omega arith, l, λ e. absurd (omega arith))
  allowed_range (EQI e D ps) o h = (omega arith, l, λ e. absurd (omega arith))
  allowed_range (CELL s n) o h = absurd (omega arith)
  allowed_range LAMBDA o h = absurd (omega arith)
  allowed_range ADBMAL o h = absurd (omega arith)
  allowed_range (PUSHVAR x) o h = absurd (omega arith)
  allowed_range (PUSHIMM e) o h = absurd (omega arith)
  allowed_range (PUSHI e D a) o h = absurd (omega arith)

pub record Ranged (t : List ℕ) (a below : ℕ) (es : List Slot) (p n d : ℕ) : Type 0 where
  pub later : a < p
  pub within : p ≤ length t
  pub current : below + n ≤ 256
  pub depth : d ≤ 63
  pub entries : get_or t a 0 ≡ 4 → length es < 16

pub ok_same : {x y : Turned} → ◌≡◌ {A = Result Turned Refusal} (Ok x) (Ok y) → x ≡ y
ok_same h = cc

pub turn_range : {t : List ℕ} {a below : ℕ} {es : List Slot} {p n d : ℕ} (b : ℕ) → a < length t → get_or t a 0 ≤ 7 → below < 256 → b ≤ 63 → turned p n d ≡ turn_at t a b below es
    → Ranged t a below es p n d
unfolding turn_at
turn_range {t} {a} {below} {es} {p} {n} {d} b lo w k l h = go (read_at t a (length t)) refl (sym h)
  where
    go : (o : Option Read) → read_at t a (length t) ≡ o → turn_by o a b below es ≡ turned p n d → Ranged t a below es p n d
    go none r q = never (cc)
    go (some (whole i m)) r q =
        case (λ x. x ≡ allowed i b below es → turn_if x (a + 1 + m) (terms_put i) (depth_put i b) ≡ turned p n d → Ranged t a below es p n d) (allowed i b below es)
        (λ y e s.
        let o = read_opcode t a (length t) i m r in
        let u = allowed_range b below es k l i (omega arith) (on _ y) in
        let v = read_within t a (length t) i m lo r in
        let z : turned (a + 1 + m) (terms_put i) (depth_put i b) ≡ turned p n d = s in
        let f = ok_same z in
        let z₁ : a + 1 + m ≡ p = ap (λ (r : Turned). r.next) f in
        let z₂ : terms_put i ≡ n = ap (λ (r : Turned). r.terms) f in
        let z₃ : depth_put i b ≡ d = ap (λ (r : Turned). r.depth) f in
        record { later = omega arith; within = rw (sym z₁) v.1; current = rw (sym z₂) u.0; depth = rw (sym z₃) u.1; entries = λ f. u.2 (o ∙ f) })
        (λ y e s. never (cc)) refl q
