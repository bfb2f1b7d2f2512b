-- The match part at a place: what each instruction makes of the state, and where the build part begins.
use mathlib.Core.Path.{◌≡◌, refl, sym, ap, ◌∙◌}
use Prim.Native.Nat.{ℕ, ◌+◌, ◌-◌, ◌≤◌, ◌<◌}
use native.Mathlib.Omega.{arith}
use mathlib.Core.Bool.{Bool, true, false, cond, and-false}
use mathlib.Core.Option.{Option, none, some}
use mathlib.Core.List.{List, [], ◌∷◌}
use lib.Dec.{eqb, leb, ltb}
use lib.ListN.{length, get_or, get_elem?, take, drop, replicate, length-replicate}
use Rattle.std.specs.Prelude.{Result, Ok, Err}
use borrow.Author.Tests.{eq-eqb, ne_eqb, le-leb, lt-leb, lt-ltb, le-ltb, eqb-true, eqb-false, ltb-true, leb-true}
use Rattle.documents.specs.declared.Refusal.{Refusal}
use Rattle.documents.specs.declared.Refusal.TheVariants.{DoesNotPass}
use Rattle.documents.specs.Lists.{need, and_then}
use Rattle.documents.specs.Instructions.{IS, ISABST, NEXT, CHECK, SET, EQVAR, EQIMM, EQI, CELL, LAMBDA, ADBMAL, PUSHVAR, PUSHIMM, PUSHI, End, ◌▸◌, Instruction, Program, Read, whole, opcode, before}
use Rattle.documents.specs.Machine.{firsts}
use Rattle.documents.specs.Numbers.{number_of}
use Rattle.documents.specs.Calls.{check_call}
use Rattle.documents.specs.Passing.{Slot, slot, with_slot, covers, seconds, all_below, times, Matching, matching, match_top, match_step, one_term, build, builds, and_then_holds, parts, passes}
use Rattle.documents.proofs.Lists.{never, case, on, off, T_of, of_and}
use Rattle.instructions.specs.Places.{program_at, read_at}
use Rattle.instructions.proofs.Reading.{First, read_opcode, read_within, read_check, program_plain, program_first, program_done}
use Rattle.indices.specs.Sets.{members, gathered}
use Rattle.turns.specs.declared.Turned.{Turned}
use Rattle.turns.specs.declared.entries.Entries.{Entries}
use Rattle.turns.specs.Held.{stacked, entries_of}
use Rattle.turns.specs.Turns.{is_there, allowed, terms_put, depth_put, turned, turn_if, turn_by, turn_at}
use Rattle.turns.proofs.Turning.{turn_read, turn_none, Ranged, turn_range, needed_there}
use Rattle.turns.proofs.Entered.{entries_length}
use Rattle.checker.specs.declared.build.Ended.{Ended}
use Rattle.checker.specs.declared.build.Ended.TheVariants as ended
use Rattle.checker.specs.Matched.{passes_at, verdict, BuildsAt, list_behind, Listing}
use Rattle.checker.specs.Built.{makes_one, onward, Ends}
use Rattle.checker.proofs.Ending.{not_done_lem}
use Rattle.checker.proofs.Told.{all_told, length_told, build_told, turn_told}
use Rattle.checker.proofs.Current.{stacked_length, stacked_top, replaced, stacked_replaced, length_replaced, Low, low_replicate, low_replaced}

-- ---- an instruction's effect, where it is allowed

abbrev pub entries_put : ℕ → ℕ → List ℕ → List Slot → List Slot
entries_put op d g es = cond (eqb op 4) (slot d g ∷ es) es

abbrev list_put : Instruction → List ℕ
list_put (IS s n) = []
list_put ISABST = []
list_put NEXT = []
list_put (CHECK vs) = vs
list_put SET = []
list_put (EQVAR x) = []
list_put (EQIMM e) = []
list_put (EQI e D ps) = []
list_put (CELL s n) = []
list_put LAMBDA = []
list_put ADBMAL = []
list_put (PUSHVAR x) = []
list_put (PUSHIMM e) = []
list_put (PUSHI e D a) = []

-- a test that is met gives the same, whatever is carried along
abbrev Carried : Option Matching → Option Matching → Matching → Type 0
Carried o u m = o ≡ cond (is_there u) (some m) none

carried_need : (q : Bool) (o u : Option Matching) (m : Matching) → Carried o u m → Carried (need q o) (need q u) m
carried_need true o u m c = c
carried_need false o u m c = refl

carried_slot : (s : Option Slot) (f k : ℕ → List ℕ → Option Matching) (m : Matching) → ((b : ℕ) (g : List ℕ) → Carried (f b g) (k b g) m) → Carried (with_slot s f) (with_slot s k) m
carried_slot none f k m c = refl
carried_slot (some (slot b g)) f k m c = c b g

match_by : (i : Instruction) (d : ℕ) (ds : List ℕ) (es : List Slot) (g : List ℕ) → opcode i ≤ 7
    → match_top i d ds es g ≡ cond (allowed i d (length ds) es) (some (matching (times (terms_put i) (depth_put i d) ds) (entries_put (opcode i) d g es) (list_put i))) none
match_by (IS s n) d ds es g h =
    let k : length (replicate {A = ℕ} (length ds) 0) ≡ length ds = length-replicate (length ds) 0 in
    rw k (carried_need (leb s 65535) _ _ _ (carried_need (leb n 8) _ _ _ (carried_need (leb (length ds + n) 256) _ (some _) _ refl)))
match_by ISABST d ds es g h = carried_need (ltb d 63) _ (some _) _ refl
match_by NEXT d ds es g h = refl
match_by (CHECK vs) d ds es g h = carried_need (leb (length vs) 63) _ _ _ (carried_need (all_below d vs) _ (some _) _ refl)
match_by SET d ds es g h = carried_need (ltb (length es) 16) _ (some _) _ refl
match_by (EQVAR x) d ds es g h = carried_need (ltb x d) _ (some _) _ refl
match_by (EQIMM e) d ds es g h = carried_slot (get_elem? es e) _ _ _ (λ b h. carried_need (eqb d b) _ (some _) _ refl)
match_by (EQI e D ps) d ds es g h =
    carried_slot (get_elem? es e) _ _ _ (λ b h.
    carried_need (eqb (D + b) (d + 64)) _ _ _ (carried_need (leb (length ps) 8) _ _ _ (carried_need (all_below b (firsts ps)) _ _ _
    (carried_need (covers b h (firsts ps)) _ _ _ (carried_need (all_below d (seconds ps)) _ (some _) _ refl)))))
match_by (CELL s n) d ds es g h = absurd (omega arith)
match_by LAMBDA d ds es g h = absurd (omega arith)
match_by ADBMAL d ds es g h = absurd (omega arith)
match_by (PUSHVAR x) d ds es g h = absurd (omega arith)
match_by (PUSHIMM e) d ds es g h = absurd (omega arith)
match_by (PUSHI e D a) d ds es g h = absurd (omega arith)

no_list : (i : Instruction) → (opcode i ≡ 3 → ⊥) → list_put i ≡ []
no_list (IS s n) h = refl
no_list ISABST h = refl
no_list NEXT h = refl
no_list (CHECK vs) h = absurd (h refl)
no_list SET h = refl
no_list (EQVAR x) h = refl
no_list (EQIMM e) h = refl
no_list (EQI e D ps) h = refl
no_list (CELL s n) h = refl
no_list LAMBDA h = refl
no_list ADBMAL h = refl
no_list (PUSHVAR x) h = refl
no_list (PUSHIMM e) h = refl
no_list (PUSHI e D a) h = refl

-- a list that is allowed at a depth of at most 63 has indices below 64
listed_small : (i : Instruction) (d below : ℕ) (es : List Slot) → d ≤ 63 → allowed i d below es ≡ true → all_below 64 (list_put i) ≡ true
listed_small (IS s n) d below es l h = refl
listed_small ISABST d below es l h = refl
listed_small NEXT d below es l h = refl
listed_small (CHECK vs) d below es l h = go vs (needed_there (all_below d vs) _ (needed_there (leb (length vs) 63) _ h).1).0
  where
    go : (ks : List ℕ) → all_below d ks ≡ true → all_below 64 ks ≡ true
    go [] e = refl
    go (k ∷ ks) e =
        let q = of_and (ltb k d) (all_below d ks) (T_of _ e) in
        let u = ltb-true k d (on _ q.0) in
        rw (lt-ltb k 64 (omega arith)) (go ks (on _ q.1))
listed_small SET d below es l h = refl
listed_small (EQVAR x) d below es l h = refl
listed_small (EQIMM e) d below es l h = refl
listed_small (EQI e D ps) d below es l h = refl
listed_small (CELL s n) d below es l h = refl
listed_small LAMBDA d below es l h = refl
listed_small ADBMAL d below es l h = refl
listed_small (PUSHVAR x) d below es l h = refl
listed_small (PUSHIMM e) d below es l h = refl
listed_small (PUSHI e D a) d below es l h = refl

-- ---- from instruction to instruction

abbrev pub turned_on : Result Turned Refusal → (ℕ → ℕ → ℕ → Bool) → Bool
turned_on (Ok u) f = f u.next u.terms u.depth
turned_on (Err w) f = false

module _ (t : List ℕ) (a : ℕ) (lo : a < length t) where
  -- the match instruction that is read, before the rest
  passes_before : (i : Instruction) (p : ℕ) (m : Matching) → opcode i ≤ 7 → program_at t a (length t) ≡ before i (program_at t p (length t))
      → passes_at t a m ≡ and_then_holds (match_step i m) (passes_at t p)
  passes_before i p m h r = rw r (go (program_at t p (length t)) (match_step i m) refl)
    where
      go : (o : Option Program) (b : Option Matching) → match_step i m ≡ b → and_then_holds (before i o) (λ c. parts c m) ≡ and_then_holds b (λ k. and_then_holds o (λ c. parts c k))
      go none none q = refl
      go none (some k) q = refl
      go (some c) b q = rw (lt-ltb (opcode i) 8 (omega arith), q) (same b)
        where
          same : (b : Option Matching) → and_then_holds b (parts c) ≡ and_then_holds b (λ k. parts c k)
          same none = refl
          same (some k) = refl

  passes_unread : (m : Matching) → get_or t a 0 ≤ 7 → read_at t a (length t) ≡ none → passes_at t a m ≡ false
  passes_unread m w r = rw (program_plain t a (length t) lo (omega arith) (λ q. omega arith), r)

  passes_read : (i : Instruction) (n : ℕ) (m : Matching) → get_or t a 0 ≤ 7 → read_at t a (length t) ≡ some (whole i n)
      → passes_at t a m ≡ and_then_holds (match_step i m) (passes_at t (a + 1 + n))
  passes_read i n m w r =
      let o = read_opcode t a (length t) i n r in
      passes_before i (a + 1 + n) m (omega arith) (program_plain t a (length t) lo (omega arith) (λ q. omega arith) ∙ rw r)

  -- no current term
  pub passes_bare : (es : List Slot) (g : List ℕ) → get_or t a 0 ≤ 7 → passes_at t a (matching [] es g) ≡ false
  passes_bare es g w = go (read_at t a (length t)) refl
    where
      go : (o : Option Read) → read_at t a (length t) ≡ o → passes_at t a (matching [] es g) ≡ false
      go none r = passes_unread (matching [] es g) w r
      go (some (whole i n)) r = passes_read i n (matching [] es g) w r

  -- the list of a CHECK that is read here
  list_here : (i : Instruction) (n : ℕ) → read_at t a (length t) ≡ some (whole i n) → list_put i ≡ list_behind t a
  unfolding list_behind
  list_here i n r =
      case (λ q. list_put i ≡ cond q (take (get_or t (a + 1) 0) (drop (a + 2) t)) []) (eqb (get_or t a 0) 3)
      (λ y.
      let o = eqb-true (get_or t a 0) 3 (on _ y) in
      let k : a + 1 + 1 ≤ length t = rw o at (read_within t a (length t) i n lo r).0 in
      there (leb (1 + get_or t (a + 1) 0) (length t - (a + 1))) (sym (read_check t a (length t) o refl k) ∙ r))
      (λ y.
      let o = read_opcode t a (length t) i n r in
      no_list i (λ q. eqb-false (get_or t a 0) 3 (off _ y) (sym o ∙ q)))
    where
      there : (q : Bool) → need q (some (whole (CHECK (take (get_or t (a + 1) 0) (drop (a + 2) t))) (1 + get_or t (a + 1) 0))) ≡ some (whole i n)
          → list_put i ≡ take (get_or t (a + 1) 0) (drop (a + 2) t)
      there true q = let z : CHECK (take (get_or t (a + 1) 0) (drop (a + 2) t)) ≡ i = cc in rw (sym z)
      there false q = never (cc)

  -- it lies within the code, and its indices are below 64
  pub turn_listing : (d below : ℕ) (es : List Slot) (p n b : ℕ) → d ≤ 63 → turned p n b ≡ turn_at t a d below es → Listing t a
  unfolding turn_at list_behind
  turn_listing d below es p n b l h o = go (read_at t a (length t)) refl (sym h)
    where
      go : (u : Option Read) → read_at t a (length t) ≡ u → turn_by u a d below es ≡ turned p n b
          → (a + 2 + get_or t (a + 1) 0 ≤ length t) × (all_below 64 (take (get_or t (a + 1) 0) (drop (a + 2) t)) ≡ true)
      go none r q = never (cc)
      go (some (whole i m)) r q =
          case (λ x. turn_if x (a + 1 + m) (terms_put i) (depth_put i d) ≡ turned p n b
          → (a + 2 + get_or t (a + 1) 0 ≤ length t) × (all_below 64 (take (get_or t (a + 1) 0) (drop (a + 2) t)) ≡ true)) (allowed i d below es)
          (λ y s.
          let k : a + 1 + 1 ≤ length t = rw o at (read_within t a (length t) i m lo r).0 in
          let w = room (leb (1 + get_or t (a + 1) 0) (length t - (a + 1))) refl (sym (read_check t a (length t) o refl k) ∙ r) in
          let e : list_put i ≡ take (get_or t (a + 1) 0) (drop (a + 2) t) = rw (eq-eqb (get_or t a 0) 3 o) at (list_here i m r) in
          (omega arith, rw (sym e) (listed_small i d below es l (on _ y))))
          (λ y s. never (cc)) q
        where
          room : (c : Bool) → leb (1 + get_or t (a + 1) 0) (length t - (a + 1)) ≡ c
              → need c (some (whole (CHECK (take (get_or t (a + 1) 0) (drop (a + 2) t))) (1 + get_or t (a + 1) 0))) ≡ some (whole i m) → 1 + get_or t (a + 1) 0 ≤ length t - (a + 1)
          room true c q = leb-true (1 + get_or t (a + 1) 0) (length t - (a + 1)) c
          room false c q = never (cc)

  -- the state after a turn
  pub passes_turn : (d : ℕ) (ds : List ℕ) (es : List Slot) (g : List ℕ) → get_or t a 0 ≤ 7
      → passes_at t a (matching (d ∷ ds) es g)
      ≡ turned_on (turn_at t a d (length ds) es) (λ p n b. passes_at t p (matching (times n b ds) (entries_put (get_or t a 0) d g es) (list_behind t a)))
  passes_turn d ds es g w = go (read_at t a (length t)) refl
    where
      on_if : (q : Bool) (p n b : ℕ) (m : Matching) (f : ℕ → ℕ → ℕ → Bool) → f p n b ≡ passes_at t p m → and_then_holds (cond q (some m) none) (passes_at t p) ≡ turned_on (turn_if q p n b) f
      on_if true p n b m f e = sym e
      on_if false p n b m f e = refl

      go : (o : Option Read) → read_at t a (length t) ≡ o → passes_at t a (matching (d ∷ ds) es g)
          ≡ turned_on (turn_at t a d (length ds) es) (λ p n b. passes_at t p (matching (times n b ds) (entries_put (get_or t a 0) d g es) (list_behind t a)))
      go none r = passes_unread (matching (d ∷ ds) es g) w r ∙ rw (turn_none t a d es (length ds) r)
      go (some (whole i n)) r =
          let o = read_opcode t a (length t) i n r in
          passes_read i n (matching (d ∷ ds) es g) w r
          ∙ rw (match_by i d ds es g (omega arith), turn_read t a d es (length ds) i n r, o, list_here i n r)
          (on_if (allowed i d (length ds) es) (a + 1 + n) (terms_put i) (depth_put i d)
          (matching (times (terms_put i) (depth_put i d) ds) (entries_put (get_or t a 0) d g es) (list_behind t a))
          (λ p n b. passes_at t p (matching (times n b ds) (entries_put (get_or t a 0) d g es) (list_behind t a))) refl)

  -- ---- the build part

  passes_build : (m : Matching) → 7 < get_or t a 0 → passes_at t a m ≡ and_then_holds (program_at t a (length t)) (builds m)
  passes_build m w = go (program_at t a (length t)) (λ c r. program_first t a (length t) c lo (omega arith) r)
    where
      go : (o : Option Program) → ((c : Program) → o ≡ some c → First c (get_or t a 0)) → and_then_holds o (λ c. parts c m) ≡ and_then_holds o (builds m)
      go none f = refl
      go (some End) f = absurd (f End refl)
      go (some (i ▸ c)) f = let o = f (i ▸ c) refl in rw (le-ltb (opcode i) 8 (omega arith))

  pub builds_left : (d : ℕ) (ds : List ℕ) (es : List Slot) (g : List ℕ) → 7 < get_or t a 0 → passes_at t a (matching (d ∷ ds) es g) ≡ false
  builds_left d ds es g w = passes_build (matching (d ∷ ds) es g) w ∙ go (program_at t a (length t))
    where
      go : (o : Option Program) → and_then_holds o (builds (matching (d ∷ ds) es g)) ≡ false
      go none = refl
      go (some c) = refl

  pub builds_here : (es : List Slot) (g : List ℕ) → 7 < get_or t a 0 → passes_at t a (matching [] es g) ≡ makes_one t (length t) es false 0 0 a (0 ∷ [])
  builds_here es g w = passes_build (matching [] es g) w ∙ go (program_at t a (length t))
    where
      go : (o : Option Program) → and_then_holds o (builds (matching [] es g)) ≡ one_term (and_then o (λ c. build es false 0 0 c (0 ∷ [])))
      go none = refl
      go (some c) = refl

-- the build part asks the same of guards that are told by their sets
pub builds_told : (t : List ℕ) (a : ℕ) (ds : List ℕ) (es : List Slot) (g : List ℕ) → a < length t → 7 < get_or t a 0
    → passes_at t a (matching ds (all_told es) g) ≡ passes_at t a (matching ds es g)
builds_told t a [] es g lo w = builds_here t a lo (all_told es) g w ∙ go (program_at t a (length t)) ∙ sym (builds_here t a lo es g w)
  where
    go : (o : Option Program) → one_term (and_then o (λ c. build (all_told es) false 0 0 c (0 ∷ []))) ≡ one_term (and_then o (λ c. build es false 0 0 c (0 ∷ [])))
    go none = refl
    go (some c) = ap one_term (build_told c es false 0 0 (0 ∷ []))
builds_told t a (d ∷ ds) es g lo w = builds_left t a lo d ds (all_told es) g w ∙ sym (builds_left t a lo d ds es g w)

-- the words are used up
pub passes_ended : (t : List ℕ) (a : ℕ) (m : Matching) → a ≡ length t → passes_at t a m ≡ false
passes_ended t a m e = rw (e, program_done t (length t))

-- ---- the loop: what the arrays hold at place a

-- refused with one refusal
turn_refusal : (t : List ℕ) (a d below : ℕ) (es : List Slot) (v : Refusal) → turn_at t a d below es ≡ Err v → v ≡ DoesNotPass
unfolding turn_at
turn_refusal t a d below es v = go (read_at t a (length t))
  where
    tested : (q : Bool) (p n k : ℕ) → turn_if q p n k ≡ Err v → v ≡ DoesNotPass
    tested true p n k e = never (cc)
    tested false p n k e = cc

    go : (o : Option Read) → turn_by o a d below es ≡ Err v → v ≡ DoesNotPass
    go none e = cc
    go (some (whole i m)) e = tested (allowed i d below es) (a + 1 + m) (terms_put i) (depth_put i d) e

-- es and g are the entries and the list of 01's state; the arrays hold them, each guard as its set.
pub record Matched (t current : List ℕ) (terms : ℕ) (n : Entries) (guard a : ℕ) : Type 0 where
  pub es : List Slot
  pub g : List ℕ
  pub same : passes_at t 0 (matching (0 ∷ []) [] []) ≡ passes_at t a (matching (stacked terms current) es g)
  pub held : entries_of n ≡ all_told es
  pub guarded : guard ≡ gathered 0 g
  pub many : terms ≤ 256
  pub whole_current : length current ≡ 256
  pub low : Low current
  pub within : a ≤ length t

pub matched_from : (t : List ℕ) (n : Entries) → entries_of n ≡ [] → Matched t (replicate 256 0) 1 n 0 0
unfolding stacked gathered
matched_from t n e = record {
  es = [];
  g = [];
  same = refl;
  held = e;
  guarded = refl;
  many = omega arith;
  whole_current = refl;
  low = low_replicate 256 (omega arith);
  within = omega arith;
}

module _ {t current : List ℕ} {terms : ℕ} {n : Entries} {guard a : ℕ} (m : Matched t current terms n guard a) where
  pub matched_ended : length t ≤ a → Err DoesNotPass ≡ verdict (passes_at t 0 (matching (0 ∷ []) [] []))
  matched_ended h =
      let w = m.within in
      rw (m.same ∙ passes_ended t a (matching (stacked terms current) m.es m.g) (omega arith))

  module _ (lo : a < length t) where
    pub matched_builds : {r : Result (Unit {0}) Refusal} → 7 < get_or t a 0 → BuildsAt t a terms (entries_of n) r → r ≡ verdict (passes_at t 0 (matching (0 ∷ []) [] []))
    matched_builds w b =
        b.means (stacked terms current) m.g (stacked_length terms current)
        ∙ ap verdict (ap (λ (l : List Slot). passes_at t a (matching (stacked terms current) l m.g)) m.held
        ∙ builds_told t a (stacked terms current) m.es m.g lo w ∙ sym m.same)

    module _ (w : get_or t a 0 ≤ 7) where
      pub matched_bare : terms ≡ 0 → Err DoesNotPass ≡ verdict (passes_at t 0 (matching (0 ∷ []) [] []))
      unfolding stacked
      matched_bare z = rw (m.same ∙ ap (λ (k : ℕ). passes_at t a (matching (stacked k current) m.es m.g)) z ∙ passes_bare t a lo m.es m.g w)

      -- a turn, with the top at depth d
      module _ {d : ℕ} (z : terms ≡ 0 → ⊥) (top : d ≡ get_or current (terms - 1) 0) where
        k : 0 < terms
        k = omega (arith, z)

        turned_to : passes_at t 0 (matching (0 ∷ []) [] [])
            ≡ turned_on (turn_at t a d (terms - 1) m.es) (λ p c b.
            passes_at t p (matching (times c b (stacked (terms - 1) current)) (entries_put (get_or t a 0) d m.g m.es) (list_behind t a)))
        turned_to =
            m.same
            ∙ ap (λ (l : List ℕ). passes_at t a (matching l m.es m.g)) (stacked_top terms current k ∙ ap (λ (x : ℕ). x ∷ stacked (terms - 1) current) (sym top))
            ∙ passes_turn t a lo d (stacked (terms - 1) current) m.es m.g w
            ∙ rw (stacked_length (terms - 1) current)

        pub top_low : d ≤ 63
        top_low = rw top (m.low.low (terms - 1))

        -- what the function gave is what 01's state asks for
        real : {r : Result Turned Refusal} → r ≡ turn_at t a d (terms - 1) (entries_of n) → r ≡ turn_at t a d (terms - 1) m.es
        real q = q ∙ ap (turn_at t a d (terms - 1)) m.held ∙ turn_told t a d (terms - 1) m.es

        pub matched_refused : {r : Result Turned Refusal} (v : Refusal) → r ≡ turn_at t a d (terms - 1) (entries_of n) → r ≡ Err v → Err v ≡ verdict (passes_at t 0 (matching (0 ∷ []) [] []))
        matched_refused v q e = rw (turn_refusal t a d (terms - 1) (entries_of n) v (sym q ∙ e)) (rw (turned_to, sym (real q), e))

        module _ {r : Result Turned Refusal} {p c b : ℕ} (q : r ≡ turn_at t a d (terms - 1) (entries_of n)) (e : r ≡ turned p c b) where
          pub ranged : Ranged t a (terms - 1) m.es p c b
          ranged = let u = m.many in turn_range d lo w (omega arith) top_low (sym e ∙ real q)

          pub listing : Listing t a
          listing = turn_listing t a lo d (terms - 1) m.es p c b top_low (sym e ∙ real q)

          fits : terms - 1 + c ≤ length current
          fits = let u = ranged.current in let v = m.whole_current in omega arith

          pub room : get_or t a 0 ≡ 4 → n.stored.count < 16
          room o =
              let u = ranged.entries o in
              let v = entries_length n in
              let x : length (entries_of n) ≡ length m.es = ap (λ (l : List Slot). length l) m.held ∙ length_told m.es in
              omega arith

          module _ {new : List ℕ} (put : new ≡ replaced current (terms - 1) c b) where
            after : passes_at t 0 (matching (0 ∷ []) [] [])
                ≡ passes_at t p (matching (stacked (terms - 1 + c) new) (entries_put (get_or t a 0) d m.g m.es) (list_behind t a))
            after = turned_to ∙ rw (sym (real q), e, put, stacked_replaced current (terms - 1) c b fits)

            new_length : length new ≡ 256
            new_length = rw put (length_replaced current (terms - 1) c b fits ∙ m.whole_current)

            new_low : Low new
            new_low = rw put (low_replaced (terms - 1) c m.low ranged.depth)

            -- an instruction but SET
            pub matched_next : (u : ℕ) → (get_or t a 0 ≡ 4 → ⊥) → u ≡ gathered 0 (list_behind t a) → Matched t new (terms - 1 + c) n u p
            matched_next u o v = record {
              es = m.es;
              g = list_behind t a;
              same = after ∙ rw (ne_eqb (get_or t a 0) 4 o);
              held = m.held;
              guarded = v;
              many = ranged.current;
              whole_current = new_length;
              low = new_low;
              within = ranged.within;
            }

            -- SET
            module _ (o : get_or t a 0 ≡ 4) where
              pub matched_set : {new_entries : Entries} → entries_of new_entries ≡ slot d (members guard) ∷ entries_of n → Matched t new (terms - 1 + c) new_entries 0 p
              unfolding list_behind gathered
              matched_set x = record {
                es = slot d m.g ∷ m.es;
                g = [];
                same = after ∙ rw o;
                held = x ∙ rw (m.held, m.guarded);
                guarded = refl;
                many = ranged.current;
                whole_current = new_length;
                low = new_low;
                within = ranged.within;
              }

-- ---- the build part, whatever is still current

module _ {t : List ℕ} {a terms : ℕ} {es : List Slot} (lo : a < length t) (w : 7 < get_or t a 0) where
  pub builds_many : (terms ≡ 0 → ⊥) → BuildsAt t a terms es (Err DoesNotPass)
  builds_many z = record { means = go }
    where
      go : (ds g : List ℕ) → length ds ≡ terms → Err DoesNotPass ≡ verdict (passes_at t a (matching ds es g))
      go [] g e = absurd (z (sym e))
      go (d ∷ ds) g e = rw (builds_left t a lo d ds es g w)

  module _ (z : terms ≡ 0) {r : Result Ended Refusal} (s : Ends t a (length t) es 0 0 false r) where
    builds_by : (q : Bool) → onward r (makes_one t (length t) es false 0 0) [] ≡ q → BuildsAt t a terms es (verdict q)
    builds_by q p = record { means = go }
      where
        go : (ds g : List ℕ) → length ds ≡ terms → verdict q ≡ verdict (passes_at t a (matching ds es g))
        go [] g e = sym (ap verdict (builds_here t a lo es g w ∙ s.means 0 0 [] refl refl ∙ p))
        go (d ∷ ds) g e = absurd (omega arith)

    pub builds_not : (r ≡ Ok ended.Done → ⊥) → BuildsAt t a terms es (Err DoesNotPass)
    builds_not n = builds_by false (not_done_lem r n (makes_one t (length t) es false 0 0))

    pub builds_done : r ≡ Ok ended.Done → BuildsAt t a terms es (Ok tt)
    builds_done e = builds_by true (rw e)

-- ---- the whole

pub passes_long : (t : List ℕ) → 4096 < length t → Err DoesNotPass ≡ verdict (passes t)
passes_long t h = rw (lt-leb (length t) 4096 h, and-false (leb 1 (length t)))

pub passes_is : (t : List ℕ) {r : Result (Unit {0}) Refusal} → length t ≤ 4096 → r ≡ verdict (passes_at t 0 (matching (0 ∷ []) [] [])) → r ≡ verdict (passes t)
passes_is [] h e = e ∙ ap verdict (passes_ended [] 0 (matching (0 ∷ []) [] []) refl)
passes_is (x ∷ t) h e =
    let z : length (x ∷ t) - 0 ≡ length (x ∷ t) = omega arith in
    e ∙ rw (le-leb 1 (length (x ∷ t)) (omega arith), le-leb (length (x ∷ t)) 4096 h, z)

-- ---- 01's number

pub number_passes : (t : List ℕ) {r : Result (Unit {0}) Refusal} → r ≡ verdict (passes t) → r ≡ Ok tt → 0 ≡ check_call t
unfolding check_call
number_passes t {r} e p = go (passes t) (sym p ∙ e)
  where
    go : (q : Bool) → Ok tt ≡ verdict q → ◌≡◌ {A = ℕ} 0 (cond q 0 11)
    go true e = refl
    go false e = never (cc)

pub number_refused : (t : List ℕ) {r : Result (Unit {0}) Refusal} (w : Refusal) → r ≡ verdict (passes t) → r ≡ Err w → number_of w ≡ check_call t
unfolding check_call
number_refused t {r} w e p = go (passes t) (sym p ∙ e)
  where
    go : (q : Bool) → Err w ≡ verdict q → number_of w ≡ cond q 0 11
    go true e = never (cc)
    go false e = let z : w ≡ DoesNotPass = cc in rw z

-- what a caller knows of code that does not pass
pub not_passed : {w : Refusal} (q : Bool) → Err w ≡ verdict q → q ≡ false
not_passed true e = never (cc)
not_passed false e = refl

-- what a caller knows of code that passes
pub verdict_passes : (code : List ℕ) {r : Result (Unit {0}) Refusal} → r ≡ verdict (passes code) → r ≡ Ok tt → passes code ≡ true
verdict_passes code e f = go (passes code) (sym f ∙ e)
  where
    go : (q : Bool) → Ok tt ≡ verdict q → q ≡ true
    go true e = refl
    go false e = never (cc)

-- the refusal is 11
pub verdict_why : (code : List ℕ) {r : Result (Unit {0}) Refusal} {w : Refusal} → r ≡ verdict (passes code) → r ≡ Err w → w ≡ DoesNotPass
verdict_why code {r} {w} e f = go (passes code) (sym f ∙ e)
  where
    go : (q : Bool) → Err w ≡ verdict q → w ≡ DoesNotPass
    go true e = never (cc)
    go false e = cc
