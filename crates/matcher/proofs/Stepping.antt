-- One match instruction: for each opcode, and each way through the code, the state that the machine goes on to, or that it fails.
use mathlib.Core.Path.{◌≡◌, refl, sym, ap, ◌∙◌}
use Prim.Native.Nat.{ℕ, zero, suc, ◌+◌, ◌-◌, ◌*◌, ◌≤◌, ◌<◌}
use native.Mathlib.Omega.{arith}
use mathlib.Core.Bool.{Bool, true, false}
use mathlib.Core.Option.{some}
use mathlib.Core.List.{List, [], ◌∷◌}
use lib.Dec.{T, leb}
use lib.ListN.{length, get_or, take, drop}
use borrow.Author.Tests.{ne_eqb, lt-ltb}
use Rattle.documents.specs.declared.Refusal.TheVariants.{MatchFails}
use Rattle.documents.specs.Lists.{need}
use Rattle.documents.specs.Terms.{Nil, Cons, Term, Terms, len}
use Rattle.documents.specs.Tables.{nodes}
use Rattle.documents.specs.Instructions.{IS, ISABST, NEXT, CHECK, SET, EQVAR, EQIMM, EQI, ◌▸◌, Instruction, Program, whole, opcode, fixed_after, pairs_in}
use Rattle.documents.specs.Machine.{Current, current, State, state, done, fails, test, currents, exec}
use Rattle.documents.specs.Passing.{Slot, Matching, matching, times, match_step, parts}
use Rattle.documents.proofs.Lists.{T_of}
use Rattle.documents.proofs.Nodes.{numbered_step}
use Rattle.tables.specs.Parts.{front, terms, Begins, word_count}
use Rattle.tables.proofs.Parts.{join, only, Step, passed, begins_less}
use Rattle.tables.proofs.Walks.{Walking}
use Rattle.instructions.specs.Places.{program_at, read_at}
use Rattle.instructions.proofs.Reading.{read_opcode, read_is, read_isabst, read_next, read_check, read_set, read_eqvar, read_eqimm, read_eqi}
use Rattle.instructions.proofs.Starts.{fixed_at, starts_plain, read_if}
use Rattle.safety.proofs.Matching.{matches_as_checked}
use Rattle.matcher.specs.Midway.{Any, in_line, entered, Stands, Midway, state_of, entries_after, made_after, Moves, Fails}
use Rattle.matcher.proofs.Places.{match_checked, not_ended, TopOf, top_of, depth_low, goes_agrees, in_line_join}

-- ---- over an open state

pub in_line_top : (ds : List ℕ) (d : ℕ) (below : List ℕ) (k : ℕ) (ts : Terms) (t : Term) (us : Terms) → ds ≡ d ∷ below → ts ≡ Cons t us
    → in_line ds k ts ≡ current d k t ∷ in_line below (k + nodes t) us
in_line_top ds d below k ts t us e f = rw (e, f)

pub inside_line : (d k : ℕ) (below : List ℕ) (args later all : Terms) (x n : ℕ) → x ≡ k + 1 + nodes args → all ≡ join args later → len args ≡ n
    → currents d (k + 1) args (in_line below x later) ≡ in_line (times n d below) (k + 1) all
inside_line d k below args later all x n e f g = rw (e, f, ← g) (in_line_join args later d (k + 1) below)

pub tested : (i : Instruction) (σ σ' : State) (q : Bool) → σ ≡ σ' → exec i σ' ≡ test q σ' → q ≡ true → exec i σ ≡ done σ
tested i σ σ' q e f g = ap (exec i) e ∙ f ∙ rw (g, e)

pub tested_not : (i : Instruction) (σ σ' : State) (q : Bool) → σ ≡ σ' → exec i σ' ≡ test q σ' → q ≡ false → exec i σ ≡ fails
tested_not i σ σ' q e f g = ap (exec i) e ∙ f ∙ rw g

pub abstraction_count : {k s c : ℕ} {ts us : Terms} (p : Step k s c ts us) → k ≡ 3 → (c ≡ 1) × (p.arguments ≡ Cons (only p.arguments) Nil)
abstraction_count {k = zero} p e = absurd (omega arith)
abstraction_count {k = suc zero} p e = absurd (omega arith)
abstraction_count {k = suc (suc zero)} p e = absurd (omega arith)
abstraction_count {k = suc (suc (suc zero))} p e = (sym p.count ∙ ap len p.shape.1, p.shape.1)
abstraction_count {k = suc (suc (suc (suc k)))} p e = absurd p.shape

-- both tables have the words that an instruction of n words behind its opcode looks at
pub record Bounds (code part : List ℕ) (at top owed n : ℕ) : Type 0 where
  pub room : top + 2 ≤ length part
  pub words : at + 1 + n ≤ length code
  pub positive : 0 < owed
  pub many : owed ≤ 256

module _ {code part entries : List ℕ} {at top owed made : ℕ} (m : Midway code part entries at top owed made) where
  -- ---- the instruction that is read

  -- one of n words behind the opcode, before the rest
  pub record Reads (i : Instruction) (n : ℕ) : Type 0 where
    pub c : Program
    pub begins : m.rest ≡ i ▸ c
    pub next : program_at code (at + 1 + n) (length code) ≡ some c
    pub within : at + 1 + n ≤ length code
    pub match : opcode i ≤ 7
    pub after : Matching
    pub goes : match_step i (matching m.ds m.es m.g) ≡ some after
    pub checked : T (parts c after)

  module _ (w : get_or code at 0 ≤ 7) where
    reads : (i : Instruction) (n : ℕ) → read_at code at (length code) ≡ some (whole i n) → Reads i n
    reads i n r =
        let s = starts_plain code m.here m.inside (omega arith) i n (at + 1 + n) (λ q. omega arith) r refl in
        let o = read_opcode code at (length code) i n r in
        let k : opcode i ≤ 7 = omega arith in
        let a = match_checked m.rest i s.rest (matching m.ds m.es m.g) s.is k m.checked in
        record { c = s.rest; begins = s.is; next = s.behind; within = s.within; match = k; after = a.0; goes = a.1; checked = a.2 }

    -- a list or pairs of which the code has all words
    reads_if : (i : Instruction) (n : ℕ) (q : Bool) → read_at code at (length code) ≡ need q (some (whole i n)) → Reads i n
    reads_if i n q r = reads i n (read_if code m.here m.inside (omega arith) q (λ q. omega arith) r)

  there : (w : ℕ) → get_or code at 0 ≡ w → at + 1 + fixed_after w ≤ length code
  there w o = fixed_at code m.here m.inside (omega arith) w o

  pub reads_is : get_or code at 0 ≡ 0 → Reads (IS (get_or code (at + 1) 0) (get_or code (at + 2) 0)) 2
  reads_is o = reads (omega arith) _ 2 (read_is code at (length code) o refl (there 0 o))

  pub reads_isabst : get_or code at 0 ≡ 1 → Reads ISABST 0
  reads_isabst o = reads (omega arith) _ 0 (read_isabst code at (length code) o refl (there 1 o))

  pub reads_next : get_or code at 0 ≡ 2 → Reads NEXT 0
  reads_next o = reads (omega arith) _ 0 (read_next code at (length code) o refl (there 2 o))

  pub reads_check : get_or code at 0 ≡ 3 → Reads (CHECK (take (get_or code (at + 1) 0) (drop (at + 2) code))) (1 + get_or code (at + 1) 0)
  reads_check o = reads_if (omega arith) _ _ (leb (1 + get_or code (at + 1) 0) (length code - (at + 1))) (read_check code at (length code) o refl (there 3 o))

  pub reads_set : get_or code at 0 ≡ 4 → Reads SET 0
  reads_set o = reads (omega arith) _ 0 (read_set code at (length code) o refl (there 4 o))

  pub reads_eqvar : get_or code at 0 ≡ 5 → Reads (EQVAR (get_or code (at + 1) 0)) 1
  reads_eqvar o = reads (omega arith) _ 1 (read_eqvar code at (length code) o refl (there 5 o))

  pub reads_eqimm : get_or code at 0 ≡ 6 → Reads (EQIMM (get_or code (at + 1) 0)) 1
  reads_eqimm o = reads (omega arith) _ 1 (read_eqimm code at (length code) o refl (there 6 o))

  pub reads_eqi : get_or code at 0 ≡ 7
      → Reads (EQI (get_or code (at + 1) 0) (get_or code (at + 2) 0) (pairs_in (take (2 * get_or code (at + 3) 0) (drop (at + 4) code)))) (3 + 2 * get_or code (at + 3) 0)
  reads_eqi o = reads_if (omega arith) _ _ (leb (3 + 2 * get_or code (at + 3) 0) (length code - (at + 1))) (read_eqi code at (length code) o refl (there 7 o))

  -- ---- with a current term

  module _ {i : Instruction} {n : ℕ} (r : Reads i n) where
    pub top_is : TopOf i m.ds m.es m.g r.after
    top_is = top_of i m.ds m.es m.g r.after r.goes

    pub positive : 0 < owed
    positive = let h = ap (λ (l : List ℕ). length l) top_is.are in let k = m.depths in omega arith

    pub begins_one : Begins 1 (drop top part)
    begins_one = begins_less 1 positive m.walking.walk.begins

    pub top_room : top + 2 ≤ length part
    top_room = let h = positive in let k = m.walking.walk.within in omega arith

    pub low : top_is.d ≤ 63
    low = depth_low m.ds top_is.d top_is.below m.node (terms owed (drop top part)) m.es m.g _ top_is.are there m.agrees
      where
        there : 0 < len (terms owed (drop top part))
        there = rw (passed owed (drop top part) m.walking.walk.begins positive).terms_are (omega arith)

    -- the words that the code looks at
    pub bounds : Bounds code part at top owed n
    bounds = record { room = top_room; words = r.within; positive = positive; many = m.many }

    -- the terms behind the top
    abbrev pub behind : Terms
    behind = terms (owed - 1) (drop (word_count (front (drop top part))) (drop top part))

    -- .. as current terms
    abbrev pub others : List Current
    others = in_line top_is.below (m.node + nodes (front (drop top part))) behind

    -- the state with the top in it
    abbrev pub shown : State
    shown = state (current top_is.d m.node (front (drop top part)) ∷ others) (entered part entries m.es) [] 0 []

    pub line_is : in_line m.ds m.node (terms owed (drop top part))
        ≡ current top_is.d m.node (front (drop top part)) ∷ others
    line_is =
        in_line_top m.ds top_is.d top_is.below m.node _ _ _ top_is.are (passed owed (drop top part) m.walking.walk.begins positive).terms_are

    pub state_is : state_of m ≡ shown
    state_is = ap (λ (cs : List Current). state cs (entered part entries m.es) [] 0 []) line_is

    pub fails_by : exec i shown ≡ fails → Fails m MatchFails
    fails_by e = record { i = i; c = r.c; begins = r.begins; goes = ap (exec i) state_is ∙ e; why = refl }

    -- on to the check's next state
    pub moves : (ds : List ℕ) (es : List Slot) (g : List ℕ) (entries' : List ℕ) (k made' p top' current' : ℕ)
        → r.after ≡ matching ds es g → at + 1 + n ≡ p → Walking part current' top' → top' ≡ 2 * k → length ds ≡ current' → current' ≤ 256
        → length entries' ≡ 16 → length es ≡ made' → made' ≤ 16 → ((j : ℕ) → j < made' → Stands part (get_or entries' j 0))
        → exec i (state_of m) ≡ done (state (in_line ds k (terms current' (drop top' part))) (entered part entries' es) [] 0 [])
        → Moves m entries' made' p top' current'
    moves ds es g entries' k made' p top' current' a f w l h b x y z s e =
        let v = r.within in
        let o = r.match in
        let t : T (parts r.c (matching ds es g)) = rw a at r.checked in
        let q : program_at code p (length code) ≡ some r.c = rw (sym f) r.next in
        let u = matches_as_checked Any [] 0 [] i (matching m.ds m.es m.g) r.after _ _ r.goes m.agrees in
        record {
          i = i;
          next = record {
            rest = r.c;
            ds = ds;
            es = es;
            g = g;
            inside = not_ended code p r.c (matching ds es g) (omega arith) q t;
            here = q;
            checked = t;
            accepted = m.accepted;
            walking = w;
            node = k;
            place_is = l;
            depths = h;
            many = b;
            room = x;
            count = y;
            few = z;
            stands = s;
            numbered = numbered_step (front part) i (state_of m) (state (in_line ds k (terms current' (drop top' part))) (entered part entries' es) [] 0 []) (T_of _ (lt-ltb (opcode i) 8 (omega arith))) e m.numbered;
            agrees = rw a at (goes_agrees _ _ u e);
          };
          begins = r.begins;
          goes = e;
          later = omega arith;
        }

    -- a test leaves the state as it is
    module _ (g : List ℕ) (p : ℕ) (a : r.after ≡ matching (top_is.d ∷ top_is.below) m.es g) (f : at + 1 + n ≡ p) (o : get_or code at 0 ≡ 4 → ⊥)
        (q : Bool) (e : exec i shown ≡ test q shown) where
      pub test_moves : q ≡ true → Moves m (entries_after (get_or code at 0) entries made top) (made_after (get_or code at 0) made) p top owed
      test_moves t =
          rw (ne_eqb (get_or code at 0) 4 o)
          (moves m.ds m.es g entries m.node made p top owed (a ∙ ap (λ (l : List ℕ). matching l m.es g) (sym top_is.are)) f m.walking m.place_is m.depths m.many
          m.room m.count m.few m.stands (tested i (state_of m) shown q state_is e t))

      pub test_fails : q ≡ false → Fails m MatchFails
      test_fails t = record { i = i; c = r.c; begins = r.begins; goes = tested_not i (state_of m) shown q state_is e t; why = refl }
