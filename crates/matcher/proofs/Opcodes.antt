-- The eight match opcodes, one after the other.
use mathlib.Core.Path.{◌≡◌, refl, sym, ap, ap₂, ◌∙◌}
use Prim.Native.Nat.{ℕ, suc, ◌+◌, ◌-◌, ◌*◌, ◌≤◌, ◌<◌}
use native.Mathlib.Omega.{arith}
use native.Mathlib.Decide.{ℕ_discrete}
use mathlib.Core.Bool.{Bool, true, false, cond}
use mathlib.Core.Option.{Option, none, some}
use mathlib.Core.List.{List, [], ◌∷◌}
use lib.Dec.{eqb, leb, ltb}
use lib.ListN.{length, get_or, get_elem?, take, drop, set, length-set}
use lib.Seq.{drop-drop, get_or-drop, get_or-set_same, get_or-set_other}
use borrow.Author.Tests.{eq-eqb, ne_eqb, lt-ltb, leb-true, ltb-true, ltb-false}
use Rattle.documents.specs.declared.Refusal.TheVariants.{MatchFails}
use Rattle.documents.specs.Limits.{argument_limit, index_limit, d_shift}
use Rattle.documents.specs.Lists.{every, need}
use Rattle.documents.specs.Terms.{Abst, Nil, Cons, Term, Terms, rename}
use Rattle.documents.specs.Tables.{nodes, subterm}
use Rattle.documents.specs.Rules.{freevars}
use Rattle.documents.specs.Instructions.{IS, ISABST, NEXT, CHECK, SET, EQVAR, EQIMM, EQI, pairs_in}
use Rattle.documents.specs.Machine.{Current, current, Entry, entry, State, state, Outcome, done, fails, no_step, test, arguments_of, body_of, is_var, equal, placed, firsts, renaming, currents, exec}
use Rattle.documents.specs.Passing.{current_limit, open_limit, entry_limit, check_limit, pair_limit, Slot, slot, with_slot, covers, seconds, all_below, Matching, matching, times}
use Rattle.documents.proofs.Lists.{never, case, on, off, T_of, of_and, needed}
use Rattle.documents.proofs.Nodes.{Numbered}
use Rattle.documents.proofs.Numbers.{subject_in_held}
use Rattle.tables.specs.Parts.{front, terms, Begins, word_count}
use Rattle.tables.specs.Forbidden.{clear, Small}
use Rattle.tables.specs.Compared.{agrees}
use Rattle.tables.proofs.Parts.{join, step, passed, in_table, from, from_drop}
use Rattle.tables.proofs.Walks.{Walking, at_abstraction, walking_on, walking_term}
use Rattle.tables.proofs.Sides.{arguments_are}
use Rattle.tables.proofs.Fronts.{argument_count, front_symbol, front_abstraction}
use Rattle.safety.proofs.Matching.{Goes, matches_as_checked}
use Rattle.matcher.specs.Midway.{Any, in_line, entered, Stands, Midway, entries_after, made_after, Moves, Fails}
use Rattle.matcher.proofs.Places.{placed_by, entered_at, entered_more, times_length, arguments_other, arguments_here, body_other, variable_is}
use Rattle.matcher.proofs.Parts.{subterm_begins}
use Rattle.matcher.proofs.Stepping.{inside_line, abstraction_count, Reads, reads_is, reads_isabst, reads_next, reads_check, reads_set, reads_eqvar, reads_eqimm, reads_eqi, top_is, positive, begins_one, top_room, low, behind, others, shown, line_is, state_is, fails_by, moves, test_moves, test_fails}

-- ---- a place at which a subterm stands

pub stands_begins : {part : List ℕ} {x : ℕ} → Begins 1 part → Stands part x → Begins 1 (drop x part)
stands_begins {part} {x} b s = rw s.place_is (subterm_begins s.node (front (drop x part)) b s.here).0

-- ---- the machine, over an open state

module _ (d k : ℕ) (t : Term) (cs : List Current) (env : List Entry) where
  abbrev Open : State
  Open = state (current d k t ∷ cs) env [] 0 []

  is_none : (s n : ℕ) → arguments_of s n t ≡ none → exec (IS s n) Open ≡ fails
  is_none s n e = rw e

  is_some : (s n : ℕ) (ts : Terms) → arguments_of s n t ≡ some ts → exec (IS s n) Open ≡ done (state (currents d (k + 1) ts cs) env [] 0 [])
  is_some s n ts e = rw e

  abst_none : body_of t ≡ none → exec ISABST Open ≡ fails
  abst_none e = rw e

  abst_some : (u : Term) → body_of t ≡ some u → exec ISABST Open ≡ done (state (currents (d + 1) (k + 1) (Cons u Nil) cs) env [] 0 [])
  abst_some u e = rw e

  check_goes : (vs : List ℕ) → exec (CHECK vs) Open ≡ test (clear vs t) Open
  unfolding clear
  check_goes vs = refl

  eqimm_goes : (n b : ℕ) (a : Term) → get_elem? env n ≡ some (entry b a) → exec (EQIMM n) Open ≡ test (equal a t) Open
  eqimm_goes n b a h = rw h

  eqi_goes : {M : Matching} (n D : ℕ) (ps : List (ℕ × ℕ)) (b : ℕ) (a : Term) → Goes Any [] 0 [] M (exec (EQI n D ps) Open) → get_elem? env n ≡ some (entry b a)
      → exec (EQI n D ps) Open ≡ test (equal (rename (renaming ps D) a) t) Open
  eqi_goes n D ps b a g h =
      let x : exec (EQI n D ps) Open ≡ cond (every (placed (firsts ps) b D) (freevars a)) (test (equal (rename (renaming ps D) a) t) Open) no_step = rw h in
      x ∙ placed_by (every (placed (firsts ps) b D) (freevars a)) (equal (rename (renaming ps D) a) t) Open (rw x at g)

goes_as : {M : Matching} {r s : Outcome State} → r ≡ s → Goes Any [] 0 [] M r → Goes Any [] 0 [] M s
goes_as e g = rw e at g

first_numbered : (subject : Term) (cs : List Current) (d k : ℕ) (t : Term) (us : List Current) → cs ≡ current d k t ∷ us → Numbered subject cs → subterm subject k ≡ some t
first_numbered subject cs d k t us e h = (rw e at h).0

later : {t u : Term} {ts us : Terms} → Cons t ts ≡ Cons u us → ts ≡ us
later e = cc

some_is : {M N : Matching} → some M ≡ some N → N ≡ M
some_is e = cc

module _ {code part entries : List ℕ} {at top owed made : ℕ} (m : Midway code part entries at top owed made) where
  word₀ : get_or (drop top part) 0 0 ≡ get_or part top 0
  word₀ = get_or-drop top part 0 0 ∙ ap (λ (i : ℕ). get_or part i 0) (omega arith)

  word₁ : get_or (drop top part) 1 0 ≡ get_or part (top + 1) 0
  word₁ = get_or-drop top part 1 0

  -- a word of the subject has a place below 8,192
  pub top_low : top ≤ 8192
  top_low =
      let n = (subject_in_held _ (front part) m.accepted.accepted).0.small in
      let w = m.walking.ends in
      omega arith

  -- ---- IS

  module _ (o : get_or code at 0 ≡ 0) where
    abbrev is_read : Reads m (IS (get_or code (at + 1) 0) (get_or code (at + 2) 0)) 2
    is_read = reads_is m o

    pub is_name : get_or code (at + 1) 0 ≤ 65535
    is_name = leb-true (get_or code (at + 1) 0) index_limit (needed (leb (get_or code (at + 1) 0) index_limit) _ _ (top_is m is_read).goes).0

    is_rest : need (leb (get_or code (at + 2) 0) argument_limit) (need (leb (length (top_is m is_read).below + get_or code (at + 2) 0) current_limit)
        (some (matching (times (get_or code (at + 2) 0) (top_is m is_read).d (top_is m is_read).below) m.es []))) ≡ some is_read.after
    is_rest = (needed (leb (get_or code (at + 1) 0) index_limit) _ _ (top_is m is_read).goes).1

    pub is_count : get_or code (at + 2) 0 ≤ 8
    is_count = leb-true (get_or code (at + 2) 0) argument_limit (needed (leb (get_or code (at + 2) 0) argument_limit) _ _ is_rest).0

    is_last : (leb (length (top_is m is_read).below + get_or code (at + 2) 0) current_limit ≡ true)
        × (some (matching (times (get_or code (at + 2) 0) (top_is m is_read).d (top_is m is_read).below) m.es []) ≡ some is_read.after)
    is_last =
        needed (leb (length (top_is m is_read).below + get_or code (at + 2) 0) current_limit) _ _ (needed (leb (get_or code (at + 2) 0) argument_limit) _ _ is_rest).1

    pub is_other : (get_or part top 0 ≡ 65536 + get_or code (at + 1) 0 → ⊥) → Fails m MatchFails
    is_other ne = fails_by m is_read (is_none (top_is m is_read).d m.node (front (drop top part)) (others m is_read) (entered part entries m.es) (get_or code (at + 1) 0) (get_or code (at + 2) 0) (arguments_other (begins_one m is_read) (get_or code (at + 1) 0) (get_or code (at + 2) 0) is_name (λ e. ne (sym word₀ ∙ e))))

    module _ (e : get_or part top 0 ≡ 65536 + get_or code (at + 1) 0) where
      pub is_fewer : (get_or part (top + 1) 0 ≡ get_or code (at + 2) 0 → ⊥) → Fails m MatchFails
      is_fewer ne =
          fails_by m is_read (is_none (top_is m is_read).d m.node (front (drop top part)) (others m is_read) (entered part entries m.es) (get_or code (at + 1) 0) (get_or code (at + 2) 0)
          (arguments_here (begins_one m is_read) (get_or code (at + 1) 0) (get_or code (at + 2) 0) is_name (word₀ ∙ e) ∙ rw (ne_eqb (get_or (drop top part) 1 0) (get_or code (at + 2) 0) (λ f. ne (sym word₁ ∙ f)))))

      module _ (f : get_or part (top + 1) 0 ≡ get_or code (at + 2) 0) where
        abbrev args : Terms
        args = terms (get_or (drop top part) 1 0) (drop 2 (drop top part))

        args_are : arguments_of (get_or code (at + 1) 0) (get_or code (at + 2) 0) (front (drop top part)) ≡ some args
        args_are =
            arguments_here (begins_one m is_read) (get_or code (at + 1) 0) (get_or code (at + 2) 0) is_name (word₀ ∙ e) ∙ rw (eq-eqb (get_or (drop top part) 1 0) (get_or code (at + 2) 0) (word₁ ∙ f))

        opened : terms (owed - 1 + get_or code (at + 2) 0) (drop (top + 2) part) ≡ join args (behind m is_read)
        opened =
            let p = step part top owed m.walking.walk.begins (positive m is_read) in
            let q = (passed owed (drop top part) m.walking.walk.begins (positive m is_read)).terms_are in
            let l : p.later ≡ behind m is_read = later (sym p.node ∙ q) in
            let a : args ≡ p.arguments = rw (word₁, drop-drop 2 top part) (arguments_are (owed - 1 + get_or part (top + 1) 0) (drop (top + 2) part) p) in
            ap (λ (n : ℕ). terms (owed - 1 + n) (drop (top + 2) part)) (sym f) ∙ p.inside ∙ ap₂ join (sym a) l

        front_nodes : nodes (front (drop top part)) ≡ suc (nodes args)
        front_nodes =
            let n = is_name in
            let w = word₀ in
            ap (λ (x : Term). nodes x) (front_symbol (begins_one m is_read) (omega arith) (omega arith))

        pub is_moves : Moves m (entries_after (get_or code at 0) entries made top) (made_after (get_or code at 0) made) (at + 3) (top + 2) (owed - 1 + get_or code (at + 2) 0)
        is_moves =
            let t = top_is m is_read in
            let h = ap (λ (l : List ℕ). length l) t.are in
            let v = m.depths in
            let u = times_length (get_or code (at + 2) 0) t.d t.below in
            let z = m.place_is in
            let n = front_nodes in
            let y = leb-true (length t.below + get_or code (at + 2) 0) current_limit is_last.0 in
            rw (ne_eqb (get_or code at 0) 4 (λ q. omega arith))
            (moves m is_read (times (get_or code (at + 2) 0) t.d t.below) m.es [] entries (m.node + 1) made (at + 3) (top + 2) (owed - 1 + get_or code (at + 2) 0)
            (some_is is_last.1) (omega arith) (rw f at (walking_on m.walking (positive m is_read))) (omega arith) (omega arith) (omega arith) m.room m.count m.few m.stands
            (ap (exec (IS (get_or code (at + 1) 0) (get_or code (at + 2) 0))) (state_is m is_read) ∙ is_some (top_is m is_read).d m.node (front (drop top part)) (others m is_read) (entered part entries m.es) (get_or code (at + 1) 0) (get_or code (at + 2) 0) args args_are
            ∙ ap (λ (cs : List Current). done (state cs (entered part entries m.es) [] 0 []))
            (inside_line t.d m.node t.below args (behind m is_read) (terms (owed - 1 + get_or code (at + 2) 0) (drop (top + 2) part)) (m.node + nodes (front (drop top part))) (get_or code (at + 2) 0) (omega arith) opened (argument_count (begins_one m is_read) ∙ word₁ ∙ f))))

  -- ---- ISABST

  module _ (o : get_or code at 0 ≡ 1) where
    abbrev abst_read : Reads m ISABST 0
    abst_read = reads_isabst m o

    abst_asked : (ltb (top_is m abst_read).d open_limit ≡ true) × (some (matching (((top_is m abst_read).d + 1) ∷ (top_is m abst_read).below) m.es []) ≡ some abst_read.after)
    abst_asked = needed (ltb (top_is m abst_read).d open_limit) _ _ (top_is m abst_read).goes

    pub abst_other : (get_or part top 0 ≡ 196608 → ⊥) → Fails m MatchFails
    abst_other ne = fails_by m abst_read (abst_none (top_is m abst_read).d m.node (front (drop top part)) (others m abst_read) (entered part entries m.es) (body_other (begins_one m abst_read) (λ e. ne (sym word₀ ∙ e))))

    module _ (e : get_or part top 0 ≡ 196608) where
      front_is : front (drop top part) ≡ Abst (front (drop (top + 2) part))
      front_is = front_abstraction (begins_one m abst_read) (word₀ ∙ e) ∙ rw (drop-drop 2 top part)

      body_is : body_of (front (drop top part)) ≡ some (front (drop (top + 2) part))
      body_is = rw front_is

      one_count : get_or part (top + 1) 0 ≡ 1
      one_count = (abstraction_count (step part top owed m.walking.walk.begins (positive m abst_read)) (omega arith)).0

      walks : Walking part owed (top + 2)
      walks =
          let h = positive m abst_read in
          let z : owed - 1 + 1 ≡ owed = omega arith in
          rw z at (rw one_count at (walking_on m.walking h))

      opened_body : terms owed (drop (top + 2) part) ≡ join (Cons (front (drop (top + 2) part)) Nil) (behind m abst_read)
      opened_body =
          let h = positive m abst_read in
          let p = (at_abstraction part top owed m.walking.walk.begins h (e)).terms_are in
          let q = (passed owed (drop top part) m.walking.walk.begins h).terms_are in
          let s = (passed owed (drop (top + 2) part) walks.walk.begins h).terms_are in
          s ∙ ap (Cons (front (drop (top + 2) part))) (ap (terms (owed - 1)) (drop-drop (word_count (front (drop (top + 2) part))) (top + 2) part) ∙ later (sym p ∙ q))

      pub abst_moves : Moves m (entries_after (get_or code at 0) entries made top) (made_after (get_or code at 0) made) (at + 1) (top + 2) owed
      abst_moves =
          let t = top_is m abst_read in
          let h = ap (λ (l : List ℕ). length l) t.are in
          let v = m.depths in
          let z = m.place_is in
          let n : nodes (front (drop top part)) ≡ suc (nodes (front (drop (top + 2) part))) = ap (λ (x : Term). nodes x) front_is in
          rw (ne_eqb (get_or code at 0) 4 (λ q. omega arith))
          (moves m abst_read ((t.d + 1) ∷ t.below) m.es [] entries (m.node + 1) made (at + 1) (top + 2) owed
          (some_is abst_asked.1) (omega arith) walks (omega arith) (omega arith) m.many m.room m.count m.few m.stands
          (ap (exec ISABST) (state_is m abst_read) ∙ abst_some (top_is m abst_read).d m.node (front (drop top part)) (others m abst_read) (entered part entries m.es) (front (drop (top + 2) part)) body_is
          ∙ ap (λ (cs : List Current). done (state cs (entered part entries m.es) [] 0 []))
          (inside_line (t.d + 1) m.node t.below (Cons (front (drop (top + 2) part)) Nil) (behind m abst_read) (terms owed (drop (top + 2) part)) (m.node + nodes (front (drop top part))) 1 (omega arith) opened_body refl)))

  -- ---- NEXT

  module _ (o : get_or code at 0 ≡ 2) where
    abbrev next_read : Reads m NEXT 0
    next_read = reads_next m o

    pub next_moves : (x : ℕ) → x ≡ word_count (front (from top part))
        → Moves m (entries_after (get_or code at 0) entries made top) (made_after (get_or code at 0) made) (at + 1) (top + x) (owed - 1)
    next_moves x f =
        let e = rw (from_drop top part) at f in
        let t = top_is m next_read in
        let h = ap (λ (l : List ℕ). length l) t.are in
        let v = m.depths in
        let y = m.many in
        let z = m.place_is in
        rw (ne_eqb (get_or code at 0) 4 (λ q. omega arith), e)
        (moves m next_read t.below m.es [] entries (m.node + nodes (front (drop top part))) made (at + 1) (top + word_count (front (drop top part))) (owed - 1)
        (some_is t.goes) (omega arith) (walking_term m.walking (positive m next_read)) (omega arith) (omega arith) (omega arith) m.room m.count m.few m.stands
        (ap (exec NEXT) (state_is m next_read)
        ∙ ap (λ (ts : Terms). done (state (in_line t.below (m.node + nodes (front (drop top part))) ts) (entered part entries m.es) [] 0 []))
        (ap (terms (owed - 1)) (drop-drop (word_count (front (drop top part))) top part))))

    pub next_room : (x : ℕ) → x ≡ word_count (front (from top part)) → top + x ≤ length part
    next_room x f =
        let e = rw (from_drop top part) at f in
        let w = (walking_term m.walking (positive m next_read)).walk.within in
        omega arith

    pub next_begins : Begins 1 (from top part)
    next_begins = rw (from_drop top part) (begins_one m next_read)

  -- ---- SET

  module _ (o : get_or code at 0 ≡ 4) where
    abbrev set_read : Reads m SET 0
    set_read = reads_set m o

    set_asked : (ltb (length m.es) entry_limit ≡ true)
        × (some (matching ((top_is m set_read).d ∷ (top_is m set_read).below) (slot (top_is m set_read).d m.g ∷ m.es) []) ≡ some set_read.after)
    set_asked = needed (ltb (length m.es) entry_limit) _ _ (top_is m set_read).goes

    pub set_room : made < 16
    set_room = let h = ltb-true (length m.es) entry_limit set_asked.0 in let k = m.count in omega arith

    pub top_stands : Stands part top
    top_stands = record { node = m.node; place_is = m.place_is; here = first_numbered (front part) _ _ _ _ _ (line_is m set_read) m.numbered }

    pub set_moves : Moves m (entries_after (get_or code at 0) entries made top) (made_after (get_or code at 0) made) (at + 1) top owed
    set_moves =
        let t = top_is m set_read in
        let h = set_room in
        let k = m.count in
        let l = m.room in
        rw (eq-eqb (get_or code at 0) 4 o)
        (moves m set_read m.ds (slot t.d m.g ∷ m.es) [] (set entries made top) m.node (made + 1) (at + 1) top owed
        (some_is set_asked.1 ∙ ap (λ (ds : List ℕ). matching ds (slot t.d m.g ∷ m.es) []) (sym t.are)) (omega arith) m.walking m.place_is m.depths m.many
        (length-set entries made top ∙ m.room) (omega arith) (omega arith) stands
        (ap (exec SET) (state_is m set_read)
        ∙ ap₂ (λ (cs : List Current) (env : List Entry). done (state cs env [] 0 [])) (sym (line_is m set_read))
        (sym (entered_more part entries m.es t.d m.g made top k (omega arith)))))
      where
        stands : (j : ℕ) → j < made + 1 → Stands part (get_or (set entries made top) j 0)
        stands j h = go (ℕ_discrete j made)
          where
            below : (j ≡ made → ⊥) → j < made + 1 → j < made
            below ne h = case (λ q. j < made) (ltb j made) (λ y. ltb-true j made (on _ y)) (λ y. let k = ltb-false j made (off _ y) in absurd (ne (omega arith)))

            go : Dec (j ≡ made) → Stands part (get_or (set entries made top) j 0)
            go (yes e) =
                let k = set_room in
                let l = m.room in
                rw (e, get_or-set_same entries made top 0 (omega arith)) top_stands
            go (no ne) = rw (get_or-set_other entries made j top 0 ne) (m.stands j (below ne h))

  -- ---- CHECK

  module _ (o : get_or code at 0 ≡ 3) where
    abbrev listed : List ℕ
    listed = take (get_or code (at + 1) 0) (drop (at + 2) code)

    abbrev check_read : Reads m (CHECK listed) (1 + get_or code (at + 1) 0)
    check_read = reads_check m o

    check_asked : (all_below (top_is m check_read).d listed ≡ true) × (some (matching ((top_is m check_read).d ∷ (top_is m check_read).below) m.es listed) ≡ some check_read.after)
    check_asked = needed (all_below (top_is m check_read).d listed) _ _ (needed (leb (length listed) check_limit) _ _ (top_is m check_read).goes).1

    pub check_end : at + 2 + get_or code (at + 1) 0 ≤ length code
    check_end = let h = check_read.within in omega arith

    pub check_begins : Begins 1 (from top part)
    check_begins = rw (from_drop top part) (begins_one m check_read)

    span : at + 2 + get_or code (at + 1) 0 - (at + 2) ≡ get_or code (at + 1) 0
    span = omega arith

    pub check_small : Small (take (at + 2 + get_or code (at + 1) 0 - (at + 2)) (drop (at + 2) code))
    check_small = rw span (small listed check_asked.0)
      where
        small : (ks : List ℕ) → all_below (top_is m check_read).d ks ≡ true → every (λ y. ltb y 64) ks ≡ true
        small [] e = refl
        small (k ∷ ks) e =
            let q = of_and (ltb k (top_is m check_read).d) (all_below (top_is m check_read).d ks) (T_of _ e) in
            let u = ltb-true k (top_is m check_read).d (on _ q.0) in
            let v = low m check_read in
            rw (lt-ltb k 64 (omega arith)) (small ks (on _ q.1))

    module _ (q : Bool) (e : q ≡ clear (take (at + 2 + get_or code (at + 1) 0 - (at + 2)) (drop (at + 2) code)) (front (from top part))) where
      check_test : exec (CHECK listed) (shown m check_read) ≡ test q (shown m check_read)
      check_test = check_goes (top_is m check_read).d m.node (front (drop top part)) (others m check_read) (entered part entries m.es) listed ∙ ap (λ (b : Bool). test b (shown m check_read)) {y = q} (sym (rw (from_drop top part) at e ∙ ap (λ (n : ℕ). clear (take n (drop (at + 2) code)) (front (drop top part))) span))

      pub check_moves : q ≡ true → Moves m (entries_after (get_or code at 0) entries made top) (made_after (get_or code at 0) made) (at + 2 + get_or code (at + 1) 0) top owed
      check_moves t = test_moves m check_read listed _ (some_is check_asked.1) (omega arith) (λ z. omega arith) q check_test t

      pub check_fails : q ≡ false → Fails m MatchFails
      check_fails t = test_fails m check_read listed _ (some_is check_asked.1) refl (λ z. omega arith) q check_test t

  -- ---- EQVAR

  module _ (o : get_or code at 0 ≡ 5) where
    abbrev eqvar_read : Reads m (EQVAR (get_or code (at + 1) 0)) 1
    eqvar_read = reads_eqvar m o

    eqvar_asked : (ltb (get_or code (at + 1) 0) (top_is m eqvar_read).d ≡ true)
        × (some (matching ((top_is m eqvar_read).d ∷ (top_is m eqvar_read).below) m.es []) ≡ some eqvar_read.after)
    eqvar_asked = needed (ltb (get_or code (at + 1) 0) (top_is m eqvar_read).d) _ _ (top_is m eqvar_read).goes

    variable : is_var (get_or code (at + 1) 0) (front (drop top part)) ≡ eqb (get_or part top 0) (get_or code (at + 1) 0)
    variable =
        let h = ltb-true (get_or code (at + 1) 0) (top_is m eqvar_read).d eqvar_asked.0 in
        let l = low m eqvar_read in
        variable_is (begins_one m eqvar_read) (get_or code (at + 1) 0) (omega arith) ∙ ap (λ (w : ℕ). eqb w (get_or code (at + 1) 0)) word₀

    pub eqvar_moves : get_or part top 0 ≡ get_or code (at + 1) 0 → Moves m (entries_after (get_or code at 0) entries made top) (made_after (get_or code at 0) made) (at + 2) top owed
    eqvar_moves e = test_moves m eqvar_read [] _ (some_is eqvar_asked.1) (omega arith) (λ z. omega arith) _ refl (variable ∙ eq-eqb _ _ e)

    pub eqvar_other : (get_or part top 0 ≡ get_or code (at + 1) 0 → ⊥) → Fails m MatchFails
    eqvar_other ne = test_fails m eqvar_read [] _ (some_is eqvar_asked.1) refl (λ z. omega arith) _ refl (variable ∙ ne_eqb _ _ ne)

  -- ---- EQIMM and EQI: an entry

  -- a SET has room for its entry
  pub enters : get_or code at 0 ≡ 4 → made < length entries
  enters o = let h = set_room o in let k = m.room in omega arith

  abbrev old_place : ℕ
  old_place = get_or entries (made - 1 - get_or code (at + 1) 0) 0

  -- what the check has of it, and where it stands
  record Old (after : Matching) (f : ℕ → List ℕ → Option Matching) : Type 0 where
    pub b : ℕ
    pub h : List ℕ
    pub says : f b h ≡ some after
    pub there : get_or code (at + 1) 0 < made
    pub depth : ℕ
    pub here : get_elem? (entered part entries m.es) (get_or code (at + 1) 0) ≡ some (entry depth (front (drop old_place part)))

  old : (after : Matching) (f : ℕ → List ℕ → Option Matching) → with_slot (get_elem? m.es (get_or code (at + 1) 0)) f ≡ some after → Old after f
  old after f w =
      let q = entered_at part entries m.es (get_or code (at + 1) 0) f after w in
      let k = m.count in
      let z = slot_is (get_elem? m.es (get_or code (at + 1) 0)) f after w in
      record { b = z.0; h = z.1; says = z.2; there = (let l = q.1 in omega arith); depth = q.0; here = rw k at q.2 }
    where
      slot_is : (s : Option Slot) (f : ℕ → List ℕ → Option Matching) (r : Matching) → with_slot s f ≡ some r → (b : ℕ) × (h : List ℕ) × (f b h ≡ some r)
      slot_is none f r e = never (cc)
      slot_is (some (slot b h)) f r e = (b, h, e)

  module _ (o : get_or code at 0 ≡ 6) where
    abbrev eqimm_read : Reads m (EQIMM (get_or code (at + 1) 0)) 1
    eqimm_read = reads_eqimm m o

    abbrev eqimm_asks : ℕ → List ℕ → Option Matching
    eqimm_asks = λ b h. need (eqb (top_is m eqimm_read).d b) (some (matching ((top_is m eqimm_read).d ∷ (top_is m eqimm_read).below) m.es []))

    eqimm_old : Old eqimm_read.after eqimm_asks
    eqimm_old = old eqimm_read.after eqimm_asks (top_is m eqimm_read).goes

    eqimm_after : eqimm_read.after ≡ matching ((top_is m eqimm_read).d ∷ (top_is m eqimm_read).below) m.es []
    eqimm_after = some_is (needed (eqb (top_is m eqimm_read).d eqimm_old.b) _ _ eqimm_old.says).1

    module _ (q : Bool) (e : q ≡ equal (front (from old_place part)) (front (from top part))) where
      eqimm_test : exec (EQIMM (get_or code (at + 1) 0)) (shown m eqimm_read) ≡ test q (shown m eqimm_read)
      eqimm_test =
          eqimm_goes (top_is m eqimm_read).d m.node (front (drop top part)) (others m eqimm_read) (entered part entries m.es) (get_or code (at + 1) 0) _ _ eqimm_old.here
          ∙ ap (λ (b : Bool). test b (shown m eqimm_read)) {y = q} (sym (rw (from_drop old_place part, from_drop top part) at e))

      pub eqimm_moves : q ≡ true → Moves m (entries_after (get_or code at 0) entries made top) (made_after (get_or code at 0) made) (at + 2) top owed
      eqimm_moves t = test_moves m eqimm_read [] _ eqimm_after (omega arith) (λ z. omega arith) q eqimm_test t

      pub eqimm_fails : q ≡ false → Fails m MatchFails
      eqimm_fails t = test_fails m eqimm_read [] _ eqimm_after refl (λ z. omega arith) q eqimm_test t

  module _ (o : get_or code at 0 ≡ 7) where
    abbrev pairs : List (ℕ × ℕ)
    pairs = pairs_in (take (2 * get_or code (at + 3) 0) (drop (at + 4) code))

    abbrev eqi_read : Reads m (EQI (get_or code (at + 1) 0) (get_or code (at + 2) 0) pairs) (3 + 2 * get_or code (at + 3) 0)
    eqi_read = reads_eqi m o

    abbrev eqi_asks : ℕ → List ℕ → Option Matching
    eqi_asks = λ b h.
        need (eqb (get_or code (at + 2) 0 + b) ((top_is m eqi_read).d + d_shift)) (need (leb (length pairs) pair_limit)
        (need (all_below b (firsts pairs)) (need (covers b h (firsts pairs)) (need (all_below (top_is m eqi_read).d (seconds pairs))
        (some (matching ((top_is m eqi_read).d ∷ (top_is m eqi_read).below) m.es []))))))

    eqi_old : Old eqi_read.after eqi_asks
    eqi_old = old eqi_read.after eqi_asks (top_is m eqi_read).goes

    eqi_after : eqi_read.after ≡ matching ((top_is m eqi_read).d ∷ (top_is m eqi_read).below) m.es []
    eqi_after =
        let b = eqi_old.b in
        let q₁ = (needed (eqb (get_or code (at + 2) 0 + b) ((top_is m eqi_read).d + d_shift)) _ _ eqi_old.says).1 in
        let q₂ = (needed (leb (length pairs) pair_limit) _ _ q₁).1 in
        let q₃ = (needed (all_below b (firsts pairs)) _ _ q₂).1 in
        let q₄ = (needed (covers b eqi_old.h (firsts pairs)) _ _ q₃).1 in
        some_is (needed (all_below (top_is m eqi_read).d (seconds pairs)) _ _ q₄).1

    pub eqi_end : at + 4 + 2 * get_or code (at + 3) 0 ≤ length code
    eqi_end = let h = eqi_read.within in omega arith

    module _ (q : Bool) (e : q ≡ agrees (take (at + 4 + 2 * get_or code (at + 3) 0 - (at + 4)) (drop (at + 4) code)) (get_or code (at + 2) 0) (front (from old_place part)) (front (from top part))) where
      eqi_test_lem : exec (EQI (get_or code (at + 1) 0) (get_or code (at + 2) 0) pairs) (shown m eqi_read) ≡ test q (shown m eqi_read)
      eqi_test_lem =
          let z : at + 4 + 2 * get_or code (at + 3) 0 - (at + 4) ≡ 2 * get_or code (at + 3) 0 = omega arith in
          let u = matches_as_checked Any [] 0 [] (EQI (get_or code (at + 1) 0) (get_or code (at + 2) 0) pairs) (matching m.ds m.es m.g) eqi_read.after _ _ eqi_read.goes m.agrees in
          eqi_goes (top_is m eqi_read).d m.node (front (drop top part)) (others m eqi_read) (entered part entries m.es) (get_or code (at + 1) 0) (get_or code (at + 2) 0) pairs _ _
          (goes_as (ap (exec (EQI (get_or code (at + 1) 0) (get_or code (at + 2) 0) pairs)) (state_is m eqi_read)) u) eqi_old.here
          ∙ ap (λ (b : Bool). test b (shown m eqi_read)) {y = q}
          (sym (rw (from_drop old_place part, from_drop top part) at e ∙ ap (λ (n : ℕ). agrees (take n (drop (at + 4) code)) (get_or code (at + 2) 0) (front (drop old_place part)) (front (drop top part))) z))

      pub eqi_moves : q ≡ true → Moves m (entries_after (get_or code at 0) entries made top) (made_after (get_or code at 0) made) (at + 4 + 2 * get_or code (at + 3) 0) top owed
      eqi_moves t = test_moves m eqi_read [] _ eqi_after (omega arith) (λ z. omega arith) q eqi_test_lem t

      pub eqi_fails : q ≡ false → Fails m MatchFails
      eqi_fails t = test_fails m eqi_read [] _ eqi_after refl (λ z. omega arith) q eqi_test_lem t

  -- what either of the two looks at
  module _ (lo : 6 ≤ get_or code at 0) (hi : get_or code at 0 ≤ 7) where
    either : {P : Type 0} → (get_or code at 0 ≡ 6 → P) → (get_or code at 0 ≡ 7 → P) → P
    either {P} f g = go (ℕ_discrete (get_or code at 0) 6)
      where
        go : Dec (get_or code at 0 ≡ 6) → P
        go (yes e) = f e
        go (no ne) = g (seven ne lo hi)
          where
            seven : {w : ℕ} → (w ≡ 6 → ⊥) → 6 ≤ w → w ≤ 7 → w ≡ 7
            seven {w} ne a b = case (λ q. w ≡ 7) (ltb w 7) (λ y. let k = ltb-true w 7 (on _ y) in absurd (ne (omega arith))) (λ y. let k = ltb-false w 7 (off _ y) in omega arith)

    pub entry_there : get_or code (at + 1) 0 < made
    entry_there = either (λ o. (eqimm_old o).there) (λ o. (eqi_old o).there)

    pub entry_place : made - 1 - get_or code (at + 1) 0 < length entries
    entry_place =
        let h = entry_there in
        let k = m.few in
        let l = m.room in
        omega arith

    pub operand_there : at + 2 ≤ length code
    operand_there = either (λ o. let h = (eqimm_read o).within in omega arith) (λ o. let h = (eqi_read o).within in omega arith)

    pub compare_begins : Begins 1 (from top part)
    compare_begins = rw (from_drop top part) (either (λ o. begins_one m (eqimm_read o)) (λ o. begins_one m (eqi_read o)))

    pub compare_room : top + 2 ≤ length part
    compare_room = either (λ o. top_room m (eqimm_read o)) (λ o. top_room m (eqi_read o))

    old_begins : Begins 1 (drop old_place part)
    old_begins = stands_begins m.accepted.whole (m.stands (made - 1 - get_or code (at + 1) 0) (let h = entry_there in omega arith))

    pub old_part : Begins 1 (from old_place part)
    old_part = rw (from_drop old_place part) old_begins

    pub old_room : old_place + 2 ≤ length part
    old_room = let h = in_table part old_place old_begins (omega arith) in omega arith
