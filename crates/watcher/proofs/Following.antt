-- The match part of a watch, and the counts: what the first i instructions come to is what those still to come come to from the state that is
-- held. Where none is left, and where the build part begins, the counts of the machine's state are the ones that are given back.
use mathlib.Core.Path.{◌≡◌, refl, sym, ap, ◌∙◌}
use Prim.Native.Nat.{ℕ, zero, suc, ◌-◌, ◌/◌, ◌≤◌, ◌<◌}
use native.Mathlib.Omega.{arith}
use mathlib.Core.Bool.{true, false, ◌&&◌}
use mathlib.Core.Option.{some}
use mathlib.Core.List.{List, [], ◌∷◌}
use lib.Dec.{leb}
use lib.ListN.{length, get_or, drop}
use borrow.Author.Tests.{leb-true}
use Rattle.documents.specs.declared.Refusal.{Refusal}
use Rattle.documents.specs.declared.Refusal.TheVariants.{DoesNotPass, MatchFails}
use Rattle.documents.specs.Limits.{code_limit}
use Rattle.documents.specs.Terms.{Cons, Term, Terms}
use Rattle.documents.specs.Tables.{nodes}
use Rattle.documents.specs.Instructions.{◌▸◌, Instruction, Program, program_in}
use Rattle.documents.specs.Machine.{State, done, fails, exec, run, first}
use Rattle.documents.specs.Passing.{and_then_holds, obeys, passes}
use Rattle.documents.specs.Numbers.{Answer, answered, refused, with, subject_in, code_in, outcome_of}
use Rattle.documents.specs.Calls.{node_of, counts, watches}
use Rattle.documents.proofs.Lists.{never, on, T_of, of_and}
use Rattle.std.specs.Prelude.{Result, Ok, Err}
use Rattle.matcher.specs.declared.Standing.{Standing}
use Rattle.tables.specs.Parts.{front, terms}
use Rattle.tables.specs.Answers.{sized}
use Rattle.tables.proofs.Parts.{passed}
use Rattle.tables.proofs.Walks.{walking_ended}
use Rattle.safety.proofs.Entries.{entries_length}
use Rattle.safety.proofs.Building.{laid, builds_as_checked}
use Rattle.safety.proofs.Matching.{currents_length}
use Rattle.safety.proofs.NeverStuck.{passing_obeys}
use Rattle.safety.proofs.Counts.{total, length_laid}
use Rattle.checker.specs.Matched.{verdict}
use Rattle.checker.proofs.Matching.{not_passed}
use Rattle.matcher.specs.Midway.{Any, in_line, entered, Midway, state_of, entries_after, made_after, Moves, Fails, Steps}
use Rattle.matcher.proofs.Parts.{begins_whole}
use Rattle.matcher.proofs.Whole.{midway_start, start_is, start_rest, begins_build, build_state}
use Rattle.watcher.specs.Watching.{as_watched}
use Rattle.watcher.specs.Counting.{Counted, Finishes}

-- ---- the first of them

first_moved : (rest : Program) (i : Instruction) (c : Program) (σ τ : State) (left : ℕ) → rest ≡ i ▸ c → exec i σ ≡ done τ → 0 < left
    → exec (first left rest) σ ≡ exec (first (left - 1) c) τ
first_moved rest i c σ τ zero e f h = absurd (omega arith)
first_moved rest i c σ τ (suc left) e f h = let z : suc left - 1 ≡ left = omega arith in rw (z, e, f)

first_failed : (rest : Program) (i : Instruction) (c : Program) (σ : State) (left : ℕ) → rest ≡ i ▸ c → exec i σ ≡ fails → 0 < left → exec (first left rest) σ ≡ fails
first_failed rest i c σ zero e f h = absurd (omega arith)
first_failed rest i c σ (suc left) e f h = rw (e, f)

first_none : (rest : Program) (σ : State) (left : ℕ) → left ≤ 0 → exec (first left rest) σ ≡ done σ
first_none rest σ zero h = refl
first_none rest σ (suc left) h = absurd (omega arith)

-- ---- what a watch comes to

module _ (code subject : List ℕ) (i : ℕ) where
  pub watch_unchecked : {r : Result (Unit {0}) Refusal} {w : Refusal} → r ≡ verdict (passes code) → r ≡ Err w → Err DoesNotPass ≡ as_watched (watches code subject i)
  unfolding watches code_in
  watch_unchecked e f = rw (not_passed (passes code) (sym f ∙ e))

  module _ (p : passes code ≡ true) where
    pub watch_refused : {r : Result ℕ Refusal} {w : Refusal} → r ≡ sized (subject_in subject) → r ≡ Err w → Err w ≡ as_watched (watches code subject i)
    unfolding watches code_in
    watch_refused e f =
        let q = (passing_obeys code (T_of _ p)).1 in
        rw (p, q) (go (subject_in subject) (sym f ∙ e))
      where
        go : {w : Refusal} (a : Answer Term) → Err w ≡ sized a → Err w ≡ as_watched (with a (λ t. with (outcome_of (run (first i (passing_obeys code (T_of _ p)).0) t)) (λ σ. answered (counts t σ))))
        go (answered t) e = never (cc)
        go (refused v) e = cc

    module _ (a : subject_in subject ≡ answered (front subject)) where
      abbrev code_program : Program
      code_program = (passing_obeys code (T_of _ p)).0

      watches_are : watches code subject i ≡ with (outcome_of (run (first i code_program) (front subject))) (λ σ. answered (counts (front subject) σ))
      unfolding watches code_in
      watches_are = let q = (passing_obeys code (T_of _ p)).1 in rw (p, q, a)

      watch_done : (σ : State) → run (first i code_program) (front subject) ≡ done σ → watches code subject i ≡ answered (counts (front subject) σ)
      watch_done σ e = watches_are ∙ rw e

      watch_fails_lem : run (first i code_program) (front subject) ≡ fails → watches code subject i ≡ refused MatchFails
      watch_fails_lem e = watches_are ∙ rw e

-- ---- the loop

pub record Following (code subject entries : List ℕ) (i at top current made left : ℕ) : Type 0 where
  pub midway : Midway code subject entries at top current made
  pub goes : (c : Program) → program_in code ≡ some c → run (first i c) (front subject) ≡ exec (first left midway.rest) (state_of midway)

pub following_from : (code subject entries : List ℕ) (i : ℕ) → passes code ≡ true → subject_in subject ≡ answered (front subject) → length entries ≡ 16
    → Following code subject entries i 0 0 1 0 i
following_from code subject entries i p a r =
    let b = begins_whole subject a in
    record {
      midway = midway_start code subject entries p b r;
      goes = λ c e.
          ap (λ (σ : State). exec (first i c) σ) (sym (start_is code subject entries p b r))
          ∙ ap (λ (d : Program). exec (first i d) (state_of (midway_start code subject entries p b r))) (sym (start_rest code subject entries p b r c e));
    }

module _ {code subject entries : List ℕ} {i at top owed made left : ℕ} (f : Following code subject entries i at top owed made left) where
  following_on : {entries' : List ℕ} {made' p top' owed' : ℕ} → Moves f.midway entries' made' p top' owed' → 0 < left → Following code subject entries' i p top' owed' made' (left - 1)
  following_on s h = record { midway = s.next; goes = λ c e. f.goes c e ∙ first_moved f.midway.rest s.i s.next.rest _ _ left s.begins s.goes h }

-- a step of it
module _ {code subject entries : List ℕ} {i left : ℕ} {here : Standing} (f : Following code subject entries i here.at here.top here.current here.made left)
    {r : Result Standing Refusal} (s : Steps code subject entries here r) where
  pub following_refused : {w : Refusal} → passes code ≡ true → subject_in subject ≡ answered (front subject) → 0 < left → r ≡ Err w
      → (w ≡ MatchFails) × (Err MatchFails ≡ as_watched (watches code subject i))
  following_refused {w} p a h e =
      let x : Fails f.midway w = rw e at (s.means f.midway) in
      (x.why, ap as_watched (sym (watch_fails_lem code subject i p a (f.goes _ (passing_obeys code (T_of _ p)).1 ∙ first_failed f.midway.rest x.i x.c _ left x.begins x.goes h))))

  pub following_next : {next : Standing} (e : r ≡ Ok next) {new : List ℕ} {made n : ℕ} → 0 < left → n ≡ left - 1 → new ≡ entries_after (get_or code here.at 0) entries here.made here.top
      → made ≡ made_after (get_or code here.at 0) here.made → Following code subject new i next.at next.top next.current made n
  following_next {next} e h k z x =
      let to : Moves f.midway (entries_after (get_or code here.at 0) entries here.made here.top) (made_after (get_or code here.at 0) here.made) next.at next.top next.current = rw e at (s.means f.midway) in
      rw (k, z, x) (following_on f to h)

module _ {code subject entries : List ℕ} {i at top owed made left : ℕ} (f : Following code subject entries i at top owed made left) where
  -- ---- the counts

  entry_count_lem : length (entered subject entries f.midway.es) ≡ made
  entry_count_lem = entries_length Any f.midway.es (entered subject entries f.midway.es) f.midway.agrees.1 ∙ f.midway.count

  -- the top's node, or the subject's node count
  node_is : node_of (front subject) (in_line f.midway.ds f.midway.node (terms owed (drop top subject))) ≡ f.midway.node
  node_is = go f.midway.ds f.midway.depths
    where
      shown : (d : ℕ) (ds : List ℕ) (k : ℕ) (ts : Terms) (t : Term) (us : Terms) → ts ≡ Cons t us → node_of (front subject) (in_line (d ∷ ds) k ts) ≡ k
      shown d ds k ts t us e = rw e

      go : (ds : List ℕ) → length ds ≡ owed → node_of (front subject) (in_line ds f.midway.node (terms owed (drop top subject))) ≡ f.midway.node
      go [] e = let w = walking_ended f.midway.walking (omega arith) in let k = f.midway.place_is in omega arith
      go (d ∷ ds) e = shown d ds f.midway.node _ _ _ (passed owed (drop top subject) f.midway.walking.walk.begins (omega arith)).terms_are

  half : top / 2 ≡ f.midway.node
  half = let k = f.midway.place_is in omega arith

  pub following_stopped : passes code ≡ true → subject_in subject ≡ answered (front subject) → left ≤ 0 → Ok (record { current = owed; entries = made; finished = 0; node = top / 2 }) ≡ as_watched (watches code subject i)
  following_stopped p a h =
      let e = watch_done code subject i p a (state_of f.midway) (f.goes _ (passing_obeys code (T_of _ p)).1 ∙ first_none f.midway.rest (state_of f.midway) left h) in
      let c = currents_length Any f.midway.ds _ f.midway.agrees.0 ∙ f.midway.depths in
      sym (ap as_watched e ∙ rw (c, entry_count_lem, node_is, half))

  -- ---- the build part

  module _ (w : 7 < get_or code at 0) where
    pub counted_from : passes code ≡ true → Counted code at 0
    counted_from p = record {
      rest = f.midway.rest;
      es = f.midway.es;
      hs = 0 ∷ [];
      words = leb-true (length code) code_limit (on _ (of_and (leb 1 (length code)) (leb (length code) code_limit) (of_and (leb 1 (length code) && leb (length code) code_limit) (and_then_holds (program_in code) obeys) (T_of _ p)).0).1);
      inside = let h = f.midway.inside in omega arith;
      here = f.midway.here;
      checked = (begins_build f.midway w).1;
      total_is = refl;
      few = omega arith;
    }

    pub following_built : {n : ℕ} (p : passes code ≡ true) → subject_in subject ≡ answered (front subject) → Finishes code at left n
        → Ok (record { current = 0; entries = made; finished = n; node = top / 2 }) ≡ as_watched (watches code subject i)
    unfolding counted_from
    following_built {n} p a s =
        let x = s.means (counted_from p) in
        let m = f.midway in
        let env = entered subject entries m.es in
        let b = builds_as_checked Any [] env m.es m.agrees.1 (first left m.rest) false 0 0 [] [] x.hs x.goes (tt, tt) in
        let g = b.goes [] 0 [] (refl, refl) refl in
        let e = watch_done code subject i p a _ (f.goes _ (passing_obeys code (T_of _ p)).1 ∙ ap (exec (first left m.rest)) (build_state m w) ∙ g) in
        let l : length (laid 0 [] (b.top ∷ b.around) []) ≡ n = length_laid 0 [] (b.top ∷ b.around) ∙ ap total (sym b.counted) ∙ x.total_is in
        let d : node_of (front subject) (in_line m.ds m.node (terms owed (drop top subject))) ≡ m.node = node_is in
        let z : nodes (front subject) ≡ m.node = ap (λ (ds : List ℕ). node_of (front subject) (in_line ds m.node (terms owed (drop top subject)))) (sym (begins_build m w).0) ∙ d in
        sym (ap as_watched e ∙ rw (entry_count_lem, l, z, half))
