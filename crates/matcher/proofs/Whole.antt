-- The match part as a whole: where it begins, how an instruction takes it on, and what it leaves to the build part.
use mathlib.Core.Path.{◌≡◌, refl, sym, ap, ◌∙◌}
use Prim.Native.Nat.{ℕ, zero, suc, ◌+◌, ◌-◌, ◌*◌, ◌<◌}
use native.Mathlib.Omega.{arith}
use mathlib.Core.Bool.{true, false}
use mathlib.Core.Option.{some, some-injective}
use mathlib.Core.List.{List, [], ◌∷◌}
use lib.Dec.{T}
use lib.ListN.{length, get_or, drop, set}
use borrow.Author.Tests.{eq-eqb, ne_eqb, le-ltb}
use Rattle.documents.specs.declared.Refusal.{Refusal}
use Rattle.documents.specs.declared.Refusal.TheVariants.{MatchFails}
use Rattle.documents.specs.Terms.{Nil, Cons, Terms}
use Rattle.documents.specs.Tables.{nodes}
use Rattle.documents.specs.Instructions.{End, ◌▸◌, Instruction, Program, opcode, program_in}
use Rattle.documents.specs.Machine.{State, state, done, fails, exec, run, start}
use Rattle.documents.specs.Passing.{Slot, slot, Matching, matching, one_term, build, builds, parts, passes}
use Rattle.documents.proofs.Lists.{T_of}
use Rattle.documents.proofs.FreeVariables.{free_all}
use Rattle.documents.proofs.Nodes.{Numbered, numbered_start}
use Rattle.tables.specs.Parts.{front, terms}
use Rattle.tables.proofs.Parts.{front_term}
use Rattle.tables.proofs.Walks.{walking_from, walking_ended}
use Rattle.instructions.specs.Places.{program_at}
use Rattle.instructions.proofs.Reading.{First, program_first}
use Rattle.safety.proofs.Entries.{entries_length}
use Rattle.safety.proofs.Matching.{Agrees, agrees_at_start}
use Rattle.safety.proofs.NeverStuck.{passing_obeys}
use Rattle.trees.specs.Trees.{entry_of}
use Rattle.std.specs.Prelude.{Result, Ok, Err}
use Rattle.matcher.specs.declared.Standing.{Standing}
use Rattle.matcher.specs.Midway.{Any, in_line, entered, Midway, state_of, entries_after, made_after, Moves, Fails, Steps}
use Rattle.matcher.specs.Ready.{Begins, Ready, Comes}
use Rattle.matcher.proofs.Places.{not_ended}

-- ---- the beginning

module _ (code part entries : List ℕ) (p : passes code ≡ true) (a : Begins part) (r : length entries ≡ 16) where
  whole_here : (c : Program) → program_in code ≡ some c → program_at code 0 (length code) ≡ some c
  whole_here c e = let z : length code - 0 ≡ length code = omega arith in rw z e

  pub midway_start : Midway code part entries 0 0 1 0
  midway_start =
      let q = passing_obeys code (T_of _ p) in
      let h = whole_here q.0 q.1 in
      let t : terms 1 part ≡ Cons (front part) Nil = front_term part a.whole in
      record {
        rest = q.0;
        ds = 0 ∷ [];
        es = [];
        g = [];
        inside = not_ended code 0 q.0 (matching (0 ∷ []) [] []) (omega arith) h q.2;
        here = h;
        checked = q.2;
        accepted = a;
        walking = walking_from a.whole;
        node = 0;
        place_is = refl;
        depths = refl;
        many = omega arith;
        room = r;
        count = refl;
        few = omega arith;
        stands = λ i l. absurd (omega arith);
        numbered = at_start t (λ ts. Numbered (front part) (in_line (0 ∷ []) 0 ts)) (numbered_start (front part));
        agrees = at_start t (λ ts. Agrees Any (matching (0 ∷ []) [] []) (in_line (0 ∷ []) 0 ts) []) (agrees_at_start Any (front part) (free_all Any (front part) (λ x. tt)));
      }
    where
      at_start : {ts us : Terms} → ts ≡ us → (P : Terms → Type 0) → P us → P ts
      at_start e P h = rw e h

  -- the machine's first state
  pub start_is : state_of midway_start ≡ start (front part)
  unfolding midway_start terms
  start_is = ap (λ (ts : Terms). state (in_line (0 ∷ []) 0 ts) [] [] 0 []) (front_term part a.whole)

  pub start_rest : (c : Program) → program_in code ≡ some c → midway_start.rest ≡ c
  unfolding midway_start
  start_rest c e = some-injective _ _ (sym (passing_obeys code (T_of _ p)).1 ∙ e)

-- ---- from instruction to instruction

module _ (entries : List ℕ) (op made top : ℕ) where
  pub entered_none : (op ≡ 4 → ⊥) → (entries ≡ entries_after op entries made top) × (made ≡ made_after op made)
  entered_none n = (rw (ne_eqb op 4 n), rw (ne_eqb op 4 n))

  pub entered_top : op ≡ 4 → (set entries made top ≡ entries_after op entries made top) × (made + 1 ≡ made_after op made)
  entered_top e = (rw (eq-eqb op 4 e), rw (eq-eqb op 4 e))

pub moved : (rest : Program) (i : Instruction) (c : Program) (σ τ : State) → rest ≡ i ▸ c → exec i σ ≡ done τ → exec rest σ ≡ exec c τ
moved rest i c σ τ e f = rw (e, f)

pub failed : (rest : Program) (i : Instruction) (c : Program) (σ : State) → rest ≡ i ▸ c → exec i σ ≡ fails → exec rest σ ≡ fails
failed rest i c σ e f = rw (e, f)

-- the code's program comes to what the rest of it comes to from here
pub record Going (code part entries : List ℕ) (at top current made : ℕ) : Type 0 where
  pub midway : Midway code part entries at top current made
  pub goes : (c : Program) → program_in code ≡ some c → run c (front part) ≡ exec midway.rest (state_of midway)

pub going_from : (code part entries : List ℕ) → passes code ≡ true → Begins part → length entries ≡ 16 → Going code part entries 0 0 1 0
going_from code part entries p a r = record {
  midway = midway_start code part entries p a r;
  goes = λ c e. ap (λ (σ : State). exec c σ) (sym (start_is code part entries p a r)) ∙ ap (λ (d : Program). exec d (state_of (midway_start code part entries p a r))) (sym (start_rest code part entries p a r c e));
}

module _ {code part entries : List ℕ} {at top current made : ℕ} (g : Going code part entries at top current made) where
  going_on : {entries' : List ℕ} {made' p top' current' : ℕ} → Moves g.midway entries' made' p top' current' → Going code part entries' p top' current' made'
  going_on s = record { midway = s.next; goes = λ c e. g.goes c e ∙ moved g.midway.rest s.i s.next.rest _ _ s.begins s.goes }

-- a step of it
module _ {code part entries : List ℕ} {here : Standing} (g : Going code part entries here.at here.top here.current here.made) {r : Result Standing Refusal}
    (s : Steps code part entries here r) where
  pub going_refused : (w : Refusal) → r ≡ Err w → Comes code part entries (Err MatchFails)
  going_refused w e = record {
    means = λ c d.
        let f : Fails g.midway w = rw e at (s.means g.midway) in
        (refl, g.goes c d ∙ failed g.midway.rest f.i f.c _ f.begins f.goes);
  }

  pub refused_why : (w : Refusal) → r ≡ Err w → w ≡ MatchFails
  refused_why w e = let f : Fails g.midway w = rw e at (s.means g.midway) in f.why

  module _ {next : Standing} (e : r ≡ Ok next) where
    to : Moves g.midway (entries_after (get_or code here.at 0) entries here.made here.top) (made_after (get_or code here.at 0) here.made) next.at next.top next.current
    to = rw e at (s.means g.midway)

    pub going_later : here.at < next.at
    going_later = to.later

    pub going_inside : next.at < length code
    going_inside = to.next.inside

    pub going_next : {new : List ℕ} {n : ℕ} → new ≡ entries_after (get_or code here.at 0) entries here.made here.top → n ≡ made_after (get_or code here.at 0) here.made
        → Going code part new next.at next.top next.current n
    going_next e f = rw (e, f) (going_on g to)

-- ---- the build part

builds_of : (rest : Program) (w : ℕ) (M : Matching) → First rest w → 7 < w → T (parts rest M) → T (builds M rest)
builds_of End w M f h p = absurd f
builds_of (i ▸ c) w M f h p = rw (le-ltb (opcode i) 8 (omega arith)) at p

none_left : (ds : List ℕ) (es : List Slot) (g : List ℕ) (c : Program) → T (builds (matching ds es g) c) → (ds ≡ []) × T (one_term (build es false 0 0 c (0 ∷ [])))
none_left [] es g c t = (refl, t)
none_left (d ∷ ds) es g c t = absurd t

entered_of : (part entries : List ℕ) (es : List Slot) (e : ℕ) → e < length es
    → entry_of (entered part entries es) e ≡ front (drop (get_or entries (length es - 1 - e) 0) part)
entered_of part entries [] e l = absurd (omega arith)
entered_of part entries (slot b g ∷ es) zero l = let z : suc (length es) - 1 - 0 ≡ length es = omega arith in rw z
entered_of part entries (slot b g ∷ es) (suc e) l =
    let z : suc (length es) - 1 - suc e ≡ length es - 1 - e = omega arith in
    rw z (entered_of part entries es e (omega arith))

module _ {code part entries : List ℕ} {at top current made : ℕ} (m : Midway code part entries at top current made) (w : 7 < get_or code at 0) where
  pub begins_build : (m.ds ≡ []) × T (one_term (build m.es false 0 0 m.rest (0 ∷ [])))
  begins_build = none_left m.ds m.es m.g m.rest (builds_of m.rest (get_or code at 0) (matching m.ds m.es m.g) (program_first code at (length code) m.rest m.inside (omega arith) m.here) w m.checked)

  pub build_state : state_of m ≡ state [] (entered part entries m.es) [] 0 []
  build_state = ap (λ (ds : List ℕ). state (in_line ds m.node (terms current (drop top part))) (entered part entries m.es) [] 0 []) begins_build.0

  terms_are : (e : ℕ) → e < made → entry_of (entered part entries m.es) e ≡ front (drop (get_or entries (made - 1 - e) 0) part)
  terms_are e l =
      let n = m.count in
      entered_of part entries m.es e (omega arith) ∙ ap (λ (n : ℕ). front (drop (get_or entries (n - 1 - e) 0) part)) n

  -- no term is current: the top is behind the subject's words
  top_behind : top ≡ 2 * nodes (front part)
  top_behind = walking_ended m.walking (let d = ap (λ (ds : List ℕ). length ds) begins_build.0 in let k = m.depths in omega arith)

  pub ready : (c : Program) → run c (front part) ≡ exec m.rest (state_of m) → Ready code part entries c at made
  ready c e = record {
    rest = m.rest;
    env = entered part entries m.es;
    es = m.es;
    inside = m.inside;
    here = m.here;
    goes = e ∙ ap (exec m.rest) build_state;
    checked = begins_build.1;
    ok = m.agrees.1;
    few = m.few;
    count = entries_length Any m.es (entered part entries m.es) m.agrees.1 ∙ m.count;
    terms = terms_are;
    stands = λ e l.
        let s = m.stands (made - 1 - e) (omega arith) in
        (s.node, s.place_is, s.here ∙ ap some (sym (terms_are e l)));
  }

pub going_build : {code part entries : List ℕ} {at top current made : ℕ} → Going code part entries at top current made → 7 < get_or code at 0
    → Comes code part entries (Ok (record { build = at; entries = made; words = top }))
going_build g w = record { means = λ c e. (ready g.midway w c (g.goes c e), top_behind g.midway w) }
