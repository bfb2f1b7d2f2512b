-- The match part has come to the build part: what the two walks of the result rely on, and what its term is.
use mathlib.Core.Path.{◌≡◌, refl, sym, ap, ◌∙◌, fun_ext}
use Prim.Native.Nat.{ℕ, zero, suc, ◌-◌, ◌*◌, ◌≤◌, ◌<◌}
use native.Mathlib.Omega.{arith}
use mathlib.Core.Bool.{true, false, ◌&&◌, cond}
use mathlib.Core.Option.{some, some-injective}
use mathlib.Core.List.{List, [], ◌∷◌}
use lib.Dec.{T, leb, ltb}
use lib.ListN.{length, get_or, take, drop}
use lib.Seq.{length-take-le, get_or-take}
use borrow.Author.Tests.{leb-true, ltb-true, ltb-false}
use Rattle.documents.specs.Limits.{plan_limit, code_limit}
use Rattle.documents.specs.Terms.{one, Var, Term}
use Rattle.documents.specs.Tables.{Fits, nodes, subterm}
use Rattle.documents.specs.Instructions.{IS, ISABST, NEXT, CHECK, SET, EQVAR, EQIMM, EQI, CELL, LAMBDA, ADBMAL, PUSHVAR, PUSHIMM, PUSHI, End, ◌▸◌, Program, program_from, program_in}
use Rattle.documents.specs.Machine.{Entry, entry, state, done, run}
use Rattle.documents.specs.Passing.{Slot, one_term, build, and_then_holds, obeys, passes}
use Rattle.documents.proofs.Lists.{case, on, off, T_of, of_and}
use Rattle.documents.proofs.Numbers.{Held, subject_in_held}
use Rattle.documents.proofs.Tables.{length_table_of}
use Rattle.tables.specs.Parts.{front}
use Rattle.tables.proofs.Accepted.{fits_subterm}
use Rattle.instructions.specs.Places.{program_at}
use Rattle.safety.proofs.Entries.{entries_length}
use Rattle.safety.proofs.NeverStuck.{passing_obeys}
use Rattle.trees.specs.Trees.{Tree, top_of, grown, entry_of}
use Rattle.trees.proofs.Made.{AllFit, Told, Made, made}
use Rattle.links.specs.Standing.{entry_place, entry_at, Scene, Safe}
use Rattle.links.specs.Sequences.{tree_at, Sequenced}
use Rattle.links.proofs.Checked.{checked_ran}
use Rattle.links.proofs.Safe.{checked_safe}
use Rattle.links.proofs.Keyed.{tree_here}
use Rattle.matcher.specs.Ready.{Ready}
use Rattle.measurer.specs.Measuring.{Sequence}
use Rattle.builder.specs.Weighing.{Ends, Building}

-- the program of code that passes
abbrev pub program_of : (code : List ℕ) → passes code ≡ true → Program
program_of code p = (passing_obeys code (T_of _ p)).0

-- ---- The build part does not begin the code: no term is current there

not_built : (es : List Slot) (c : Program) → T (obeys c) → T (one_term (build es false 0 0 c (0 ∷ []))) → ⊥
not_built es End o t = absurd o
not_built es (IS s n ▸ c) o t = absurd t
not_built es (ISABST ▸ c) o t = absurd t
not_built es (NEXT ▸ c) o t = absurd t
not_built es (CHECK vs ▸ c) o t = absurd t
not_built es (SET ▸ c) o t = absurd t
not_built es (EQVAR x ▸ c) o t = absurd t
not_built es (EQIMM e ▸ c) o t = absurd t
not_built es (EQI e D ps ▸ c) o t = absurd t
not_built es (CELL s n ▸ c) o t = absurd o
not_built es (LAMBDA ▸ c) o t = absurd o
not_built es (ADBMAL ▸ c) o t = absurd o
not_built es (PUSHVAR x ▸ c) o t = absurd o
not_built es (PUSHIMM e ▸ c) o t = absurd o
not_built es (PUSHI e D a ▸ c) o t = absurd o

later : (code : List ℕ) (at : ℕ) (c rest : Program) (es : List Slot) → program_in code ≡ some c → T (obeys c) → program_at code at (length code) ≡ some rest
    → T (one_term (build es false 0 0 rest (0 ∷ []))) → 1 ≤ at
later code zero c rest es p o h t =
    let n : length code - 0 ≡ length code = omega arith in
    let e : program_at code 0 (length code) ≡ program_in code = ap (λ (k : ℕ). program_from code 0 k) n in
    let z = some-injective c rest (sym p ∙ sym e ∙ h) in
    absurd (not_built es rest (rw z at o) t)
later code (suc at) c rest es p o h t = omega arith

-- ---- Entries

all_fit : (env : List Entry) → ((e : ℕ) → e < length env → Fits (entry_of env e)) → AllFit env
all_fit [] f = tt
all_fit (entry b a ∷ env) f = (f 0 (omega arith), all_fit env (λ e h. f (suc e) (omega arith)))

entry_none : (env : List Entry) (e : ℕ) → length env ≤ e → entry_of env e ≡ Var 0
entry_none [] e h = refl
entry_none (a ∷ env) zero h = absurd (omega arith)
entry_none (a ∷ env) (suc e) h = entry_none env e (omega arith)

module _ {code : List ℕ} {at : ℕ} {subject entries work : List ℕ} (b : Building code at subject entries work) where
  abbrev pub program : Program
  program = program_of code b.begun.passed

  abbrev pub readied : Ready code subject b.table program at b.made
  readied = b.ready program (passing_obeys code (T_of _ b.begun.passed)).1

  room : b.made ≤ length b.table
  room = let f = readied.few in let e = b.enough in omega arith

  entry_count_lem : length entries ≡ b.made
  entry_count_lem = ap length b.these ∙ length-take-le b.made b.table room

  -- the matcher's table, and the part of it that holds entries
  place_same : (e : ℕ) → e < b.made → entry_place entries e ≡ get_or b.table (b.made - 1 - e) 0
  place_same e h =
      ap (λ (k : ℕ). get_or entries (k - 1 - e) 0) entry_count_lem ∙ ap (λ (l : List ℕ). get_or l (b.made - 1 - e) 0) b.these ∙ get_or-take b.made b.table (b.made - 1 - e) 0 (omega arith)

  -- the term of an entry of the machine's
  pub entry_is : (e : ℕ) → entry_of readied.env e ≡ entry_at subject entries e
  entry_is e =
      let n = entry_count_lem in
      case (λ q. entry_of readied.env e ≡ cond q (front (drop (entry_place entries e) subject)) (Var 0)) (ltb e (length entries))
      (λ y. let k = ltb-true e (length entries) (on _ y) in readied.terms e (omega arith) ∙ ap (λ (p : ℕ). front (drop p subject)) (sym (place_same e (omega arith))))
      (λ y. let k = ltb-false e (length entries) (off _ y) in let c = readied.count in entry_none readied.env e (omega arith))

  held : Held plan_limit subject (front subject)
  held = (subject_in_held subject (front subject) b.begun.accepted).0

  code_short : length code ≤ 4096
  code_short = leb-true (length code) code_limit (on _ (of_and (leb 1 (length code)) (leb (length code) code_limit) (of_and (leb 1 (length code) && leb (length code) code_limit) (and_then_holds (program_in code) obeys) (T_of _ b.begun.passed)).0).1)

  stands_at : (e : ℕ) → e < b.made → (m : ℕ) × (entry_place entries e ≡ 2 * m) × (subterm (front subject) m ≡ some (entry_at subject entries e))
  stands_at e h = let s = readied.stands e h in (s.0, place_same e h ∙ s.1, s.2 ∙ ap some (entry_is e))

  -- what both walks rely on, also when the first has changed the working table before the places
  pub scene_of : {work' : List ℕ} → length work' ≡ length work → drop 4096 work' ≡ drop 4096 work → Scene code subject entries work'
  scene_of {work'} l d = record {
    code_short = code_short;
    work_long = let w = b.begun.long in omega arith;
    table = held.table;
    fits = held.fits;
    few = let n = length_table_of (front subject) in let s = held.small in let t = ap length held.table in omega arith;
    shallow = held.shallow;
    places = ap (λ (l : List ℕ). take (nodes (front subject)) l) d ∙ b.begun.places;
    entries_few = let f = readied.few in let e = entry_count_lem in omega arith;
    stands = λ e h. stands_at e (let k = entry_count_lem in omega arith);
  }

  pub scene : Scene code subject entries work
  scene = scene_of refl refl

  sequenced : Sequenced code at (length code) (length entries)
  sequenced = record {
    program = readied.rest;
    here = readied.here;
    runs = checked_ran readied.es (length entries) readied.rest (sym (entries_length (λ x. Unit {0}) readied.es readied.env readied.ok) ∙ (readied.count ∙ sym entry_count_lem)) readied.checked;
  }

  pub sequence : (most : ℕ) → most ≤ 4096 → Sequence code at (length code) subject entries work most
  sequence most h = record {
    scene = scene;
    few = h;
    positive = later code at program readied.rest readied.es (passing_obeys code (T_of _ b.begun.passed)).1 (passing_obeys code (T_of _ b.begun.passed)).2 readied.here readied.checked;
    ordered = let i = readied.inside in omega arith;
    inside = omega arith;
    makes = sequenced;
  }

  -- the result's tree
  tree_is : top_of (grown readied.rest []) ≡ tree_at code at (length code)
  tree_is = tree_here code at (length code) readied.here

  pub safe : Safe 0 (tree_at code at (length code))
  safe = rw tree_is at (checked_safe readied.es readied.rest readied.checked)

  fit : AllFit readied.env
  fit = all_fit readied.env (λ e h. let k = readied.count in let s = readied.stands e (omega arith) in fits_subterm (front subject) s.0 (entry_of readied.env e) held.fits s.2)

  makes : Made readied.env readied.rest
  makes = made readied.es readied.env readied.rest readied.ok fit readied.checked

  pub term : Term
  term = makes.term

  pub goes : run program (front subject) ≡ done (state [] readied.env (term ∷ []) 0 [])
  unfolding term
  goes = readied.goes ∙ makes.runs

  -- whatever program the code is
  pub ends : Ends code subject term
  ends c e =
      let q : program ≡ c = some-injective program c (sym (passing_obeys code (T_of _ b.begun.passed)).1 ∙ e) in
      (readied.env, ap (λ (d : Program). run d (front subject)) (sym q) ∙ goes)

  pub told : Told (entry_at subject entries) (tree_at code at (length code)) term
  unfolding term
  told = told_as (fun_ext entry_is) tree_is makes.told
    where
      told_as : {f g : ℕ → Term} {p q : Tree one} {u : Term} → f ≡ g → p ≡ q → Told f p u → Told g q u
      told_as e d t = rw (← e, ← d) t
