-- What the words of a left side's code are at each node, and what is left of them behind it. Laws are in the code's form: places of a whole
-- table and tests of the first word.
use mathlib.Core.Path.{◌≡◌, refl, sym, ap, ◌∙◌}
use Prim.Native.Nat.{ℕ, zero, suc, ◌+◌, ◌-◌, ◌*◌, ◌/◌, ◌%◌, ◌≤◌, ◌<◌}
use native.Mathlib.Nat.{sub-zero}
use native.Mathlib.Numerals.{add-one}
use native.Mathlib.Omega.{arith}
use mathlib.Core.Bool.{Bool, true, false, not}
use mathlib.Core.Option.{Option}
use mathlib.Core.List.{List, [], ◌∷◌, ◌++◌}
use lib.Dec.{ltb}
use lib.ListN.{length, take, drop, get_or, length-drop, drop_of_length-le, get_or-append}
use lib.Seq.{drop-cons, drop-drop, sets, get_or_at, get_or-drop, length-take-le}
use borrow.Author.Tests.{lt-ltb, le-ltb, ltb-true, ltb-false}
use Rattle.documents.specs.Lists.{keep, member, up_to, pairlists}
use Rattle.documents.specs.Terms.{Var, Sym, Meta, Abst, Nil, Cons, Term, Terms, len}
use Rattle.documents.specs.Tables.{nodes}
use Rattle.documents.specs.Rules.{are_vars, freevars}
use Rattle.documents.specs.Instructions.{End, ◌▸◌, Program, words, pair_words}
use Rattle.documents.specs.Translation.{Row, Located, lookup, unvar, ◌⧺◌, bvset, lhs_meta, sets_less, sets_after, lhs}
use Rattle.documents.proofs.Translation.{⧺-assoc}
use Rattle.documents.proofs.Lists.{never}
use Rattle.kahrs.proofs.Simple.{len_vars, unvar_vars, Simple}
use Rattle.compiled.proofs.Unlisted.{unlisted, unlisted_others, length_up_to}
use Rattle.tables.specs.Parts.{terms, front, Begins, word_count}
use Rattle.tables.proofs.Parts.{join, Step, step, begins_less, passed, words_fit, in_table, no_terms, front_term}
use Rattle.tables.specs.declared.walk.Node.{Node}
use Rattle.tables.specs.declared.walk.Nodes.{Nodes}
use Rattle.tables.specs.Nodes.{Stands, starts, part_at, node_gives, goes_past}
use Rattle.tables.proofs.Nodes.{word_there, count_there, part_there, whole_on, owed_on, arguments_pass, whole_past, at_past, owed_past}
use Rattle.tables.proofs.Walks.{at_variable, at_abstraction, Walk, walk_from, walk_variable, ended, Walking, walking_from, walking_on, walking_term, walking_ended}
use Rattle.tables.proofs.Sides.{is_variable, variables_behind}
use Rattle.tables.proofs.Fronts.{root_words, below_abstraction, root, arguments_begin, argument_count, front_metavariable, front_abstraction}
use Rattle.std.specs.Prelude.{Some, None}
use Rattle.symbols.specs.Rows.{rows_in, found_in}
use Rattle.symbols.proofs.Entering.{are_vars_vars, simple_join, nodes_vars}
use Rattle.symbols.proofs.Located.{is_nothing, Entry, entry}
use Rattle.generator.specs.declared.left.Matched.{Matched}
use Rattle.generator.specs.Written.{Fits, Wrote}
use Rattle.generator.specs.Matching.{left_code, plain_code, Variables, First, first_code, Later, later_code, Metavariable, Asked, Done, behind_node}
use Rattle.generator.proofs.Written.{words-⧺, Writing, writing_from, writing_on, writing_ended, writing_last, writing_as, fits_first, take_left}

-- ---- Variables

-- so many variables are left from a place on
pub record Left (part : List ℕ) (at n : ℕ) : Type 0 where
  pub walk : Walk part at n
  pub variables : are_vars (terms n (drop at part)) ≡ true

pub left_from : {n : ℕ} {part : List ℕ} → Variables n part → Left part 0 n
left_from v = record { walk = walk_from v.begins; variables = v.variables }

module _ {part : List ℕ} {at n : ℕ} (l : Left part at n) (h : 0 < n) where
  pub left_on : Left part (at + 2) (n - 1)
  left_on =
      let v = is_variable l.walk h l.variables in
      record { walk = walk_variable l.walk h v; variables = sym (variables_behind l.walk h v) ∙ l.variables }

  pub unvar_here : unvar (terms n (drop at part)) ≡ get_or part at 0 ∷ unvar (terms (n - 1) (drop (at + 2) part))
  unvar_here = ap unvar (at_variable part at n l.walk.begins h (is_variable l.walk h l.variables)).terms_are

-- ---- Old arguments paired with new ones

pub record Pairing (old new code₀ : List ℕ) (at : ℕ) (all : List ℕ) (left i read place : ℕ) (code : List ℕ) : Type 0 where
  pub variables : Left new read left
  pub olds : i + left ≤ length old
  pub writing : Writing code₀ at all code place (pair_words (pairlists (take left (drop i old)) (unvar (terms left (drop read new)))))

pub pairing_from : {n : ℕ} {old new code : List ℕ} {at : ℕ} → Variables n new → n ≤ length old → Fits code at (pair_words (pairlists (take n old) (unvar (terms n new))))
    → Pairing old new code at (pair_words (pairlists (take n old) (unvar (terms n new)))) n 0 0 at code
pairing_from v h f = record { variables = left_from v; olds = omega arith; writing = writing_from f }

module _ {old new code₀ all code : List ℕ} {at left i read place : ℕ} (p : Pairing old new code₀ at all left i read place code) (h : 0 < left) where
  pairs_here : Writing code₀ at all code place ((get_or old i 0 ∷ get_or new read 0 ∷ []) ++ pair_words (pairlists (take (left - 1) (drop (i + 1) old)) (unvar (terms (left - 1) (drop (read + 2) new)))))
  pairs_here = let o = p.olds in writing_as _ (rw (take_left left old i h (omega arith), unvar_here p.variables h)) p.writing

  pub pairing_fits : Fits code place (get_or old i 0 ∷ get_or new read 0 ∷ [])
  pairing_fits = fits_first (get_or old i 0 ∷ get_or new read 0 ∷ []) _ pairs_here.fits

  pub pairing_on : {newer : List ℕ} {next : ℕ} → Wrote code newer place next (get_or old i 0 ∷ get_or new read 0 ∷ []) → Pairing old new code₀ at all (left - 1) (i + 1) (read + 2) next newer
  pairing_on o = record {
    variables = left_on p.variables h;
    olds = let q = p.olds in omega arith;
    writing = writing_on (get_or old i 0 ∷ get_or new read 0 ∷ []) _ pairs_here o;
  }

pub pairing_ended : {old new code₀ all code : List ℕ} {at left i read place : ℕ} → Pairing old new code₀ at all left i read place code → left ≤ 0 → Wrote code₀ code at place all
pairing_ended {left = zero} p h = writing_ended p.writing
pairing_ended {left = suc n} p h = absurd (omega arith)

-- ---- The indices that are not among the arguments

get_d_up_to : (n i : ℕ) → i < n → get_or (up_to n) i 0 ≡ i
get_d_up_to zero i h = absurd (omega arith)
get_d_up_to (suc n) i h = go (ltb i n) refl (get_d_up_to n i)
  where
    go : (q : Bool) → ltb i n ≡ q → (i < n → get_or (up_to n) i 0 ≡ i) → get_or (up_to n ++ (n ∷ [])) i 0 ≡ i
    go true e ih =
        let k = ltb-true i n e in
        let l = length_up_to n in
        get_or-append (up_to n) (n ∷ []) 0 i (omega arith) ∙ ih k
    go false e ih =
        let k = ltb-false i n e in
        let l = length_up_to n in
        get_or_at (up_to n) n [] 0 i (omega arith) ∙ omega arith

pub from_index : (n i : ℕ) → i < n → drop i (up_to n) ≡ i ∷ drop (i + 1) (up_to n)
from_index n i h = let l = length_up_to n in let k : i < length (up_to n) = omega arith in rw (drop-cons (up_to n) i 0, get_d_up_to n i h, add-one i)

pub no_index : (n i : ℕ) → n ≤ i → drop i (up_to n) ≡ []
no_index n i h = let l = length_up_to n in drop_of_length-le (up_to n) {i = i} (omega arith)

freevars_unvar : (ts : Terms) → are_vars ts ≡ true → freevars ts ≡ unvar ts
freevars_unvar Nil e = refl
freevars_unvar (Cons (Var x) ts) e = rw (le-ltb x 0 (omega arith), sub-zero x, freevars_unvar ts e)
freevars_unvar (Cons (Sym s us) ts) e = never (cc)
freevars_unvar (Cons (Meta z us) ts) e = never (cc)
freevars_unvar (Cons (Abst t) ts) e = never (cc)

-- the indices from one on are still to be looked at
pub record Listing (arguments code₀ : List ℕ) (count under at index place : ℕ) (code : List ℕ) : Type 0 where
  pub variables : Variables count arguments
  pub within : index ≤ under
  pub writing : Writing code₀ at (bvset under (terms count arguments)) code place (keep (λ i. not (member (unvar (terms count arguments)) i)) (drop index (up_to under)))

pub listing_from : {count under at : ℕ} {arguments code : List ℕ} → Variables count arguments → Fits code at (bvset under (terms count arguments))
    → Listing arguments code count under at 0 at code
listing_from v f = record { variables = v; within = omega arith; writing = writing_from f }

module _ {arguments code₀ code : List ℕ} {count under at index place : ℕ} (l : Listing arguments code₀ count under at index place code) (h : index < under) where
  listed : member (freevars (terms count arguments)) index ≡ member (unvar (terms count arguments)) index
  listed = ap (λ (is : List ℕ). member is index) (freevars_unvar (terms count arguments) l.variables.variables)

  -- an argument
  pub listing_over : true ≡ member (freevars (terms count arguments)) index → Listing arguments code₀ count under at (index + 1) place code
  listing_over e = record {
    variables = l.variables;
    within = omega arith;
    writing = writing_as _ (rw (from_index under index h, sym listed ∙ sym e)) l.writing;
  }

  others_here : false ≡ member (freevars (terms count arguments)) index
      → Writing code₀ at (bvset under (terms count arguments)) code place ((index ∷ []) ++ keep (λ i. not (member (unvar (terms count arguments)) i)) (drop (index + 1) (up_to under)))
  others_here e = writing_as _ (rw (from_index under index h, sym listed ∙ sym e)) l.writing

  -- another index
  pub listing_fits : false ≡ member (freevars (terms count arguments)) index → Fits code place (index ∷ [])
  listing_fits e = fits_first (index ∷ []) _ (others_here e).fits

  pub listing_on : false ≡ member (freevars (terms count arguments)) index → {newer : List ℕ} {next : ℕ} → Wrote code newer place next (index ∷ [])
      → Listing arguments code₀ count under at (index + 1) next newer
  listing_on e o = record { variables = l.variables; within = omega arith; writing = writing_on (index ∷ []) _ (others_here e) o }

pub listing_ended : {arguments code₀ code : List ℕ} {count under at index place : ℕ} → Listing arguments code₀ count under at index place code → under ≤ index
    → Wrote code₀ code at place (bvset under (terms count arguments))
listing_ended {arguments} {count = count} {under} {index = index} l h =
    writing_ended (writing_as [] (ap (keep (λ i. not (member (unvar (terms count arguments)) i))) (no_index under index h)) l.writing)

-- ---- A first occurrence: CHECK, SET, NEXT

module _ {arguments code : List ℕ} {count under at : ℕ} (o : First arguments count under) (f : Fits code at (first_code arguments count under)) where
  first_begun : Writing code at (first_code arguments count under) code at ((3 ∷ (under - count) ∷ []) ++ (bvset under (terms count arguments) ++ (4 ∷ 2 ∷ [])))
  first_begun =
      let e : under - count ≡ length (bvset under (terms count arguments)) = let h = o.others in omega arith in
      writing_as _ (rw e refl) (writing_from f)

  pub first_check : Fits code at (3 ∷ (under - count) ∷ [])
  first_check = fits_first (3 ∷ (under - count) ∷ []) _ first_begun.fits

  module _ {new : List ℕ} {place : ℕ} (w : Wrote code new at place (3 ∷ (under - count) ∷ [])) where
    first_on : Writing code at (first_code arguments count under) new place (bvset under (terms count arguments) ++ (4 ∷ 2 ∷ []))
    first_on = writing_on (3 ∷ (under - count) ∷ []) _ first_begun w

    pub first_list : Fits new place (bvset under (terms count arguments))
    first_list = fits_first (bvset under (terms count arguments)) _ first_on.fits

    module _ {newer : List ℕ} {next : ℕ} (v : Wrote new newer place next (bvset under (terms count arguments))) where
      first_set : Writing code at (first_code arguments count under) newer next (4 ∷ 2 ∷ [])
      first_set = writing_on (bvset under (terms count arguments)) _ first_on v

      pub first_ends : Fits newer next (4 ∷ 2 ∷ [])
      first_ends = first_set.fits

      pub first_written : {last : List ℕ} {end : ℕ} → Wrote newer last next end (4 ∷ 2 ∷ []) → Wrote code last at end (first_code arguments count under)
      first_written u = writing_last first_set u

-- ---- A later occurrence: EQI, NEXT

length_pairs : (l m : List ℕ) → length l ≡ length m → length (pairlists l m) ≡ length l
length_pairs [] m e = refl
length_pairs (x ∷ l) [] e = absurd (omega arith)
length_pairs (x ∷ l) (y ∷ m) e = ap suc (length_pairs l m (omega arith))

length_left : (n : ℕ) (part : List ℕ) (at : ℕ) → Left part at n → length (unvar (terms n (drop at part))) ≡ n
length_left zero part at l = ap (λ (ts : Terms). length (unvar ts)) (no_terms (drop at part))
length_left (suc n) part at l =
    let e : suc n - 1 ≡ n = omega arith in
    let h : 0 < suc n = omega arith in
    ap length (unvar_here l h) ∙ rw e (ap suc (length_left n part (at + 2) (rw e at (left_on l h))))

pub length_variables : {n : ℕ} {part : List ℕ} → Variables n part → length (unvar (terms n part)) ≡ n
length_variables {n} {part} v = length_left n part 0 (left_from v)

module _ {row arguments code : List ℕ} {count under entry at : ℕ} (o : Later row arguments count under) (f : Fits code at (later_code row arguments count under entry)) where
  later_begun : Writing code at (later_code row arguments count under entry) code at ((7 ∷ entry ∷ (under + 64 - get_or row 2 0) ∷ count ∷ []) ++ (pair_words (pairlists (take count (drop 3 row)) (unvar (terms count arguments))) ++ (2 ∷ [])))
  later_begun =
      let v = length_variables o.variables in
      let h = o.narrow in
      let w = o.whole in
      let d = length-drop 3 row in
      let t : length (take count (drop 3 row)) ≡ count = length-take-le count (drop 3 row) (omega arith) in
      let e : length (pairlists (take count (drop 3 row)) (unvar (terms count arguments))) ≡ count = length_pairs (take count (drop 3 row)) (unvar (terms count arguments)) (t ∙ sym v) ∙ t in
      writing_as _ (rw e refl) (writing_from f)

  pub later_eqi : Fits code at (7 ∷ entry ∷ (under + 64 - get_or row 2 0) ∷ count ∷ [])
  later_eqi = fits_first (7 ∷ entry ∷ (under + 64 - get_or row 2 0) ∷ count ∷ []) _ later_begun.fits

  module _ {new : List ℕ} {place : ℕ} (w : Wrote code new at place (7 ∷ entry ∷ (under + 64 - get_or row 2 0) ∷ count ∷ [])) where
    later_on : Writing code at (later_code row arguments count under entry) new place (pair_words (pairlists (take count (drop 3 row)) (unvar (terms count arguments))) ++ (2 ∷ []))
    later_on = writing_on (7 ∷ entry ∷ (under + 64 - get_or row 2 0) ∷ count ∷ []) _ later_begun w

    pub later_pairs : Fits new place (pair_words (pairlists (take count (drop 3 row)) (unvar (terms count arguments))))
    later_pairs = fits_first (pair_words (pairlists (take count (drop 3 row)) (unvar (terms count arguments)))) _ later_on.fits

    module _ {newer : List ℕ} {next : ℕ} (v : Wrote new newer place next (pair_words (pairlists (take count (drop 3 row)) (unvar (terms count arguments))))) where
      later_next : Writing code at (later_code row arguments count under entry) newer next (2 ∷ [])
      later_next = writing_on (pair_words (pairlists (take count (drop 3 row)) (unvar (terms count arguments)))) _ later_on v

      pub later_ends : Fits newer next (2 ∷ [])
      later_ends = later_next.fits

      pub later_written : {last : List ℕ} {end : ℕ} → Wrote newer last next end (2 ∷ []) → Wrote code last at end (later_code row arguments count under entry)
      later_written u = writing_last later_next u

-- ---- A metavariable of a left side

-- a part that begins with a metavariable, under so many abstractions
pub record MetaAt (part : List ℕ) (under : ℕ) : Type 0 where
  pub term : front part ≡ Meta (get_or part 0 0 - 131072) (terms (get_or part 1 0) (drop 2 part))
  pub count : len (terms (get_or part 1 0) (drop 2 part)) ≡ get_or part 1 0
  pub narrow : get_or part 1 0 ≤ 8
  pub words_are : word_count (front part) ≡ 2 + 2 * get_or part 1 0
  pub within : 2 ≤ length part
  pub first : First (drop 2 part) (get_or part 1 0) under

pub meta_at : {part : List ℕ} {under : ℕ} → Begins 1 part → Metavariable part → Simple under (front part) → MetaAt part under
meta_at {part} {under} b i s =
    let t = front_metavariable b i.lowest i.highest in
    let v = rw t at s in
    let l = v.0 in
    let e = v.1 in
    let c = argument_count b in
    let k : length l ≡ get_or part 1 0 = sym (len_vars l) ∙ ap len (sym e) ∙ c in
    let w = in_table part 0 b (omega arith) in
    record {
      term = t;
      count = c;
      narrow = (root b).narrow;
      words_are =
          let x : nodes (front part) ≡ suc (length l) = ap (λ (u : Term). nodes u) t ∙ ap (λ (us : Terms). nodes (Meta 0 us)) e ∙ ap (λ (y : ℕ). suc y) (nodes_vars l) in
          omega arith;
      within = omega arith;
      first = record {
        variables = record { begins = arguments_begin b; variables = ap are_vars e ∙ are_vars_vars l };
        others =
            let u = unlisted_others under l v.2 v.3 in
            let q : length (bvset under (terms (get_or part 1 0) (drop 2 part))) ≡ length (unlisted under l) = ap (λ (is : List ℕ). length (unlisted under is)) (ap unvar e ∙ unvar_vars l) in
            omega arith;
      };
    }

-- ---- The three cases of a metavariable

-- what is looked up for the metavariable that a part begins with
abbrev pub sought : List ℕ → List ℕ → Option Located
sought part rows = lookup (get_or part 0 0 - 131072) (get_or part 1 0) (rows_in rows)

module _ {part rows code : List ℕ} {under sets at : ℕ} (a : Asked part rows code under sets at) (i : Metavariable part) where
  pub here : MetaAt part under
  here = meta_at a.begins i a.simple

  code_is : left_code rows under sets (front part) ≡ words (lhs_meta under sets (terms (get_or part 1 0) (drop 2 part)) (sought part rows))
  code_is = rw (here.term, here.count)

  sets_are : sets_after (rows_in rows) sets (front part) ≡ sets_less sets (sought part rows)
  sets_are = rw (here.term, here.count)

  -- the table does not have it
  pub left_none : None ≡ found_in (sought part rows) → Done part rows code code under sets at (record { read = 2 + 2 * get_or part 1 0; sets = sets; next = at })
  left_none e =
      let n = is_nothing (sought part rows) e in
      record {
        read = sym here.words_are;
        sets_left = sym (sets_are ∙ ap (sets_less sets) n);
        wrote = rw (code_is, n) (record { code = refl; place = omega arith });
      }

  module _ {l : ℕ} (e : Some l ≡ found_in (sought part rows)) where
    pub its_row : Entry rows (get_or part 0 0 - 131072) (get_or part 1 0) l
    its_row = entry rows (get_or part 0 0 - 131072) (get_or part 1 0) l a.low e

    -- its first occurrence
    module _ (h : l < sets) where
      first_is : left_code rows under sets (front part) ≡ first_code (drop 2 part) (get_or part 1 0) under
      first_is = rw (code_is, its_row.found, lt-ltb l sets h)

      pub left_first_fits : First (drop 2 part) (get_or part 1 0) under × Fits code at (first_code (drop 2 part) (get_or part 1 0) under)
      left_first_fits = (here.first, rw first_is at a.fits)

      pub left_first : {new : List ℕ} {next : ℕ} → Wrote code new at next (first_code (drop 2 part) (get_or part 1 0) under)
          → Done part rows code new under sets at (record { read = 2 + 2 * get_or part 1 0; sets = sets - 1; next = next })
      left_first w = record {
        read = sym here.words_are;
        sets_left = sym (sets_are ∙ rw (its_row.found, lt-ltb l sets h));
        wrote = rw first_is w;
      }

    -- a later one
    module _ (h : sets ≤ l) where
      later_is : left_code rows under sets (front part) ≡ later_code (drop (11 * l) rows) (drop 2 part) (get_or part 1 0) under (l - sets)
      later_is = rw (code_is, its_row.found, le-ltb l sets h, get_or-drop (11 * l) rows 2 0, drop-drop 3 (11 * l) rows)

      pub left_later_fits : Later (drop (11 * l) rows) (drop 2 part) (get_or part 1 0) under
          × Fits code at (later_code (drop (11 * l) rows) (drop 2 part) (get_or part 1 0) under (l - sets))
      left_later_fits =
          let d = length-drop (11 * l) rows in
          let w = its_row.within in (
            record {
              variables = here.first.variables;
              whole = omega arith;
              narrow = here.narrow;
              low = rw (get_or-drop (11 * l) rows 2 0) its_row.low;
              shallow = a.shallow;
            },
            rw later_is at a.fits,
          )

      pub left_later : {new : List ℕ} {next : ℕ} → Wrote code new at next (later_code (drop (11 * l) rows) (drop 2 part) (get_or part 1 0) under (l - sets))
          → Done part rows code new under sets at (record { read = 2 + 2 * get_or part 1 0; sets = sets; next = next })
      left_later w = record {
        read = sym here.words_are;
        sets_left = sym (sets_are ∙ rw (its_row.found, le-ltb l sets h));
        wrote = rw later_is w;
      }

-- ---- Node by node

⧺-end : (c : Program) → c ⧺ End ≡ c
⧺-end End = refl
⧺-end (i ▸ c) = ap (λ (d : Program). i ▸ d) (⧺-end c)

sets_after_join : (tab : List Row) (sets : ℕ) (ts us : Terms) → sets_after tab sets (join ts us) ≡ sets_after tab (sets_after tab sets ts) us
sets_after_join tab sets Nil us = refl
sets_after_join tab sets (Cons t ts) us = sets_after_join tab (sets_after tab sets t) ts us

lhs_join : (tab : List Row) (n sets : ℕ) (ts us : Terms) → lhs tab n sets (join ts us) ≡ lhs tab n sets ts ⧺ lhs tab n (sets_after tab sets ts) us
lhs_join tab n sets Nil us = refl
lhs_join tab n sets (Cons t ts) us =
    ap (λ (c : Program). lhs tab n sets t ⧺ c) (lhs_join tab n (sets_after tab sets t) ts us)
    ∙ sym (⧺-assoc (lhs tab n sets t) (lhs tab n (sets_after tab sets t) ts) (lhs tab n (sets_after tab (sets_after tab sets t) ts) us))

-- a variable's or a symbol's node: its own words, and what stands behind it
pub record Plain (tab : List Row) (n sets w c : ℕ) (ts us : Terms) : Type 0 where
  pub code_are : words (lhs tab n sets ts) ≡ plain_code w c ++ words (lhs tab n sets us)
  pub sets_are : sets_after tab sets ts ≡ sets_after tab sets us
  pub simple_behind : Simple n ts → Simple n us

plain_step : {k s c w : ℕ} {ts us : Terms} (tab : List Row) (n sets : ℕ) → Step k s c ts us → w / 65536 ≡ k → w % 65536 ≡ s → w < 131072 → Plain tab n sets w c ts us
plain_step {k = zero} {s} {c} {w} {ts} {us} tab n sets p e f h =
    let q : s ≡ w = omega arith in
    let i : us ≡ p.later = p.inside ∙ ap (λ (x : Terms). join x p.later) p.shape in
    let t : ts ≡ Cons (Var w) us = p.node ∙ rw (q, i) refl in
    let x = lt-ltb w 65536 (omega arith) in
    rw t (record { code_are = rw x; sets_are = refl; simple_behind = λ y. y.1 })
plain_step {k = suc zero} {s} {c} {w} {ts} {us} tab n sets p e f h =
    let q : s ≡ w - 65536 = omega arith in
    let x = le-ltb w 65536 (omega arith) in
    let l = p.arguments in
    let m = p.later in
    rw (p.node, p.inside)
    (record {
      code_are = rw (x, q, p.count) (ap (λ (ws : List ℕ). 0 ∷ (w - 65536) ∷ c ∷ ws) (sym (ap words (lhs_join tab n sets l m))));
      sets_are = sym (sets_after_join tab sets l m);
      simple_behind = λ y. simple_join n l m y.0 y.1;
    })
plain_step {k = suc (suc k)} tab n sets p e f h = absurd (omega arith)

-- terms of a left side still to be translated, and their words still to be written
pub record Translating (part rows old : List ℕ) (under sets₀ at owed read sets place : ℕ) (new : List ℕ) : Type 0 where
  pub walking : Walking part owed read
  pub simple : Simple under (terms owed (drop read part))
  pub coming : sets_after (rows_in rows) sets (terms owed (drop read part)) ≡ sets_after (rows_in rows) sets₀ (front part)
  pub writing : Writing old at (left_code rows under sets₀ (front part)) new place (words (lhs (rows_in rows) under sets (terms owed (drop read part))))

pub translating_from : {part rows code : List ℕ} {under sets at : ℕ} → Asked part rows code under sets at → Translating part rows code under sets at 1 0 sets at code
translating_from {part} {rows} {code} {under} {sets} {at} a =
    let f = front_term part a.begins in
    record {
      walking = walking_from a.begins;
      simple = rw f (a.simple, tt);
      coming = rw f;
      writing = writing_as _ (sym (ap (λ (ts : Terms). words (lhs (rows_in rows) under sets ts)) f ∙ ap words (⧺-end (lhs (rows_in rows) under sets (front part))))) (writing_from a.fits);
    }

pub translating_ended : {part rows old new : List ℕ} {under sets₀ at owed read sets place : ℕ} → Translating part rows old under sets₀ at owed read sets place new → owed ≤ 0
    → Done part rows old new under sets₀ at (record { read = read; sets = sets; next = place })
translating_ended {part} {rows} {under = under} {owed = owed} {read} {sets} t h =
    let e = ended t.walking.walk h in
    record {
      read = walking_ended t.walking h;
      sets_left = rw e at t.coming;
      wrote = writing_ended (writing_as _ (ap (λ (ts : Terms). words (lhs (rows_in rows) under sets ts)) e) t.writing);
    }

module _ {part rows old new : List ℕ} {under sets₀ at owed read sets place : ℕ} (t : Translating part rows old under sets₀ at owed read sets place new) (h : 0 < owed) where
  -- a variable or a symbol
  module _ (v : get_or part read 0 < 131072) where
    plain_at : Plain (rows_in rows) under sets (get_or part read 0) (get_or part (read + 1) 0) (terms owed (drop read part)) (terms (owed - 1 + get_or part (read + 1) 0) (drop (read + 2) part))
    plain_at = plain_step (rows_in rows) under sets (step part read owed t.walking.walk.begins h) refl refl v

    plain_here : Writing old at (left_code rows under sets₀ (front part)) new place
        (plain_code (get_or part read 0) (get_or part (read + 1) 0) ++ words (lhs (rows_in rows) under sets (terms (owed - 1 + get_or part (read + 1) 0) (drop (read + 2) part))))
    plain_here = writing_as _ plain_at.code_are t.writing

    pub plain_fits : Fits new place (plain_code (get_or part read 0) (get_or part (read + 1) 0))
    plain_fits = fits_first (plain_code (get_or part read 0) (get_or part (read + 1) 0)) _ plain_here.fits

    pub plain_on : {newer : List ℕ} {next : ℕ} → Wrote new newer place next (plain_code (get_or part read 0) (get_or part (read + 1) 0))
        → Translating part rows old under sets₀ at (owed - 1 + get_or part (read + 1) 0) (read + 2) sets next newer
    plain_on w = record {
      walking = walking_on t.walking h;
      simple = plain_at.simple_behind t.simple;
      coming = sym plain_at.sets_are ∙ t.coming;
      writing = writing_on (plain_code (get_or part read 0) (get_or part (read + 1) 0)) _ plain_here w;
    }

  -- a term that is handed on
  term_is : terms owed (drop read part) ≡ Cons (front (drop read part)) (terms (owed - 1) (drop (read + word_count (front (drop read part))) part))
  term_is =
      (passed owed (drop read part) t.walking.walk.begins h).terms_are
      ∙ ap (λ (l : List ℕ). Cons (front (drop read part)) (terms (owed - 1) l)) (drop-drop (word_count (front (drop read part))) read part)

  term_here : Writing old at (left_code rows under sets₀ (front part)) new place
      (left_code rows under sets (front (drop read part))
      ++ words (lhs (rows_in rows) under (sets_after (rows_in rows) sets (front (drop read part))) (terms (owed - 1) (drop (read + word_count (front (drop read part))) part))))
  term_here =
      writing_as _
      (ap (λ (us : Terms). words (lhs (rows_in rows) under sets us)) term_is
      ∙ words-⧺ (lhs (rows_in rows) under sets (front (drop read part))) (lhs (rows_in rows) under (sets_after (rows_in rows) sets (front (drop read part))) (terms (owed - 1) (drop (read + word_count (front (drop read part))) part))))
      t.writing

  pub term_asked : Asked part rows old under sets₀ at → Asked (drop read part) rows new under sets place
  term_asked a = record {
    begins = begins_less 1 (omega arith) t.walking.walk.begins;
    simple = (rw term_is at t.simple).0;
    shallow = a.shallow;
    low = a.low;
    few = a.few;
    fits = fits_first (left_code rows under sets (front (drop read part))) _ term_here.fits;
  }

  module _ {newer : List ℕ} {r : Matched} (d : Done (drop read part) rows new newer under sets place r) where
    pub term_on : Translating part rows old under sets₀ at (owed - 1) (read + r.read) r.sets r.next newer
    term_on =
        rw (d.read, d.sets_left)
        (record {
          walking = walking_term t.walking h;
          simple = (rw term_is at t.simple).1;
          coming = sym (ap (sets_after (rows_in rows) sets) term_is) ∙ t.coming;
          writing = writing_on (left_code rows under sets (front (drop read part))) _ term_here d.wrote;
        })

    -- it is passed over
    pub term_read : read < read + r.read
    term_read =
        let b = begins_less 1 (omega arith) t.walking.walk.begins in
        let w = words_fit 1 (drop read part) b in
        let e : nodes (terms 1 (drop read part)) ≡ nodes (front (drop read part)) + 0 = ap (λ (x : Terms). nodes x) (front_term (drop read part) b) in
        let q = d.read in
        omega arith

-- ---- The terms still to be translated, node by node

-- where the walk stands in the part
pub record AtNode (part rows old : List ℕ) (under sets₀ at : ℕ) (s : Nodes) (sets place : ℕ) (new : List ℕ) : Type 0 where
  pub whole : s.part.now ≡ part
  pub translating : Translating part rows old under sets₀ at s.owed s.at sets place new

pub first_node : {part rows code : List ℕ} {under sets at : ℕ} (s : Nodes) → Asked part rows code under sets at → starts part s
    → AtNode part rows code under sets at s sets at code
first_node s a h = record { whole = h.0; translating = rw (h.1, h.2) (translating_from a) }

pub no_node : {part rows old new : List ℕ} {under sets₀ at sets place : ℕ} (s t : Nodes) → AtNode part rows old under sets₀ at s sets place new → node_gives s None t
    → Done part rows old new under sets₀ at (record { read = t.at; sets = sets; next = place })
no_node s t e g = rw g.1.1 (translating_ended e.translating (omega arith))

-- it goes on from there
pub node_stands : {part rows old new : List ℕ} {under sets₀ at sets place : ℕ} (s : Nodes) → AtNode part rows old under sets₀ at s sets place new → Stands s
node_stands s e = let w = e.translating.walking.walk in rw e.whole (w.begins, let r = w.within in omega arith)

module _ {part rows old new : List ℕ} {under sets₀ at sets place : ℕ} (s t : Nodes) (n : Node)
    (e : AtNode part rows old under sets₀ at s sets place new) (g : node_gives s (Some n) t) where
  abbrev stands : Walk part s.at s.owed
  stands = e.translating.walking.walk

  -- a variable or a symbol
  module _ (v : n.word < 131072) where
    below : get_or part s.at 0 < 131072
    below = rw (word_there s t n e.whole stands g) at v

    pub node_fits : Fits new place (plain_code n.word n.count)
    node_fits = rw (word_there s t n e.whole stands g, count_there s t n e.whole stands g) (plain_fits e.translating g.1.0 below)

    pub plain_node : {newer : List ℕ} {next : ℕ} → Wrote new newer place next (plain_code n.word n.count) → AtNode part rows old under sets₀ at t sets next newer
    plain_node w = record {
      whole = whole_on s t n e.whole stands g;
      translating =
          rw (owed_on s t n e.whole stands g, g.1.4)
          (plain_on e.translating g.1.0 below (rw (word_there s t n e.whole stands g, count_there s t n e.whole stands g) at w));
    }

  -- its arguments are shorter than the part by its own words
  pub node_falls : length n.behind.now + 2 ≤ length part
  node_falls =
      let w = stands.within in
      let h = g.1.0 in
      let d : length n.behind.now ≡ length part - (s.at + 2) = rw (g.1.3, e.whole) (length-drop (s.at + 2) part) in
      omega arith

  pub node_asked : Asked part rows old under sets₀ at → Asked (part_at n) rows new under sets place
  node_asked a = rw (part_there s t n e.whole stands g) (term_asked e.translating g.1.0 a)

  module _ {newer : List ℕ} (r : Matched) (d : Done (part_at n) rows new newer under sets place (behind_node r)) where
    past : Translating part rows old under sets₀ at (s.owed - 1) (s.at + (2 + r.read)) r.sets r.next newer
    past = term_on e.translating g.1.0 (rw (part_there s t n e.whole stands g) at d)

    pub node_passes : (n.count ≤ t.owed) × (t.at + r.read ≤ length t.part.now)
    node_passes = arguments_pass s t n e.whole stands g r.read (let w = past.walking.walk.within in omega arith)

    pub node_done : (u : Nodes) → goes_past t n.count r.read u → AtNode part rows old under sets₀ at u r.sets r.next newer
    node_done u p = record {
      whole = whole_past s t n e.whole stands g r.read u p;
      translating = rw (owed_past s t n e.whole stands g r.read u p, at_past s t n e.whole stands g r.read u p) past;
    }

-- ---- An abstraction or a metavariable

pub is_metavariable : {part : List ℕ} → Begins 1 part → 131072 ≤ get_or part 0 0 → (get_or part 0 0 ≡ 196608 → ⊥) → Metavariable part
is_metavariable b lo ne = record { lowest = lo; highest = below_abstraction b ne }

module _ {part rows code : List ℕ} {under sets at : ℕ} (a : Asked part rows code under sets at) where
  module _ (v : get_or part 0 0 ≡ 196608) where
    body_is : front part ≡ Abst (front (drop 2 part))
    body_is = front_abstraction a.begins v

    pub body_low : under < 63
    body_low = (rw body_is at a.simple).0

    abst_here : Writing code at (left_code rows under sets (front part)) code at ((1 ∷ []) ++ left_code rows (suc under) sets (front (drop 2 part)))
    abst_here = writing_as _ (ap (left_code rows under sets) body_is) (writing_from a.fits)

    pub abst_fits : Fits code at (1 ∷ [])
    abst_fits = fits_first (1 ∷ []) _ abst_here.fits

    module _ {new : List ℕ} {inside : ℕ} (w : Wrote code new at inside (1 ∷ [])) where
      body_here : Writing code at (left_code rows under sets (front part)) new inside (left_code rows (suc under) sets (front (drop 2 part)))
      body_here = writing_on (1 ∷ []) _ abst_here w

      pub body_asked : Asked (drop 2 part) rows new (under + 1) sets inside
      body_asked =
          let k = body_low in
          rw (add-one under)
          (record {
            begins = (at_abstraction part 0 1 a.begins (omega arith) v).body;
            simple = (rw body_is at a.simple).1;
            shallow = omega arith;
            low = a.low;
            few = a.few;
            fits = body_here.fits;
          })

      pub body_done : {newer : List ℕ} {r : Matched} → Done (drop 2 part) rows new newer (under + 1) sets inside r
          → Done part rows code newer under sets at (record { read = 2 + r.read; sets = r.sets; next = r.next })
      body_done {newer} {r} d = record {
        read = let q = d.read in let e = ap (λ (t : Term). nodes t) body_is in omega arith;
        sets_left = d.sets_left ∙ sym (ap (sets_after (rows_in rows) sets) body_is);
        wrote = writing_last body_here (rw (add-one under) at d.wrote);
      }

      -- its words are within the part
      pub body_read : {newer : List ℕ} {r : Matched} → Done (drop 2 part) rows new newer (under + 1) sets inside r → 2 + r.read ≤ length part
      body_read d =
          let b = (at_abstraction part 0 1 a.begins (omega arith) v).body in
          let f = (words_fit 1 (drop 2 part) b).1 in
          let n : nodes (terms 1 (drop 2 part)) ≡ nodes (front (drop 2 part)) + 0 = ap (λ (x : Terms). nodes x) (front_term (drop 2 part) b) in
          let l = length-drop 2 part in
          let w = root_words a.begins in
          let q = d.read in
          omega arith
