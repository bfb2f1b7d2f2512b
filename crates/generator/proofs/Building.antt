-- What the right side's functions write: a subterm's code by the kind of its node, and the codes of terms by the first of them and those behind it.
-- Laws are in the code's form: tests of a part's first word, and parts as the code hands them on.
use mathlib.Core.Path.{◌≡◌, refl, sym, ap, ◌∙◌}
use Prim.Native.Nat.{ℕ, suc, ◌+◌, ◌-◌, ◌*◌, ◌≤◌, ◌<◌}
use native.Mathlib.Numerals.{add-one, add-two}
use native.Mathlib.Omega.{arith}
use mathlib.Core.Option.{Option, none, some}
use mathlib.Core.List.{List, [], ◌∷◌, ◌++◌, append_assoc, append-nil}
use lib.ListN.{length, take, drop, get_or, set, length-drop, length-take}
use lib.Seq.{sets, length-sets, set_comm, drop-drop}
use Rattle.documents.specs.Terms.{Nil, Cons, Term, Terms}
use Rattle.documents.specs.Tables.{nodes}
use Rattle.documents.specs.Instructions.{CELL, ADBMAL, End, ◌▸◌, Program, words, body_count}
use Rattle.documents.specs.Translation.{Located, located, lookup, joined, keyed, rhs, rhs_meta}
use Rattle.documents.proofs.Lists.{never}
use Rattle.compiled.proofs.Length.{count_rhs}
use Rattle.tables.specs.Parts.{terms, front, Begins, word_count}
use Rattle.tables.proofs.Parts.{begins_less, Passed, passed, no_terms, front_term, words_fit, from, from_drop}
use Rattle.tables.proofs.Walks.{at_abstraction}
use Rattle.tables.proofs.Fronts.{root_words, root, arguments_begin, argument_count, front_variable, front_symbol, front_metavariable, front_abstraction}
use Rattle.symbols.specs.Rows.{rows_in, found_in}
use Rattle.std.specs.Prelude.{Some, None}
use Rattle.symbols.proofs.Located.{Entry, entry}
use Rattle.generator.specs.declared.right.Built.{Built}
use Rattle.generator.specs.Written.{Fits, Wrote}
use Rattle.generator.specs.Matching.{Metavariable}
use Rattle.generator.specs.Building.{right_code, right_codes, right_bodies, Ready, Builds}
use Rattle.generator.proofs.Written.{words-⧺, Writing, writing_from, writing_on, writing_last, writing_ended, writing_as, fits_first, take_left}

-- ---- The node that a part begins with

module _ {part : List ℕ} {under : ℕ} {rows : List ℕ} (g : Ready 1 part under rows) where
  -- what falls at a call on the part behind it, which a number tells from a call on the same part
  pub falls_inside : (j k : ℕ) {s : ℕ} → j ≤ 2 → 3 * length part + k ≡ s → 3 * length (from 2 part) + j < s
  falls_inside j k h e = let r = root_words g.begins in rw (from_drop 2 part, length-drop 2 part) (omega arith)

  -- the arguments are read with the same rows
  pub ready_arguments : Ready (get_or part 1 0) (from 2 part) under rows
  ready_arguments = record {
    begins = rw from_drop (arguments_begin g.begins);
    shallow = let s = g.shallow in rw (from_drop, length-drop) (omega arith);
    low = g.low;
    few = g.few;
  }

  -- and the body of an abstraction, with one more above it
  pub ready_body : get_or part 0 0 ≡ 196608 → Ready 1 (from 2 part) (under + 1) rows
  ready_body v = record {
    begins = rw from_drop (at_abstraction part 0 1 g.begins (omega arith) v).body;
    shallow = let s = g.shallow in let r = root_words g.begins in rw (from_drop, length-drop) (omega arith);
    low = g.low;
    few = g.few;
  }

  -- the words of the arguments, or of the body, are within the part
  pub arguments_within : {ws old new : List ℕ} {at : ℕ} {built : Built} → Builds (terms (get_or part 1 0) (from 2 part)) ws old new at built → 2 + built.read ≤ length part
  arguments_within r =
      let e = rw from_drop at r.read in
      let f = (words_fit (get_or part 1 0) (drop 2 part) (arguments_begin g.begins)).1 in
      let l = length-drop 2 part in
      let w = root_words g.begins in
      omega arith

  pub body_within : {ws old new : List ℕ} {at : ℕ} {built : Built} → get_or part 0 0 ≡ 196608 → Builds (front (from 2 part)) ws old new at built → 2 + built.read ≤ length part
  body_within v r =
      let e = rw from_drop at r.read in
      let b = (at_abstraction part 0 1 g.begins (omega arith) v).body in
      let n = ap (λ (ts : Terms). nodes ts) (front_term (drop 2 part) b) in
      let f = (words_fit 1 (drop 2 part) b).1 in
      let l = length-drop 2 part in
      let w = root_words g.begins in
      omega arith

-- ---- A variable

module _ {part : List ℕ} {under : ℕ} {rows : List ℕ} (g : Ready 1 part under rows) (v : get_or part 0 0 < 65536) where
  code_variable : right_code rows under (front part) ≡ 11 ∷ get_or part 0 0 ∷ []
  unfolding right_code
  code_variable = rw (front_variable g.begins v)

  pub fits_variable : {code : List ℕ} {at : ℕ} → Fits code at (right_code rows under (front part)) → Fits code at (11 ∷ get_or part 0 0 ∷ [])
  fits_variable f = rw code_variable at f

  pub builds_variable : {old new : List ℕ} {at next : ℕ} → Wrote old new at next (11 ∷ get_or part 0 0 ∷ [])
      → Builds (front part) (right_code rows under (front part)) old new at (record { read = 2; next = next })
  builds_variable o = record { read = rw (front_variable g.begins v); wrote = rw code_variable o }

-- ---- A symbol

words_joined : (cs : List Program) (d : Program) → words (joined cs d) ≡ words (joined cs End) ++ words d
words_joined [] d = refl
words_joined (c ∷ cs) d =
    words-⧺ c (joined cs d)
    ∙ rw (words_joined cs d, words-⧺ c (joined cs End)) (sym (append_assoc (words c) (words (joined cs End)) (words d)))

module _ {part : List ℕ} {under : ℕ} {rows : List ℕ} (g : Ready 1 part under rows) (lo : 65536 ≤ get_or part 0 0) (hi : get_or part 0 0 < 131072) where
  code_symbol : right_code rows under (front part) ≡ right_codes rows under (terms (get_or part 1 0) (from 2 part)) ++ (8 ∷ (get_or part 0 0 - 65536) ∷ get_or part 1 0 ∷ [])
  unfolding right_code right_codes
  code_symbol =
      rw (from_drop, front_symbol g.begins lo hi, argument_count g.begins)
      (words_joined (rhs (rows_in rows) under (terms (get_or part 1 0) (drop 2 part))) (CELL (get_or part 0 0 - 65536) (get_or part 1 0) ▸ End))

  pub fits_arguments : {code : List ℕ} {at : ℕ} → Fits code at (right_code rows under (front part)) → Fits code at (right_codes rows under (terms (get_or part 1 0) (from 2 part)))
  fits_arguments f = fits_first _ _ (rw code_symbol at f)

  module _ {old mid : List ℕ} {at : ℕ} {built : Built} (f : Fits old at (right_code rows under (front part)))
      (r : Builds (terms (get_or part 1 0) (from 2 part)) (right_codes rows under (terms (get_or part 1 0) (from 2 part))) old mid at built) where
    -- behind the arguments the cell is still to be written
    pub writing_cell : Writing old at (right_code rows under (front part)) mid built.next (8 ∷ (get_or part 0 0 - 65536) ∷ get_or part 1 0 ∷ [])
    writing_cell = writing_on _ _ (writing_as _ code_symbol (writing_from f)) r.wrote

    pub builds_symbol : {new : List ℕ} {next : ℕ} → Wrote mid new built.next next (8 ∷ (get_or part 0 0 - 65536) ∷ get_or part 1 0 ∷ [])
        → Builds (front part) (right_code rows under (front part)) old new at (record { read = 2 + built.read; next = next })
    builds_symbol o = record {
      read = let e = rw from_drop at r.read in rw (front_symbol g.begins lo hi) (omega arith);
      wrote = writing_last writing_cell o;
    }

-- ---- An abstraction

module _ {part : List ℕ} {under : ℕ} {rows : List ℕ} (g : Ready 1 part under rows) (v : get_or part 0 0 ≡ 196608) where
  code_abstraction : right_code rows under (front part) ≡ (9 ∷ []) ++ (right_code rows (under + 1) (front (from 2 part)) ++ (10 ∷ []))
  unfolding right_code
  code_abstraction =
      rw (from_drop, front_abstraction g.begins v, add-one under)
      (ap (λ (l : List ℕ). 9 ∷ l) (words-⧺ (rhs (rows_in rows) (suc under) (front (drop 2 part))) (ADBMAL ▸ End)))

  module _ {old : List ℕ} {at : ℕ} (f : Fits old at (right_code rows under (front part))) where
    writing_abstraction : Writing old at (right_code rows under (front part)) old at ((9 ∷ []) ++ (right_code rows (under + 1) (front (from 2 part)) ++ (10 ∷ [])))
    writing_abstraction = writing_as _ code_abstraction (writing_from f)

    pub fits_lambda : Fits old at (9 ∷ [])
    fits_lambda = fits_first _ _ writing_abstraction.fits

    module _ {opened : List ℕ} {inside : ℕ} (o : Wrote old opened at inside (9 ∷ [])) where
      writing_inside : Writing old at (right_code rows under (front part)) opened inside (right_code rows (under + 1) (front (from 2 part)) ++ (10 ∷ []))
      writing_inside = writing_on _ _ writing_abstraction o

      pub fits_inside : Fits opened inside (right_code rows (under + 1) (front (from 2 part)))
      fits_inside = fits_first _ _ writing_inside.fits

      module _ {mid : List ℕ} {built : Built} (r : Builds (front (from 2 part)) (right_code rows (under + 1) (front (from 2 part))) opened mid inside built) where
        pub writing_adbmal : Writing old at (right_code rows under (front part)) mid built.next (10 ∷ [])
        writing_adbmal = writing_on _ _ writing_inside r.wrote

        pub builds_abstraction : {new : List ℕ} {next : ℕ} → Wrote mid new built.next next (10 ∷ [])
            → Builds (front part) (right_code rows under (front part)) old new at (record { read = 2 + built.read; next = next })
        builds_abstraction p = record {
          read = let e = rw from_drop at r.read in rw (front_abstraction g.begins v) (omega arith);
          wrote = writing_last writing_adbmal p;
        }

-- ---- A metavariable

body_count_keyed : (ks : List ℕ) (cs : List Program) → length ks ≡ length cs → body_count (keyed ks cs) ≡ length cs
body_count_keyed [] [] e = refl
body_count_keyed [] (c ∷ cs) e = absurd (omega arith)
body_count_keyed (k ∷ ks) [] e = absurd (omega arith)
body_count_keyed (k ∷ ks) (c ∷ cs) e = ap suc (body_count_keyed ks cs (omega arith))

module _ {part : List ℕ} {under : ℕ} {rows : List ℕ} (g : Ready 1 part under rows) (m : Metavariable part) where
  abbrev Look : Option Located
  Look = lookup (get_or part 0 0 - 131072) (get_or part 1 0) (rows_in rows)

  code_metavariable : right_code rows under (front part) ≡ words (rhs_meta under (rhs (rows_in rows) under (terms (get_or part 1 0) (drop 2 part))) Look)
  unfolding right_code
  code_metavariable = rw (front_metavariable g.begins m.lowest m.highest, argument_count g.begins)

  -- one without a row has no code
  code_absent : None ≡ found_in Look → right_code rows under (front part) ≡ []
  code_absent e = code_metavariable ∙ go Look e
    where
      go : (o : Option Located) → None ≡ found_in o → words (rhs_meta under (rhs (rows_in rows) under (terms (get_or part 1 0) (drop 2 part))) o) ≡ []
      go none e = refl
      go (some (located l r)) e = never (cc)

  pub builds_absent : {code : List ℕ} {at read : ℕ} → None ≡ found_in Look → read ≡ word_count (front part)
      → Builds (front part) (right_code rows under (front part)) code code at (record { read = read; next = at })
  builds_absent e q = record { read = q; wrote = rw (code_absent e) (record { code = refl; place = omega arith }) }

  module _ {l : ℕ} (e : Some l ≡ found_in Look) where
    -- its row, and room for as many keys as it has arguments
    pub row_of : Entry rows (get_or part 0 0 - 131072) (get_or part 1 0) l
    row_of = entry rows (get_or part 0 0 - 131072) (get_or part 1 0) l g.low e

    pub keys_within : 11 * l + 3 + get_or part 1 0 ≤ length rows
    keys_within = let w = row_of.within in let n = (root g.begins).narrow in omega arith

    count_of_bodies : body_count (keyed (take (get_or part 1 0) (drop (11 * l + 3) rows)) (rhs (rows_in rows) under (terms (get_or part 1 0) (drop 2 part)))) ≡ get_or part 1 0
    count_of_bodies =
        let ks = take (get_or part 1 0) (drop (11 * l + 3) rows) in
        let cs = rhs (rows_in rows) under (terms (get_or part 1 0) (drop 2 part)) in
        let r : length cs ≡ get_or part 1 0 = count_rhs (rows_in rows) under (terms (get_or part 1 0) (drop 2 part)) ∙ argument_count g.begins in
        let k : length ks ≡ get_or part 1 0 = let w = keys_within in rw (length-take, length-drop) (omega arith) in
        body_count_keyed ks cs (k ∙ sym r) ∙ r

    code_found : right_code rows under (front part)
        ≡ (13 ∷ l ∷ (under + 64 - get_or rows (11 * l + 2) 0) ∷ get_or part 1 0 ∷ []) ++ right_bodies rows under (11 * l + 3) (get_or part 1 0) (terms (get_or part 1 0) (from 2 part))
    unfolding right_bodies
    code_found =
        code_metavariable
        ∙ rw (from_drop, row_of.found, count_of_bodies)
        (ap (λ (ws : List ℕ). 13 ∷ l ∷ (under + 64 - get_or rows (11 * l + 2) 0) ∷ get_or part 1 0 ∷ ws) (append-nil _))

    module _ {old : List ℕ} {at : ℕ} (f : Fits old at (right_code rows under (front part))) where
      writing_found : Writing old at (right_code rows under (front part)) old at
          ((13 ∷ l ∷ (under + 64 - get_or rows (11 * l + 2) 0) ∷ get_or part 1 0 ∷ []) ++ right_bodies rows under (11 * l + 3) (get_or part 1 0) (terms (get_or part 1 0) (from 2 part)))
      writing_found = writing_as _ code_found (writing_from f)

      pub fits_pushi : Fits old at (13 ∷ l ∷ (under + 64 - get_or rows (11 * l + 2) 0) ∷ get_or part 1 0 ∷ [])
      fits_pushi = fits_first _ _ writing_found.fits

      module _ {mid : List ℕ} {first : ℕ} (o : Wrote old mid at first (13 ∷ l ∷ (under + 64 - get_or rows (11 * l + 2) 0) ∷ get_or part 1 0 ∷ [])) where
        pub writing_bodies : Writing old at (right_code rows under (front part)) mid first (right_bodies rows under (11 * l + 3) (get_or part 1 0) (terms (get_or part 1 0) (from 2 part)))
        writing_bodies = writing_on _ _ writing_found o

        pub builds_metavariable : {new : List ℕ} {built : Built}
            → Builds (terms (get_or part 1 0) (from 2 part)) (right_bodies rows under (11 * l + 3) (get_or part 1 0) (terms (get_or part 1 0) (from 2 part))) mid new first built
            → Builds (front part) (right_code rows under (front part)) old new at (record { read = 2 + built.read; next = built.next })
        builds_metavariable r = record {
          read = let q = rw from_drop at r.read in rw (front_metavariable g.begins m.lowest m.highest) (omega arith);
          wrote = writing_last writing_bodies r.wrote;
        }

-- ---- Terms in a row: those that are left begin where the words of the others end

pub record Going (part : List ℕ) (count under : ℕ) (rows : List ℕ) (left read : ℕ) : Type 0 where
  pub ready : Ready count part under rows
  pub begins : Begins left (drop read part)
  -- with the words of the terms that are left all are whole
  pub ends : read + word_count (terms left (drop read part)) ≡ word_count (terms count part)
  pub room : word_count (terms count part) ≤ length part

pub going_from : {part : List ℕ} {count under : ℕ} {rows : List ℕ} → Ready count part under rows → Going part count under rows count 0
going_from {part} {count} g = record { ready = g; begins = g.begins; ends = omega arith; room = (words_fit count part g.begins).1 }

module _ {part : List ℕ} {count under : ℕ} {rows : List ℕ} {left read : ℕ} (w : Going part count under rows left read) (h : 0 < left) where
  first_left : Passed left (drop read part)
  first_left = passed left (drop read part) w.begins h

  terms_left : terms left (drop read part) ≡ Cons (front (from read part)) (terms (left - 1) (drop (read + word_count (front (from read part))) part))
  terms_left = rw (from_drop, ← (drop-drop (word_count (front (drop read part))) read part)) first_left.terms_are

  -- what falls at a call on the first that is left
  pub falls_along : {s : ℕ} → 3 * length part + 2 ≡ s → 3 * length (from read part) + 1 < s
  falls_along e = rw (from_drop read part, length-drop read part) (omega arith)

  pub ready_first : Ready 1 (from read part) under rows
  ready_first = record {
    begins = rw from_drop (begins_less 1 (omega arith) w.begins);
    shallow = let s = w.ready.shallow in rw (from_drop, length-drop) (omega arith);
    low = w.ready.low;
    few = w.ready.few;
  }

  -- past the first
  pub going_on : {ws old new : List ℕ} {at : ℕ} {built : Built} → Builds (front (from read part)) ws old new at built → Going part count under rows (left - 1) (read + built.read)
  going_on r = rw r.read (record {
    ready = w.ready;
    begins = rw (from_drop, ← (drop-drop (word_count (front (drop read part))) read part)) first_left.begins;
    ends =
        let e = ap (λ (ts : Terms). nodes ts) terms_left in
        let f = w.ends in
        omega arith;
    room = w.room;
  })

  -- whose words are within the part
  pub first_within : {ws old new : List ℕ} {at : ℕ} {built : Built} → Builds (front (from read part)) ws old new at built → read + built.read ≤ length part
  first_within r = let o = going_on r in let e = o.ends in let m = o.room in omega arith

none_left : {part : List ℕ} {count under : ℕ} {rows : List ℕ} {left read : ℕ} → Going part count under rows left read → left ≤ 0 → terms left (drop read part) ≡ Nil
none_left {part} {count} {under} {rows} {left} {read} w h = let z : left ≡ 0 = omega arith in rw z (no_terms (drop read part))

all_read : {part : List ℕ} {count under : ℕ} {rows : List ℕ} {left read : ℕ} → Going part count under rows left read → left ≤ 0 → read ≡ word_count (terms count part)
all_read w h = let f = rw (none_left w h) at w.ends in omega arith

-- ---- Their codes

codes_cons : (rows : List ℕ) (under : ℕ) (t : Term) (ts : Terms) → right_codes rows under (Cons t ts) ≡ right_code rows under t ++ right_codes rows under ts
unfolding right_code right_codes
codes_cons rows under t ts = words-⧺ (rhs (rows_in rows) under t) (joined (rhs (rows_in rows) under ts) End)

-- codes of all terms are asked for from `at` on in the old table; those of the terms that are left are still to be written
pub record Joining (part : List ℕ) (count under : ℕ) (rows old : List ℕ) (at : ℕ) (new : List ℕ) (left read place : ℕ) : Type 0 where
  pub going : Going part count under rows left read
  pub writing : Writing old at (right_codes rows under (terms count part)) new place (right_codes rows under (terms left (drop read part)))

pub joining_from : {part : List ℕ} {count under : ℕ} {rows old : List ℕ} {at : ℕ} → Ready count part under rows → Fits old at (right_codes rows under (terms count part))
    → Joining part count under rows old at old count 0 at
joining_from g f = record { going = going_from g; writing = writing_from f }

module _ {part : List ℕ} {count under : ℕ} {rows old : List ℕ} {at : ℕ} {new : List ℕ} {left read place : ℕ} (w : Joining part count under rows old at new left read place) where
  module _ (h : 0 < left) where
    writing_first : Writing old at (right_codes rows under (terms count part)) new place
        (right_code rows under (front (from read part)) ++ right_codes rows under (terms (left - 1) (drop (read + word_count (front (from read part))) part)))
    writing_first = writing_as _ (ap (right_codes rows under) (terms_left w.going h) ∙ codes_cons rows under _ _) w.writing

    pub fits_first_term : Fits new place (right_code rows under (front (from read part)))
    fits_first_term = fits_first _ _ writing_first.fits

    -- past the first
    pub joining_on : {newer : List ℕ} {built : Built} → Builds (front (from read part)) (right_code rows under (front (from read part))) new newer place built
        → Joining part count under rows old at newer (left - 1) (read + built.read) built.next
    joining_on r = record { going = going_on w.going h r; writing = rw r.read (writing_on _ _ writing_first r.wrote) }

  no_codes : left ≤ 0 → right_codes rows under (terms left (drop read part)) ≡ []
  unfolding right_codes
  no_codes h = rw (none_left w.going h)

  pub joining_ended : left ≤ 0 → Builds (terms count part) (right_codes rows under (terms count part)) old new at (record { read = read; next = place })
  joining_ended h = record { read = all_read w.going h; wrote = writing_ended (writing_as _ (no_codes h) w.writing) }

-- ---- Their bodies: each code behind its key and its length, which are written when the code is

set_sets : (d : List ℕ) (i j v : ℕ) (ws : List ℕ) → i < j → set (sets d j ws) i v ≡ sets (set d i v) j ws
set_sets d i j v [] h = refl
set_sets d i j v (w ∷ ws) h =
    set_sets (set d j w) i (suc j) v ws (omega arith) ∙ ap (λ (l : List ℕ). sets l (suc j) ws) (set_comm d j i w v (λ e. omega arith))

-- words that were written behind room for two, and the two
sets_behind : (d : List ℕ) (p a b : ℕ) (ws : List ℕ) → sets (sets d (p + 2) ws) p (a ∷ b ∷ []) ≡ sets d p (a ∷ b ∷ ws)
sets_behind d p a b ws =
    rw (add-two p) (ap (λ (l : List ℕ). set l (suc p) b) (set_sets d p (suc (suc p)) a ws (omega arith)) ∙ set_sets (set d p a) (suc p) (suc (suc p)) b ws (omega arith))

wrote_behind : {old mid new : List ℕ} {place next last a b : ℕ} {ws : List ℕ} → Wrote old mid (place + 2) next ws → Wrote mid new place last (a ∷ b ∷ []) → b ≡ length ws
    → Wrote old new place next (a ∷ length ws ∷ ws)
wrote_behind {old} {mid} {new} {place} {next} {last} {a} {b} {ws} o p e = record {
  code = p.code ∙ rw (o.code, e) (sets_behind old place a (length ws) ws);
  place = let q = o.place in omega arith;
}

bodies_cons : (rows : List ℕ) (under key n : ℕ) (t : Term) (ts : Terms) → 0 < n → key + n ≤ length rows
    → right_bodies rows under key n (Cons t ts) ≡ (get_or rows key 0 ∷ length (right_code rows under t) ∷ right_code rows under t) ++ right_bodies rows under (key + 1) (n - 1) ts
unfolding right_code right_bodies
bodies_cons rows under key n t ts h k = rw (take_left n rows key h k)

-- bodies of all terms are asked for from `at` on in the old table; those of the terms that are left, with the keys from `key` on, are still to be written
pub record Keying (part : List ℕ) (count under : ℕ) (rows : List ℕ) (keys : ℕ) (old : List ℕ) (at : ℕ) (new : List ℕ) (left key read place : ℕ) : Type 0 where
  pub going : Going part count under rows left read
  pub enough : key + left ≤ length rows
  pub writing : Writing old at (right_bodies rows under keys count (terms count part)) new place (right_bodies rows under key left (terms left (drop read part)))

pub keying_from : {part : List ℕ} {count under : ℕ} {rows : List ℕ} {keys : ℕ} {old : List ℕ} {at : ℕ} → Ready count part under rows → keys + count ≤ length rows
    → Fits old at (right_bodies rows under keys count (terms count part)) → Keying part count under rows keys old at old count keys 0 at
keying_from g k f = record { going = going_from g; enough = k; writing = writing_from f }

module _ {part : List ℕ} {count under : ℕ} {rows : List ℕ} {keys : ℕ} {old : List ℕ} {at : ℕ} {new : List ℕ} {left key read place : ℕ}
    (w : Keying part count under rows keys old at new left key read place) where
  module _ (h : 0 < left) where
    writing_keyed : Writing old at (right_bodies rows under keys count (terms count part)) new place
        ((get_or rows key 0 ∷ length (right_code rows under (front (from read part))) ∷ right_code rows under (front (from read part)))
        ++ right_bodies rows under (key + 1) (left - 1) (terms (left - 1) (drop (read + word_count (front (from read part))) part)))
    writing_keyed = writing_as _ (ap (right_bodies rows under key left) (terms_left w.going h) ∙ bodies_cons rows under key left _ _ h w.enough) w.writing

    fits_keyed : Fits new place (get_or rows key 0 ∷ length (right_code rows under (front (from read part))) ∷ right_code rows under (front (from read part)))
    fits_keyed = fits_first _ _ writing_keyed.fits

    -- the first body fits behind its key and its length
    pub fits_body : Fits new (place + 2) (right_code rows under (front (from read part)))
    fits_body = let f = fits_keyed in record { room = let r = f.room in omega arith; small = let r = f.small in omega arith }

    module _ {mid : List ℕ} {built : Built} (r : Builds (front (from read part)) (right_code rows under (front (from read part))) new mid (place + 2) built) where
      -- whose length is a word
      pub body_length : (place + 2 ≤ built.next) × (built.next ≤ 4096)
      body_length = let e = r.wrote.place in let f = fits_body.small in (omega arith, omega arith)

      pub fits_key : Fits mid place (get_or rows key 0 ∷ (built.next - (place + 2)) ∷ [])
      fits_key =
          let n : length mid ≡ length new = ap (λ (l : List ℕ). length l) r.wrote.code ∙ length-sets new (place + 2) (right_code rows under (front (from read part))) in
          let f = fits_keyed in
          record { room = let q = f.room in omega arith; small = let q = f.small in omega arith }

      -- past the first
      pub keying_on : {newer : List ℕ} {last : ℕ} → Wrote mid newer place last (get_or rows key 0 ∷ (built.next - (place + 2)) ∷ [])
          → Keying part count under rows keys old at newer (left - 1) (key + 1) (read + built.read) built.next
      keying_on o = record {
        going = going_on w.going h r;
        enough = let k = w.enough in omega arith;
        writing = let e = r.wrote.place in rw r.read (writing_on _ _ writing_keyed (wrote_behind r.wrote o (omega arith)));
      }

  no_bodies : left ≤ 0 → right_bodies rows under key left (terms left (drop read part)) ≡ []
  unfolding right_bodies
  no_bodies h = let z : left ≡ 0 = omega arith in rw z

  pub keying_ended : left ≤ 0 → Builds (terms count part) (right_bodies rows under keys count (terms count part)) old new at (record { read = read; next = place })
  keying_ended h = record { read = all_read w.going h; wrote = writing_ended (writing_as _ (no_bodies h) w.writing) }
