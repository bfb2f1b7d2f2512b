-- A part of a table that begins with an accepted subject, and where one is found: at each node of a plan. The words of such a part are its first
-- term's table, and behind it others, so a subterm stands in the part where it stands in that table, and cutting the part there changes nothing.
use mathlib.Core.Path.{◌≡◌, refl, sym, ap, ◌∙◌}
use Prim.Native.Nat.{ℕ, zero, suc, ◌-◌, ◌*◌, ◌≤◌, ◌<◌}
use native.Mathlib.Omega.{arith}
use mathlib.Core.Bool.{Bool, true, false, cond}
use mathlib.Core.Option.{Option, some}
use mathlib.Core.List.{List, [], ◌∷◌, ◌++◌, append_assoc}
use lib.Dec.{ltb}
use lib.ListN.{length, get_or, take, drop, take-append-drop}
use lib.Seq.{take_at, take_all, drop_at}
use Rattle.documents.specs.Lists.{and_then}
use Rattle.documents.specs.Terms.{Sort, Tm, Var, Sym, Meta, Abst, Nil, Cons, Term}
use Rattle.documents.specs.Tables.{terms_in, table_of, Fits, nodes, depth, subterm}
use Rattle.documents.specs.Rules.{metas}
use Rattle.documents.specs.Instructions.{Program}
use Rattle.documents.specs.Machine.{run}
use Rattle.documents.specs.Numbers.{answered, subject_in}
use Rattle.documents.proofs.Lists.{never, and_then_is}
use Rattle.documents.proofs.Tables.{tables_of, terms_in_table_of, terms_in_holds, length_table_of, Part, subterm_place}
use Rattle.documents.proofs.Numbers.{subject_in_held, held_subject_in}
use Rattle.tables.specs.Parts.{held, front, Begins as BeginsTerms}
use Rattle.tables.proofs.Walks.{walking_from}
use Rattle.tables.proofs.Accepted.{table_begins, fits_subterm}
use Rattle.trees.specs.Trees.{entry_of}
use Rattle.matcher.specs.Ready.{Begins, Ready}

-- ---- Words behind a table

part_more : {ws : List ℕ} {n : ℕ} {u : Term} (more : List ℕ) → Part ws n u → Part (ws ++ more) n u
part_more {ws} {n} {u} more p = record {
  before = p.before;
  behind = p.behind ++ more;
  whole =
      ap (λ (l : List ℕ). l ++ more) p.whole ∙ append_assoc p.before _ more
      ∙ ap (λ (l : List ℕ). p.before ++ l) (append_assoc (table_of u) p.behind more);
  start = p.start;
}

from_part : {ws : List ℕ} {n : ℕ} {u : Term} (p : Part ws n u) → drop (2 * n) ws ≡ table_of u ++ p.behind
from_part {ws} {n} {u} p = ap (drop (2 * n)) p.whole ∙ drop_at p.before (table_of u ++ p.behind) (2 * n) p.start

cut_part : {ws : List ℕ} {n : ℕ} {u : Term} → Part ws n u → take (2 * nodes u) (drop (2 * n) ws) ≡ table_of u
cut_part {ws} {n} {u} p = ap (take (2 * nodes u)) (from_part p) ∙ take_at (table_of u) p.behind (2 * nodes u) (length_table_of u)

-- a subterm of a term, in a table that goes on behind that term's words
part_in : (table : List ℕ) (t : Term) (n : ℕ) (u : Term) → take (2 * nodes t) table ≡ table_of t → subterm t n ≡ some u → Part table n u
part_in table t n u e h =
    let w : table_of t ++ drop (2 * nodes t) table ≡ table = ap (λ (l : List ℕ). l ++ drop (2 * nodes t) table) (sym e) ∙ take-append-drop (2 * nodes t) table in
    rw w at (part_more (drop (2 * nodes t) table) (subterm_place t n u h))

-- ---- A part of whole terms

-- its first words are the table of its first term
first_words : {part : List ℕ} → BeginsTerms 1 part → (take (2 * nodes (front part)) part ≡ table_of (front part)) × Fits (front part)
unfolding front
first_words {part} b = go (held part) b.enough b.whole refl
  where
    go : (us : List Term) → 1 ≤ length us → terms_in part ≡ some us → held part ≡ us
        → (take (2 * nodes (front part)) part ≡ table_of (front part)) × Fits (front part)
    go [] l w q = absurd (omega arith)
    go (u ∷ us) l w q =
        let h = terms_in_holds part (u ∷ us) w in
        rw q (ap (take (2 * nodes u)) (sym h.words) ∙ take_at (table_of u) (tables_of us) (2 * nodes u) (length_table_of u), h.fit.0)

-- behind whole nodes the words hold terms, if all of them do
terms_behind : (before ws : List ℕ) (n : ℕ) (us : List Term) → length before ≡ 2 * n → terms_in (before ++ ws) ≡ some us
    → (vs : List Term) × (terms_in ws ≡ some vs)
terms_behind [] ws n us l e = (us, e)
terms_behind (w ∷ []) ws n us l e = absurd (omega arith)
terms_behind (w ∷ c ∷ before) ws zero us l e = absurd (omega arith)
terms_behind (w ∷ c ∷ before) ws (suc n) us l e =
    let p = and_then_is (terms_in (before ++ ws)) _ us e in
    terms_behind before ws n p.0 (omega arith) p.1

begins_table : (u : Term) (ws : List ℕ) (vs : List Term) → Fits u → terms_in (table_of u ++ ws) ≡ some vs
    → BeginsTerms 1 (table_of u ++ ws) × (front (table_of u ++ ws) ≡ u)
unfolding front held
begins_table u ws vs f e =
    let p = and_then_is (terms_in ws) _ vs (sym (terms_in_table_of u ws f) ∙ e) in
    let q : terms_in (table_of u ++ ws) ≡ some (u ∷ p.0) = terms_in_table_of u ws f ∙ ap (λ (o : Option (List Term)). and_then o (λ us. some (u ∷ us))) p.1 in
    (record { whole = rw q refl; enough = rw q (omega arith) }, rw q refl)

-- each subterm of the first term begins a part of its own
pub subterm_begins : {part : List ℕ} (n : ℕ) (u : Term) → BeginsTerms 1 part → subterm (front part) n ≡ some u
    → BeginsTerms 1 (drop (2 * n) part) × (front (drop (2 * n) part) ≡ u)
subterm_begins {part} n u b e =
    let f = first_words b in
    let p = part_in part (front part) n u f.0 e in
    let v = terms_behind p.before (table_of u ++ p.behind) n (held part) p.start (ap terms_in (sym p.whole) ∙ b.whole) in
    rw (from_part p) (begins_table u p.behind v.0 (fits_subterm (front part) n u f.1 e) v.1)

-- ---- A whole subject is a part, and each part can be cut to a whole subject

abbrev cut : List ℕ → List ℕ
cut part = take (2 * nodes (front part)) part

module _ (subject : List ℕ) (a : subject_in subject ≡ answered (front subject)) where
  pub whole_length : 2 * nodes (front subject) ≡ length subject
  whole_length = sym (length_table_of (front subject)) ∙ ap (λ (l : List ℕ). length l) (subject_in_held subject (front subject) a).0.table

  pub whole_cut : take (2 * nodes (front subject)) subject ≡ subject
  whole_cut = take_all (2 * nodes (front subject)) subject (let h = whole_length in omega arith)

  pub begins_whole : Begins subject
  begins_whole =
      let h = (subject_in_held subject (front subject) a).0 in
      record { whole = (table_begins (front subject) subject h.table h.fits).0; inside = (let l = whole_length in omega arith); accepted = rw whole_cut a }

module _ {part : List ℕ} (b : Begins part) where
  cut_begins : BeginsTerms 1 (cut part) × (front (cut part) ≡ front part)
  cut_begins = let h = (subject_in_held (cut part) (front part) b.accepted).0 in table_begins (front part) (cut part) h.table h.fits

  pub begins_cut : (subject_in (take (2 * nodes (front part)) part) ≡ answered (front (take (2 * nodes (front part)) part)))
      × (front (take (2 * nodes (front part)) part) ≡ front part)
  begins_cut = (b.accepted ∙ ap answered (sym cut_begins.1), cut_begins.1)

  -- the entries' terms are the same there
  pub ready_cut : {code entries : List ℕ} {c : Program} {at made : ℕ} → Ready code part entries c at made
      → Ready code (take (2 * nodes (front part)) part) entries c at made
  ready_cut {code} {entries} {c} {at} {made} r = record {
    rest = r.rest;
    env = r.env;
    es = r.es;
    inside = r.inside;
    here = r.here;
    goes = ap (run c) cut_begins.1 ∙ r.goes;
    checked = r.checked;
    ok = r.ok;
    few = r.few;
    count = r.count;
    terms = λ e l.
        let s = stands e l in
        sym (rw s.1 (subterm_begins s.0 (entry_of r.env e) cut_begins.0 s.2).1);
    stands = stands;
  }
    where
      stands : (e : ℕ) → e < made → (m : ℕ) × (get_or entries (made - 1 - e) 0 ≡ 2 * m) × (subterm (front (cut part)) m ≡ some (entry_of r.env e))
      stands e l = let s = r.stands e l in (s.0, s.1, rw cut_begins.1 s.2)

-- ---- Each node of an accepted subject begins such a part

append_none : (l m : List (ℕ × ℕ)) → l ++ m ≡ [] → (l ≡ []) × (m ≡ [])
append_none [] m e = (refl, e)
append_none (p ∷ l) m e = never (cc)

-- a subterm has no more nodes, is no deeper and has no metavariable where there is none
record Less {s : Sort} (u : Term) (t : Tm s) : Type 0 where
  pub small : nodes u ≤ nodes t
  pub shallow : depth u ≤ depth t
  pub plain : metas t ≡ [] → metas u ≡ []

less_root : (t u : Term) → some t ≡ some u → Less u t
less_root t u e = let q : t ≡ u = cc in rw q (record { small = omega arith; shallow = omega arith; plain = λ m. m })

less_in : {r s : Sort} {u : Term} (v : Tm r) (t : Tm s) → nodes v ≤ nodes t → depth v ≤ depth t → (metas t ≡ [] → metas v ≡ []) → Less u v → Less u t
less_in v t n d p l = record { small = omega (arith, n, l.small); shallow = omega (arith, d, l.shallow); plain = λ m. l.plain (p m) }

subterm_less : {s : Sort} (t : Tm s) (n : ℕ) (u : Term) → subterm t n ≡ some u → Less u t
subterm_less (Var x) zero u e = less_root (Var x) u e
subterm_less (Var x) (suc n) u e = never (cc)
subterm_less (Sym s ts) zero u e = less_root (Sym s ts) u e
subterm_less (Sym s ts) (suc n) u e = less_in ts (Sym s ts) (omega arith) (omega arith) (λ m. m) (subterm_less ts n u e)
subterm_less (Meta z ts) zero u e = less_root (Meta z ts) u e
subterm_less (Meta z ts) (suc n) u e = less_in ts (Meta z ts) (omega arith) (omega arith) (λ m. never (cc)) (subterm_less ts n u e)
subterm_less (Abst t) zero u e = less_root (Abst t) u e
subterm_less (Abst t) (suc n) u e = less_in t (Abst t) (omega arith) (omega arith) (λ m. m) (subterm_less t n u e)
subterm_less Nil n u e = never (cc)
subterm_less (Cons t ts) n u e = go (ltb n (nodes t)) (subterm_less t n u) (subterm_less ts (n - nodes t) u) e
  where
    go : (q : Bool) → (subterm t n ≡ some u → Less u t) → (subterm ts (n - nodes t) ≡ some u → Less u ts)
        → cond q (subterm t n) (subterm ts (n - nodes t)) ≡ some u → Less u (Cons t ts)
    go true f g e = less_in t (Cons t ts) (omega arith) (omega arith) (λ m. (append_none (metas t) (metas ts) m).0) (f e)
    go false f g e = less_in ts (Cons t ts) (omega arith) (omega arith) (λ m. (append_none (metas t) (metas ts) m).1) (g e)

pub subterm_accepted : (t : Term) (n : ℕ) (u : Term) → subject_in (table_of t) ≡ answered t → subterm t n ≡ some u → subject_in (table_of u) ≡ answered u
subterm_accepted t n u a e =
    let h = subject_in_held (table_of t) t a in
    let l = subterm_less t n u e in
    held_subject_in u (fits_subterm t n u h.0.fits e) (omega (arith, h.0.small, l.small)) (omega (arith, h.0.shallow, l.shallow)) (l.plain h.1)

pub begins_at : (table : List ℕ) (t : Term) (n : ℕ) (u : Term) → subject_in table ≡ answered t → subterm t n ≡ some u
    → Begins (drop (2 * n) table) × (front (drop (2 * n) table) ≡ u)
begins_at table t n u a e =
    let h = (subject_in_held table t a).0 in
    let b = table_begins t table h.table h.fits in
    let s = subterm_begins n u b.0 (rw b.1 e) in
    let c : take (2 * nodes u) (drop (2 * n) table) ≡ table_of u = rw h.table at (cut_part (subterm_place t n u e)) in
    (record { whole = s.0; inside = (walking_from s.0).room; accepted = rw (s.1, c) (subterm_accepted t n u (rw h.table a) e) }, s.1)

-- .. and of a plan in a table that goes on behind it
module _ (table : List ℕ) (t : Term) (n : ℕ) (u : Term) (e : take (2 * nodes t) table ≡ table_of t) (h : subterm t n ≡ some u) where
  pub begins_within : subject_in (table_of t) ≡ answered t
      → Begins (drop (2 * n) (take (2 * nodes t) table)) × (front (drop (2 * n) (take (2 * nodes t) table)) ≡ u)
  begins_within a = rw e (begins_at (table_of t) t n u a h)

  -- the node's own words are the table of its subterm, whatever the table goes on with
  pub cut_within : take (2 * nodes u) (drop (2 * n) table) ≡ table_of u
  cut_within = cut_part (part_in table t n u e h)
