-- The match part of compiled code passes. Code is followed with the rest d of the code behind it: the code of a term takes the term's depths off
-- the current terms, and leaves the rows made so far as entries. The current terms are never more than the nodes still to come.
use mathlib.Core.Path.{◌≡◌, refl, ap, ◌∙◌}
use Prim.Native.Nat.{ℕ, suc, ◌+◌, ◌≤◌, ◌<◌}
use native.Mathlib.Omega.{arith}
use mathlib.Core.Option.{Option}
use mathlib.Core.List.{List, [], ◌∷◌}
use lib.Dec.{T}
use lib.ListN.{length}
use borrow.Author.Tests.{le-leb, lt-ltb, eq-eqb}
use Rattle.documents.specs.Limits.{argument_limit, index_limit, d_shift}
use Rattle.documents.specs.Lists.{pairlists}
use Rattle.documents.specs.Terms.{Sort, one, many, Tm, Var, Sym, Meta, Abst, Nil, Cons, len}
use Rattle.documents.specs.Tables.{Fits, nodes}
use Rattle.documents.specs.Instructions.{Program}
use Rattle.documents.specs.Translation.{Row, row, Located, lookup, unvar, enter, update, ◌⧺◌, offset}
use Rattle.documents.specs.Passing.{current_limit, open_limit, entry_limit, check_limit, pair_limit, covers, seconds, all_below, matching, times, parts}
use Rattle.documents.proofs.Lists.{on}
use Rattle.documents.proofs.Translation.{⧺-assoc}
use Rattle.documents.proofs.Passing.{length_times}
use Rattle.documents.proofs.Nodes.{len_nodes}
use Rattle.kahrs.proofs.Places.{Under, firsts_pairlists}
use Rattle.kahrs.proofs.Simple.{vars, len_vars, unvar_vars, Simple, update_arguments}
use Rattle.kahrs.proofs.Locations.{occurrence, lhs_from}
use Rattle.compiled.proofs.Unlisted.{unlisted, length_unlisted, unlisted_below, unlisted_covers, under_below}
use Rattle.compiled.proofs.Rows.{slots, length_slots, length_update, RowsGood, update_good, Found, absent, present, found}

-- ---- The pairs of an EQI

length_pairlists : (l m : List ℕ) → length l ≡ length m → length (pairlists l m) ≡ length m
length_pairlists [] [] e = refl
length_pairlists [] (b ∷ m) e = absurd (omega arith)
length_pairlists (a ∷ l) [] e = absurd (omega arith)
length_pairlists (a ∷ l) (b ∷ m) e = ap suc (length_pairlists l m (omega arith))

seconds_pairlists : (l m : List ℕ) → length l ≡ length m → seconds (pairlists l m) ≡ m
seconds_pairlists [] [] e = refl
seconds_pairlists [] (b ∷ m) e = absurd (omega arith)
seconds_pairlists (a ∷ l) [] e = absurd (omega arith)
seconds_pairlists (a ∷ l) (b ∷ m) e = ap {B = List ℕ} (λ k. b ∷ k) (seconds_pairlists l m (omega arith))

-- ---- The code of a left side

-- the depths of t, under n abstractions, before those of the other current terms
abbrev depths : (s : Sort) → ℕ → Tm s → List ℕ → List ℕ
depths one n t ds = n ∷ ds
depths many n ts ds = times (len ts) n ds

occurrence_passes : (n z : ℕ) (l : List ℕ) (rows : List Row) (o : Option Located) (d : Program) (ds : List ℕ) → n < 64 → Under n l → length l ≤ argument_limit
    → length (enter o (row z (length l) n l) rows) ≤ entry_limit → Found (length l) rows o
    → T (parts d (matching ds (slots (enter o (row z (length l) n l) rows)) []))
    → T (parts (occurrence n (vars l) o ⧺ d) (matching (n ∷ ds) (slots rows) []))
occurrence_passes n z l rows o d ds lo u c e absent m =
    let k = length_unlisted n l in
    let j = length_slots rows in
    rw (
      unvar_vars l,
      le-leb (length (unlisted n l)) check_limit (omega arith),
      on (all_below n (unlisted n l)) (unlisted_below n l),
      lt-ltb (length (slots rows)) entry_limit (omega arith),
    ) m
occurrence_passes n z l rows o d ds lo u c e (present {b = b} {l = a} g r) m =
    let q = r.3 in
    let k = length_pairlists a l q in
    let w = r.2 in
    rw (
      g,
      unvar_vars l,
      eq-eqb (offset n b + b) (n + d_shift) (omega arith),
      le-leb (length (pairlists a l)) pair_limit (omega arith),
      firsts_pairlists a l q,
      seconds_pairlists a l q,
      on (all_below b a) (under_below b a r.1),
      on (covers b (unlisted b a) a) (unlisted_covers b a),
      on (all_below n l) (under_below n l u),
    ) m

pub left_passes : {s : Sort} (n : ℕ) (t : Tm s) (rows : List Row) (d : Program) (ds : List ℕ) → n < 64 → Simple n t → Fits t → RowsGood rows
    → length ds + nodes t ≤ current_limit → length (update n t rows) ≤ entry_limit
    → T (parts d (matching ds (slots (update n t rows)) [])) → T (parts (lhs_from n t rows ⧺ d) (matching (depths s n t ds) (slots rows) []))
left_passes n (Var x) rows d ds lo h f p c e m = rw (lt-ltb x n h) m
left_passes n (Sym s ts) rows d ds lo h f p c e m =
    let k = len_nodes ts in
    rw (le-leb s index_limit f.0, le-leb (len ts) argument_limit f.1, le-leb (length ds + len ts) current_limit (omega arith))
    (left_passes n ts rows d ds lo h f.2 p (omega arith) e m)
left_passes n (Meta z ts) rows d ds lo h f p c e m =
    let l = h.0 in
    let w = update_arguments n ts l h.1 (enter (lookup z (len ts) rows) (row z (len ts) n (unvar ts)) rows) in
    let k = ap len h.1 ∙ len_vars l in
    rw (h.1, len_vars l)
    (occurrence_passes n z l rows (lookup z (length l) rows) d ds lo h.3 (omega (arith, f.1)) (rw (w, h.1, unvar_vars l, len_vars l) at e)
    (found z (length l) rows p) (rw (w, h.1, unvar_vars l, len_vars l) at m))
left_passes n (Abst t) rows d ds lo h f p c e m =
    let w : n + 1 ≡ suc n = omega arith in
    rw (lt-ltb n open_limit h.0, w) (left_passes (suc n) t rows d ds (omega arith) h.1 f p (omega arith) e m)
left_passes n Nil rows d ds lo h f p c e m = m
left_passes n (Cons t ts) rows d ds lo h f p c e m =
    let k = len_nodes ts in
    let j = length_times (len ts) n ds in
    let i = length_update n ts (update n t rows) in
    rw (⧺-assoc (lhs_from n t rows) (lhs_from n ts (update n t rows)) d)
    (left_passes n t rows (lhs_from n ts (update n t rows) ⧺ d) (times (len ts) n ds) lo h.0 f.0 p (omega arith) (omega arith)
    (left_passes n ts (update n t rows) d ds lo h.1 f.1 (update_good n t rows lo h.0 p) (omega arith) e m))
