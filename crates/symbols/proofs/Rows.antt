-- How the rows of a symbol table come apart, in the code's form: a place of the words, eleven words a row.
use mathlib.Core.Path.{◌≡◌, refl, sym, ap, ◌∙◌}
use Prim.Native.Nat.{ℕ, zero, suc, ◌+◌, ◌*◌, ◌/◌, ◌≤◌, ◌<◌}
use native.Mathlib.Omega.{arith}
use mathlib.Core.Bool.{Bool, true, false, ◌&&◌, cond}
use mathlib.Core.Option as Math
use mathlib.Core.Option.{none, some}
use Rattle.std.specs.Prelude.{Option, Some, None}
use mathlib.Core.List.{List, [], ◌∷◌, ◌++◌}
use lib.Dec.{eqb}
use lib.ListN.{length, get_or, drop, length-drop, length-append}
use lib.Seq.{drop-drop, drop_at, get_or-drop}
use borrow.Author.Tests.{eq-eqb}
use Rattle.documents.specs.Translation.{Row, Located, located, further, lookup}
use Rattle.documents.proofs.Lists.{never, T_of}
use Rattle.kahrs.proofs.Places.{eqb_both}
use Rattle.tables.proofs.Sides.{unequal}
use Rattle.symbols.specs.Rows.{row_in, rows_from, rows_in, found_in}

-- ---- A row, and the rows behind it

pub rows_step : (ws : List ℕ) (at : ℕ) → at + 11 ≤ length ws → rows_in (drop at ws) ≡ row_in (drop at ws) ∷ rows_in (drop (at + 11) ws)
unfolding rows_from rows_in
rows_step ws at h =
    let l = length-drop at ws in
    let m = length-drop (at + 11) ws in
    let e : length (drop at ws) / 11 ≡ suc (length (drop (at + 11) ws) / 11) = omega arith in
    rw (e, drop-drop 11 at ws)

pub rows_ended : (ws : List ℕ) (at : ℕ) → length ws < at + 11 → rows_in (drop at ws) ≡ []
unfolding rows_from rows_in
rows_ended ws at h =
    let l = length-drop at ws in
    let e : length (drop at ws) / 11 ≡ 0 = omega arith in
    rw e

-- ---- Looking up

-- a location behind m rows
abbrev pub moved_by : ℕ → Math.Option Located → Option ℕ
moved_by m none = None
moved_by m (some (located l r)) = Some (m + l)

moved_none : (o : Math.Option Located) → moved_by 0 o ≡ found_in o
moved_none none = refl
moved_none (some (located l r)) = let e : 0 + l ≡ l = omega arith in rw e

moved_further : (m : ℕ) (o : Math.Option Located) → moved_by m (further o) ≡ moved_by (m + 1) o
moved_further m none = refl
moved_further m (some (located l r)) = let e : m + suc l ≡ m + 1 + l = omega arith in rw e

-- the rows of words that are left are looked up, behind so many others
pub record Seeking (rows : List ℕ) (z k location : ℕ) (rest : List ℕ) : Type 0 where
  pub found : moved_by location (lookup z k (rows_in rest)) ≡ found_in (lookup z k (rows_in rows))

pub seeking_from : (rows : List ℕ) (z k : ℕ) → Seeking rows z k 0 rows
seeking_from rows z k = record { found = moved_none (lookup z k (rows_in rows)) }

row_before : (x r : List ℕ) → length x ≡ 11 → rows_in (x ++ r) ≡ row_in (x ++ r) ∷ rows_in r
row_before x r h =
    let l = length-append x r in
    rows_step (x ++ r) 0 (omega arith) ∙ ap (λ (ws : List ℕ). row_in (x ++ r) ∷ rows_in ws) (drop_at x r 11 h)

row_name : (x r : List ℕ) → length x ≡ 11 → get_or (x ++ r) 0 0 ≡ get_or x 0 0
row_name [] r h = absurd (omega arith)
row_name (a ∷ x) r h = refl

row_count : (x r : List ℕ) → length x ≡ 11 → get_or (x ++ r) 1 0 ≡ get_or x 1 0
row_count [] r h = absurd (omega arith)
row_count (a ∷ []) r h = absurd (omega arith)
row_count (a ∷ b ∷ x) r h = refl

module _ {rows : List ℕ} {z k location : ℕ} (x r : List ℕ) (h : length x ≡ 11) (s : Seeking rows z k location (x ++ r)) where
  pub seeking_here : get_or x 0 0 ≡ z → get_or x 1 0 ≡ k → Some location ≡ found_in (lookup z k (rows_in rows))
  seeking_here e f =
      let m : location + 0 ≡ location = omega arith in
      rw (row_before x r h, row_name x r h, row_count x r h, e, f, eq-eqb z z refl, eq-eqb k k refl, m) at s.found

  pub seeking_on : (get_or x 0 0 ≡ z → get_or x 1 0 ≡ k → ⊥) → Seeking rows z k (location + 1) r
  seeking_on o = record {
    found =
        sym (moved_further location (lookup z k (rows_in r)))
        ∙ rw (row_before x r h, row_name x r h, row_count x r h, unequal z (get_or x 0 0) k (get_or x 1 0) (λ e f. o (sym e) (sym f))) at s.found;
  }

pub seeking_ended : {rows : List ℕ} {z k location : ℕ} (r : List ℕ) → Seeking rows z k location r → length r < 11 → None ≡ found_in (lookup z k (rows_in rows))
seeking_ended r s h = rw (rows_ended r 0 (omega arith)) at s.found

-- ---- The row at a location

-- a row that was looked up is the one at its location's place, and bears the name and the count
pub record Placed (rows : List ℕ) (z k l : ℕ) (r : Row) : Type 0 where
  pub is_row : r ≡ row_in (drop (11 * l) rows)
  pub within : 11 * l + 11 ≤ length rows
  pub name : get_or rows (11 * l) 0 ≡ z
  pub count : get_or rows (11 * l + 1) 0 ≡ k

PlacedFrom : (rows : List ℕ) (at z k l : ℕ) (r : Row) → Type 0
PlacedFrom rows at z k l r =
    (r ≡ row_in (drop (at + 11 * l) rows)) × (at + 11 * l + 11 ≤ length rows) × (get_or rows (at + 11 * l) 0 ≡ z) × (get_or rows (at + 11 * l + 1) 0 ≡ k)

-- is the row that words begin with the one of this name and count?
abbrev hit : ℕ → ℕ → List ℕ → Bool
hit z k ws = eqb z (get_or ws 0 0) && eqb k (get_or ws 1 0)

abbrev row_or_further : Bool → Row → Math.Option Located → Math.Option Located
row_or_further q x o = cond q (some (located 0 x)) (further o)

is_first : (q : Bool) (x r : Row) (o : Math.Option Located) → row_or_further q x o ≡ some (located 0 r) → (q ≡ true) × (x ≡ r)
is_first true x r o e = (refl, cc)
is_first false x r none e = never (cc)
is_first false x r (some (located m y)) e = never (cc)

is_behind : (q : Bool) (x r : Row) (o : Math.Option Located) (m : ℕ) → row_or_further q x o ≡ some (located (suc m) r) → o ≡ some (located m r)
is_behind true x r o m e = never (cc)
is_behind false x r none m e = never (cc)
is_behind false x r (some (located i y)) m e = cc

no_row : (ws : List ℕ) (at z k l : ℕ) (r : Row) → length ws < at + 11 → lookup z k (rows_in (drop at ws)) ≡ some (located l r) → ⊥
no_row ws at z k l r h e = let f : lookup z k [] ≡ some (located l r) = rw (rows_ended ws at h) at e in never (cc)

has_row : (ws : List ℕ) (at z k l : ℕ) (r : Row) → lookup z k (rows_in (drop at ws)) ≡ some (located l r) → at + 11 ≤ length ws
has_row ws at z k l r e = let o : length ws < at + 11 → ⊥ = λ h. no_row ws at z k l r h e in omega arith

placed_from : (l : ℕ) (rows : List ℕ) (at z k : ℕ) (r : Row) → lookup z k (rows_in (drop at rows)) ≡ some (located l r) → PlacedFrom rows at z k l r
unfolding PlacedFrom
placed_from zero rows at z k r e =
    let h = has_row rows at z k 0 r e in
    let f = is_first (hit z k (drop at rows)) (row_in (drop at rows)) r (lookup z k (rows_in (drop (at + 11) rows))) (rw (rows_step rows at h) at e) in
    let b = eqb_both z (get_or (drop at rows) 0 0) k (get_or (drop at rows) 1 0) (T_of (hit z k (drop at rows)) f.0) in
    let i : at + 11 * 0 ≡ at = omega arith in
    let j : at + 0 ≡ at = omega arith in
    rw i (
      sym f.1,
      h,
      ap (λ (x : ℕ). get_or rows x 0) (sym j) ∙ sym (get_or-drop at rows 0 0) ∙ sym b.0,
      sym (get_or-drop at rows 1 0) ∙ sym b.1,
    )
placed_from (suc l) rows at z k r e =
    let h = has_row rows at z k (suc l) r e in
    let f = is_behind (hit z k (drop at rows)) (row_in (drop at rows)) r (lookup z k (rows_in (drop (at + 11) rows))) l (rw (rows_step rows at h) at e) in
    let i : at + 11 + 11 * l ≡ at + 11 * suc l = omega arith in
    rw i at (placed_from l rows (at + 11) z k r f)

pub placed : (rows : List ℕ) (z k l : ℕ) (r : Row) → lookup z k (rows_in rows) ≡ some (located l r) → Placed rows z k l r
unfolding PlacedFrom
placed rows z k l r e =
    let f = placed_from l rows 0 z k r e in
    let i : 0 + 11 * l ≡ 11 * l = omega arith in
    let g = rw i at f in
    record { is_row = g.0; within = g.1; name = g.2; count = g.3 }
