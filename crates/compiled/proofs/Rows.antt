-- The rows of a symbol table as the entries of the check: a row's b is an entry's depth, and the indices below b that are not among the row's
-- arguments are its guard. Rows that a simple left side makes are good, so what a lookup finds is an entry that its arguments cover.
use mathlib.Core.Path.{◌≡◌, refl, sym, ap, ◌∙◌}
use Prim.Native.Nat.{ℕ, suc, ◌≤◌, ◌<◌}
use native.Mathlib.Omega.{arith}
use mathlib.Core.Bool.{◌&&◌, cond}
use mathlib.Core.Option.{Option, none, some}
use mathlib.Core.List.{List, [], ◌∷◌}
use lib.Dec.{T, eqb}
use lib.ListN.{length, get_elem?, length-append}
use Rattle.documents.specs.Terms.{Sort, Tm, Var, Sym, Meta, Abst, Nil, Cons}
use Rattle.documents.specs.Translation.{Row, row, Located, located, further, lookup, enter, update}
use Rattle.documents.specs.Passing.{Slot, slot}
use Rattle.documents.proofs.Lists.{case}
use Rattle.kahrs.proofs.Places.{eqb_both}
use Rattle.kahrs.proofs.Simple.{len_vars, unvar_vars, Simple, update_arguments}
use Rattle.kahrs.proofs.Locations.{update_before}
use Rattle.kahrs.proofs.LeftSide.{RowGood}
use Rattle.compiled.proofs.Unlisted.{unlisted}

abbrev pub slots : List Row → List Slot
slots [] = []
slots (row z k b l ∷ rows) = slot b (unlisted b l) ∷ slots rows

pub length_slots : (rows : List Row) → length (slots rows) ≡ length rows
length_slots [] = refl
length_slots (row z k b l ∷ rows) = ap suc (length_slots rows)

-- a table does not get shorter
pub length_update : {s : Sort} (n : ℕ) (t : Tm s) (rows : List Row) → length rows ≤ length (update n t rows)
length_update n t rows =
    let (added, e) = update_before n t rows in
    let k = length-append added rows in
    omega (arith, ap length e)

-- ---- Good rows

abbrev pub RowsGood : List Row → Type 0
RowsGood [] = Unit {0}
RowsGood (row z k b l ∷ rows) = RowGood k b l × RowsGood rows

enter_good : (o : Option Located) (z k b : ℕ) (l : List ℕ) (rows : List Row) → RowGood k b l → RowsGood rows → RowsGood (enter o (row z k b l) rows)
enter_good none z k b l rows g p = (g, p)
enter_good (some x) z k b l rows g p = p

pub update_good : {s : Sort} (n : ℕ) (t : Tm s) (rows : List Row) → n < 64 → Simple n t → RowsGood rows → RowsGood (update n t rows)
update_good n (Var x) rows lo h p = p
update_good n (Sym s ts) rows lo h p = update_good n ts rows lo h p
update_good n (Meta z ts) rows lo h p =
    rw (update_arguments n ts h.0 h.1, h.1, unvar_vars h.0, len_vars h.0)
    (enter_good (lookup z (length h.0) rows) z (length h.0) n h.0 rows (h.2, h.3, omega arith, refl) p)
update_good n (Abst t) rows lo h p = update_good (suc n) t rows (omega arith) h.1 p
update_good n Nil rows lo h p = p
update_good n (Cons t ts) rows lo h p = update_good n ts (update n t rows) lo h.1 (update_good n t rows lo h.0 p)

-- ---- What a lookup finds

pub data Found (k : ℕ) (rows : List Row) : Option Located → Type 0 where
  absent : Found k rows none
  present : {i z' k' b : ℕ} {l : List ℕ} → get_elem? (slots rows) i ≡ some (slot b (unlisted b l)) → RowGood k b l
      → Found k rows (some (located i (row z' k' b l)))

found_further : (k : ℕ) (r : Row) (rows : List Row) (o : Option Located) → Found k rows o → Found k (r ∷ rows) (further o)
found_further k (row z' k' b l) rows o absent = absent
found_further k (row z' k' b l) rows o (present e g) = present e g

pub found : (z k : ℕ) (rows : List Row) → RowsGood rows → Found k rows (lookup z k rows)
found z k [] p = absent
found z k (row z' k' b l ∷ rows) p =
    case (λ q. (T q → (z ≡ z') × (k ≡ k'))
    → Found k (row z' k' b l ∷ rows) (cond q (some (located 0 (row z' k' b l))) (further (lookup z k rows)))) (eqb z z' && eqb k k')
    (λ t e. present refl (p.0.0, p.0.1, p.0.2, p.0.3 ∙ sym (e tt).1))
    (λ t e. found_further k (row z' k' b l) rows (lookup z k rows) (found z k rows p.1))
    (eqb_both z z' k k')
