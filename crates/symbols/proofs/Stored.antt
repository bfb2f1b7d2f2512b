-- A row that is written: it stands before the rows that begin behind it. And its arguments as they are written, a variable after the other.
use mathlib.Core.Path.{◌≡◌, refl, sym, ap, ap₂, ◌∙◌}
use Prim.Native.Nat.{ℕ, zero, suc, ◌+◌, ◌-◌, ◌*◌, ◌/◌, ◌%◌, ◌≤◌, ◌<◌}
use native.Mathlib.Omega.{arith}
use mathlib.Core.Bool.{Bool, true, false}
use lib.Dec.{eqb}
use borrow.Author.Tests.{eq-eqb, ne_eqb, eqb-true, eqb-false}
use mathlib.Core.List.{List, [], ◌∷◌, ◌++◌, append_assoc}
use lib.ListN.{length, get_or, take, drop, set, length-set, length-drop}
use lib.Seq.{sets, sets-eq, length-sets, drop-set-lt, drop_at, take_at, length-take-le}
use Rattle.documents.specs.Terms.{Terms}
use Rattle.documents.specs.Rules.{are_vars}
use Rattle.documents.specs.Translation.{Row, row, unvar}
use Rattle.tables.specs.Parts.{terms, Begins}
use Rattle.tables.proofs.Walks.{at_variable, Walk, walk_from, walk_variable, ended}
use Rattle.tables.proofs.Sides.{is_variable, variables_behind}
use Rattle.symbols.specs.declared.table.SymbolTable.{SymbolTable}
use Rattle.symbols.specs.Table.{rows_of}
use Rattle.symbols.specs.Rows.{row_in, rows_from, rows_in}
use Rattle.symbols.proofs.Rows.{rows_step}

-- ---- A row

-- as many rows as there are times eleven words
pub length_rows : (ws : List ℕ) → length (rows_in ws) ≡ length ws / 11
unfolding rows_from rows_in
length_rows ws = go (length ws / 11) ws
  where
    go : (n : ℕ) (ws : List ℕ) → length (rows_from n ws) ≡ n
    go zero ws = refl
    go (suc n) ws = ap suc (go n (drop 11 ws))

-- a table has no more than sixteen, and has so many where it is filled to its first word
length_rows_of : (table : SymbolTable) → length (rows_of table) ≡ (176 - table.first) / 11
length_rows_of table =
    let l = length_rows (drop table.first table.words) in
    let d = length-drop table.first table.words in
    let z : length table.words ≡ 176 = table.size in
    rw (l, d, z) refl

-- eleven words a row, and no word besides
pub rows_whole : (table : SymbolTable) → 176 - table.first ≡ 11 * length (rows_of table)
rows_whole table =
    let l = length_rows_of table in
    let w : table.first % 11 ≡ 0 = table.whole in
    let i : table.first ≤ 176 = table.within in
    omega arith

pub rows_few : (table : SymbolTable) → length (rows_of table) ≤ 16
rows_few table = let l = length_rows_of table in omega arith

pub room_left : (table : SymbolTable) → length (rows_of table) < 16 → 11 ≤ table.first
room_left table h =
    let l = length_rows_of table in
    let w : table.first % 11 ≡ 0 = table.whole in
    let i : table.first ≤ 176 = table.within in
    omega arith

pub rows_full : (table : SymbolTable) → eqb table.first 0 ≡ eqb (length (rows_of table)) 16
rows_full table = go (eqb table.first 0) refl
  where
    go : (q : Bool) → eqb table.first 0 ≡ q → q ≡ eqb (length (rows_of table)) 16
    go true e =
        let l = length_rows_of table in
        let z = eqb-true table.first 0 e in
        sym (eq-eqb (length (rows_of table)) 16 (omega arith))
    go false e =
        let l = length_rows_of table in
        let w : table.first % 11 ≡ 0 = table.whole in
        let z = eqb-false table.first 0 e in
        sym (ne_eqb (length (rows_of table)) 16 (λ h. omega arith))

-- what stands behind is left
drop_sets : (vs l : List ℕ) (i n : ℕ) → i + length vs ≤ n → drop n (sets l i vs) ≡ drop n l
drop_sets [] l i n h = refl
drop_sets (v ∷ vs) l i n h = drop_sets vs (set l i v) (suc i) n (omega arith) ∙ drop-set-lt n l i v (omega arith)

-- what is written stands there
sets_front : (vs l : List ℕ) (i : ℕ) → i + length vs ≤ length l → drop i (sets l i vs) ≡ vs ++ drop (i + length vs) l
sets_front vs l i h =
    let k = length-take-le i l (omega arith) in
    rw (sets-eq vs l i h, append_assoc (take i l) vs (drop (i + length vs) l)) (drop_at (take i l) (vs ++ drop (i + length vs) l) i k)

row_of : (z k b : ℕ) (l rest : List ℕ) → length l ≡ k → row_in (z ∷ k ∷ b ∷ (l ++ rest)) ≡ row z k b l
row_of z k b l rest e = ap (row z k b) (take_at l rest k e)

pub row_written : (table : List ℕ) (at z k b : ℕ) (l : List ℕ) → length l ≡ k → k ≤ 8 → at + 11 ≤ length table
    → rows_in (drop at (sets table at (z ∷ k ∷ b ∷ l))) ≡ row z k b l ∷ rows_in (drop (at + 11) table)
row_written table at z k b l e lo h =
    let s = length-sets table at (z ∷ k ∷ b ∷ l) in
    let f = sets_front (z ∷ k ∷ b ∷ l) table at (omega arith) in
    rows_step (sets table at (z ∷ k ∷ b ∷ l)) at (omega arith)
    ∙ ap₂ (λ (r : Row) (rs : List Row). r ∷ rs) (ap (λ (ws : List ℕ). row_in ws) f ∙ row_of z k b l _ e)
    (ap (λ (ws : List ℕ). rows_in ws) (drop_sets (z ∷ k ∷ b ∷ l) table at (at + 11) (omega arith)))

-- ---- Its arguments

-- the first terms of a part were to be written from `at` on in the old words; those behind i of them are still to be written in the new ones
pub record Putting (part : List ℕ) (count : ℕ) (old : List ℕ) (at : ℕ) (new : List ℕ) (i : ℕ) : Type 0 where
  pub walk : Walk part (2 * i) (count - i)
  pub variables : are_vars (terms (count - i) (drop (2 * i) part)) ≡ true
  pub rest : sets new (at + i) (unvar (terms (count - i) (drop (2 * i) part))) ≡ sets old at (unvar (terms count part))
  pub room : at + count ≤ length new
  pub size : length new ≡ length old

pub putting_from : {part : List ℕ} {count : ℕ} {old : List ℕ} {at : ℕ} → Begins count part → are_vars (terms count part) ≡ true → at + count ≤ length old
    → Putting part count old at old 0
putting_from {count = count} {at = at} b v h =
    let e : count - 0 ≡ count = omega arith in
    let f : at + 0 ≡ at = omega arith in
    record { walk = rw e (walk_from b); variables = rw e v; rest = rw (e, f); room = h; size = refl }

pub putting_on : {part : List ℕ} {count : ℕ} {old : List ℕ} {at : ℕ} {new : List ℕ} {i : ℕ} → Putting part count old at new i → i < count
    → Putting part count old at (set new (at + i) (get_or part (2 * i) 0)) (i + 1)
putting_on {part} {count} {old} {at} {new} {i} p h =
    let q : 0 < count - i = omega arith in
    let v = is_variable p.walk q p.variables in
    let e = ap (λ (ts : Terms). sets new (at + i) (unvar ts)) (at_variable part (2 * i) (count - i) p.walk.begins q v).terms_are in
    let f : count - (i + 1) ≡ count - i - 1 = omega arith in
    let g : 2 * (i + 1) ≡ 2 * i + 2 = omega arith in
    let k : at + (i + 1) ≡ suc (at + i) = omega arith in
    record {
      walk = rw (f, g) (walk_variable p.walk q v);
      variables = rw (f, g) (sym (variables_behind p.walk q v) ∙ p.variables);
      rest = rw (f, g, k) (sym e) ∙ p.rest;
      room = let r = p.room in simp length-set (omega arith);
      size = simp length-set p.size;
    }

pub putting_ended : {part : List ℕ} {count : ℕ} {old : List ℕ} {at : ℕ} {new : List ℕ} {i : ℕ} → Putting part count old at new i → count ≤ i
    → new ≡ sets old at (unvar (terms count part))
putting_ended {at = at} {new = new} {i = i} p h = ap (λ (ts : Terms). sets new (at + i) (unvar ts)) (sym (ended p.walk (omega arith))) ∙ p.rest

-- three words, and words behind them
pub four_sets : (table : List ℕ) (at z k b : ℕ) (l : List ℕ) → sets (set (set (set table at z) (at + 1) k) (at + 2) b) (at + 3) l ≡ sets table at (z ∷ k ∷ b ∷ l)
four_sets table at z k b l =
    let p : at + 1 ≡ suc at = omega arith in
    let q : at + 2 ≡ suc (suc at) = omega arith in
    let r : at + 3 ≡ suc (suc (suc at)) = omega arith in
    rw (p, q, r)
