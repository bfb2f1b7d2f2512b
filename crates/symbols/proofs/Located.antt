-- What `find`'s answer says: that a metavariable has no row, or that one stands at its location's place.
use mathlib.Core.Path.{◌≡◌, refl, ◌∙◌}
use Prim.Native.Nat.{ℕ, ◌+◌, ◌*◌, ◌≤◌, ◌<◌}
use native.Mathlib.Omega.{arith}
use mathlib.Core.Bool.{Bool, true, false, ◌&&◌, cond}
use mathlib.Core.Option as Math
use mathlib.Core.Option.{none, some}
use Rattle.std.specs.Prelude.{Option, Some, None}
use mathlib.Core.List.{List, [], ◌∷◌}
use lib.Dec.{eqb}
use lib.ListN.{length, take, drop, get_or}
use lib.Seq.{drop-drop, get_or-drop}
use Rattle.std.specs.Option.{is_some}
use Rattle.documents.specs.Translation.{Row, row, Located, located, further, lookup}
use Rattle.documents.proofs.Lists.{never}
use Rattle.symbols.specs.Rows.{rows_in, found_in, Low}
use Rattle.symbols.specs.Entries.{is_found}
use Rattle.symbols.proofs.Rows.{placed}

pub is_found_lem : (o : Math.Option Located) (l : ℕ) → Some l ≡ found_in o → is_found o ≡ true
is_found_lem none l e = never (cc)
is_found_lem (some x) l e = refl

pub is_nothing : (o : Math.Option Located) → None ≡ found_in o → o ≡ none
is_nothing none e = refl
is_nothing (some (located l r)) e = never (cc)

-- the same of an answer that is asked whether it is one
pub present : {r : Option ℕ} (o : Math.Option Located) → r ≡ found_in o → is_some r ≡ true → (l : ℕ) × (Some l ≡ found_in o)
present {r = None} o e h = never (cc)
present {r = Some l} o e h = (l, e)

pub absent : {r : Option ℕ} (o : Math.Option Located) → r ≡ found_in o → is_some r ≡ false → None ≡ found_in o
absent {r = None} o e h = e
absent {r = Some l} o e h = never (cc)

-- a location that was found is that of a row, whose depth is low
pub record Entry (rows : List ℕ) (z k l : ℕ) : Type 0 where
  pub found : lookup z k (rows_in rows) ≡ some (located l (row z k (get_or rows (11 * l + 2) 0) (take k (drop (11 * l + 3) rows))))
  pub within : 11 * l + 11 ≤ length rows
  pub low : get_or rows (11 * l + 2) 0 < 64

abbrev LowFound : Math.Option Located → Type 0
LowFound none = Unit {0}
LowFound (some (located l (row z k b a))) = b < 64

low_found : (z k : ℕ) (tab : List Row) → Low tab → LowFound (lookup z k tab)
low_found z k [] h = tt
low_found z k (row z' k' b a ∷ tab) h = go (eqb z z' && eqb k k') (lookup z k tab) (low_found z k tab h.1)
  where
    go : (q : Bool) (o : Math.Option Located) → LowFound o → LowFound (cond q (some (located 0 (row z' k' b a))) (further o))
    go true o p = h.0
    go false none p = tt
    go false (some (located l (row z'' k'' b'' a''))) p = p

-- what a lookup's answer says
located_at : (l : ℕ) (o : Math.Option Located) → Some l ≡ found_in o → (r : Row) × (o ≡ some (located l r))
located_at l none e = never (cc)
located_at l (some (located m r)) e = (r, cc)

pub entry : (rows : List ℕ) (z k l : ℕ) → Low (rows_in rows) → Some l ≡ found_in (lookup z k (rows_in rows)) → Entry rows z k l
entry rows z k l lo e =
    let f = located_at l (lookup z k (rows_in rows)) e in
    let p = placed rows z k l f.0 f.1 in
    let i : 11 * l + 0 ≡ 11 * l = omega arith in
    let r : f.0 ≡ row z k (get_or rows (11 * l + 2) 0) (take k (drop (11 * l + 3) rows)) =
    p.is_row ∙ rw (get_or-drop (11 * l) rows 0 0, get_or-drop (11 * l) rows 1 0, get_or-drop (11 * l) rows 2 0, drop-drop 3 (11 * l) rows, i, p.name, p.count) refl in
    let q : lookup z k (rows_in rows) ≡ some (located l (row z k (get_or rows (11 * l + 2) 0) (take k (drop (11 * l + 3) rows)))) = cc f.1 in
    record { found = q; within = p.within; low = rw q at (low_found z k (rows_in rows) lo) }
