-- Which metavariables have a row: those that are entered in a table are those of the term that it was made of; and how `find` tells of each.
use mathlib.Core.Path.{◌≡◌, refl, sym, ap, ap₂, ◌∙◌}
use Prim.Native.Nat.{ℕ, suc, ◌-◌, ◌%◌, ◌≤◌, ◌<◌}
use native.Mathlib.Omega.{arith}
use mathlib.Core.Bool.{Bool, true, false, ◌&&◌, ◌||◌, cond, or-false, or_assoc}
use mathlib.Core.Option as Math
use mathlib.Core.Option.{none, some}
use Rattle.std.specs.Prelude.{Option}
use Rattle.std.specs.Option.{is_some}
use mathlib.Core.List.{List, [], ◌∷◌, ◌++◌}
use lib.Dec.{eqb}
use borrow.Author.Tests.{eqb-true, eqb-false, eq-eqb, ne_eqb}
use Rattle.documents.specs.Terms.{Sort, Tm, Var, Sym, Meta, Abst, Nil, Cons, Term, len}
use Rattle.documents.specs.Rules.{metas, among, contains}
use Rattle.documents.specs.Translation.{Row, row, Located, located, further, lookup, unvar, enter, update, symbol_table}
use Rattle.documents.proofs.Lists.{T_of}
use Rattle.kahrs.proofs.Places.{eqb_both}
use Rattle.tables.specs.Nodes.{is_metavariable}
use Rattle.tables.proofs.Nodes.{metavariable_range}
use Rattle.symbols.specs.Rows.{found_in}
use Rattle.symbols.specs.Entries.{is_found, all_found}

-- ---- Which have a row

eqb_sym : (a b : ℕ) → eqb a b ≡ eqb b a
eqb_sym a b = go (eqb b a) refl
  where
    go : (q : Bool) → eqb b a ≡ q → eqb a b ≡ q
    go true e = eq-eqb a b (sym (eqb-true b a e))
    go false e = ne_eqb a b (λ k. eqb-false b a e (sym k))

found_first : (q : Bool) (r : Row) (o : Math.Option Located) → is_found (cond q (some (located 0 r)) (further o)) ≡ is_found o || q
found_first true r none = refl
found_first true r (some e) = refl
found_first false r none = refl
found_first false r (some (located i x)) = refl

found_enter : (z k z' k' n : ℕ) (l : List ℕ) (rows : List Row)
    → is_found (lookup z k (enter (lookup z' k' rows) (row z' k' n l) rows)) ≡ is_found (lookup z k rows) || (eqb z' z && eqb k' k)
found_enter z k z' k' n l rows = go (lookup z' k' rows) refl
  where
    same : (o : Math.Option Located) (q : Bool) → (q ≡ true → is_found o ≡ true) → is_found o ≡ is_found o || q
    same none true f = f refl
    same none false f = refl
    same (some e) q f = refl

    go : (o : Math.Option Located) → lookup z' k' rows ≡ o → is_found (lookup z k (enter o (row z' k' n l) rows)) ≡ is_found (lookup z k rows) || (eqb z' z && eqb k' k)
    go none e = rw (eqb_sym z z', eqb_sym k k') (found_first (eqb z' z && eqb k' k) (row z' k' n l) (lookup z k rows))
    go (some x) e =
        same (lookup z k rows) (eqb z' z && eqb k' k)
        (λ q. let b = eqb_both z' z k' k (T_of (eqb z' z && eqb k' k) q) in
        ap (λ (o : Math.Option Located). is_found o) (sym (ap₂ (λ (a c : ℕ). lookup a c rows) b.0 b.1) ∙ e))

among_append : (ps qs : List (ℕ × ℕ)) (m : ℕ × ℕ) → among (ps ++ qs) m ≡ among ps m || among qs m
among_append [] qs m = refl
among_append (p ∷ ps) qs m = rw (among_append ps qs m) (sym (or_assoc (eqb p.0 m.0 && eqb p.1 m.1) (among ps m) (among qs m)))

-- a metavariable has a row if it had one, or stands in the term
found_update : {s : Sort} (n : ℕ) (t : Tm s) (rows : List Row) (m : ℕ × ℕ)
    → is_found (lookup m.0 m.1 (update n t rows)) ≡ is_found (lookup m.0 m.1 rows) || among (metas t) m
found_update n (Var x) rows m = sym (or-false (is_found (lookup m.0 m.1 rows)))
found_update n (Sym s ts) rows m = found_update n ts rows m
found_update n (Meta z ts) rows m =
    found_update n ts (enter (lookup z (len ts) rows) (row z (len ts) n (unvar ts)) rows) m
    ∙ ap (λ (q : Bool). q || among (metas ts) m) (found_enter m.0 m.1 z (len ts) n (unvar ts) rows)
    ∙ or_assoc (is_found (lookup m.0 m.1 rows)) (eqb z m.0 && eqb (len ts) m.1) (among (metas ts) m)
found_update n (Abst t) rows m = found_update (suc n) t rows m
found_update n Nil rows m = sym (or-false (is_found (lookup m.0 m.1 rows)))
found_update n (Cons t ts) rows m =
    found_update n ts (update n t rows) m ∙ ap (λ (q : Bool). q || among (metas ts) m) (found_update n t rows m)
    ∙ or_assoc (is_found (lookup m.0 m.1 rows)) (among (metas t) m) (among (metas ts) m)
    ∙ ap (λ (q : Bool). is_found (lookup m.0 m.1 rows) || q) (sym (among_append (metas t) (metas ts) m))

-- those of a left side's table are those that stand on the left
pub found_table : (l : Term) (ms : List (ℕ × ℕ)) → all_found (symbol_table l) ms ≡ contains ms (metas l)
found_table l [] = refl
found_table l (m ∷ ms) = ap₂ (λ (a b : Bool). a && b) (found_update 0 l [] m) (found_table l ms)

-- ---- Asking for a metavariable of a node

-- whether it has a row is whether `find` gives a location
pub asked : (w k : ℕ) {q : Bool} (rows : List Row) (r : Option ℕ) → is_metavariable w ≡ true → r ≡ found_in (lookup (w - 131072) k rows) → is_some r ≡ q
    → is_found (lookup (w % 65536) k rows) ≡ q
asked w k rows r m e h =
    let b : (131072 ≤ w) × (w < 196608) = metavariable_range m in
    let i : w % 65536 ≡ w - 131072 = omega arith in
    rw i (go r (lookup (w - 131072) k rows) e ∙ h)
  where
    go : (r : Option ℕ) (o : Math.Option Located) → r ≡ found_in o → is_found o ≡ is_some r
    go r none e = sym (ap is_some e)
    go r (some (located l x)) e = sym (ap is_some e)
