-- Where document 01 numbers locations in the whole symbol table, and subtracts the SETs still to come, a left side's code can as well look at
-- the rows made so far: no name and count stands twice in a table, so what stands before those rows only moves the places behind it.
use mathlib.Core.Path.{◌≡◌, refl, sym, ap, ap₂, ◌∙◌}
use Prim.Native.Nat.{ℕ, suc, ◌+◌, ◌-◌}
use native.Mathlib.Omega.{arith}
use mathlib.Core.Bool.{Bool, true, false, ◌&&◌, cond}
use mathlib.Core.Option.{Option, none, some}
use mathlib.Core.List.{List, [], ◌∷◌, ◌++◌, append_assoc}
use lib.Dec.{eqb}
use lib.ListN.{length, length-append}
use borrow.Author.Tests.{lt-ltb, le-ltb, eq-eqb}
use Rattle.documents.specs.Lists.{pairlists}
use Rattle.documents.specs.Terms.{Sort, Tm, Var, Sym, Meta, Abst, Nil, Cons, Term, Terms, len}
use Rattle.documents.specs.Instructions.{IS, ISABST, NEXT, CHECK, SET, EQVAR, EQI, End, ◌▸◌, Program}
use Rattle.documents.specs.Translation.{Row, row, Located, located, further, lookup, unvar, enter, update, symbol_table, ◌⧺◌, offset, bvset, lhs_meta, sets_less, sets_after, lhs}
use Rattle.documents.proofs.Lists.{never, T_of}
use Rattle.kahrs.proofs.Places.{eqb_both}
use Rattle.kahrs.proofs.Simple.{update_arguments, Simple}

-- ---- No name and count twice

abbrev pub Fresh : List Row → Type 0
Fresh [] = Unit {0}
Fresh (row z k b l ∷ rows) = (lookup z k rows ≡ none) × Fresh rows

fresh_enter : (o : Option Located) (z k b : ℕ) (l : List ℕ) (rows : List Row) → lookup z k rows ≡ o → Fresh rows → Fresh (enter o (row z k b l) rows)
fresh_enter none z k b l rows e p = (e, p)
fresh_enter (some x) z k b l rows e p = p

pub fresh_update : {s : Sort} (n : ℕ) (t : Tm s) (rows : List Row) → Fresh rows → Fresh (update n t rows)
fresh_update n (Var x) rows p = p
fresh_update n (Sym s ts) rows p = fresh_update n ts rows p
fresh_update n (Meta z ts) rows p = fresh_update n ts _ (fresh_enter (lookup z (len ts) rows) z (len ts) n _ rows refl p)
fresh_update n (Abst t) rows p = fresh_update (suc n) t rows p
fresh_update n Nil rows p = p
fresh_update n (Cons t ts) rows p = fresh_update n ts (update n t rows) (fresh_update n t rows p)

-- ---- Rows before others

enter_before : (o : Option Located) (r : Row) (rows : List Row) → (added : List Row) × (enter o r rows ≡ added ++ rows)
enter_before none r rows = (r ∷ [], refl)
enter_before (some x) r rows = ([], refl)

-- a table grows at its front
pub update_before : {s : Sort} (n : ℕ) (t : Tm s) (rows : List Row) → (added : List Row) × (update n t rows ≡ added ++ rows)
update_before n (Var x) rows = ([], refl)
update_before n (Sym s ts) rows = update_before n ts rows
update_before n (Meta z ts) rows =
    let e = enter_before (lookup z (len ts) rows) (row z (len ts) n (unvar ts)) rows in
    let u = update_before n ts (enter (lookup z (len ts) rows) (row z (len ts) n (unvar ts)) rows) in
    (u.0 ++ e.0, u.1 ∙ ap (λ (l : List Row). u.0 ++ l) e.1 ∙ sym (append_assoc u.0 e.0 rows))
update_before n (Abst t) rows = update_before (suc n) t rows
update_before n Nil rows = ([], refl)
update_before n (Cons t ts) rows =
    let e = update_before n t rows in
    let u = update_before n ts (update n t rows) in
    (u.0 ++ e.0, u.1 ∙ ap (λ (l : List Row). u.0 ++ l) e.1 ∙ sym (append_assoc u.0 e.0 rows))

-- a place is moved by the rows before it
pub lookup_past : (z k i : ℕ) (r : Row) (pre rows : List Row) → Fresh (pre ++ rows) → lookup z k rows ≡ some (located i r)
    → lookup z k (pre ++ rows) ≡ some (located (length pre + i) r)
lookup_past z k i r [] rows f e = let h : 0 + i ≡ i = omega arith in rw h e
lookup_past z k i r (row z' k' b l ∷ pre) rows f e = go (eqb z z' && eqb k k') refl (lookup_past z k i r pre rows f.1 e)
  where
    go : (q : Bool) → eqb z z' && eqb k k' ≡ q → lookup z k (pre ++ rows) ≡ some (located (length pre + i) r)
        → cond q (some (located 0 (row z' k' b l))) (further (lookup z k (pre ++ rows))) ≡ some (located (suc (length pre) + i) r)
    go true q h =
        let d = eqb_both z z' k k' (T_of (eqb z z' && eqb k k') q) in
        let n : lookup z k (pre ++ rows) ≡ none = ap₂ (λ (a c : ℕ). lookup a c (pre ++ rows)) d.0 d.1 ∙ f.0 in
        never (cc)
    go false q h = let a : suc (length pre) + i ≡ suc (length pre + i) = omega arith in rw (h, a)

-- ---- A left side's code by the rows made so far

abbrev pub occurrence : ℕ → Terms → Option Located → Program
occurrence n ts none = CHECK (bvset n ts) ▸ SET ▸ NEXT ▸ End
occurrence n ts (some (located i (row z k b a))) = EQI i (offset n b) (pairlists a (unvar ts)) ▸ NEXT ▸ End

abbrev pub lhs_from : {s : Sort} → ℕ → Tm s → List Row → Program
lhs_from n (Var x) rows = EQVAR x ▸ NEXT ▸ End
lhs_from n (Sym s ts) rows = IS s (len ts) ▸ lhs_from n ts rows
lhs_from n (Meta z ts) rows = occurrence n ts (lookup z (len ts) rows)
lhs_from n (Abst t) rows = ISABST ▸ lhs_from (suc n) t rows
lhs_from n Nil rows = End
lhs_from n (Cons t ts) rows = lhs_from n t rows ⧺ lhs_from n ts (update n t rows)

lookup_first : (z k b : ℕ) (l : List ℕ) (rows : List Row) → lookup z k (row z k b l ∷ rows) ≡ some (located 0 (row z k b l))
lookup_first z k b l rows = rw (eq-eqb z z refl, eq-eqb k k refl)

meta_from : (n z sets : ℕ) (ts : Terms) (pre rows : List Row) (o : Option Located) → lookup z (len ts) rows ≡ o
    → (tab : List Row) → tab ≡ pre ++ enter o (row z (len ts) n (unvar ts)) rows → Fresh tab → length tab ≡ sets + length rows
    → (lhs_meta n sets ts (lookup z (len ts) tab) ≡ occurrence n ts o) × (sets_less sets (lookup z (len ts) tab) ≡ length pre)
meta_from n z sets ts pre rows none h tab q f e =
    let r = row z (len ts) n (unvar ts) in
    let p = lookup_past z (len ts) 0 r pre (r ∷ rows) (rw q at f) (lookup_first z (len ts) n (unvar ts) rows) in
    let c = length-append pre (r ∷ rows) in
    let d : sets ≡ suc (length pre) = omega (arith, ap length q) in
    rw (q, p, lt-ltb (length pre + 0) sets (omega arith)) (refl, omega arith)
meta_from n z sets ts pre rows (some (located i (row z' k b a))) h tab q f e =
    let p = lookup_past z (len ts) i (row z' k b a) pre rows (rw q at f) h in
    let c = length-append pre rows in
    let d : sets ≡ length pre = omega (arith, ap length q) in
    let g : length pre + i - sets ≡ i = omega arith in
    rw (q, p, le-ltb (length pre + i) sets (omega arith), g) (refl, d)

-- the code by the whole table and the SETs still to come; afterwards as many SETs are to come as rows stand before
pub lhs_from_lem : {s : Sort} (tab : List Row) → Fresh tab → (n sets : ℕ) (t : Tm s) (pre rows : List Row)
    → Simple n t → tab ≡ pre ++ update n t rows → length tab ≡ sets + length rows
    → (lhs tab n sets t ≡ lhs_from n t rows) × (sets_after tab sets t ≡ length pre)
lhs_from_lem tab f n sets (Var x) pre rows h q e = let c = length-append pre rows in (refl, omega (arith, ap length q))
lhs_from_lem tab f n sets (Sym s ts) pre rows h q e = let r = lhs_from_lem tab f n sets ts pre rows h q e in (ap (λ (c : Program). IS s (len ts) ▸ c) r.0, r.1)
lhs_from_lem tab f n sets (Meta z ts) pre rows h q e =
    meta_from n z sets ts pre rows (lookup z (len ts) rows) refl tab (q ∙ ap (λ (l : List Row). pre ++ l) (update_arguments n ts h.0 h.1 _)) f e
lhs_from_lem tab f n sets (Abst t) pre rows h q e = let r = lhs_from_lem tab f (suc n) sets t pre rows h.1 q e in (ap (λ (c : Program). ISABST ▸ c) r.0, r.1)
lhs_from_lem tab f n sets Nil pre rows h q e = let c = length-append pre rows in (refl, omega (arith, ap length q))
lhs_from_lem tab f n sets (Cons t ts) pre rows h q e =
    let (added, g) = update_before n ts (update n t rows) in
    let p : tab ≡ (pre ++ added) ++ update n t rows = q ∙ ap (λ (l : List Row). pre ++ l) g ∙ sym (append_assoc pre added (update n t rows)) in
    let r = lhs_from_lem tab f n sets t (pre ++ added) rows h.0 p e in
    let c = length-append (pre ++ added) (update n t rows) in
    let d : length tab ≡ sets_after tab sets t + length (update n t rows) = ap length p ∙ c ∙ ap (λ (m : ℕ). m + length (update n t rows)) (sym r.1) in
    let w = lhs_from_lem tab f n (sets_after tab sets t) ts pre (update n t rows) h.1 q d in
    (ap₂ ◌⧺◌ r.0 w.0, w.1)

-- a left side's code
pub lhs_left : (l : Term) → Simple 0 l → lhs (symbol_table l) 0 (length (symbol_table l)) l ≡ lhs_from 0 l []
lhs_left l h = (lhs_from_lem (symbol_table l) (fresh_update 0 l [] tt) 0 (length (symbol_table l)) l [] [] h refl (omega arith)).0
