-- The length that is told from the sides is the length of the code. A CHECK lists what the arguments leave of the indices, since these are distinct
-- and bound; an EQI has as many pairs, and a PUSHI as many bodies, as its row has arguments, which are as many as the count that it was found by.
use mathlib.Core.Path.{◌≡◌, refl, sym, ap, ◌∙◌}
use Prim.Native.Nat.{ℕ, suc, ◌+◌, ◌*◌, ◌<◌}
use native.Mathlib.Omega.{arith}
use mathlib.Core.Option.{Option, none}
use mathlib.Core.List.{List, [], ◌∷◌}
use lib.ListN.{length, length-append}
use Rattle.documents.specs.Lists.{pairlists}
use Rattle.documents.specs.Terms.{Sort, one, many, Tm, Var, Sym, Meta, Abst, Nil, Cons, Term, Terms, len}
use Rattle.documents.specs.Instructions.{NEXT, SET, CELL, ADBMAL, End, ◌▸◌, Program, words, pair_words}
use Rattle.documents.specs.Translation.{Row, Located, lookup, update, symbol_table, Built, joined, keyed, rhs_meta, rhs, compile}
use Rattle.documents.proofs.Numbers.{Accepted}
use Rattle.documents.proofs.Translation.{length-words-⧺}
use Rattle.kahrs.proofs.Places.{Distinct, Under}
use Rattle.kahrs.proofs.RightSide.{AllMetas}
use Rattle.kahrs.proofs.Simple.{vars, len_vars, unvar_vars, Simple}
use Rattle.kahrs.proofs.Known.{Known}
use Rattle.kahrs.proofs.Locations.{occurrence, lhs_from, lhs_left}
use Rattle.kahrs.proofs.Main.{CrsRule, crs_rule_lem}
use Rattle.compiled.specs.Length.{occurrence_words, left_words, right_words, code_length}
use Rattle.compiled.proofs.Unlisted.{unlisted, unlisted_others}
use Rattle.compiled.proofs.Rows.{RowsGood, update_good, Found, absent, present, found}

-- ---- The left side

length_pairs : (l m : List ℕ) → length l ≡ length m → length (pair_words (pairlists l m)) ≡ 2 * length m
length_pairs [] [] e = refl
length_pairs [] (b ∷ m) e = absurd (omega arith)
length_pairs (a ∷ l) [] e = absurd (omega arith)
length_pairs (a ∷ l) (b ∷ m) e = let h = length_pairs l m (omega arith) in omega arith

length_occurrence : (n : ℕ) (l : List ℕ) (rows : List Row) (o : Option Located) → Distinct l → Under n l → Found (length l) rows o
    → occurrence_words n (length l) o ≡ length (words (occurrence n (vars l) o))
length_occurrence n l rows o d u absent =
    let h = unlisted_others n l d u in
    let k = length-append (unlisted n l) (words (SET ▸ NEXT ▸ End)) in
    simp unvar_vars (omega arith)
length_occurrence n l rows o d u (present {l = a} g r) =
    let h = length_pairs a l r.3 in
    let k = length-append (pair_words (pairlists a l)) (words (NEXT ▸ End)) in
    rw (unvar_vars l) (omega arith)

-- the words of a left side's code, by the rows made so far
pub length_left : {s : Sort} (n : ℕ) (t : Tm s) (rows : List Row) → n < 64 → Simple n t → RowsGood rows → left_words n t rows ≡ length (words (lhs_from n t rows))
length_left n (Var x) rows lo h p = refl
length_left n (Sym s ts) rows lo h p = let k = length_left n ts rows lo h p in omega arith
length_left n (Meta z ts) rows lo h p =
    rw (h.1, len_vars h.0) (length_occurrence n h.0 rows (lookup z (length h.0) rows) h.2 h.3 (found z (length h.0) rows p))
length_left n (Abst t) rows lo h p = let k = length_left (suc n) t rows (omega arith) h.1 p in omega arith
length_left n Nil rows lo h p = refl
length_left n (Cons t ts) rows lo h p =
    let k = length_left n t rows lo h.0 p in
    let j = length_left n ts (update n t rows) lo h.1 (update_good n t rows lo h.0 p) in
    let a = length-words-⧺ (lhs_from n t rows) (lhs_from n ts (update n t rows)) in
    omega arith

-- ---- The right side

-- the words of programs, one after the other
abbrev pub body_words : List Program → ℕ
body_words [] = 0
body_words (c ∷ cs) = length (words c) + body_words cs

length_joined : (cs : List Program) (d : Program) → length (words (joined cs d)) ≡ body_words cs + length (words d)
length_joined [] d = omega arith
length_joined (c ∷ cs) d = let h = length_joined cs d in let a = length-words-⧺ c (joined cs d) in omega arith

length_keyed : (l : List ℕ) (cs : List Program) → length l ≡ length cs → length (words (keyed l cs)) ≡ 2 * length cs + body_words cs
length_keyed [] [] e = refl
length_keyed [] (c ∷ cs) e = absurd (omega arith)
length_keyed (k ∷ l) [] e = absurd (omega arith)
length_keyed (k ∷ l) (c ∷ cs) e =
    let h = length_keyed l cs (omega arith) in
    let a = length-append (words c) (words (keyed l cs)) in
    omega arith

length_rhs_meta : (n k : ℕ) (cs : List Program) (tab : List Row) (o : Option Located) → length cs ≡ k → (o ≡ none → ⊥) → Found k tab o
    → 4 + 2 * k + body_words cs ≡ length (words (rhs_meta n cs o))
length_rhs_meta n k cs tab o e known absent = absurd (known refl)
length_rhs_meta n k cs tab o e known (present {l = a} g r) =
    let h = length_keyed a cs (r.3 ∙ sym e) in
    let j = length-append (words (keyed a cs)) [] in
    omega arith

-- the words of a term's code, or of the codes of terms
abbrev pub built_words : (s : Sort) → Built s → ℕ
built_words one c = length (words c)
built_words many cs = body_words cs

pub count_rhs : (tab : List Row) (n : ℕ) (ts : Terms) → length (rhs tab n ts) ≡ len ts
count_rhs tab n Nil = refl
count_rhs tab n (Cons t ts) = ap suc (count_rhs tab n ts)

-- the words of a right side's code
pub length_right : {s : Sort} (tab : List Row) → RowsGood tab → (n : ℕ) (t : Tm s) → AllMetas (Known tab) t → right_words t ≡ built_words s (rhs tab n t)
length_right tab p n (Var x) k = refl
length_right tab p n (Sym s ts) k =
    let h = length_right tab p n ts k in
    let j = length_joined (rhs tab n ts) (CELL s (len ts) ▸ End) in
    omega arith
length_right tab p n (Meta z ts) k =
    let h = length_right tab p n ts k.1 in
    let j = length_rhs_meta n (len ts) (rhs tab n ts) tab (lookup z (len ts) tab) (count_rhs tab n ts) k.0 (found z (len ts) tab p) in
    omega arith
length_right tab p n (Abst t) k =
    let h = length_right tab p (suc n) t k in
    let j = length-words-⧺ (rhs tab (suc n) t) (ADBMAL ▸ End) in
    omega arith
length_right tab p n Nil k = refl
length_right tab p n (Cons t ts) k = let h = length_right tab p n t k.0 in let j = length_right tab p n ts k.1 in omega arith

-- ---- The whole

-- the rows of a left side are good
pub table_good : (l : Term) → Simple 0 l → RowsGood (symbol_table l)
table_good l h = update_good 0 l [] (omega arith) h tt

pub length_rule : (l r : Term) → CrsRule l r → code_length l r ≡ length (words (compile l r))
length_rule l r c =
    rw (lhs_left l c.simple)
    (let a = length-words-⧺ (lhs_from 0 l []) (rhs (symbol_table l) 0 r) in
    let j = length_left 0 l [] (omega arith) c.simple tt in
    let k = length_right (symbol_table l) (table_good l c.simple) 0 r c.known in
    omega arith)

-- the length told of an accepted rule is that of its code
pub length_accepted : (left right : List ℕ) (l r : Term) → Accepted left right l r → code_length l r ≡ length (words (compile l r))
length_accepted left right l r a = length_rule l r (crs_rule_lem l r a.crs a.left_held.shallow)
