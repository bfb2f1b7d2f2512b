-- No accepted rule needs more than 4,096 words. A left side needs at most five words a node, and 62 more where a row is made: a CHECK lists at most
-- 63 indices, and the two words of each pair of an EQI are charged to the argument. A right side needs at most six words a node: key and body
-- length of a PUSHI's body are charged to the argument.
use Prim.Native.Nat.{ℕ, suc, ◌+◌, ◌*◌, ◌≤◌, ◌<◌}
use native.Mathlib.Omega.{arith}
use mathlib.Core.Option.{Option, none, some}
use mathlib.Core.List.{List, []}
use lib.ListN.{length}
use Rattle.documents.specs.Limits.{code_limit}
use Rattle.documents.specs.Terms.{Sort, one, many, Tm, Var, Sym, Meta, Abst, Nil, Cons, Term, len}
use Rattle.documents.specs.Tables.{nodes}
use Rattle.documents.specs.Instructions.{words}
use Rattle.documents.specs.Translation.{Row, row, Located, lookup, unvar, enter, update, symbol_table, compile}
use Rattle.documents.proofs.Nodes.{len_nodes}
use Rattle.documents.proofs.Numbers.{Accepted}
use Rattle.kahrs.proofs.Simple.{Simple, update_arguments}
use Rattle.kahrs.proofs.Main.{CrsRule, crs_rule_lem}
use Rattle.compiled.specs.Length.{occurrence_words, left_words, right_words}
use Rattle.compiled.proofs.Length.{length_rule}

occurrence_bound : (n k : ℕ) (o : Option Located) (r : Row) (rows : List Row) → n < 64 → occurrence_words n k o + 62 * length rows ≤ 5 + 5 * k + 62 * length (enter o r rows)
occurrence_bound n k none r rows lo = omega arith
occurrence_bound n k (some e) r rows lo = omega arith

left_bound : {s : Sort} (n : ℕ) (t : Tm s) (rows : List Row) → n < 64 → Simple n t → left_words n t rows + 62 * length rows ≤ 5 * nodes t + 62 * length (update n t rows)
left_bound n (Var x) rows lo h = omega arith
left_bound n (Sym s ts) rows lo h = let k = left_bound n ts rows lo h in omega arith
left_bound n (Meta z ts) rows lo h =
    let m = len_nodes ts in
    let k = occurrence_bound n (len ts) (lookup z (len ts) rows) (row z (len ts) n (unvar ts)) rows lo in
    rw (update_arguments n ts h.0 h.1 (enter (lookup z (len ts) rows) (row z (len ts) n (unvar ts)) rows)) (omega arith)
left_bound n (Abst t) rows lo h = let k = left_bound (suc n) t rows (omega arith) h.1 in omega arith
left_bound n Nil rows lo h = omega arith
left_bound n (Cons t ts) rows lo h = let k = left_bound n t rows lo h.0 in let j = left_bound n ts (update n t rows) lo h.1 in omega arith

-- so it has at most 67 words a node
pub left_short : {s : Sort} (n : ℕ) (t : Tm s) (rows : List Row) → n < 64 → Simple n t → left_words n t rows ≤ 67 * nodes t
left_short n (Var x) rows lo h = omega arith
left_short n (Sym s ts) rows lo h = let k = left_short n ts rows lo h in omega arith
left_short n (Meta z ts) rows lo h =
    let m = len_nodes ts in
    let k = occurrence_bound n (len ts) (lookup z (len ts) rows) (row z (len ts) n (unvar ts)) rows lo in
    let e = enter_one (lookup z (len ts) rows) (row z (len ts) n (unvar ts)) rows in
    omega arith
  where
    enter_one : (o : Option Located) (r : Row) (rows : List Row) → length (enter o r rows) ≤ length rows + 1
    enter_one none r rows = omega arith
    enter_one (some e) r rows = omega arith
left_short n (Abst t) rows lo h = let k = left_short (suc n) t rows (omega arith) h.1 in omega arith
left_short n Nil rows lo h = omega arith
left_short n (Cons t ts) rows lo h = let k = left_short n t rows lo h.0 in let j = left_short n ts (update n t rows) lo h.1 in omega arith

-- key and length before each body, if terms become bodies
abbrev key_words : {s : Sort} → Tm s → ℕ
key_words {s = one} t = 2
key_words {s = many} ts = 2 * len ts

pub right_bound : {s : Sort} (t : Tm s) → key_words t + right_words t ≤ 6 * nodes t
right_bound (Var x) = omega arith
right_bound (Sym s ts) = let h = right_bound ts in omega arith
right_bound (Meta z ts) = let h = right_bound ts in omega arith
right_bound (Abst t) = let h = right_bound t in omega arith
right_bound Nil = omega arith
right_bound (Cons t ts) = let h = right_bound t in let k = right_bound ts in omega arith

pub length_compile : (l r : Term) → CrsRule l r → length (words (compile l r)) ≤ 62 * length (symbol_table l) + 5 * nodes l + 6 * nodes r
length_compile l r c =
    let e = length_rule l r c in
    let j = left_bound 0 l [] (omega arith) c.simple in
    let k = right_bound r in
    omega arith

-- no accepted rule needs more than 4,096 words
pub compiled_fits : (left right : List ℕ) (l r : Term) → Accepted left right l r → length (words (compile l r)) ≤ code_limit
compiled_fits left right l r a =
    let h = length_compile l r (crs_rule_lem l r a.crs a.left_held.shallow) in
    let n = a.left_held.small in
    let m = a.right_held.small in
    let k = a.few in
    omega arith
