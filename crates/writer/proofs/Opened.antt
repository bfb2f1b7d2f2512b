-- NSTACK as an array of OFFSETs: only the open LAMBDAs count, a new one begins at 0, and a body that is run under n abstractions adds n to all. Behind
-- it stand the nodes that wait.
use mathlib.Core.Path.{◌≡◌, refl, sym, ap, ap₂, ◌∙◌}
use Prim.Native.Nat.{ℕ, zero, suc, ◌+◌, ◌-◌, ◌≤◌, ◌<◌}
use native.Mathlib.Omega.{arith}
use mathlib.Core.List.{List, ◌∷◌, map}
use lib.ListN.{length, take, drop, get_or, set}
use lib.Seq.{take-take, take-set-le, drop-set-lt, drop-set-add, get_or-take, get_or-drop, get_or-set_same, get_or-set_other}
use Rattle.writer.specs.Written.{Same, nstack}

pub fewer_same : {l m : ℕ} → l ≤ m → (o p : List ℕ) → take m p ≡ take m o → take l p ≡ take l o
fewer_same {l = l} {m = m} h o p e = sym (take-take l m p h) ∙ ap (λ (x : List ℕ). take l x) e ∙ take-take l m o h

pub opened_same : (l i : ℕ) (o p : List ℕ) → take l p ≡ take l o → i < l → get_or p i 0 ≡ get_or o i 0
opened_same l i o p e h = sym (get_or-take l p i 0 h) ∙ ap (λ (x : List ℕ). get_or x i 0) e ∙ get_or-take l o i 0 h

pub nstack_same : (off l : ℕ) (o p : List ℕ) → take l p ≡ take l o → nstack off l p ≡ nstack off l o
unfolding nstack
nstack_same off zero o p e = refl
nstack_same off (suc l) o p e =
    ap₂ {C = List ℕ} ◌∷◌ (ap (λ x. off - x) (opened_same (suc l) l o p e (omega arith))) (nstack_same off l o p (fewer_same {l = l} {m = suc l} (omega arith) o p e))

pub nstack_open : (off l : ℕ) (o : List ℕ) → l < length o → nstack off (suc l) (set o l off) ≡ 0 ∷ nstack off l o
unfolding nstack
nstack_open off l o h =
    ap₂ {C = List ℕ} ◌∷◌ (ap (λ x. off - x) (get_or-set_same o l off 0 h) ∙ omega arith) (nstack_same off l o (set o l off) (take-set-le l o l off (omega arith)))

pub nstack_raised : (off n l : ℕ) (o : List ℕ) → ((i : ℕ) → i < l → get_or o i 0 ≤ off) → nstack (off + n) l o ≡ map (λ y. y + n) (nstack off l o)
unfolding nstack
nstack_raised off n zero o h = refl
nstack_raised off n (suc l) o h =
    let k = h l (omega arith) in
    ap₂ {C = List ℕ} ◌∷◌ (omega arith) (nstack_raised off n l o (λ i j. h i (omega arith)))

pub nstack_at : (off l x : ℕ) (o : List ℕ) → x < l → get_or (nstack off l o) x 0 ≡ off - get_or o (l - 1 - x) 0
unfolding nstack
nstack_at off zero x o h = absurd (omega arith)
nstack_at off (suc l) zero o h = let e : suc l - 1 - 0 ≡ l = omega arith in rw e
nstack_at off (suc l) (suc x) o h = let e : suc l - 1 - suc x ≡ l - 1 - x = omega arith in nstack_at off l x o (omega arith) ∙ rw e

-- ---- The table is the same at the open LAMBDAs and the nodes above

pub same_none : {l k : ℕ} {d : List ℕ} → Same l k d d
same_none = record { lambdas = refl; above = refl }

pub same_then : {l k : ℕ} {d e f : List ℕ} → Same l k d e → Same l k e f → Same l k d f
same_then s t = record { lambdas = t.lambdas ∙ s.lambdas; above = t.above ∙ s.above }

pub same_fewer : {l k m n : ℕ} {d e : List ℕ} → l ≤ m → k ≤ n → Same m n d e → Same l k d e
same_fewer {d = d} {e = e} h i s = record { lambdas = fewer_same h d e s.lambdas; above = fewer_same i (drop 64 d) (drop 64 e) s.above }

pub above_same : {l k i : ℕ} {d e : List ℕ} → Same l k d e → i < k → get_or e (64 + i) 0 ≡ get_or d (64 + i) 0
above_same {k = k} {i = i} {d = d} {e = e} s h = sym (get_or-drop 64 e i 0) ∙ opened_same k i (drop 64 d) (drop 64 e) s.above h ∙ get_or-drop 64 d i 0

-- one node more, and OFFSET behind the open LAMBDAs
module _ (o : List ℕ) (l k v offset : ℕ) (h : l ≤ 63) where
  pub same_one : Same l k o (set o (64 + k) v)
  same_one = record {
    lambdas = take-set-le l o (64 + k) v (omega arith);
    above = ap (λ (x : List ℕ). take k x) (drop-set-add 64 o k v) ∙ take-set-le k (drop 64 o) k v (omega arith);
  }

  pub same_opened : Same l k o (set (set o (64 + k) v) l offset)
  same_opened = record {
    lambdas = take-set-le l (set o (64 + k) v) l offset (omega arith) ∙ same_one.lambdas;
    above = ap (λ (x : List ℕ). take k x) (drop-set-lt 64 (set o (64 + k) v) l offset (omega arith)) ∙ same_one.above;
  }

  pub opened_one : 64 + k < length o → {i : ℕ} → k ≡ i → get_or (set (set o (64 + k) v) l offset) (64 + i) 0 ≡ v
  opened_one j e =
      ap (λ x. get_or (set (set o (64 + k) v) l offset) (64 + x) 0) (sym e) ∙ get_or-set_other (set o (64 + k) v) l (64 + k) offset 0 (λ q. omega arith)
      ∙ get_or-set_same o (64 + k) v 0 j
