-- Parting keys: those gone over stand at the two ends of the table. A key whose bit is 1 changes its place with the last one not gone over.
use mathlib.Core.Path.{◌≡◌, refl, ap, ◌∙◌}
use Prim.Native.Nat.{ℕ, zero, suc, ◌+◌, ◌-◌, ◌/◌, ◌%◌, ◌^◌, ◌≤◌, ◌<◌}
use native.Mathlib.Numerals.{add-one}
use native.Mathlib.Omega.{arith}
use mathlib.Core.Bool.{Bool, true, false, not, ◌||◌}
use mathlib.Core.List.{List, [], ◌∷◌}
use lib.Dec.{eqb}
use lib.ListN.{length, take, drop, get_or, set, length-set}
use lib.Seq.{take-suc, drop-cons, take-set-le, drop-set-lt, get_or-set_same, drop-length}
use borrow.Author.Tests.{eq-eqb, ne_eqb}
use Rattle.documents.specs.Lists.{every, member}
use Rattle.documents.proofs.Lists.{every_append}
use Rattle.keys.specs.Keys.{is_low, Parted}

-- ---- Two keys that change places

or_swap : (a b c : Bool) → a || (b || c) ≡ b || (a || c)
or_swap true true c = refl
or_swap true false c = refl
or_swap false b c = refl

-- one goes out of a list and another takes its place
put_member : (l : List ℕ) (j v k : ℕ) → j < length l → eqb (get_or l j 0) k || member (set l j v) k ≡ eqb v k || member l k
put_member [] j v k h = absurd (omega arith)
put_member (w ∷ l) zero v k h = or_swap (eqb w k) (eqb v k) (member l k)
put_member (w ∷ l) (suc j) v k h =
    or_swap (eqb (get_or l j 0) k) (eqb w k) (member (set l j v) k)
    ∙ ap (λ (q : Bool). eqb w k || q) (put_member l j v k (omega arith))
    ∙ or_swap (eqb w k) (eqb v k) (member l k)

swap_member : (l : List ℕ) (i j k : ℕ) → i ≤ j → j < length l → member (set (set l i (get_or l j 0)) j (get_or l i 0)) k ≡ member l k
swap_member [] i j k h m = absurd (omega arith)
swap_member (v ∷ l) zero zero k h m = refl
swap_member (v ∷ l) zero (suc j) k h m = put_member l j v k (omega arith)
swap_member (v ∷ l) (suc i) zero k h m = absurd (omega arith)
swap_member (v ∷ l) (suc i) (suc j) k h m = ap (λ (q : Bool). eqb v k || q) (swap_member l i j k (omega arith) (omega arith))

-- ---- The loop

pub record Parting (place : ℕ) (old new : List ℕ) (low high : ℕ) : Type 0 where
  pub size : length new ≡ length old
  pub order : low ≤ high
  pub top : high ≤ length new
  pub same : (k : ℕ) → member new k ≡ member old k
  pub lows : every (is_low place) (take low new) ≡ true
  pub highs : every (λ k. not (is_low place k)) (drop high new) ≡ true

pub parting_from : {place : ℕ} {keys : List ℕ} → Parting place keys keys 0 (length keys)
parting_from {place} {keys} = record {
  size = refl;
  order = omega arith;
  top = omega arith;
  same = λ k. refl;
  lows = refl;
  highs = rw (drop-length keys) refl;
}

pub parting_ended : {place : ℕ} {old new : List ℕ} {low high : ℕ} → Parting place old new low high → high ≤ low → Parted place old new low
parting_ended {low = low} {high} p h =
    let o = p.order in
    let t = p.top in
    let e : high ≡ low = omega arith in
    record { size = p.size; within = omega arith; same = p.same; lows = p.lows; highs = rw e at p.highs }

module _ {place : ℕ} {old new : List ℕ} {low high : ℕ} (p : Parting place old new low high) (h : low < high) where
  pub parting_low : get_or new low 0 / 2 ^ place % 2 ≡ 0 → Parting place old new (low + 1) high
  parting_low e =
      let t = p.top in
      let q : is_low place (get_or new low 0) ≡ true = eq-eqb (get_or new low 0 / 2 ^ place % 2) 0 e in
      record {
        size = p.size;
        order = omega arith;
        top = t;
        same = p.same;
        lows =
            rw (add-one low, take-suc new low 0 (omega arith), every_append (is_low place) (take low new) (get_or new low 0 ∷ []), p.lows, q) refl;
        highs = p.highs;
      }

  pub parting_high : (get_or new low 0 / 2 ^ place % 2 ≡ 0 → ⊥)
      → Parting place old (set (set new low (get_or new (high - 1) 0)) (high - 1) (get_or new low 0)) low (high - 1)
  parting_high e =
      let t = p.top in
      let k = get_or new low 0 in
      let w = get_or new (high - 1) 0 in
      let n = length-set new low w in
      let q : is_low place k ≡ false = ne_eqb (k / 2 ^ place % 2) 0 e in
      let u : take low (set (set new low w) (high - 1) k) ≡ take low new = take-set-le low (set new low w) (high - 1) k (omega arith) ∙ take-set-le low new low w (omega arith) in
      let i : suc (high - 1) ≡ high = omega arith in
      let v : drop (high - 1) (set (set new low w) (high - 1) k) ≡ k ∷ drop high (set new low w) = put (set new low w) (high - 1) high k i (omega arith) in
      let d : drop high (set new low w) ≡ drop high new = drop-set-lt high new low w h in
      record {
        size = length-set (set new low w) (high - 1) k ∙ n ∙ p.size;
        order = omega arith;
        top = let m = length-set (set new low w) (high - 1) k in omega arith;
        same = λ x. swap_member new low (high - 1) x (omega arith) (omega arith) ∙ p.same x;
        lows = rw u p.lows;
        highs = rw (v, d, q) p.highs;
      }
    where
      put : (l : List ℕ) (i j k : ℕ) → suc i ≡ j → i < length l → drop i (set l i k) ≡ k ∷ drop j l
      put l i j k e h =
          let n = length-set l i k in
          rw (drop-cons (set l i k) i 0 (omega arith), get_or-set_same l i k 0 h, e) (ap (λ (d : List ℕ). k ∷ d) (drop-set-lt j l i k (omega arith)))
