-- Bytes that are written one after the other, from a place on.
use mathlib.Core.Path.{◌≡◌, refl, sym, ap, ◌∙◌}
use Prim.Native.Nat.{ℕ, ◌+◌, ◌-◌, ◌*◌, ◌/◌, ◌%◌, ◌≤◌, ◌<◌}
use native.Mathlib.Numerals.{add-one}
use native.Mathlib.Omega.{arith}
use mathlib.Core.List.{List, [], ◌∷◌, ◌++◌}
use lib.ListN.{length, take, drop, get_or, set, length-append, length-take}
use lib.Seq.{sets, length-sets, drop-cons, length-take-le}
use Rattle.documents.proofs.Lists.{sets_append}
use Rattle.plan.specs.Line.{decimal, behind, line_of, Wrote, Counts}
use Rattle.plan.proofs.Digits.{decimal_one, decimal_more, ten_digits}

pub wrote_length : {old new : List ℕ} {at next : ℕ} {us : List ℕ} → Wrote old new at next us → length new ≡ length old
wrote_length {old} {at = at} {us = us} w = ap (λ (l : List ℕ). length l) w.line ∙ length-sets old at us

-- one part, and then another
wrote_then : {old mid new : List ℕ} {at next last : ℕ} {us vs : List ℕ} → Wrote old mid at next us → Wrote mid new next last vs → Wrote old new at last (us ++ vs)
wrote_then {old} {at = at} {us = us} {vs} a b = record {
  line = b.line ∙ rw (a.line, a.place) (sym (sets_append old at us vs));
  place = let l = length-append us vs in let p = a.place in let q = b.place in omega arith;
}

wrote_byte : (old : List ℕ) (at w : ℕ) → Wrote old (set old at w) at (at + 1) (w ∷ [])
wrote_byte old at w = record { line = refl; place = refl }

-- ---- A number

pub number_one : (old : List ℕ) (at n : ℕ) → n < 10 → Wrote old (set old at (48 + n)) at (at + 1) (decimal n)
number_one old at n h = rw (decimal_one n h) (wrote_byte old at (48 + n))

pub number_more : {old mid : List ℕ} {at last : ℕ} (n : ℕ) → 10 ≤ n → Wrote old mid at last (decimal (n / 10)) → Wrote old (set mid last (48 + n % 10)) at (last + 1) (decimal n)
number_more {mid = mid} {last = last} n h w = rw (decimal_more n h) (wrote_then w (wrote_byte mid last (48 + n % 10)))

-- ---- The numbers behind it

-- the first i words are written; the others, written from `end` on, make the line that was asked for
pub record Rest (words old : List ℕ) (at : ℕ) (new : List ℕ) (end i : ℕ) : Type 0 where
  pub line : sets new end (behind (drop i words)) ≡ sets old at (behind words)
  pub ends : end + length (behind (drop i words)) ≡ at + length (behind words)
  pub size : length new ≡ length old
  pub room : end + 11 * (length words - i) + 1 ≤ length new

module _ {words old : List ℕ} {at : ℕ} {new : List ℕ} {end i : ℕ} (r : Rest words old at new end i) where
  pub rest_on : {newer : List ℕ} {next : ℕ} → i < length words → get_or words i 0 < 4294967296 → Wrote new newer end next (32 ∷ decimal (get_or words i 0)) → Rest words old at newer next (i + 1)
  rest_on {newer} {next} h b w =
      let n = get_or words i 0 in
      let d : behind (drop i words) ≡ (32 ∷ decimal n) ++ behind (drop (i + 1) words) = rw (add-one i, drop-cons words i 0 h) in
      let l = ap (λ (l : List ℕ). length l) d ∙ length-append (32 ∷ decimal n) (behind (drop (i + 1) words)) in
      let s = wrote_length w in
      let t = ten_digits n b in
      let p = w.place in
      let e = r.ends in
      let m = r.room in
      record {
        line = rw (w.line, p) (sym (sets_append new end (32 ∷ decimal n) (behind (drop (i + 1) words)))) ∙ (ap (λ (l : List ℕ). sets new end l) (sym d) ∙ r.line);
        ends = omega arith;
        size = s ∙ r.size;
        room = omega arith;
      }

-- ---- The line

pub wrote_line : {old a b new : List ℕ} {j k next : ℕ} (number count : ℕ) (words : List ℕ)
    → Wrote old a 0 j (decimal number) → Wrote a b j k (32 ∷ decimal count) → Wrote b new k next (behind words) → Wrote old new 0 next (line_of (number ∷ count ∷ words))
unfolding line_of
wrote_line number count words u v w = wrote_then u (wrote_then v w)

-- 11 bytes a number, for so many words at the front of a table
pub line_room : (n : ℕ) (table line : List ℕ) → n ≤ 8192 → length line ≡ 90134 → 11 * (2 + length (take n table)) ≤ length line
line_room n table line h l = omega (arith, length-take n table)

-- the same numbers, and the part of the bytes that they fill
pub line_counts : {old new : List ℕ} {next : ℕ} {ns : List ℕ} (ms : List ℕ) → ns ≡ ms → Wrote old new 0 next (line_of ns) × (next ≤ length new) → Wrote old new 0 next (line_of ms) × Counts next new
line_counts {new = new} {next} ms e w = (rw e at w.0, (w.1, sym (length-take-le next new w.1)))
