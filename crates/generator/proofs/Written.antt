-- Writing goes on: what is still to be written from the place where it stands makes the table that was asked for.
use mathlib.Core.Path.{◌≡◌, refl, sym, ap, ◌∙◌}
use Prim.Native.Nat.{ℕ, zero, suc, ◌+◌, ◌-◌, ◌≤◌, ◌<◌}
use native.Mathlib.Numerals.{add-one}
use native.Mathlib.Omega.{arith}
use mathlib.Core.List.{List, [], ◌∷◌, ◌++◌, append_assoc}
use lib.ListN.{length, take, drop, get_or, length-append}
use lib.Seq.{sets, sets-eq, length-sets, drop-cons, drop-drop}
use borrow.Rule.Slice.PartMut.{put_mid}
use Rattle.documents.specs.Instructions.{End, ◌▸◌, Program, words}
use Rattle.documents.specs.Translation.{◌⧺◌}
use Rattle.documents.proofs.Lists.{sets_append}
use Rattle.generator.specs.Written.{Fits, Wrote}

pub words-⧺ : (c d : Program) → words (c ⧺ d) ≡ words c ++ words d
words-⧺ End d = refl
words-⧺ (i ▸ c) d = ap (λ (l : List ℕ). words i ++ l) (words-⧺ c d) ∙ sym (append_assoc (words i) (words c) (words d))

-- all the words were asked for from `at` on in the old table; rest is still to be written from `place` on in the new one
pub record Writing (old : List ℕ) (at : ℕ) (all : List ℕ) (new : List ℕ) (place : ℕ) (rest : List ℕ) : Type 0 where
  pub code : sets new place rest ≡ sets old at all
  pub ends : place + length rest ≡ at + length all
  pub size : length new ≡ length old
  pub fits : Fits new place rest

pub writing_from : {old : List ℕ} {at : ℕ} {all : List ℕ} → Fits old at all → Writing old at all old at all
writing_from f = record { code = refl; ends = refl; size = refl; fits = f }

-- the first words fit
pub fits_first : {code : List ℕ} {at : ℕ} (us vs : List ℕ) → Fits code at (us ++ vs) → Fits code at us
fits_first us vs f =
    let l = length-append us vs in
    record { room = let r = f.room in omega arith; small = let r = f.small in omega arith }

-- and when they are written, so do the others
pub writing_on : {old new newer : List ℕ} {at place next : ℕ} {all : List ℕ} (us vs : List ℕ) → Writing old at all new place (us ++ vs) → Wrote new newer place next us
    → Writing old at all newer next vs
writing_on {old} {new} {newer} {at} {place} {next} {all} us vs w o =
    let l = length-append us vs in
    let p = o.place in
    let e = w.ends in
    let n : length newer ≡ length new = ap (λ (x : List ℕ). length x) o.code ∙ length-sets new place us in
    record {
      code = rw (o.code, p) (sym (sets_append new place us vs)) ∙ w.code;
      ends = omega arith;
      size = n ∙ w.size;
      fits = record { room = let r = w.fits.room in omega arith; small = let r = w.fits.small in omega arith };
    }

pub writing_ended : {old new : List ℕ} {at place : ℕ} {all : List ℕ} → Writing old at all new place [] → Wrote old new at place all
writing_ended w = record { code = w.code; place = let e = w.ends in omega arith }

-- the last words
pub writing_last : {old new newer : List ℕ} {at place next : ℕ} {all ws : List ℕ} → Writing old at all new place ws → Wrote new newer place next ws → Wrote old newer at next all
writing_last w o = record { code = o.code ∙ w.code; place = let e = w.ends in let p = o.place in omega arith }

-- other words that are the same
pub writing_as : {old new : List ℕ} {at place : ℕ} {all rest : List ℕ} (other : List ℕ) → rest ≡ other → Writing old at all new place rest → Writing old at all new place other
writing_as other e w = rw e at w

-- the first of so many from a place on
pub take_left : (n : ℕ) (l : List ℕ) (i : ℕ) → 0 < n → i + n ≤ length l → take n (drop i l) ≡ get_or l i 0 ∷ take (n - 1) (drop (i + 1) l)
take_left zero l i h k = absurd (omega arith)
take_left (suc n) l i h k =
    let e : suc n - 1 ≡ n = omega arith in
    let f : i < length l = omega arith in
    rw (e, add-one i, drop-cons l i 0 f)

-- words in the place of those from `at` on
pub row_put : (code row : List ℕ) (at n : ℕ) → length row ≡ n → at + n ≤ length code → put_mid at (at + n - at) code row ≡ sets code at row
row_put code row at n e h =
    let k : at + n - at ≡ length row = omega arith in
    rw (k, drop-drop (length row) at code, sets-eq row code at (omega arith), append_assoc (take at code) row (drop (at + length row) code))
