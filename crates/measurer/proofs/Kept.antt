-- What of the working table is kept, and that the setting stays.
use mathlib.Core.Path.{◌≡◌, refl, ◌∙◌}
use Prim.Native.Nat.{ℕ, ◌≤◌, ◌<◌}
use native.Mathlib.Omega.{arith}
use mathlib.Core.List.{List}
use lib.ListN.{length, get_or, set, length-set}
use lib.Seq.{get_or-set_same, get_or-set_other, drop-set-lt}
use Rattle.links.specs.Standing.{Scene}
use Rattle.measurer.specs.Measuring.{Kept}

pub kept_none : {lo hi : ℕ} {w : List ℕ} → Kept lo hi w w
kept_none = record { low = λ i h. refl; high = λ i h. refl; places = refl; long = refl }

pub kept_then : {lo hi lo' hi' : ℕ} {w w' w'' : List ℕ} → Kept lo hi w w' → Kept lo' hi' w' w'' → {l h : ℕ} → l ≤ lo → l ≤ lo' → hi ≤ h → hi' ≤ h → Kept l h w w''
kept_then k j a b c d =
    record {
      low = λ i h. j.low i (omega arith) ∙ k.low i (omega arith);
      high = λ i h. j.high i (omega arith) ∙ k.high i (omega arith);
      places = j.places ∙ k.places;
      long = j.long ∙ k.long;
    }

pub kept_wide : {lo hi l h : ℕ} {w w' : List ℕ} → Kept lo hi w w' → l ≤ lo → hi ≤ h → Kept l h w w'
kept_wide k a b = record { low = λ i h. k.low i (omega arith); high = λ i h. k.high i (omega arith); places = k.places; long = k.long }

pub set_here : (w : List ℕ) (i v : ℕ) → i < length w → get_or (set w i v) i 0 ≡ v
set_here w i v h = get_or-set_same w i v 0 h

pub set_there : (w : List ℕ) (i j v : ℕ) → (j ≡ i → ⊥) → get_or (set w i v) j 0 ≡ get_or w j 0
set_there w i j v n = get_or-set_other w i j v 0 n

pub kept_set : {lo hi : ℕ} (w : List ℕ) (i v : ℕ) → lo ≤ i → i < hi → i < 4096 → Kept lo hi w (set w i v)
kept_set w i v a b c =
    record {
      low = λ j h. set_there w i j v (λ e. omega arith);
      high = λ j h. set_there w i j v (λ e. omega arith);
      places = drop-set-lt 4096 w i v c;
      long = length-set w i v;
    }

pub scene_kept : {lo hi : ℕ} {code subject entries w w' : List ℕ} → Kept lo hi w w' → Scene code subject entries w → Scene code subject entries w'
scene_kept k s =
    record {
      code_short = s.code_short;
      work_long = let e = k.long in let h = s.work_long in omega arith;
      table = s.table;
      fits = s.fits;
      few = s.few;
      shallow = s.shallow;
      places = rw k.places s.places;
      entries_few = s.entries_few;
      stands = s.stands;
    }
