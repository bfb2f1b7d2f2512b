-- A rule put into the set of the bucket that it asks for, or into each: those before a place have it then, and with it in those behind they are all
-- that were to have it.
use mathlib.Core.Path.{◌≡◌, refl, sym, ◌∙◌}
use Prim.Native.Nat.{ℕ, suc, ◌+◌, ◌≤◌, ◌<◌}
use native.Mathlib.Numerals.{add-one}
use native.Mathlib.Omega.{arith}
use mathlib.Core.List.{List, ◌++◌, append_assoc, append-nil}
use lib.ListN.{length, get_or, set, take, drop, length-set, drop_of_length-le}
use lib.Seq.{take_all, take-suc-set, drop-set-lt}
use borrow.Author.Tests.{ne_eqb}
use Rattle.documents.proofs.Lists.{at_cons}
use Rattle.indices.specs.Sets.{inserted}
use Rattle.dispatch.specs.Admitted.{everywhere, admitted}

pub record Entering (old : List ℕ) (rule : ℕ) (masks : List ℕ) (i : ℕ) : Type 0 where
  pub long : length masks ≡ 258
  pub inside : i ≤ 258
  pub rest : take i masks ++ everywhere (drop i masks) rule ≡ everywhere old rule

pub entering_from : {old : List ℕ} (rule : ℕ) → length old ≡ 258 → Entering old rule old 0
entering_from rule e = record { long = e; inside = omega arith; rest = refl }

module _ {old : List ℕ} {rule : ℕ} {masks : List ℕ} {i : ℕ} (p : Entering old rule masks i) where
  pub entering_next : {s : ℕ} → i < 258 → s ≡ inserted (get_or masks i 0) rule → Entering old rule (set masks i s) (i + 1)
  unfolding everywhere
  entering_next {s} h e =
      let l : i < length masks = omega (arith, p.long) in
      record {
        long = length-set masks i s ∙ p.long;
        inside = omega arith;
        rest =
            rw (add-one i, take-suc-set masks i s l, drop-set-lt (suc i) masks i s (omega arith), append_assoc, e)
            (rw (at_cons masks i l, add-one i) at p.rest);
      }

  pub entering_all : 258 ≤ i → masks ≡ everywhere old rule
  unfolding everywhere
  entering_all h =
      let l : length masks ≤ i = omega (arith, p.long) in
      sym (append-nil masks) ∙ (rw (take_all i masks l, drop_of_length-le masks l) at p.rest)

module _ (masks : List ℕ) (rule : ℕ) where
  pub all_admitted : {after : List ℕ} → after ≡ everywhere masks rule → after ≡ admitted 258 masks rule
  unfolding admitted
  all_admitted e = e

  pub one_admitted : {b s : ℕ} → b < 258 → s ≡ inserted (get_or masks b 0) rule → set masks b s ≡ admitted b masks rule
  unfolding admitted
  one_admitted {b} h e = rw (e, ne_eqb b 258 (λ z. omega arith))
