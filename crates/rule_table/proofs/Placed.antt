-- What the places of the rules say of each rule: that its code is there, passes and holds the rule's program, which therefore obeys.
use mathlib.Core.Path.{◌≡◌, refl}
use Prim.Native.Nat.{ℕ, zero, suc, ◌+◌, ◌-◌, ◌≤◌, ◌<◌}
use native.Mathlib.Omega.{arith}
use mathlib.Core.Bool.{true, ◌&&◌}
use mathlib.Core.Option.{some}
use mathlib.Core.List.{List, [], ◌∷◌}
use lib.Dec.{T, leb}
use lib.ListN.{length, get_or, get_elem?, take, drop}
use Rattle.documents.specs.Limits.{code_limit}
use Rattle.documents.specs.Instructions.{Program, program_in}
use Rattle.documents.specs.Passing.{obeys, passes}
use Rattle.documents.specs.Numbers.{code_in, answered}
use Rattle.documents.proofs.Lists.{never, T_of, both_true}
use Rattle.documents.proofs.Numbers.{unless_is, or_refuse_is}
use Rattle.rewriting.proofs.FirstRule.{AllObey}
use Rattle.rule_table.specs.Places.{code_at, Places}

-- ---- The members of a list

pub member_below : {A : Type 0} (l : List A) (i : ℕ) (a : A) → get_elem? l i ≡ some a → i < length l
member_below [] i a e = never (cc)
member_below (b ∷ l) zero a e = omega arith
member_below (b ∷ l) (suc i) a e = let h = member_below l i a e in omega arith

pub below_member : {A : Type 0} (l : List A) (i : ℕ) → i < length l → (a : A) × (get_elem? l i ≡ some a)
below_member [] i h = absurd (omega arith)
below_member (b ∷ l) zero h = (b, refl)
below_member (b ∷ l) (suc i) h = below_member l i (omega arith)

all_obey : (cs : List Program) → ((i : ℕ) (c : Program) → get_elem? cs i ≡ some c → T (obeys c)) → AllObey cs
all_obey [] f = tt
all_obey (c ∷ cs) f = (f 0 c refl, all_obey cs (λ i d e. f (suc i) d e))

-- ---- Code that was answered

-- a part is taken by where it starts and where it ends
pub code_part : (rules : List ℕ) (start : ℕ) → take (start + 1 + get_or rules start 0 - (start + 1)) (drop (start + 1) rules) ≡ code_at rules start
unfolding code_at
code_part rules start = let e : start + 1 + get_or rules start 0 - (start + 1) ≡ get_or rules start 0 = omega arith in rw e

module _ (code : List ℕ) (c : Program) (e : code_in code ≡ answered c) where
  pub answered_passes : passes code ≡ true
  unfolding code_in
  answered_passes = (unless_is (passes code) _ _ c e).0

  pub answered_holds : program_in code ≡ some c
  unfolding code_in
  answered_holds = or_refuse_is (program_in code) _ c (unless_is (passes code) _ _ c e).1

  pub answered_obeys : T (obeys c)
  answered_obeys =
      let h = (both_true (leb 1 (length code) && leb (length code) code_limit) _ answered_passes).1 in
      T_of (obeys c) (rw answered_holds at h)

-- ---- The places of the rules

module _ (rules starts : List ℕ) (cs : List Program) (p : Places rules starts cs) where
  pub below_placed : (i : ℕ) → i < length starts → (c : Program) × (get_elem? cs i ≡ some c)
  below_placed i h = below_member cs i (omega (arith, p.count))

  module _ (i : ℕ) (c : Program) (e : get_elem? cs i ≡ some c) where
    pub placed_below : i < length starts
    placed_below = omega (arith, member_below cs i c e, p.count)

    pub placed_inside : get_or starts i 0 + 1 + get_or rules (get_or starts i 0) 0 ≤ length rules
    placed_inside = (p.each i c e).inside

    pub placed_passes : passes (code_at rules (get_or starts i 0)) ≡ true
    placed_passes = answered_passes _ c (p.each i c e).code

    pub placed_holds : program_in (code_at rules (get_or starts i 0)) ≡ some c
    placed_holds = answered_holds _ c (p.each i c e).code

    pub placed_obeys : T (obeys c)
    placed_obeys = answered_obeys _ c (p.each i c e).code

  pub places_obey : AllObey cs
  places_obey = all_obey cs placed_obeys
