-- Sets as numbers: which indices are in one after another is inserted, and that a guard's list and keys together cover all below b.
use mathlib.Core.Path.{◌≡◌, refl, sym, ap, ◌∙◌, fun_ext}
use Prim.Native.Nat.{ℕ, zero, suc, ◌+◌, ◌-◌, ◌*◌, ◌/◌, ◌%◌, ◌^◌, ◌≤◌, ◌<◌, max}
use native.Mathlib.Omega.{arith}
use mathlib.Core.Bool.{Bool, true, false, ◌&&◌, ◌||◌, or_assoc, or-false, and-false, and-true}
use mathlib.Core.List.{List, [], ◌∷◌}
use lib.Dec.{eqb, ltb}
use lib.Bits.{bit_or, or_step, or_shr, and_mask, mask_lt}
use lib.Pow.{pow_pos, pow-lt, pow-add, split, mod-pow-add, shl-shr}
use borrow.Author.Tests.{eq-eqb, ne_eqb, eqb-true, ltb-true, ltb-false}
use Rattle.documents.specs.Lists.{every, member, up_to}
use Rattle.documents.specs.Passing.{covers}
use Rattle.documents.proofs.Lists.{never, on, off, case, every_append}
use Rattle.kahrs.proofs.Places.{member_up_to, member_keep}
use Rattle.indices.specs.Sets.{has, members, inserted, gathered, full}

clash : {A : Type 0} {b : Bool} → b ≡ false → b ≡ true → A
clash p q = let z : true ≡ false = sym q ∙ p in never (cc)

pub none_there : (i : ℕ) → has 0 i ≡ false
none_there i =
    let y : 0 * 2 ^ i ≡ 0 = omega arith in
    let z : 0 / 2 ^ i ≡ 0 = ap (λ (n : ℕ). n / 2 ^ i) (sym y) ∙ shl-shr 0 i in
    rw z

small : (q p : ℕ) → q * p < p → q ≡ 0
small zero p h = refl
small (suc q) p h = absurd (omega arith)

grows : (i : ℕ) → i < 2 ^ i
grows zero = pow_pos 0
grows (suc i) =
    let h = grows i in
    let e : 2 ^ (1 + i) ≡ 2 * 2 ^ i = pow-add 2 1 i in
    let z : 1 + i ≡ suc i = omega arith in
    rw (sym z) (omega arith)

-- a power of two has one bit
one_bit : (k i : ℕ) → has (2 ^ k) i ≡ eqb k i
one_bit k i =
    case (λ b. has (2 ^ k) i ≡ eqb k i) (ltb i k)
    (λ y. below (ltb-true i k (on _ y)))
    (λ y.
    case (λ b. has (2 ^ k) i ≡ eqb k i) (eqb k i)
    (λ z. same (eqb-true k i (on _ z)))
    (λ z. above (ltb-false i k (off _ y)) (λ e. clash (off _ z) (eq-eqb k i e))))
  where
    same : k ≡ i → has (2 ^ k) i ≡ eqb k i
    same e =
        let z : 1 * 2 ^ i ≡ 2 ^ i = omega arith in
        let q : 2 ^ i / 2 ^ i ≡ 1 = ap (λ (n : ℕ). n / 2 ^ i) (sym z) ∙ shl-shr 1 i in
        rw (e, q, eq-eqb i i refl)

    below : i < k → has (2 ^ k) i ≡ eqb k i
    below h =
        let j = k - i - 1 in
        let e : k ≡ 1 + j + i = omega arith in
        let p : 2 ^ k ≡ 2 ^ (1 + j) * 2 ^ i = ap (λ (n : ℕ). 2 ^ n) e ∙ pow-add 2 (1 + j) i in
        let q : 2 ^ k / 2 ^ i ≡ 2 ^ (1 + j) = ap (λ (n : ℕ). n / 2 ^ i) p ∙ shl-shr (2 ^ (1 + j)) i in
        let r : 2 ^ (1 + j) ≡ 2 * 2 ^ j = pow-add 2 1 j in
        let z : 2 * 2 ^ j % 2 ≡ 0 = omega arith in
        rw (q, r, z, ne_eqb k i (λ e. omega arith))

    above : k ≤ i → (k ≡ i → ⊥) → has (2 ^ k) i ≡ eqb k i
    above h n =
        let l : 2 ^ k < 2 ^ i = pow-lt (omega arith) in
        let s = split (2 ^ k) i in
        let q : 2 ^ k / 2 ^ i ≡ 0 = small (2 ^ k / 2 ^ i) (2 ^ i) (omega arith) in
        rw (q, ne_eqb k i n)

pub or_bit : (m n i : ℕ) → has (bit_or m n) i ≡ has m i || has n i
or_bit m n i = rw (or_shr m n i) (go (m / 2 ^ i) (n / 2 ^ i))
  where
    bits : (x y : ℕ) → x < 2 → y < 2 → eqb (max x y) 1 ≡ eqb x 1 || eqb y 1
    bits zero zero p q = refl
    bits zero (suc zero) p q = refl
    bits (suc zero) zero p q = refl
    bits (suc zero) (suc zero) p q = refl
    bits zero (suc (suc y)) p q = absurd (omega arith)
    bits (suc zero) (suc (suc y)) p q = absurd (omega arith)
    bits (suc (suc x)) y p q = absurd (omega arith)

    go : (x y : ℕ) → eqb (bit_or x y % 2) 1 ≡ eqb (x % 2) 1 || eqb (y % 2) 1
    go x y =
        let s = or_step x y in
        let e : bit_or x y % 2 ≡ max (x % 2) (y % 2) = omega arith in
        rw e (bits (x % 2) (y % 2) (omega arith) (omega arith))

pub insert_bit : (m k i : ℕ) → has (inserted m k) i ≡ has m i || eqb k i
unfolding inserted
insert_bit m k i = or_bit m (2 ^ k) i ∙ ap (λ b. has m i || b) (one_bit k i)

gather_bit : (ks : List ℕ) (m i : ℕ) → has (gathered m ks) i ≡ has m i || member ks i
unfolding gathered
gather_bit [] m i = sym (or-false (has m i))
gather_bit (k ∷ ks) m i = gather_bit ks (inserted m k) i ∙ rw (insert_bit m k i, or_assoc (has m i) (eqb k i) (member ks i))

-- all below b are in a set: bit after bit
full_every : (m b : ℕ) → full m b ≡ every (has m) (up_to b)
unfolding full
full_every m b = rw (and_mask m b) (go b)
  where
    digit : (x r p : ℕ) → x < 2 → r < p → eqb (x * p + r) (p + (p - 1)) ≡ eqb r (p - 1) && eqb x 1
    digit zero r p l h = rw (ne_eqb (0 * p + r) (p + (p - 1)) (λ e. omega arith)) (sym (and-false (eqb r (p - 1))))
    digit (suc zero) r p l h =
        case (λ b. eqb (1 * p + r) (p + (p - 1)) ≡ b && true) (eqb r (p - 1))
        (λ y. let e = eqb-true r (p - 1) (on _ y) in eq-eqb (1 * p + r) (p + (p - 1)) (omega arith))
        (λ y. ne_eqb (1 * p + r) (p + (p - 1)) (λ e. clash (off _ y) (eq-eqb r (p - 1) (omega arith))))
    digit (suc (suc x)) r p l h = absurd (omega arith)

    go : (b : ℕ) → eqb (m % 2 ^ b) (2 ^ b - 1) ≡ every (has m) (up_to b)
    go zero = let e : m % 1 ≡ 0 = omega arith in rw e
    go (suc b) =
        let p = pow_pos b in
        let l : m % 2 ^ b < 2 ^ b = rw (and_mask m b) at (mask_lt m b) in
        let e : 2 ^ (1 + b) ≡ 2 * 2 ^ b = pow-add 2 1 b in
        let z : 1 + b ≡ suc b = omega arith in
        let f : 2 ^ (1 + b) - 1 ≡ 2 ^ b + (2 ^ b - 1) = omega arith in
        rw (sym z, mod-pow-add m 1 b, f)
        (digit (m / 2 ^ b % 2) (m % 2 ^ b) (2 ^ b) (omega arith) l
        ∙ rw (go b, every_append (has m) (up_to b) (b ∷ []), and-true (has m b)))

-- ---- the members of a set

-- an index that is in a set is no higher than the number
pub member_members : (m i : ℕ) → member (members m) i ≡ has m i
unfolding members
member_members m i =
    rw (member_keep (has m) (up_to (suc m)) i, member_up_to (suc m) i)
    (case (λ q. q && has m i ≡ has m i) (ltb i (suc m)) (λ y. refl)
    (λ y. let h = ltb-false i (suc m) (off _ y) in sym (absent h)))
  where
    absent : suc m ≤ i → has m i ≡ false
    absent h =
        let l = grows i in
        let s = split m i in
        let q : m / 2 ^ i ≡ 0 = small (m / 2 ^ i) (2 ^ i) (omega arith) in
        rw q

-- ---- covering

pub covers_members : (b m : ℕ) (ks : List ℕ) → covers b (members m) ks ≡ full (gathered m ks) b
covers_members b m ks = sym (full_every (gathered m ks) b ∙ ap (λ (p : ℕ → Bool). every p (up_to b)) (fun_ext one))
  where
    one : (i : ℕ) → has (gathered m ks) i ≡ member (members m) i || member ks i
    one i = gather_bit ks m i ∙ rw (member_members m i)

-- a list may be told by its set
pub covers_gathered : (b : ℕ) (g ks : List ℕ) → covers b (members (gathered 0 g)) ks ≡ covers b g ks
covers_gathered b g ks = ap (λ (p : ℕ → Bool). every p (up_to b)) (fun_ext one)
  where
    one : (i : ℕ) → member (members (gathered 0 g)) i || member ks i ≡ member g i || member ks i
    one i = rw (member_members (gathered 0 g) i, gather_bit g 0 i, none_there i)
