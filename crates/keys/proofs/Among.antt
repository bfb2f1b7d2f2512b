-- Keys that are looked for: one by one, or first those with a bit 0 among those with a bit 0, and then the others among the others.
use mathlib.Core.Path.{◌≡◌, refl, sym, ap, ◌∙◌}
use Prim.Native.Nat.{ℕ, ◌-◌, ◌≤◌}
use native.Mathlib.Omega.{arith}
use mathlib.Core.Bool.{Bool, true, false, not, ◌&&◌, ◌||◌, or-true}
use mathlib.Core.List.{List, [], ◌∷◌, ◌++◌}
use lib.Dec.{eqb}
use lib.ListN.{length, take, drop, length-append, take-append-drop}
use lib.Seq.{drop_at, take_all, length-take-le}
use borrow.Author.Tests.{eqb-true, eq-eqb, not-true}
use Rattle.std.specs.List.{list_all, list_any}
use Rattle.documents.specs.Lists.{every, member}
use Rattle.documents.proofs.Lists.{never, on, T_of, of_and, and_of, case, member_append}
use Rattle.keys.specs.Keys.{is_low, Parted}

-- ---- One by one

sought : (l : List ℕ) (k : ℕ) → list_any (λ x. eqb x k) l ≡ member l k
sought [] k = refl
sought (v ∷ l) k = ap (λ q. eqb v k || q) (sought l k)

-- the library's tests of a list, and 004's
pub each_sought : (left right : List ℕ) → list_all (λ k. list_any (λ x. eqb x k) left) right ≡ every (member left) right
each_sought left [] = refl
each_sought left (k ∷ right) = rw (sought left k, each_sought left right) refl

-- ---- Tests of all

-- two tests that hold at the same time
same_test : (a b : Bool) → (a ≡ true → b ≡ true) → (b ≡ true → a ≡ true) → a ≡ b
same_test true b f g = sym (f refl)
same_test false true f g = g refl
same_test false false f g = refl

every_at : (q : ℕ → Bool) (l : List ℕ) (k : ℕ) → every q l ≡ true → member l k ≡ true → q k ≡ true
every_at q [] k h m = never (cc)
every_at q (v ∷ l) k h m =
    let b = of_and (q v) (every q l) (T_of _ h) in
    case (λ e. e || member l k ≡ true → q k ≡ true) (eqb v k)
    (λ e i. ap q (sym (eqb-true v k (on (eqb v k) e))) ∙ on _ b.0)
    (λ e i. every_at q l k (on _ b.1) i)
    m

every_of : (q : ℕ → Bool) (l : List ℕ) → ((k : ℕ) → member l k ≡ true → q k ≡ true) → every q l ≡ true
every_of q [] f = refl
every_of q (v ∷ l) f =
    rw (f v (rw (eq-eqb v v refl)), every_of q l (λ k m. f k (rw m (or-true (eqb v k)))))

-- ---- Keys in two parts

-- how many come first
pub first_count : {place : ℕ} {old new : List ℕ} {n : ℕ} → Parted place old new n → n ≡ length (take n new)
first_count {new = new} {n} p = sym (length-take-le n new p.within)

-- what stands behind the first n, whatever those were made
behind : (parted firsts : List ℕ) (n k : ℕ) → n ≤ length parted → length firsts ≡ length (take n parted) → k ≡ length (firsts ++ drop n parted) - n
    → take k (drop n (firsts ++ drop n parted)) ≡ drop n parted
behind parted firsts n k h e f =
    let t = length-take-le n parted h in
    let d : drop n (firsts ++ drop n parted) ≡ drop n parted = drop_at firsts (drop n parted) n (omega arith) in
    let l = length-append firsts (drop n parted) in
    rw d (take_all k (drop n parted) (omega arith))

module _ {place : ℕ} {old new : List ℕ} {n : ℕ} (p : Parted place old new n) (k : ℕ) where
  in_parts : member (take n new) k || member (drop n new) k ≡ member old k
  in_parts = sym (member_append (take n new) (drop n new) k) ∙ ap (λ (l : List ℕ). member l k) (take-append-drop n new) ∙ p.same k

  first_in : member (take n new) k ≡ true → member old k ≡ true
  first_in m = sym in_parts ∙ ap (λ (q : Bool). q || member (drop n new) k) m

  rest_in : member (drop n new) k ≡ true → member old k ≡ true
  rest_in m = sym in_parts ∙ ap (λ (q : Bool). member (take n new) k || q) m ∙ or-true (member (take n new) k)

  -- one whose bit is 0 is in the first part, and one whose bit is 1 in the other
  in_first : is_low place k ≡ true → member old k ≡ true → member (take n new) k ≡ true
  in_first b m =
      case (λ q. q || member (drop n new) k ≡ true → q ≡ true) (member (take n new) k) (λ e i. refl)
      (λ e i. never (cc (every_at (λ k. not (is_low place k)) (drop n new) k p.highs i)))
      (in_parts ∙ m)

  in_rest : is_low place k ≡ false → member old k ≡ true → member (drop n new) k ≡ true
  in_rest b m =
      case (λ q. member (take n new) k ≡ q → q || member (drop n new) k ≡ true → member (drop n new) k ≡ true) (member (take n new) k)
      (λ e i j. never (cc (every_at (is_low place) (take n new) k p.lows i)))
      (λ e i j. j)
      refl (in_parts ∙ m)

module _ {place : ℕ} {left left' right right' : List ℕ} {l r : ℕ} (p : Parted place left left' l) (q : Parted place right right' r) where
  -- Each key of the right is on the left if each of its first part is in the left's first part, and each other one in the left's other part.
  pub parted_same : every (member (take l left')) (take r right') && every (member (drop l left')) (drop r right') ≡ every (member left) right
  parted_same = same_test _ _ together apart
    where
      together : every (member (take l left')) (take r right') && every (member (drop l left')) (drop r right') ≡ true → every (member left) right ≡ true
      together h =
          let b = of_and (every (member (take l left')) (take r right')) (every (member (drop l left')) (drop r right')) (T_of _ h) in
          every_of (member left) right (λ k m.
          case (λ z. is_low place k ≡ z → member left k ≡ true) (is_low place k)
          (λ e i. first_in p k (every_at (member (take l left')) (take r right') k (on _ b.0) (in_first q k i m)))
          (λ e i. rest_in p k (every_at (member (drop l left')) (drop r right') k (on _ b.1) (in_rest q k i m)))
          refl)

      apart : every (member left) right ≡ true → every (member (take l left')) (take r right') && every (member (drop l left')) (drop r right') ≡ true
      apart h = on _ (and_of (every (member (take l left')) (take r right')) (every (member (drop l left')) (drop r right'))
          (T_of _ (every_of (member (take l left')) (take r right') (λ k m.
          in_first p k (every_at (is_low place) (take r right') k q.lows m) (every_at (member left) right k h (first_in q k m)))))
          (T_of _ (every_of (member (drop l left')) (drop r right') (λ k m.
          in_rest p k (not-true _ (every_at (λ k. not (is_low place k)) (drop r right') k q.highs m)) (every_at (member left) right k h (rest_in q k m))))))

  pub parted_missing : {x : Bool} → x ≡ every (member (take l left')) (take r right') → x ≡ false → x ≡ every (member left) right
  parted_missing is e = e ∙ sym (ap (λ (b : Bool). b && every (member (drop l left')) (drop r right')) (sym is ∙ e)) ∙ parted_same

  -- the answer for what stands behind the first ones, whatever those were made, is that for all if each of those was found
  pub parted_behind : (lefts rights : List ℕ) → length lefts ≡ length (take l left') → length rights ≡ length (take r right') → {x : Bool}
      → every (member (take l left')) (take r right') ≡ true
      → x ≡ every (member (take (length (lefts ++ drop l left') - l) (drop l (lefts ++ drop l left')))) (take (length (rights ++ drop r right') - r) (drop r (rights ++ drop r right')))
      → x ≡ every (member left) right
  parted_behind lefts rights e f h k =
      let a = behind left' lefts l _ p.within e refl in
      let b = behind right' rights r _ q.within f refl in
      k ∙ rw (a, b) (sym (ap (λ (c : Bool). c && every (member (drop l left')) (drop r right')) h) ∙ parted_same)
