-- Words that are copied into a table: those that were copied, and before them what stood there. So the redex is set aside, and what was behind it moved.
use mathlib.Core.Path.{◌≡◌, refl, sym, ap, ◌∙◌}
use Prim.Native.Nat.{ℕ, zero, suc, ◌+◌, ◌-◌, ◌≤◌, ◌<◌}
use native.Mathlib.Numerals.{add-one}
use native.Mathlib.Omega.{arith}
use mathlib.Core.List.{List, [], ◌∷◌, ◌++◌, append_assoc}
use lib.ListN.{length, take, drop, get_or, set, length-append, length-take, length-drop}
use lib.Seq.{length-take-le, take-suc, take-length, take-take, take-append-le, take-nil, drop-cons, drop-drop, drop_at, drop-append-le, append_snoc, set_at}
use Rattle.rewriter.specs.Replaces.{SettingAside, SetAside}

-- ---- One word after the other

-- a turn copies one word more
pub copied_more : (part table : List ℕ) {table' : List ℕ} (i : ℕ) → length part ≤ length table → i < length part → table' ≡ take i part ++ drop i table
    → set table' i (get_or part i 0) ≡ take (i + 1) part ++ drop (i + 1) table
copied_more part table i k h e =
    let j : i < length table = omega arith in
    rw (e, add-one, drop-cons table i 0)
    (set_at (take i part) (get_or table i 0) (drop (suc i) table) (get_or part i 0) i (length-take-le i part (omega arith))
    ∙ sym (append_snoc (take i part) (get_or part i 0) (drop (suc i) table))
    ∙ ap (λ (l : List ℕ). l ++ drop (suc i) table) (sym (take-suc part i 0 h)))

pub copied_all : (part table : List ℕ) {table' : List ℕ} (i : ℕ) → table' ≡ take i part ++ drop i table → i ≤ length part → length part ≤ i
    → table' ≡ part ++ drop (length part) table
copied_all part table i e h k =
    let q : i ≡ length part = omega arith in
    e ∙ rw (q, take-length part) refl

-- ---- Parts of parts

-- what is left of the first ones
pub drop_take : (k m : ℕ) (l : List ℕ) → drop k (take m l) ≡ take (m - k) (drop k l)
drop_take zero m l = let e : m - 0 ≡ m = omega arith in rw e refl
drop_take (suc k) zero l = let e : 0 - suc k ≡ 0 = omega arith in rw e refl
drop_take (suc k) (suc m) [] = sym (take-nil (suc m - suc k))
drop_take (suc k) (suc m) (a ∷ l) = let e : suc m - suc k ≡ m - k = omega arith in rw e (drop_take k m l)

pub part_part : (a k m n : ℕ) (l : List ℕ) → k + n ≤ m → take n (drop k (take m (drop a l))) ≡ take n (drop (a + k) l)
part_part a k m n l h =
    ap (take n) (drop_take k m (drop a l)) ∙ take-take n (m - k) (drop k (drop a l)) (omega arith) ∙ ap (take n) (drop-drop k a l)

-- ---- A part copied to a place

-- the part stands there, and before it what stood before
pub record Put (at : ℕ) (part d e : List ℕ) : Type 0 where
  pub inside : at ≤ length d
  pub rest : List ℕ
  pub is : e ≡ take at d ++ (part ++ rest)

-- a copy to the front of what was lent from the place on
pub put_there : (at : ℕ) (part d more rest : List ℕ) {t : List ℕ} → at ≤ length d → t ≡ part ++ more → Put at part d (take at d ++ (t ++ rest))
put_there at part d more rest h e =
    record { inside = h; rest = more ++ rest; is = ap (λ (l : List ℕ). take at d ++ l) (ap (λ (l : List ℕ). l ++ rest) e ∙ append_assoc part more rest) }

-- a part that was written to leaves the table its length
pub put_length : (at n : ℕ) (d t : List ℕ) → at + n ≡ length d → length t ≡ length (take n (drop at d)) → length (take at d ++ (t ++ drop n (drop at d))) ≡ length d
put_length at n d t h e =
    let k : length t ≡ n = e ∙ length-take-le n (drop at d) (rw length-drop (omega arith)) in
    rw (length-append, length-append, length-take-le at d (omega arith), length-drop, length-drop) (omega arith)

module _ {at : ℕ} {part d e : List ℕ} (p : Put at part d e) where
  put_from : drop at e ≡ part ++ p.rest
  put_from = ap (drop at) p.is ∙ drop_at (take at d) (part ++ p.rest) at (length-take-le at d p.inside)

  pub put_before : (n : ℕ) → n ≤ at → take n e ≡ take n d
  put_before n h =
      ap (take n) p.is ∙ take-append-le n (take at d) (part ++ p.rest) (omega (arith, length-take-le at d p.inside)) ∙ take-take n at d h

  pub put_inside : (k n : ℕ) → k + n ≤ length part → take n (drop (at + k) e) ≡ take n (drop k part)
  put_inside k n h =
      ap (take n) (sym (drop-drop k at e) ∙ ap (drop k) put_from ∙ drop-append-le k part p.rest (omega arith))
      ∙ take-append-le n (drop k part) p.rest (omega (arith, length-drop k part))

-- ---- The redex aside

module _ {plan work : List ℕ} {words first end next : ℕ} (h : SettingAside plan work words first end next)
    {work' : List ℕ} (long : length work' ≡ length work) where
  -- so many words of a part of the plan, copied aside
  aside_is : (k m n : ℕ) → k + n ≤ m → m ≤ words - first → Put 8192 (take m (drop first plan)) work work'
      → take n (drop (8192 + k) work') ≡ take n (drop (first + k) plan)
  aside_is k m n i j p =
      put_inside p k n (omega (arith, length-take m (drop first plan), length-drop first plan)) ∙ part_part first k m n plan i

  -- what is behind the redex stays where it is
  pub aside_alone : end ≡ next → Put 8192 (take (end - first) (drop first plan)) work work' → SetAside plan plan work work' words first end next
  aside_alone e p =
      let z : first + 0 ≡ first = omega arith in
      record {
        table_stays = refl;
        work_stays = long;
        links = put_before p 8192 (omega arith);
        aside = rw z at (aside_is 0 (end - first) (end - first) (omega arith) (omega arith) p);
        before = refl;
        behind = rw e refl;
      }

  -- it is put where the next plan has it
  pub aside_moved : {plan' : List ℕ} → length plan' ≡ length plan → Put 8192 (take (words - first) (drop first plan)) work work'
      → Put next (take (8192 + (words - first) - (8192 + (end - first))) (drop (8192 + (end - first)) work')) plan plan'
      → SetAside plan plan' work work' words first end next
  aside_moved {plan'} same p q =
      let z : first + 0 ≡ first = omega arith in
      let y : next + 0 ≡ next = omega arith in
      let x : first + (end - first) ≡ end = omega arith in
      let m : 8192 + (words - first) - (8192 + (end - first)) ≡ words - end = omega arith in
      let copy : List ℕ = drop (8192 + (end - first)) work' in
      let q' : Put next (take (words - end) copy) plan plan' = rw m at q in
      record {
        table_stays = same;
        work_stays = long;
        links = put_before p 8192 (omega arith);
        aside = rw z at (aside_is 0 (words - first) (end - first) (omega arith) (omega arith) p);
        before = put_before q first h.behind;
        behind =
            rw y at (put_inside q' 0 (words - end) (omega (arith, length-take (words - end) copy, length-drop (8192 + (end - first)) work')))
            ∙ take-take (words - end) (words - end) copy (omega arith)
            ∙ rw x at (aside_is (end - first) (words - first) (words - end) (omega arith) (omega arith) p);
      }
