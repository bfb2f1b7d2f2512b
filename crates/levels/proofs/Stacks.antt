-- Levels as words at the front of an array: which words owe nothing, what a turn of `go` writes, whose numbers they are.
use mathlib.Core.Path.{◌≡◌, refl, sym, ap, ap₂, ◌∙◌}
use Prim.Native.Nat.{ℕ, zero, suc, ◌+◌, ◌-◌, ◌*◌, ◌/◌, ◌%◌, ◌≤◌, ◌<◌}
use native.Mathlib.Omega.{arith}
use mathlib.Core.Bool.{Bool, true, false}
use mathlib.Core.List.{List, [], ◌∷◌, map, reverse_aux}
use lib.Dec.{eqb}
use lib.ListN.{length, get_or, set, length-map}
use lib.Seq.{lt-length-set, get_or-set_same, get_or-set_other}
use borrow.Author.Tests.{eqb-true, eqb-false, eq-eqb, ne_eqb}
use Rattle.documents.proofs.Lists.{never}
use Rattle.levels.specs.Levels.{Level, level, begun, word_of, stacked}
use Rattle.levels.specs.Owing.{owing_from, Owes}
use Rattle.levels.proofs.Next.{Owed, unended}
use Rattle.levels.proofs.Spines.{Low, node_of, again, Backs}

-- ---- Owing

module _ {above : List ℕ} {k : ℕ} (h : Owes above k) where
  pub owes_some : 1 ≤ k
  unfolding owing_from
  owes_some = go k h.some
    where
      go : (k : ℕ) → 0 < owing_from above k → 1 ≤ k
      go zero h = absurd (omega arith)
      go (suc k) h = omega arith

  -- the last word owes nothing
  pub owing_falls : get_or above (k - 1) 0 % 16 ≡ 0 → owing_from above (k - 1) ≡ owing_from above k
  unfolding owing_from
  owing_falls = go k owes_some
    where
      go : (k : ℕ) → 1 ≤ k → get_or above (k - 1) 0 % 16 ≡ 0 → owing_from above (k - 1) ≡ owing_from above k
      go zero h e = absurd (omega arith)
      go (suc k) h e = let z : suc k - 1 ≡ k = omega arith in let f : get_or above k 0 % 16 ≡ 0 = rw z at e in rw (z, eq-eqb (get_or above k 0 % 16) 0 f)

  pub owes_falls : get_or above (k - 1) 0 % 16 ≡ 0 → Owes above (k - 1)
  owes_falls e = record { inside = let i = h.inside in omega arith; some = rw (owing_falls e) h.some }

  -- the last word owes something
  pub owing_stays : (get_or above (k - 1) 0 % 16 ≡ 0 → ⊥) → k ≡ owing_from above k
  unfolding owing_from
  owing_stays = go k owes_some
    where
      go : (k : ℕ) → 1 ≤ k → (get_or above (k - 1) 0 % 16 ≡ 0 → ⊥) → k ≡ owing_from above k
      go zero h e = absurd (omega arith)
      go (suc k) h e = let z : suc k - 1 ≡ k = omega arith in rw (ne_eqb (get_or above k 0 % 16) 0 (λ f. e (rw z f)))

-- ---- Words of levels

pub length_stacked : (above : List ℕ) (k : ℕ) → length (stacked above k) ≡ k
length_stacked above zero = refl
length_stacked above (suc k) = ap suc (length_stacked above k)

stacked_set : (above : List ℕ) (k m v : ℕ) → k ≤ m → stacked (set above m v) k ≡ stacked above k
stacked_set above zero m v h = refl
stacked_set above (suc k) m v h = ap₂ (λ (x : ℕ) (l : List ℕ). x ∷ l) (get_or-set_other above m k v 0 (λ e. omega arith)) (stacked_set above k m v (omega arith))

-- without the words that owe nothing, the levels without those that owe nothing
pub owing_levels : (above : List ℕ) (k : ℕ) (ls : List Level) → Low ls → stacked above k ≡ map word_of ls
    → stacked above (owing_from above k) ≡ map word_of (unended ls)
unfolding owing_from
owing_levels above zero [] l e = refl
owing_levels above (suc k) [] l e = never (cc)
owing_levels above zero (level a o ∷ ls) l e = never (cc)
owing_levels above (suc k) (level a zero ∷ ls) l e =
    let h : get_or above k 0 ≡ a * 16 + 0 = cc in
    let r : stacked above k ≡ map word_of ls = cc in
    rw (eq-eqb (get_or above k 0 % 16) 0 (omega arith)) (owing_levels above k ls l.2 r)
owing_levels above (suc k) (level a (suc o) ∷ ls) l e =
    let h : get_or above k 0 ≡ a * 16 + suc o = cc in
    let b = l.1 in
    rw (ne_eqb (get_or above k 0 % 16) 0 (λ z. omega arith)) e

-- two words are written
stacked_two : (above : List ℕ) (k v w : ℕ) → suc k < length above → stacked (set (set above k v) (suc k) w) (suc (suc k)) ≡ w ∷ v ∷ stacked above k
stacked_two above k v w h =
    let a = get_or-set_same (set above k v) (suc k) w 0 (lt-length-set above k v h) in
    let b = get_or-set_other (set above k v) (suc k) k w 0 (λ e. omega arith) ∙ get_or-set_same above k v 0 (omega arith) in
    let c = stacked_set (set above k v) k (suc k) w (omega arith) ∙ stacked_set above k k v (omega arith) in
    rw (a, b, c)

-- a node's level goes on top, and one argument of the nearest above has begun
pub pushed_levels : (above : List ℕ) (k w : ℕ) (ls : List Level) → Owed 1 ls → k < length above → stacked above k ≡ map word_of ls
    → stacked (set (set above (k - 1) (get_or above (k - 1) 0 - 1)) k w) (k + 1) ≡ w ∷ map word_of (begun ls)
pushed_levels above k w [] o h e = absurd o
pushed_levels above zero w (level a q ∷ ls) o h e = never (cc)
pushed_levels above (suc k) w (level a zero ∷ ls) o h e = absurd (omega arith)
pushed_levels above (suc k) w (level a (suc q) ∷ ls) o h e =
    let z : suc k - 1 ≡ k = omega arith in
    let i : suc k + 1 ≡ suc (suc k) = omega arith in
    let v : get_or above k 0 ≡ a * 16 + suc q = cc in
    let r : stacked above k ≡ map word_of ls = cc in
    let d : get_or above k 0 - 1 ≡ a * 16 + q = omega arith in
    rw (z, d, i) (stacked_two above k (a * 16 + q) w h ∙ ap (λ (l : List ℕ). w ∷ (a * 16 + q) ∷ l) r)

-- an argument is still to begin
pub again_levels : (above : List ℕ) (k : ℕ) (ls : List Level) → suc k ≤ length above → stacked above (suc k) ≡ map word_of ls
    → stacked (set above k (get_or above k 0 + 1)) (suc k) ≡ map word_of (again ls)
again_levels above k [] h e = never (cc)
again_levels above k (level a o ∷ ls) h e =
    let v : get_or above k 0 ≡ a * 16 + o = cc in
    let r : stacked above k ≡ map word_of ls = cc in
    let d : get_or above k 0 + 1 ≡ a * 16 + suc o = omega arith in
    ap₂ (λ (x : ℕ) (l : List ℕ). x ∷ l) (get_or-set_same above k _ 0 (omega arith) ∙ d) (stacked_set above k k _ (omega arith) ∙ r)

-- ---- Their numbers

word_number : (a o : ℕ) → o ≤ 8 → (a * 16 + o) / 16 ≡ a
word_number a o h = omega arith

numbers_words : (ls : List Level) → Low ls → map (λ w. w / 16) (map word_of ls) ≡ map node_of ls
numbers_words [] l = refl
numbers_words (level a o ∷ ls) l = ap₂ (λ (x : ℕ) (l : List ℕ). x ∷ l) (word_number a o l.1) (numbers_words ls l.2)

module _ (above : List ℕ) where
  abbrev numbers_in : ℕ → List ℕ
  numbers_in k = map (λ w. w / 16) (stacked above k)

  -- the numbers of l come in order, behind those of r
  numbers_from : (l r : List ℕ) (k : ℕ) → numbers_in k ≡ reverse_aux l r
      → (numbers_in (length r) ≡ r) × ((j : ℕ) → j < length l → get_or above (length r + j) 0 / 16 ≡ get_or l j 0)
  numbers_from [] r k e =
      let z : length r ≡ k = sym (ap length e) ∙ length-map (stacked above k) (λ w. w / 16) ∙ length_stacked above k in
      (ap numbers_in z ∙ e, λ j h. absurd (omega arith))
  numbers_from (a ∷ l) r k e =
      let i = numbers_from l (a ∷ r) k e in
      let q : get_or above (length r) 0 / 16 ≡ a = cc i.0 in
      let f : numbers_in (length r) ≡ r = cc i.0 in
      (f, go q i.1)
    where
      go : get_or above (length r) 0 / 16 ≡ a → ((j : ℕ) → j < length l → get_or above (suc (length r) + j) 0 / 16 ≡ get_or l j 0)
          → (j : ℕ) → j < suc (length l) → get_or above (length r + j) 0 / 16 ≡ get_or (a ∷ l) j 0
      go q g zero h = let z : length r + 0 ≡ length r = omega arith in rw z q
      go q g (suc j) h = let z : length r + suc j ≡ suc (length r) + j = omega arith in rw z (g j (omega arith))

  -- the words behind the first are those of l, in order
  pub numbers_are : (ls : List Level) (k : ℕ) (l : List ℕ) → Low ls → stacked above k ≡ map word_of ls → map node_of ls ≡ reverse_aux l (0 ∷ [])
      → (i : ℕ) → 1 ≤ i → i ≤ length l → get_or above i 0 / 16 ≡ get_or l (i - 1) 0
  numbers_are ls k l low e f i h b =
      let z : i ≡ 1 + (i - 1) = omega arith in
      let g : numbers_in k ≡ reverse_aux l (0 ∷ []) = ap (λ (ws : List ℕ). map (λ w. w / 16) ws) e ∙ numbers_words ls low ∙ f in
      ap (λ (x : ℕ). get_or above x 0 / 16) z ∙ (numbers_from l (0 ∷ []) k g).1 (i - 1) (omega arith)

  -- ---- The levels above that of word i

  pub record After (f : ℕ → List Level) (i : ℕ) : Type 0 where
    pub levels : List Level
    pub theirs : f (get_or above i 0 / 16) ≡ again levels
    pub words : stacked above i ≡ map word_of levels
    pub low : Low levels

  pub after_word : (f : ℕ → List Level) (ls : List Level) (k i : ℕ) → Backs f ls → Low ls → stacked above k ≡ map word_of ls → 1 ≤ i → i < k → After f i
  after_word f [] zero i b l e h j = absurd (omega arith)
  after_word f [] (suc k) i b l e h j = never (cc)
  after_word f (x ∷ ls) zero i b l e h j = never (cc)
  after_word f (level a o ∷ []) (suc k) i b l e h j = let r : stacked above k ≡ [] = cc in absurd (omega (arith, ap length r, length_stacked above k))
  after_word f (level a o ∷ x ∷ ls) (suc k) i b l e h j =
      let v : get_or above k 0 ≡ a * 16 + o = cc in
      let r : stacked above k ≡ map word_of (x ∷ ls) = cc in
      go v r (after_word f (x ∷ ls) k i b.1 l.2 r h) (eqb i k) refl
    where
      go : get_or above k 0 ≡ a * 16 + o → stacked above k ≡ map word_of (x ∷ ls) → (i < k → After f i) → (q : Bool) → eqb i k ≡ q → After f i
      go v r g true q =
          let z = eqb-true i k q in
          rw z (record {
            levels = x ∷ ls;
            theirs = ap (λ (w : ℕ). f (w / 16)) v ∙ ap f (word_number a o l.1) ∙ b.0;
            words = r;
            low = l.2;
          })
      go v r g false q = let n = eqb-false i k q in g (omega arith)
