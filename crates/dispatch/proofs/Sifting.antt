-- Rules put into the sets of the buckets that they ask for, one after the other: each rule so far is in the set of the bucket that it asks for, or in
-- all, and no later rule is in any. When all are in, a rule that is not in a node's set fails there.
use mathlib.Core.Path.{◌≡◌, refl, sym, ap, ◌∙◌}
use mathlib.Core.Logic.{◌⊎◌, inl, inr, ⊎_elim}
use Prim.Native.Nat.{ℕ, zero, suc, ◌+◌, ◌^◌, ◌≤◌, ◌<◌}
use native.Mathlib.Omega.{arith}
use mathlib.Core.Bool.{Bool, true, false, ◌||◌, cond}
use mathlib.Core.Option.{some}
use mathlib.Core.List.{List, [], ◌∷◌, map}
use lib.Dec.{eqb, ltb}
use lib.ListN.{length, get_or, get_elem?, set, replicate, length-map, length-set, length-replicate, get_or-eq_default}
use lib.Seq.{get_or-set_same, get_or-set_other}
use lib.Bits.{or_lt}
use lib.Pow.{pow_pos, pow-lt}
use borrow.Author.Tests.{eq-eqb, eqb-true, eqb-false, ltb-true, ltb-false}
use Rattle.documents.specs.Instructions.{Program, words}
use Rattle.documents.proofs.Lists.{never, on, off, case}
use Rattle.documents.proofs.Instructions.{words_program_in}
use Rattle.indices.specs.Sets.{has, inserted}
use Rattle.indices.proofs.Covers.{insert_bit}
use Rattle.rule_table.specs.Places.{code_at, Places}
use Rattle.rule_table.proofs.Placed.{placed_below, placed_inside, placed_holds, placed_obeys, below_placed}
use Rattle.dispatch.specs.Buckets.{bucket_of, root_word, root_count, asked_at, asked_behind}
use Rattle.dispatch.specs.Admitted.{everywhere, admitted, Readable}
use Rattle.dispatch.specs.Sorted.{Sorted}
use Rattle.dispatch.proofs.Asking.{bucket_low, root_readable, behind_readable, root_fails, behind_fails}

-- ---- One rule more in a set

-- 32 bits hold it
pub inserted_fits : (m k : ℕ) → m < 2 ^ 32 → k < 32 → inserted m k < 2 ^ 32
unfolding inserted
inserted_fits m k l h = or_lt 32 m (2 ^ k) l (pow-lt h)

inserted_low : (m k : ℕ) → m < 2 ^ k → inserted m k < 2 ^ (k + 1)
unfolding inserted
inserted_low m k h = let l : 2 ^ k < 2 ^ (k + 1) = pow-lt (omega arith) in or_lt (k + 1) m (2 ^ k) (omega arith) l

inserted_has : (m k i : ℕ) → has m i ≡ true → has (inserted m k) i ≡ true
inserted_has m k i e = insert_bit m k i ∙ rw e

inserted_there : (m k : ℕ) → has (inserted m k) k ≡ true
inserted_there m k = insert_bit m k k ∙ rw (eq-eqb k k refl) (go (has m k))
  where
    go : (q : Bool) → q || true ≡ true
    go true = refl
    go false = refl

-- ---- One rule more in the sets

map_at : (f : ℕ → ℕ) (l : List ℕ) (b : ℕ) → b < length l → get_or (map f l) b 0 ≡ f (get_or l b 0)
map_at f [] b h = absurd (omega arith)
map_at f (x ∷ l) zero h = refl
map_at f (x ∷ l) (suc b) h = map_at f l b (omega arith)

-- a bucket is asked for, or any
abbrev pub For : ℕ → ℕ → Type 0
For asked b = (asked ≡ 258) ⊎ (asked ≡ b)

-- a set gets the rule, or stays
abbrev AdmittedAt : ℕ → List ℕ → ℕ → ℕ → Type 0
AdmittedAt asked masks k b =
    ((get_or (admitted asked masks k) b 0 ≡ inserted (get_or masks b 0) k) × For asked b)
    ⊎ ((get_or (admitted asked masks k) b 0 ≡ get_or masks b 0) × (For asked b → ⊥))

module _ (asked : ℕ) (masks : List ℕ) (k : ℕ) (long : length masks ≡ 258) where
  admitted_long : length (admitted asked masks k) ≡ 258
  unfolding admitted everywhere
  admitted_long = go (eqb asked 258)
    where
      go : (q : Bool) → length (cond q (map (λ s. inserted s k) masks) (set masks asked (inserted (get_or masks asked 0) k))) ≡ 258
      go true = length-map masks (λ s. inserted s k) ∙ long
      go false = length-set masks asked _ ∙ long

  admitted_at : (b : ℕ) → b < 258 → AdmittedAt asked masks k b
  unfolding admitted everywhere
  admitted_at b h = go (eqb asked 258) refl (eqb asked b) refl
    where
      go : (p : Bool) → eqb asked 258 ≡ p → (q : Bool) → eqb asked b ≡ q → AdmittedAt asked masks k b
      go true e q f = inl (rw e (map_at (λ s. inserted s k) masks b (omega arith)), inl (eqb-true asked 258 e))
      go false e true f =
          let z = eqb-true asked b f in
          inl (rw (e, z) (get_or-set_same masks b (inserted (get_or masks b 0) k) 0 (omega arith)), inr z)
      go false e false f =
          inr (
            rw e (get_or-set_other masks asked b (inserted (get_or masks asked 0) k) 0 (λ z. eqb-false asked b f (sym z))),
            ⊎_elim (eqb-false asked 258 e) (eqb-false asked b f),
          )

-- ---- The sets of the first k rules, each of which asks for a bucket

pub record Sifted (asked : ℕ → ℕ) (k : ℕ) (masks : List ℕ) : Type 0 where
  pub long : length masks ≡ 258
  pub low : (b : ℕ) → get_or masks b 0 < 2 ^ k
  pub there : (i b : ℕ) → i < k → b < 258 → For (asked i) b → has (get_or masks b 0) i ≡ true

pub sifted_none : (asked : ℕ → ℕ) {masks : List ℕ} → masks ≡ replicate 258 0 → Sifted asked 0 masks
sifted_none asked {masks} e = record {
  long = ap length e ∙ length-replicate {A = ℕ} 258 0;
  low = λ b. rw (e, zeros 258 b) (omega arith);
  there = λ i b h. absurd (omega arith);
}
  where
    zeros : (n b : ℕ) → ◌≡◌ {A = ℕ} (get_or (replicate n 0) b 0) 0
    zeros zero b = refl
    zeros (suc n) zero = refl
    zeros (suc n) (suc b) = zeros n b

module _ {asked : ℕ → ℕ} {k : ℕ} {masks : List ℕ} (p : Sifted asked k masks) where
  abbrev next : List ℕ
  next = admitted (asked k) masks k

  next_low : (b : ℕ) → get_or next b 0 < 2 ^ (k + 1)
  next_low b =
      let l : 2 ^ k < 2 ^ (k + 1) = pow-lt (omega arith) in
      let h = p.low b in
      case (λ z. get_or next b 0 < 2 ^ (k + 1)) (ltb b 258)
      (λ y.
      ⊎_elim (λ g. rw g.0 (inserted_low (get_or masks b 0) k h)) (λ g. rw g.0 (omega arith))
      (admitted_at (asked k) masks k p.long b (ltb-true b 258 (on _ y))))
      (λ y.
      let m = ltb-false b 258 (off _ y) in
      rw (get_or-eq_default next 0 {n = b} (omega (arith, admitted_long (asked k) masks k p.long))) (pow_pos (k + 1)))

  next_there : (i b : ℕ) → i < k + 1 → b < 258 → For (asked i) b → has (get_or next b 0) i ≡ true
  next_there i b h l f =
      let here = admitted_at (asked k) masks k p.long b l in
      case (λ z. has (get_or next b 0) i ≡ true) (eqb i k)
      (λ y.
      let z = eqb-true i k (on _ y) in
      ⊎_elim (λ g. rw (g.0, z) (inserted_there (get_or masks b 0) k)) (λ g. absurd (g.1 (rw z at f))) here)
      (λ y.
      let z = eqb-false i k (off _ y) in
      let o = p.there i b (omega arith) l f in
      ⊎_elim (λ g. rw g.0 (inserted_has (get_or masks b 0) k i o)) (λ g. rw g.0 o) here)

  pub sifted_more : {a : ℕ} {after : List ℕ} → a ≡ asked k → after ≡ admitted a masks k → Sifted asked (k + 1) after
  sifted_more q e = rw (e, q) (record { long = admitted_long (asked k) masks k p.long; low = next_low; there = next_there })

  -- a rule that is not in a bucket's set asks for another bucket
  sifted_other : (i b : ℕ) → i < k → b < 258 → has (get_or masks b 0) i ≡ false → For (asked i) b → ⊥
  sifted_other i b h l e f = never (cc (p.there i b h l f))

-- ---- The rules of a table, sorted

-- what each rule asks of a root, and of the node behind it
abbrev pub of_roots : List ℕ → List ℕ → ℕ → ℕ
of_roots rules starts i = asked_at (code_at rules (get_or starts i 0)) 0

abbrev pub of_seconds : List ℕ → List ℕ → ℕ → ℕ
of_seconds rules starts i = asked_behind (code_at rules (get_or starts i 0))

pub record Sorting (rules starts roots seconds : List ℕ) (i : ℕ) : Type 0 where
  pub inside : i ≤ length starts
  pub roots_are : Sifted (of_roots rules starts) i roots
  pub seconds_are : Sifted (of_seconds rules starts) i seconds

pub sorting_none : (rules starts : List ℕ) {roots seconds : List ℕ} → roots ≡ replicate 258 0 → seconds ≡ replicate 258 0 → Sorting rules starts roots seconds 0
sorting_none rules starts r s = record { inside = omega arith; roots_are = sifted_none _ r; seconds_are = sifted_none _ s }

module _ {rules starts : List ℕ} {cs : List Program} (p : Places rules starts cs) where
  code_words : (i : ℕ) (c : Program) → get_elem? cs i ≡ some c → words c ≡ code_at rules (get_or starts i 0)
  code_words i c e = words_program_in (code_at rules (get_or starts i 0)) c (placed_holds rules starts cs p i c e)

  -- a rule's code is there, with the words that are looked at
  module _ (i : ℕ) (h : i < length starts) where
    pub code_inside : get_or starts i 0 + 1 + get_or rules (get_or starts i 0) 0 ≤ length rules
    code_inside = let (c, e) = below_placed rules starts cs p i h in placed_inside rules starts cs p i c e

    pub code_readable : {code : List ℕ} → code ≡ code_at rules (get_or starts i 0) → Readable code 0 × (get_or code 0 0 ≡ 0 → Readable code 3)
    code_readable q =
        let (c, e) = below_placed rules starts cs p i h in
        let o = placed_obeys rules starts cs p i c e in
        rw (q, ← code_words i c e) (root_readable c o, behind_readable c o)

  all_sorted : {roots seconds : List ℕ} → Sifted (of_roots rules starts) (length starts) roots → Sifted (of_seconds rules starts) (length starts) seconds
      → Sorted cs roots seconds
  all_sorted {roots} {seconds} r s = record {
    roots_are = record { long = r.long; low = rw p.count at r.low };
    seconds_are = record { long = s.long; low = rw p.count at s.low };
    root = λ i c t e h.
        let o = sifted_other r i (bucket_of (root_word t) (root_count t)) (placed_below rules starts cs p i c e) (bucket_low (root_word t) (root_count t)) h in
        let f = rw (← code_words i c e) at o in
        root_fails c (placed_obeys rules starts cs p i c e) t (λ z. f (inl z)) (λ z. f (inr z));
    second = λ i c t word count e u h.
        let o = sifted_other s i (bucket_of word count) (placed_below rules starts cs p i c e) (bucket_low word count) h in
        let f = rw (← code_words i c e) at o in
        behind_fails word count c t (placed_obeys rules starts cs p i c e) u (λ z. f (inl z)) (λ z. f (inr z));
  }

module _ {rules starts roots seconds : List ℕ} {i : ℕ} (p : Sorting rules starts roots seconds i) where
  pub sorting_more : {code roots' seconds' : List ℕ} {a b : ℕ} → i < length starts → code ≡ code_at rules (get_or starts i 0)
      → a ≡ asked_at code 0 → roots' ≡ admitted a roots i → b ≡ asked_behind code → seconds' ≡ admitted b seconds i → Sorting rules starts roots' seconds' (i + 1)
  sorting_more h q r e s f = record {
    inside = omega arith;
    roots_are = sifted_more p.roots_are (r ∙ rw q) e;
    seconds_are = sifted_more p.seconds_are (s ∙ rw q) f;
  }

  pub sorting_all : length starts ≤ i → (cs : List Program) → Places rules starts cs → Sorted cs roots seconds
  sorting_all h cs q =
      let e : i ≡ length starts = omega (arith, p.inside) in
      all_sorted q (rw e at p.roots_are) (rw e at p.seconds_are)
