-- What a caller of `go` knows of the words above a node: how many, whose numbers they hold, which nodes a search has passed once it has looked at these,
-- and how the array comes to stand above one of them, or above the same node after a rewrite there.
use mathlib.Core.Path.{◌≡◌, refl, sym, ap, ◌∙◌, subst}
use Prim.Native.Nat.{ℕ, zero, suc, ◌+◌, ◌-◌, ◌*◌, ◌/◌, ◌^◌, ◌≤◌, ◌<◌}
use native.Mathlib.Omega.{arith}
use mathlib.Core.Bool.{Bool, true, false, cond}
use mathlib.Core.Option.{Option, none, some}
use mathlib.Core.List.{List, [], ◌∷◌, map}
use lib.Dec.{ltb}
use lib.ListN.{length, get_or, set, replicate, length-set, length-map, length-reverse_aux}
use borrow.Author.Tests.{ltb-true, ltb-false}
use Rattle.documents.specs.Terms.{Sort, Tm, Var, Sym, Meta, Abst, Nil, Cons, Term}
use Rattle.documents.specs.Tables.{nodes, depth, subterm}
use Rattle.documents.specs.Numbers.{answered, subject_in}
use Rattle.documents.proofs.Lists.{never}
use Rattle.documents.proofs.Nodes.{nodes_positive, subterm_inside}
use Rattle.documents.proofs.Numbers.{Held, subject_in_held}
use Rattle.tables.specs.Parts.{front}
use Rattle.rewriting.specs.Replacing.{replace, deeper, depth_at}
use Rattle.rewriting.proofs.Contexts.{subterm_at, replaced_subterm}
use Rattle.rewriting.proofs.Ancestors.{ancestors, ancestors_depth}
use Rattle.rewriting.proofs.Searching.{Searched, search_jumps}
use Rattle.levels.specs.Levels.{Level, level, levels_of, word_of, stacked, Above}
use Rattle.levels.proofs.Next.{levels_root}
use Rattle.levels.proofs.Spines.{Low, node_of, levels_low, levels_numbers, levels_back, levels_stay}
use Rattle.levels.proofs.Rising.{ancestors_rise, rising_bounds, rising_before, member_at}
use Rattle.levels.proofs.Stacks.{length_stacked, again_levels, numbers_are, After, after_word}

-- ---- The start

levels_of_root : (t : Term) → levels_of t 0 ≡ level 0 1 ∷ []
unfolding levels_of
levels_of_root t = levels_root 0 t (level 0 1 ∷ [])

pub above_starts : (plan : List ℕ) → subject_in plan ≡ answered (front plan) → Above plan 0 (set (replicate 65 0) 0 1) 1
above_starts plan e = record { accepted = e; inside = nodes_positive (front plan); words = ap (map word_of) (sym (levels_of_root (front plan))); long = refl }

-- ---- A node's depth

deeper_one : (d : ℕ) → deeper d ≤ suc d
deeper_one zero = omega arith
deeper_one (suc d) = omega arith

node_depth_lem : {s : Sort} (t : Tm s) (n : ℕ) → depth_at t n ≤ depth t
node_depth_lem (Var x) zero = omega arith
node_depth_lem (Var x) (suc n) = omega arith
node_depth_lem (Sym s ts) zero = omega arith
node_depth_lem (Sym s ts) (suc n) = omega (arith, deeper_one (depth_at ts n), node_depth_lem ts n)
node_depth_lem (Meta z ts) zero = omega arith
node_depth_lem (Meta z ts) (suc n) = omega (arith, deeper_one (depth_at ts n), node_depth_lem ts n)
node_depth_lem (Abst t) zero = omega arith
node_depth_lem (Abst t) (suc n) = omega (arith, deeper_one (depth_at t n), node_depth_lem t n)
node_depth_lem Nil n = omega arith
node_depth_lem (Cons t ts) n = go (ltb n (nodes t)) (node_depth_lem t n) (node_depth_lem ts (n - nodes t))
  where
    go : (q : Bool) → depth_at t n ≤ depth t → depth_at ts (n - nodes t) ≤ depth ts → cond q (depth_at t n) (depth_at ts (n - nodes t)) ≤ depth (Cons t ts)
    go true h k = omega arith
    go false h k = omega arith

-- ---- The words above a node

-- the nodes of words 1 to i - 1 have no answer
abbrev pub SilentAbove : (Term → Option Term) → List ℕ → List ℕ → ℕ → Type 0
SilentAbove f plan above i = (j : ℕ) → 1 ≤ j → j < i → (v : Term) → subterm (front plan) (get_or above j 0 / 16) ≡ some v → f v ≡ none

module _ {plan : List ℕ} {n : ℕ} {above : List ℕ} {many : ℕ} (h : Above plan n above many) where
  pub above_held : Held 4096 plan (front plan)
  above_held = (subject_in_held plan (front plan) h.accepted).0

  pub above_there : (u : Term) × (subterm (front plan) n ≡ some u)
  above_there = subterm_at (front plan) n h.inside

  pub above_low : Low (levels_of (front plan) n)
  above_low = levels_low (front plan) n above_there.0 above_there.1 above_held.fits above_held.small

  above_ancestors : many ≡ length (ancestors (front plan) n) + 1
  above_ancestors =
      let l = levels_of (front plan) n in
      sym (length_stacked above many) ∙ ap length h.words ∙ length-map l word_of ∙ sym (length-map l node_of)
      ∙ ap length (levels_numbers (front plan) n above_there.0 above_there.1) ∙ length-reverse_aux (ancestors (front plan) n) (0 ∷ [])

  pub above_depth : many ≡ depth_at (front plan) n
  above_depth = above_ancestors ∙ ancestors_depth (front plan) n above_there.0 above_there.1

  pub above_few : (1 ≤ many) × (many ≤ 64)
  above_few = (omega (arith, above_ancestors), omega (arith, above_depth, node_depth_lem (front plan) n, above_held.shallow))

  -- word i holds ancestor i, the root being the first
  above_number : (i : ℕ) → 1 ≤ i → i < many → get_or above i 0 / 16 ≡ get_or (ancestors (front plan) n) (i - 1) 0
  above_number i a b =
      numbers_are above (levels_of (front plan) n) many (ancestors (front plan) n) above_low h.words
      (levels_numbers (front plan) n above_there.0 above_there.1) i a (omega (arith, above_ancestors))

  above_before : (i : ℕ) → 1 ≤ i → i < many → get_or above i 0 / 16 < n
  above_before i a b =
      let r = ancestors_rise 0 n (front plan) n (omega arith) in
      omega (arith, above_number i a b, (rising_bounds 0 n (ancestors (front plan) n) r (i - 1) (omega (arith, above_ancestors))).1)

  pub above_node : (i : ℕ) → 1 ≤ i → i < many → (get_or above i 0 / 16 < n) × ((u : Term) × (subterm (front plan) (get_or above i 0 / 16) ≡ some u))
  above_node i a b =
      let l = above_before i a b in
      (l, subterm_at (front plan) (get_or above i 0 / 16) (omega (arith, h.inside)))

  module _ {f : Term → Option Term} (s : Searched f (front plan) n 0) where
    -- on to a node b, where all words that hold one before b have been looked at
    looked_before : (i b : ℕ) → b ≤ n → ((j : ℕ) → 1 ≤ j → j < many → get_or above j 0 / 16 < b → j < i) → SilentAbove f plan above i
        → Searched f (front plan) n b
    looked_before i b l g k =
        search_jumps f (front plan) n 0 s above_there.0 above_there.1 b l
        (λ a v _ x m e. let r = member_at (ancestors (front plan) n) a m in word a v x e r.0 r.1 r.2)
      where
        word : (a : ℕ) (v : Term) → a < b → subterm (front plan) a ≡ some v
            → (j : ℕ) → j < length (ancestors (front plan) n) → get_or (ancestors (front plan) n) j 0 ≡ a → f v ≡ none
        word a v x e j y z =
            let y' : suc j < many = omega (arith, above_ancestors) in
            let o : 1 ≤ suc j = omega arith in
            let d : suc j - 1 ≡ j = omega arith in
            let q : get_or above (suc j) 0 / 16 ≡ a = above_number (suc j) o y' ∙ ap (λ (x : ℕ). get_or (ancestors (front plan) n) x 0) d ∙ z in
            k (suc j) o (g (suc j) o y' (omega arith)) v (ap (subterm (front plan)) q ∙ e)

    pub above_searched : (i : ℕ) → 1 ≤ i → i < many → SilentAbove f plan above i → Searched f (front plan) n (get_or above i 0 / 16)
    above_searched i a b k =
        let l = above_before i a b in
        looked_before i (get_or above i 0 / 16) (omega arith) before k
      where
        before : (j : ℕ) → 1 ≤ j → j < many → get_or above j 0 / 16 < get_or above i 0 / 16 → j < i
        before j c d x =
            let r = ancestors_rise 0 n (front plan) n (omega arith) in
            omega (
              arith,
              rising_before 0 n (ancestors (front plan) n) r (i - 1) (j - 1) (omega (arith, above_ancestors)) (omega (arith, above_ancestors))
                  (omega (arith, above_number i a b, above_number j c d)),
            )

    pub above_searched_all : SilentAbove f plan above many → Searched f (front plan) n n
    above_searched_all k = looked_before many n (omega arith) (λ j _ d _. d) k

  -- back to an ancestor: it is at hand again, and so still to begin for the node above it
  pub above_back : (i : ℕ) → 1 ≤ i → i < many
      → (get_or above (i - 1) 0 + 1 < 2 ^ 32) × Above plan (get_or above i 0 / 16) (set above (i - 1) (get_or above (i - 1) 0 + 1)) i
  above_back i a b =
      let l = above_before i a b in
      let t = front plan in
      let w = after_word above (levels_of t) (levels_of t n) many i (levels_back t n above_there.0 above_there.1) above_low h.words a b in
      let r = back i a (omega (arith, above_few.1, h.long)) w in
      (r.0, record { accepted = h.accepted; inside = omega (arith, h.inside); words = r.1; long = length-set above (i - 1) _ ∙ h.long })
    where
      small : (k : ℕ) (ls : List Level) → Low ls → stacked above (suc k) ≡ map word_of ls → get_or above k 0 + 1 < 2 ^ 32
      small k [] l e = never (cc)
      small k (level x o ∷ ls) l e = let v : get_or above k 0 ≡ x * 16 + o = cc in omega (arith, l.0, l.1)

      back : (i : ℕ) → 1 ≤ i → i ≤ length above → After above (levels_of (front plan)) i
          → (get_or above (i - 1) 0 + 1 < 2 ^ 32)
          × (stacked (set above (i - 1) (get_or above (i - 1) 0 + 1)) i ≡ map word_of (levels_of (front plan) (get_or above i 0 / 16)))
      back zero a b w = absurd (omega arith)
      back (suc k) a b w =
          let z : suc k - 1 ≡ k = omega arith in
          let P : ℕ → Type 0 = λ j. (get_or above j 0 + 1 < 2 ^ 32) × (stacked (set above j (get_or above j 0 + 1)) (suc k) ≡ map word_of (levels_of (front plan) (get_or above (suc k) 0 / 16))) in
          subst P (sym z) (small k w.levels w.low w.words, again_levels above k w.levels b w.words ∙ ap (map word_of) (sym w.theirs))

  -- another term in the node's place
  pub above_replaced : (plan' : List ℕ) (w : Term) → subject_in plan' ≡ answered (front plan') → front plan' ≡ replace (front plan) n w
      → Above plan' n above many
  above_replaced plan' w e q =
      let u = above_there.0 in
      let d = above_there.1 in
      record {
        accepted = e;
        inside = subterm_inside (front plan') n w (ap (λ (t : Term). subterm t n) q ∙ replaced_subterm (front plan) n u d w);
        words = h.words ∙ ap (map word_of) (sym (ap (λ (t : Term). levels_of t n) q ∙ levels_stay (front plan) n u d w));
        long = h.long;
      }

-- ---- A search over the words above a node

-- It has looked at the nodes of words 1 to i - 1, and none has an answer.
pub record Looked (f : Term → Option Term) (plan : List ℕ) (n : ℕ) (above : List ℕ) (many i : ℕ) : Type 0 where
  pub stands : Above plan n above many
  pub searched : Searched f (front plan) n 0
  pub from : 1 ≤ i
  pub silent : SilentAbove f plan above i

module _ {f : Term → Option Term} {plan : List ℕ} {n : ℕ} {above : List ℕ} {many : ℕ} where
  pub looked_starts : Above plan n above many → Searched f (front plan) n 0 → Looked f plan n above many 1
  looked_starts h s = record { stands = h; searched = s; from = omega arith; silent = λ j a b. absurd (omega arith) }

  module _ {i : ℕ} (l : Looked f plan n above many i) where
    -- the node of word i is at hand
    pub looked_here : i < many → Searched f (front plan) n (get_or above i 0 / 16)
    looked_here b = above_searched l.stands l.searched i l.from b l.silent

    -- it has no answer
    pub looked_further : (v : Term) → subterm (front plan) (get_or above i 0 / 16) ≡ some v → f v ≡ none → Looked f plan n above many (i + 1)
    looked_further v e q = record { stands = l.stands; searched = l.searched; from = omega arith; silent = λ j a b w d. go j w d (ltb j i) refl a b }
      where
        go : (j : ℕ) (w : Term) → subterm (front plan) (get_or above j 0 / 16) ≡ some w → (x : Bool) → ltb j i ≡ x → 1 ≤ j → j < i + 1 → f w ≡ none
        go j w d true x a b = l.silent j a (ltb-true j i x) w d
        go j w d false x a b =
            let c = ltb-false j i x in
            let z : j ≡ i = omega arith in
            let d' : subterm (front plan) (get_or above i 0 / 16) ≡ some w = rw z at d in
            let r : w ≡ v = cc in
            rw r q

    -- none of them has
    pub looked_all : many ≤ i → Searched f (front plan) n n
    looked_all b = above_searched_all l.stands l.searched (λ j a c. l.silent j a (omega arith))
