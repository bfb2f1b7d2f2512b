-- The length of a right side's code, node by node: at each node the words of its own instructions, whatever stands behind it.
use mathlib.Core.Path.{◌≡◌, ap}
use Prim.Native.Nat.{ℕ, zero, suc, ◌+◌, ◌*◌, ◌/◌, ◌≤◌, ◌<◌}
use native.Mathlib.Omega.{arith}
use mathlib.Core.List.{List}
use lib.ListN.{length}
use Rattle.documents.specs.Terms.{Nil, Cons, Terms, len}
use Rattle.compiled.specs.Length.{right_words}
use Rattle.compiled.proofs.WordCount.{right_bound}
use Rattle.std.specs.Prelude.{Some, None, true, false}
use Rattle.tables.specs.declared.walk.Node.{Node}
use Rattle.tables.specs.declared.walk.Nodes.{Nodes}
use Rattle.tables.specs.Nodes.{Stands, starts, node_gives, owes, is_metavariable}
use Rattle.tables.specs.Parts.{terms, front, Begins}
use Rattle.tables.proofs.Parts.{join, only, Step, step, front_term}
use Rattle.tables.proofs.Walks.{walking_from}
use Rattle.tables.proofs.Nodes.{owes_first, owes_behind, owes_none, stood, metavariable_range, metavariable_none}
use Rattle.tables.proofs.Fronts.{last_word}

right_words_join : (ts us : Terms) → right_words (join ts us) ≡ right_words ts + right_words us
right_words_join Nil us = omega arith
right_words_join (Cons t ts) us = let h = right_words_join ts us in omega arith

-- the words of a node's own instructions
abbrev own_words : ℕ → ℕ → ℕ
own_words zero c = 2
own_words (suc zero) c = 3
own_words (suc (suc zero)) c = 4 + 2 * c
own_words (suc (suc (suc k))) c = 2

own_words_lem : {k s c : ℕ} {ts us : Terms} → Step k s c ts us → right_words ts ≡ own_words k c + right_words us
own_words_lem {k = zero} {ts = ts} {us} p =
    let e : right_words ts ≡ 2 + right_words p.later = ap (λ (x : Terms). right_words x) p.node in
    let f : right_words us ≡ right_words (join p.arguments p.later) = ap (λ (x : Terms). right_words x) p.inside in
    let g : right_words (join p.arguments p.later) ≡ right_words p.later = ap (λ (x : Terms). right_words (join x p.later)) p.shape in
    omega arith
own_words_lem {k = suc zero} {ts = ts} {us} p =
    let e : right_words ts ≡ right_words p.arguments + 3 + right_words p.later = ap (λ (x : Terms). right_words x) p.node in
    let f : right_words us ≡ right_words (join p.arguments p.later) = ap (λ (x : Terms). right_words x) p.inside in
    let g = right_words_join p.arguments p.later in
    omega arith
own_words_lem {k = suc (suc zero)} {c = c} {ts} {us} p =
    let e : right_words ts ≡ 4 + 2 * len p.arguments + right_words p.arguments + right_words p.later = ap (λ (x : Terms). right_words x) p.node in
    let f : right_words us ≡ right_words (join p.arguments p.later) = ap (λ (x : Terms). right_words x) p.inside in
    let g = right_words_join p.arguments p.later in
    let h = p.count in
    omega arith
own_words_lem {k = suc (suc (suc zero))} {ts = ts} {us} p =
    let e : right_words ts ≡ 2 + right_words (only p.arguments) + right_words p.later = ap (λ (x : Terms). right_words x) p.node in
    let f : right_words us ≡ right_words (join p.arguments p.later) = ap (λ (x : Terms). right_words x) p.inside in
    let g : right_words (join p.arguments p.later) ≡ right_words (only p.arguments) + right_words p.later = ap (λ (x : Terms). right_words (join x p.later)) p.shape.1 in
    omega arith
own_words_lem {k = suc (suc (suc (suc k)))} p = absurd p.shape

-- ---- The walk that counts

-- with the words of the terms still owed those counted are the subterm's
pub record Counting (part : List ℕ) (walk : Nodes) (words : ℕ) : Type 0 where
  pub sum : words + right_words (owes walk) ≡ right_words (front part)
  pub short : right_words (front part) ≤ 1536

pub counting_from : (part : List ℕ) (s : Nodes) → Begins 1 part → length part ≤ 512 → starts part s → Counting part s 0
counting_from part s b h i =
    let r = (walking_from b).room in
    let k = right_bound (front part) in
    let e : right_words (terms 1 part) ≡ right_words (front part) + 0 = ap (λ (x : Terms). right_words x) (front_term part b) in
    let f : right_words (owes s) ≡ right_words (terms 1 part) = ap (λ (x : Terms). right_words x) (owes_first part s i) in
    record { sum = omega arith; short = omega arith }

pub counting_ended : {part : List ℕ} {words : ℕ} (s t : Nodes) → Counting part s words → Stands s → node_gives s None t → words ≡ right_words (front part)
counting_ended s t c b g =
    let e = rw (owes_none s t b g) at c.sum in
    omega arith

module _ {part : List ℕ} {words : ℕ} (s t : Nodes) (n : Node) (c : Counting part s words) (b : Stands s) (g : node_gives s (Some n) t) where
  pub narrow : n.count ≤ 8
  narrow = let k = (step s.part.now s.at s.owed b.0 g.1.0).narrow in omega arith

  counting_on : (m : ℕ) → own_words (n.word / 65536) n.count ≡ m → Counting part t (words + m)
  counting_on m e =
      let o : right_words (owes s) ≡ own_words (n.word / 65536) n.count + right_words (owes t) =
      rw (owes_behind s t n b g, g.1.1, g.1.2) (own_words_lem (step s.part.now s.at s.owed b.0 g.1.0)) in
      let k = c.sum in
      record { sum = omega arith; short = c.short }

  pub counting_variable : n.word < 65536 → Counting part t (words + 2)
  counting_variable v = let k : n.word / 65536 ≡ 0 = omega arith in counting_on 2 (rw k)

  pub counting_symbol : is_metavariable n.word ≡ false → (n.word ≡ 196608 → ⊥) → 65536 ≤ n.word → Counting part t (words + 3)
  counting_symbol m ne lo =
      let hi = last_word (stood s t n b g) g.1.0 in
      let o : 131072 ≤ n.word → ⊥ = λ h. metavariable_none m h (omega arith) in
      let k : n.word / 65536 ≡ 1 = omega arith in
      counting_on 3 (rw k)

  pub counting_abstraction : n.word ≡ 196608 → Counting part t (words + 2)
  counting_abstraction v = let k : n.word / 65536 ≡ 3 = omega arith in counting_on 2 (rw k)

  pub counting_metavariable : is_metavariable n.word ≡ true → Counting part t (words + (4 + 2 * n.count))
  counting_metavariable m =
      let r : (131072 ≤ n.word) × (n.word < 196608) = metavariable_range m in
      let k : n.word / 65536 ≡ 2 = omega arith in
      counting_on (4 + 2 * n.count) (rw k)
