-- The subterm that a part begins with, by the kind of its root, and the arguments behind the root's words.
use mathlib.Core.Path.{◌≡◌, refl, sym, ap}
use Prim.Native.Nat.{ℕ, zero, suc, ◌+◌, ◌-◌, ◌/◌, ◌%◌, ◌≤◌, ◌<◌}
use native.Mathlib.Omega.{arith}
use mathlib.Core.Bool.{Bool, true, false}
use mathlib.Core.List.{List}
use lib.Dec.{ltb}
use lib.ListN.{length, drop, get_or}
use borrow.Author.Tests.{ltb-true, ltb-false}
use Rattle.documents.specs.Terms.{Var, Sym, Meta, Abst, Cons, Term, Terms, len}
use Rattle.documents.specs.Rules.{is_symbol}
use Rattle.tables.specs.Parts.{terms, front, Begins}
use Rattle.tables.proofs.Parts.{headed, Step, step, begins_inside, front_term, in_table}
use Rattle.tables.proofs.Walks.{at_variable, at_abstraction, Walk, walk_from}
use Rattle.tables.proofs.Sides.{arguments_are}

-- ---- The first word

word_kind : {k s c w : ℕ} {ts us : Terms} → Step k s c ts us → w / 65536 ≡ k → w % 65536 ≡ s → w ≤ 196608
word_kind {k = zero} p e f = omega arith
word_kind {k = suc zero} p e f = omega arith
word_kind {k = suc (suc zero)} p e f = omega arith
word_kind {k = suc (suc (suc zero))} p e f = let z = p.shape.0 in omega arith
word_kind {k = suc (suc (suc (suc k)))} p e f = absurd p.shape

-- an abstraction's is the last
pub last_word : {t : List ℕ} {a n : ℕ} → Walk t a n → 0 < n → get_or t a 0 ≤ 196608
last_word {t} {a} {n} w h = word_kind (step t a n w.begins h) refl refl

-- ---- The root

no_symbol : (k s : ℕ) (ts : Terms) → 2 ≤ k → is_symbol (headed k s ts) ≡ false
no_symbol zero s ts h = absurd (omega arith)
no_symbol (suc zero) s ts h = absurd (omega arith)
no_symbol (suc (suc zero)) s ts h = refl
no_symbol (suc (suc (suc k))) s ts h = refl

module _ {part : List ℕ} (b : Begins 1 part) where
  -- a node has two words
  pub root_words : 2 ≤ length part
  root_words = in_table part 0 b (omega arith)

  pub below_abstraction : (get_or part 0 0 ≡ 196608 → ⊥) → get_or part 0 0 < 196608
  below_abstraction ne = let k = last_word (walk_from b) (omega arith) in omega arith

  pub root : Step (get_or part 0 0 / 65536) (get_or part 0 0 % 65536) (get_or part 1 0) (terms 1 part) (terms (get_or part 1 0) (drop 2 part))
  root = let e : 1 - 1 + get_or part 1 0 ≡ get_or part 1 0 = omega arith in rw e at (step part 0 1 b (omega arith))

  front_is : (t : Term) (us : Terms) → terms 1 part ≡ Cons t us → front part ≡ t
  front_is t us e = cc (front_term part b)

  pub arguments_begin : Begins (get_or part 1 0) (drop 2 part)
  arguments_begin = let e : 1 - 1 + get_or part 1 0 ≡ get_or part 1 0 = omega arith in rw e at (begins_inside part 0 1 b (omega arith))

  pub argument_count : len (terms (get_or part 1 0) (drop 2 part)) ≡ get_or part 1 0
  argument_count = rw (arguments_are (get_or part 1 0) (drop 2 part) root) root.count

  front_headed : front part ≡ headed (get_or part 0 0 / 65536) (get_or part 0 0 % 65536) (terms (get_or part 1 0) (drop 2 part))
  front_headed = rw (arguments_are (get_or part 1 0) (drop 2 part) root) (front_is _ _ root.node)

  pub front_variable : get_or part 0 0 < 65536 → front part ≡ Var (get_or part 0 0)
  front_variable v = front_is _ _ (at_variable part 0 1 b (omega arith) v).terms_are

  pub front_symbol : 65536 ≤ get_or part 0 0 → get_or part 0 0 < 131072 → front part ≡ Sym (get_or part 0 0 - 65536) (terms (get_or part 1 0) (drop 2 part))
  front_symbol lo hi =
      let k : get_or part 0 0 / 65536 ≡ 1 = omega arith in
      let s : get_or part 0 0 % 65536 ≡ get_or part 0 0 - 65536 = omega arith in
      rw (front_headed, k, s)

  pub front_metavariable : 131072 ≤ get_or part 0 0 → get_or part 0 0 < 196608 → front part ≡ Meta (get_or part 0 0 - 131072) (terms (get_or part 1 0) (drop 2 part))
  front_metavariable lo hi =
      let k : get_or part 0 0 / 65536 ≡ 2 = omega arith in
      let s : get_or part 0 0 % 65536 ≡ get_or part 0 0 - 131072 = omega arith in
      rw (front_headed, k, s)

  pub front_abstraction : get_or part 0 0 ≡ 196608 → front part ≡ Abst (front (drop 2 part))
  front_abstraction v = front_is _ _ (at_abstraction part 0 1 b (omega arith) v).terms_are

  front_no_symbol : 131072 ≤ get_or part 0 0 → is_symbol (front part) ≡ false
  front_no_symbol lo =
      let k : 2 ≤ get_or part 0 0 / 65536 = omega arith in
      rw front_headed (no_symbol (get_or part 0 0 / 65536) (get_or part 0 0 % 65536) (terms (get_or part 1 0) (drop 2 part)) k)

  -- of words that are no variable's, those below a metavariable's are symbols'
  pub front_is_symbol : 65536 ≤ get_or part 0 0 → ltb (get_or part 0 0) 131072 ≡ is_symbol (front part)
  front_is_symbol lo = go (ltb (get_or part 0 0) 131072) refl
    where
      go : (q : Bool) → ltb (get_or part 0 0) 131072 ≡ q → q ≡ is_symbol (front part)
      go true e = sym (ap is_symbol (front_symbol lo (ltb-true (get_or part 0 0) 131072 e)))
      go false e = sym (front_no_symbol (ltb-false (get_or part 0 0) 131072 e))
