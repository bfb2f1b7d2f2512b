-- A turn of `go`: the words that it reads and writes are within bounds, and behind it the array stands above the next node.
use mathlib.Core.Path.{◌≡◌, refl, sym, ap, ◌∙◌}
use Prim.Native.Nat.{ℕ, zero, suc, ◌+◌, ◌-◌, ◌*◌, ◌≤◌, ◌<◌}
use native.Mathlib.Numerals.{add-one}
use native.Mathlib.Omega.{arith}
use mathlib.Core.Option.{some}
use mathlib.Core.List.{List, [], ◌∷◌, ◌++◌, map}
use lib.ListN.{length, get_or, set, length-set}
use lib.Seq.{get_or-append-add}
use Rattle.documents.specs.Terms.{Var, Sym, Meta, Abst, Term}
use Rattle.documents.specs.Tables.{table_of, Fits, nodes, subterm}
use Rattle.documents.proofs.Lists.{never}
use Rattle.documents.proofs.Tables.{length_table_of, subterm_place}
use Rattle.tables.specs.Parts.{front}
use Rattle.rewriting.proofs.Contexts.{subterm_at}
use Rattle.rewriting.proofs.Splicing.{subterm_fits}
use Rattle.levels.specs.Levels.{Level, level, begun, levels_from, levels_of, word_of, stacked, Above}
use Rattle.levels.specs.Owing.{owing_from, Owes}
use Rattle.levels.proofs.Next.{Owed, unended, arguments, next_inside}
use Rattle.levels.proofs.Spines.{Low, low_begun, levels_owed}
use Rattle.levels.proofs.Stacks.{length_stacked, owing_levels, pushed_levels}
use Rattle.levels.proofs.Above.{above_held, above_there, above_low, above_few}

-- ---- A node's count

count_word : (t : Term) (n : ℕ) (u : Term) → subterm t n ≡ some u → get_or (table_of t) (2 * n + 1) 0 ≡ arguments u
count_word t n u e =
    let p = subterm_place t n u e in
    let i : 2 * n + 1 ≡ length p.before + 1 = ap (λ (k : ℕ). k + 1) (sym p.start) in
    ap (λ (ws : List ℕ). get_or ws (2 * n + 1) 0) p.whole ∙ ap (λ (k : ℕ). get_or (p.before ++ (table_of u ++ p.behind)) k 0) i
    ∙ get_or-append-add p.before (table_of u ++ p.behind) 1 0 ∙ second u p.behind
  where
    second : (u : Term) (ws : List ℕ) → get_or (table_of u ++ ws) 1 0 ≡ arguments u
    second (Var x) ws = refl
    second (Sym s ts) ws = refl
    second (Meta z ts) ws = refl
    second (Abst t) ws = refl

arguments_few : (u : Term) → Fits u → arguments u ≤ 8
arguments_few (Var x) f = omega arith
arguments_few (Sym s ts) f = f.1
arguments_few (Meta z ts) f = f.1
arguments_few (Abst t) f = omega arith

-- ---- A turn

levels_next : (t : Term) (n : ℕ) (u : Term) → subterm t n ≡ some u → n + 1 < nodes t
    → levels_of t (n + 1) ≡ unended (level n (arguments u) ∷ begun (levels_of t n))
unfolding levels_of
levels_next t n u e h =
    let z : 0 + n ≡ n = omega arith in
    ap (λ (k : ℕ). levels_from 0 t k (level 0 1 ∷ [])) (add-one n) ∙ next_inside t n u e (omega arith) 0 (level 0 1 ∷ []) (omega arith)
    ∙ ap (λ (k : ℕ). unended (level k (arguments u) ∷ begun (levels_from 0 t n (level 0 1 ∷ [])))) z

owed_some : (ls : List Level) → Owed 1 ls → 1 ≤ length (map word_of ls)
owed_some [] o = absurd o
owed_some (l ∷ ls) o = omega arith

module _ {plan : List ℕ} {n : ℕ} {above : List ℕ} {many : ℕ} (h : Above plan n above many) where
  count_is : get_or plan (2 * n + 1) 0 ≡ arguments (above_there h).0
  count_is = ap (λ (ws : List ℕ). get_or ws (2 * n + 1) 0) (sym (above_held h).table) ∙ count_word (front plan) n (above_there h).0 (above_there h).1

  owed : Owed 1 (levels_of (front plan) n)
  owed = levels_owed (front plan) n (above_there h).0 (above_there h).1

  pub record Bounds : Type 0 where
    pub some : 1 ≤ many
    pub few : many ≤ 64
    pub owes : 1 ≤ get_or above (many - 1) 0
    pub number : n < 4096
    pub room : 2 * n + 2 ≤ length plan
    pub count : get_or plan (2 * n + 1) 0 ≤ 8

  pub above_bounds : Bounds
  above_bounds = record {
    some = (above_few h).0;
    few = (above_few h).1;
    owes = last many (levels_of (front plan) n) owed h.words;
    number = omega (arith, h.inside, (above_held h).small);
    room = omega (arith, h.inside, length_table_of (front plan), ap length (above_held h).table);
    count = omega (arith, count_is, arguments_few (above_there h).0 (subterm_fits (front plan) n (above_there h).0 (above_there h).1 (above_held h).fits));
  }
    where
      last : (k : ℕ) (ls : List Level) → Owed 1 ls → stacked above k ≡ map word_of ls → 1 ≤ get_or above (k - 1) 0
      last k [] o e = absurd o
      last zero (level a q ∷ ls) o e = never (cc)
      last (suc k) (level a q ∷ ls) o e =
          let z : suc k - 1 ≡ k = omega arith in
          let v : get_or above k 0 ≡ a * 16 + q = cc in
          rw z (omega arith)

  module _ (i : n + 1 < nodes (front plan)) where
    -- what a turn writes
    abbrev turned : List ℕ
    turned = set (set above (many - 1) (get_or above (many - 1) 0 - 1)) many (n * 16 + get_or plan (2 * n + 1) 0)

    turned_words : stacked turned (owing_from turned (many + 1)) ≡ map word_of (levels_of (front plan) (n + 1))
    turned_words =
        let t = front plan in
        let u = (above_there h).0 in
        let b = above_bounds in
        let ls : List Level = level n (arguments u) ∷ begun (levels_of t n) in
        let w : stacked turned (many + 1) ≡ map word_of ls =
        pushed_levels above many _ (levels_of t n) owed (omega (arith, h.long)) h.words
        ∙ ap (λ (c : ℕ). (n * 16 + c) ∷ map word_of (begun (levels_of t n))) count_is in
        let l : Low ls = (b.number, omega (arith, count_is, b.count), low_begun (levels_of t n) (above_low h)) in
        owing_levels turned (many + 1) ls l w ∙ ap (map word_of) (sym (levels_next t n u (above_there h).1 i))

    pub turned_owes : Owes turned (many + 1)
    turned_owes =
        let b = above_bounds in
        let v = subterm_at (front plan) (n + 1) i in
        let o = owed_some (levels_of (front plan) (n + 1)) (levels_owed (front plan) (n + 1) v.0 v.1) in
        record { inside = omega (arith, b.few); some = omega (arith, length_stacked turned (owing_from turned (many + 1)), ap length turned_words, o) }

    pub above_next : (r : ℕ) → r ≡ owing_from turned (many + 1) → Above plan (n + 1) turned r
    above_next r e = record {
      accepted = h.accepted;
      inside = i;
      words = ap (stacked turned) e ∙ turned_words;
      long = length-set (set above (many - 1) _) many _ ∙ length-set above (many - 1) _ ∙ h.long;
    }

  -- there is no node further to go
  pub arrived : {to : ℕ} → n ≤ to → to ≤ n → Above plan to above many
  arrived {to} a b = let z : to ≡ n = omega arith in rw z h
