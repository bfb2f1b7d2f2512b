-- Sizes of what a tree makes: two words a node, at least one node, and no deeper than it has nodes.
use mathlib.Core.Path.{◌≡◌, refl}
use Prim.Native.Nat.{ℕ, suc, ◌+◌, ◌-◌, ◌*◌, ◌≤◌}
use native.Mathlib.Omega.{arith}
use mathlib.Core.Bool.{cond}
use mathlib.Core.Option.{Option, none, some}
use mathlib.Core.List.{List, [], ◌∷◌, map}
use lib.Dec.{ltb}
use lib.ListN.{length, length-append}
use Rattle.documents.specs.Lists.{assoc, pairlists}
use Rattle.documents.specs.Terms.{Sort, one, many, Tm, Var, Sym, Meta, Abst, Nil, Cons, Term}
use Rattle.documents.specs.Tables.{node_word, nodes, depth}
use Rattle.documents.proofs.Lists.{case}
use Rattle.documents.proofs.Tables.{length_table_of}
use Rattle.documents.proofs.Nodes.{depth_positive}
use Rattle.trees.specs.Trees.{Tree, Cell, Block, Bound, Whole, Pushed, Leaf, More, or_one, spread_nodes, sum, Counted, nodes_of, spread_depth, greatest, depth_of, Writer, Written, or_moved_words, spread_words, in_order, words_of}
use Rattle.trees.proofs.Related.{AllRelated, BothRelated, found_related}

-- ---- Two words a node

abbrev pub Sized : Writer → ℕ → Type 0
Sized w n = (off : ℕ) (nst : List ℕ) → length (w off nst) ≡ 2 * n

moved_size : (o : Option Writer) (k : Option ℕ) (D n x off : ℕ) (nst : List ℕ) → BothRelated Sized o k
    → length (or_moved_words o D n x off nst) ≡ 2 * or_one k
moved_size none none D n x off nst h = refl
moved_size none (some k) D n x off nst h = absurd h
moved_size (some w) none D n x off nst h = absurd h
moved_size (some w) (some k) D n x off nst h = h (off + n) (map (λ y. y + n) nst)

module _ (f : ℕ → Option Writer) (g : ℕ → Option ℕ) (h : (y : ℕ) → BothRelated Sized (f y) (g y)) (D off : ℕ) (nst : List ℕ) where
  pub spread_size : {s : Sort} (n : ℕ) (t : Tm s) → length (spread_words f D n off nst t) ≡ 2 * spread_nodes g n t
  spread_size n (Var x) =
      case (λ q. length (cond q (node_word 0 x ∷ 0 ∷ []) (or_moved_words (f (x - n)) D n x off nst)) ≡ 2 * cond q 1 (or_one (g (x - n)))) (ltb x n)
      (λ t. refl) (λ t. moved_size (f (x - n)) (g (x - n)) D n x off nst (h (x - n)))
  spread_size n (Sym s ts) = let k = spread_size n ts in omega arith
  spread_size n (Meta z ts) = let k = spread_size n ts in omega arith
  spread_size n (Abst t) = let k = spread_size (suc n) t in omega arith
  spread_size n Nil = refl
  spread_size n (Cons t ts) =
      let k = spread_size n t in
      let m = spread_size n ts in
      rw (length-append (spread_words f D n off nst t) (spread_words f D n off nst ts)) (omega arith)

abbrev pub SizedAs : (s : Sort) → Written s → Counted s → Type 0
SizedAs one w n = Sized w n
SizedAs many ws ns = AllRelated Sized ws ns

pub order_size : (ws : List Writer) (ns : List ℕ) → AllRelated Sized ws ns → (off : ℕ) (nst : List ℕ) → length (in_order ws off nst) ≡ 2 * sum ns
order_size [] [] h off nst = refl
order_size [] (n ∷ ns) h off nst = absurd h
order_size (w ∷ ws) [] h off nst = absurd h
order_size (w ∷ ws) (n ∷ ns) h off nst =
    let k = h.0 off nst in
    let m = order_size ws ns h.1 off nst in
    rw (length-append (w off nst) (in_order ws off nst)) (omega arith)

module _ (ent : ℕ → Term) where
  pub sized : {s : Sort} (p : Tree s) → SizedAs s (words_of ent p) (nodes_of ent p)
  sized (Cell s ps) = λ off nst. let k = order_size (words_of ent ps) (nodes_of ent ps) (sized ps) off nst in omega arith
  sized (Block p) = λ off nst. let k = sized p off (0 ∷ nst) in omega arith
  sized (Bound x) = λ off nst. refl
  sized (Whole e) = λ off nst. length_table_of (ent e)
  sized (Pushed e D ks ps) = λ off nst.
      spread_size (assoc (pairlists ks (words_of ent ps))) (assoc (pairlists ks (nodes_of ent ps)))
      (found_related Sized ks (words_of ent ps) (nodes_of ent ps) (sized ps)) D off nst 0 (ent e)
  sized Leaf = tt
  sized (More p ps) = (sized p, sized ps)

  pub words_size : (p : Tree one) (off : ℕ) (nst : List ℕ) → length (words_of ent p off nst) ≡ 2 * nodes_of ent p
  words_size p = sized p

-- ---- At least one level, and no more levels than nodes

abbrev pub Levels : ℕ → ℕ → Type 0
Levels d n = (1 ≤ d) × (d ≤ n)

pub depth_nodes : {s : Sort} (t : Tm s) → depth t ≤ nodes t
depth_nodes (Var x) = omega arith
depth_nodes (Sym s ts) = let h = depth_nodes ts in omega arith
depth_nodes (Meta z ts) = let h = depth_nodes ts in omega arith
depth_nodes (Abst t) = let h = depth_nodes t in omega arith
depth_nodes Nil = omega arith
depth_nodes (Cons t ts) = let h = depth_nodes t in let k = depth_nodes ts in omega arith

or_one_lem : (d n : Option ℕ) → BothRelated Levels d n → Levels (or_one d) (or_one n)
or_one_lem none none h = (omega arith, omega arith)
or_one_lem none (some n) h = absurd h
or_one_lem (some d) none h = absurd h
or_one_lem (some d) (some n) h = h

module _ (f g : ℕ → Option ℕ) (h : (y : ℕ) → BothRelated Levels (f y) (g y)) where
  spread_var : (n x : ℕ) → Levels (spread_depth f n (Var x)) (spread_nodes g n (Var x))
  spread_var n x =
      case (λ q. Levels (cond q 1 (or_one (f (x - n)))) (cond q 1 (or_one (g (x - n))))) (ltb x n)
      (λ t. (omega arith, omega arith)) (λ t. or_one_lem (f (x - n)) (g (x - n)) (h (x - n)))

  pub spread_levels : {s : Sort} (n : ℕ) (t : Tm s) → spread_depth f n t ≤ spread_nodes g n t
  spread_levels n (Var x) = (spread_var n x).1
  spread_levels n (Sym s ts) = let k = spread_levels n ts in omega arith
  spread_levels n (Meta z ts) = let k = spread_levels n ts in omega arith
  spread_levels n (Abst t) = let k = spread_levels (suc n) t in omega arith
  spread_levels n Nil = omega arith
  spread_levels n (Cons t ts) = let k = spread_levels n t in let m = spread_levels n ts in omega arith

  pub spread_positive : (n : ℕ) (t : Term) → 1 ≤ spread_depth f n t
  spread_positive n (Var x) = (spread_var n x).0
  spread_positive n (Sym s ts) = omega arith
  spread_positive n (Meta z ts) = omega arith
  spread_positive n (Abst t) = omega arith

abbrev pub LevelsAs : (s : Sort) → Counted s → Counted s → Type 0
LevelsAs one d n = Levels d n
LevelsAs many ds ns = AllRelated Levels ds ns

pub greatest_sum : (ds ns : List ℕ) → AllRelated Levels ds ns → greatest ds ≤ sum ns
greatest_sum [] [] h = omega arith
greatest_sum [] (n ∷ ns) h = absurd h
greatest_sum (d ∷ ds) [] h = absurd h
greatest_sum (d ∷ ds) (n ∷ ns) h = let k = greatest_sum ds ns h.1 in omega (arith, h.0.1)

module _ (ent : ℕ → Term) where
  pub levels : {s : Sort} (p : Tree s) → LevelsAs s (depth_of ent p) (nodes_of ent p)
  levels (Cell s ps) = let k = greatest_sum (depth_of ent ps) (nodes_of ent ps) (levels ps) in (omega arith, omega arith)
  levels (Block p) = let k = levels p in (omega arith, omega (arith, k.1))
  levels (Bound x) = (omega arith, omega arith)
  levels (Whole e) = (depth_positive (ent e), depth_nodes (ent e))
  levels (Pushed e D ks ps) =
      let r = found_related Levels ks (depth_of ent ps) (nodes_of ent ps) (levels ps) in
      (spread_positive _ _ r 0 (ent e), spread_levels _ _ r 0 (ent e))
  levels Leaf = tt
  levels (More p ps) = (levels p, levels ps)

  pub depth_positive_of : (p : Tree one) → 1 ≤ depth_of ent p
  depth_positive_of p = (levels p).0

  pub nodes_positive : (p : Tree one) → 1 ≤ nodes_of ent p
  nodes_positive p = let h = levels p in omega (arith, h.0, h.1)
