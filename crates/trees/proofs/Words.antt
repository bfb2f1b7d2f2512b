-- What a good tree writes under OFFSET and NSTACK is the table of its term, renamed by them.
use mathlib.Core.Path.{◌≡◌, refl, sym, ap, ap₂, ◌∙◌}
use mathlib.Core.Logic.{inl, inr}
use Prim.Native.Nat.{ℕ, zero, suc, ◌+◌, ◌-◌, ◌≤◌, ◌<◌}
use native.Mathlib.Nat.{le_of_suc-le-suc, not-suc-le-zero}
use native.Mathlib.Omega.{arith}
use mathlib.Core.Bool.{Bool, true, false, not}
use mathlib.Core.Option.{Option, none, some}
use mathlib.Core.List.{List, [], ◌∷◌, ◌++◌, map}
use lib.Dec.{T}
use lib.ListN.{length, get_or, length-map}
use borrow.Author.Tests.{lt-ltb, le-ltb}
use Rattle.documents.specs.Limits.{d_shift}
use Rattle.documents.specs.Lists.{assoc, pairlists}
use Rattle.documents.specs.Terms.{Sort, one, many, Tm, Var, Sym, Meta, Abst, Nil, Cons, Term, Terms, len, rename, subst}
use Rattle.documents.specs.Tables.{node_word, table_of}
use Rattle.documents.proofs.Substitution.{rename_ext, rename_rename, rename_id, rename_subst, len_rename, len_subst, subst_unders}
use Rattle.documents.proofs.FreeVariables.{unders, AllFree, AllFree-map}
use Rattle.kahrs.proofs.RightSide.{offset_of, offset_raise, offset_past, covered}
use Rattle.trees.specs.Trees.{Tree, Cell, Block, Bound, Whole, Pushed, Leaf, More, Writer, Written, or_moved_words, spread_words, in_order, words_of}
use Rattle.trees.proofs.Related.{AllRelated, BothRelated, found_related}
use Rattle.documents.proofs.Machine.{View, view}
use Rattle.trees.proofs.Values.{listed, length_listed, depth_at, or_past, instead, past_of_none, value, len_value, Good}

-- ---- An entry's walk

module _ (f : ℕ → Option Writer) (D off : ℕ) (nst : List ℕ) (φ : ℕ → Term) where
  -- the variable y of the entry writes the term φ y, lifted past the abstractions of the entry that are above it
  abbrev pub Writes : ℕ → Type 0
  Writes y = (n : ℕ) → or_moved_words (f y) D n (n + y) off nst ≡ table_of (rename (λ z. n + z) (φ y))

  spread_var : (n x : ℕ) → View φ Writes n x → spread_words f D n off nst (Var x) ≡ table_of (subst_unders n φ x)
  spread_var n x (inl h) = rw (lt-ltb x n h.0, h.1)
  spread_var n x (inr h) =
      let e : n + h.0 - n ≡ h.0 = omega arith in
      let k : n ≤ n + h.0 = omega arith in
      rw (h.2, h.1, le-ltb (n + h.0) n k, e) (h.3 n)

  pub spread_words_lem : {s : Sort} (n : ℕ) (t : Tm s) → AllFree (unders n Writes) t → spread_words f D n off nst t ≡ table_of (subst (subst_unders n φ) t)
  spread_words_lem n (Var x) h = spread_var n x (view φ Writes n x h)
  spread_words_lem n (Sym s ts) h = ap₂ (λ (k : ℕ) (ws : List ℕ). node_word 1 s ∷ k ∷ ws) (sym (len_subst _ ts)) (spread_words_lem n ts h)
  spread_words_lem n (Meta z ts) h = ap₂ (λ (k : ℕ) (ws : List ℕ). node_word 2 z ∷ k ∷ ws) (sym (len_subst _ ts)) (spread_words_lem n ts h)
  spread_words_lem n (Abst t) h = ap (λ (ws : List ℕ). node_word 3 0 ∷ 1 ∷ ws) (spread_words_lem (suc n) t h)
  spread_words_lem n Nil h = refl
  spread_words_lem n (Cons t ts) h = ap₂ {C = List ℕ} ◌++◌ (spread_words_lem n t h.0) (spread_words_lem n ts h.1)

-- ---- Trees

-- outside of bodies nothing is renamed
abbrev pub Quiet : Bool → ℕ → List ℕ → Type 0
Quiet true off nst = Unit {0}
Quiet false off nst = (x : ℕ) → offset_of off nst x ≡ x

pub quiet_under : (inside : Bool) (off : ℕ) (nst : List ℕ) → Quiet inside off nst → Quiet inside off (0 ∷ nst)
quiet_under true off nst q = tt
quiet_under false off nst q = elim [ zero ↦ refl | suc x ↦ ap suc (q x) ]

-- w writes the table of u, as OFFSET and NSTACK of l open LAMBDAs rename it
abbrev pub TableOf : Bool → ℕ → Writer → Term → Type 0
TableOf inside l w u = (off : ℕ) (nst : List ℕ) → length nst ≡ l → Quiet inside off nst → w off nst ≡ table_of (rename (offset_of off nst) u)

abbrev pub TablesOf : (s : Sort) → Bool → ℕ → Written s → Tm s → Type 0
TablesOf one inside l w u = TableOf inside l w u
TablesOf many inside l ws us = AllRelated (TableOf inside l) ws (listed us)

order_words : (inside : Bool) (l : ℕ) (ws : List Writer) (us : Terms) → AllRelated (TableOf inside l) ws (listed us)
    → (off : ℕ) (nst : List ℕ) → length nst ≡ l → Quiet inside off nst → in_order ws off nst ≡ table_of (rename (offset_of off nst) us)
order_words inside l [] Nil h off nst e q = refl
order_words inside l [] (Cons u us) h off nst e q = absurd h
order_words inside l (w ∷ ws) Nil h off nst e q = absurd h
order_words inside l (w ∷ ws) (Cons u us) h off nst e q = ap₂ {C = List ℕ} ◌++◌ (h.0 off nst e q) (order_words inside l ws us h.1 off nst e q)

offset_get : (x off : ℕ) (nst : List ℕ) → x < length nst → x + get_or nst x 0 ≡ offset_of off nst x
offset_get x off [] h = absurd (not-suc-le-zero h)
offset_get zero off (k ∷ nst) h = omega arith
offset_get (suc x) off (k ∷ nst) h = let r = offset_get x off nst (le_of_suc-le-suc h) in omega arith

whole_words : (inside : Bool) (t : Term) (off : ℕ) (nst : List ℕ) → T (not inside) → Quiet inside off nst → table_of t ≡ table_of (rename (offset_of off nst) t)
whole_words true t off nst n q = absurd n
whole_words false t off nst n q = ap (λ (u : Term). table_of u) (sym (rename_ext _ (λ x. x) t q ∙ rename_id t))

block_words : (off : ℕ) (nst : List ℕ) (u : Term) → Abst (rename (offset_of off (0 ∷ nst)) u) ≡ rename (offset_of off nst) (Abst u)
block_words off nst u = ap Abst (rename_ext _ _ u (elim [ zero ↦ refl | suc x ↦ refl ]))

-- a variable of the entry, with its body or without one
free_words : (l b D off : ℕ) (nst : List ℕ) (y : ℕ) (o : Option Writer) (u : Option Term) → D + b ≡ l + d_shift → length nst ≡ l
    → BothRelated (TableOf true l) o u → (u ≡ none → b ≤ y)
    → (n : ℕ) → or_moved_words o D n (n + y) off nst ≡ table_of (rename (λ z. n + z) (rename (offset_of off nst) (or_past u l b y)))
free_words l b D off nst y none none d e h p n =
    let k : b ≤ y = p refl in
    rw (offset_past off nst l (y - b) e)
    (ap (λ (x : ℕ). node_word 0 x ∷ 0 ∷ []) (omega arith))
free_words l b D off nst y none (some u) d e h p n = absurd h
free_words l b D off nst y (some w) none d e h p n = absurd h
free_words l b D off nst y (some w) (some u) d e h p n =
    h (off + n) (map (λ z. z + n) nst) (length-map nst (λ z. z + n) ∙ e) tt
    ∙ ap (λ (t : Term). table_of t) (rename_ext _ _ u (offset_raise n off nst) ∙ sym (rename_rename (λ z. n + z) (offset_of off nst) u))

pushed_words : (l D : ℕ) (ks : List ℕ) (ws : List Writer) (us : Terms) (a : Term) → D + depth_at l D ≡ l + d_shift → length ks ≡ len us
    → AllFree (λ y. T (covered ks (depth_at l D) y)) a → AllRelated (TableOf true l) ws (listed us)
    → (off : ℕ) (nst : List ℕ) → length nst ≡ l
    → spread_words (assoc (pairlists ks ws)) D 0 off nst a ≡ table_of (rename (offset_of off nst) (subst (instead l (depth_at l D) ks us) a))
pushed_words l D ks ws us a d c f h off nst e =
    spread_words_lem (assoc (pairlists ks ws)) D off nst (λ y. rename (offset_of off nst) (instead l (depth_at l D) ks us y)) 0 a
    (AllFree-map _ _ a
    (λ y t. free_words l (depth_at l D) D off nst y (assoc (pairlists ks ws) y) (assoc (pairlists ks (listed us)) y) d e
    (found_related (TableOf true l) ks ws (listed us) h y) (past_of_none ks (listed us) (depth_at l D) y (c ∙ sym (length_listed us)) t)) f)
    ∙ ap (λ (t : Term). table_of t) (sym (rename_subst (offset_of off nst) (instead l (depth_at l D) ks us) a))

module _ (ent : ℕ → Term) where
  pub words_are : {s : Sort} (inside : Bool) (l : ℕ) (p : Tree s) → Good ent inside l p → TablesOf s inside l (words_of ent p) (value ent l p)
  words_are inside l (Cell s ps) g = λ off nst e q.
      ap₂ (λ (k : ℕ) (ws : List ℕ). node_word 1 s ∷ k ∷ ws) (sym (len_rename (offset_of off nst) (value ent l ps) ∙ len_value ent l ps))
      (order_words inside l (words_of ent ps) (value ent l ps) (words_are inside l ps g) off nst e q)
  words_are inside l (Block p) g = λ off nst e q.
      ap (λ (ws : List ℕ). node_word 3 0 ∷ 1 ∷ ws) (words_are inside (suc l) p g off (0 ∷ nst) (ap suc e) (quiet_under inside off nst q))
      ∙ ap (λ (t : Term). table_of t) (block_words off nst (value ent (suc l) p))
  words_are inside l (Bound x) g = λ off nst e q. ap (λ (k : ℕ). node_word 0 k ∷ 0 ∷ []) (offset_get x off nst (rw e g))
  words_are inside l (Whole e) g = λ off nst d q. whole_words inside (ent e) off nst g q
  words_are inside l (Pushed e D ks ps) g = λ off nst d q.
      pushed_words l D ks (words_of ent ps) (value ent l ps) (ent e) g.0 (g.1 ∙ sym (len_value ent l ps)) g.2 (words_are true l ps g.3) off nst d
  words_are inside l Leaf g = tt
  words_are inside l (More p ps) g = (words_are inside l p g.0, words_are inside l ps g.1)
