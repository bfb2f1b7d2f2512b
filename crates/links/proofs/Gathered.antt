-- An entry node by node is the entry itself: what a walk adds up over the words and places of a term's nodes follows the term.
use mathlib.Core.Path.{◌≡◌, refl, sym, ap, ◌∙◌}
use Prim.Native.Nat.{ℕ, suc, ◌+◌}
use native.Mathlib.Omega.{arith}
use mathlib.Core.List.{List, ◌∷◌, ◌++◌, append_assoc}
use Rattle.documents.specs.Terms.{Sort, Tm, Var, Sym, Meta, Abst, Nil, Cons, len}
use Rattle.documents.specs.Tables.{node_word, table_of, nodes}
use Rattle.survey.specs.Places.{place, places_of}
use Rattle.links.specs.Nodewise.{total}

module _ {A : Type 0} (op : A → A → A) (u : A) (g : ℕ → ℕ → ℕ → A) where
  abbrev pub gathered : {s : Sort} → ℕ → ℕ → Tm s → A
  gathered d n (Var x) = g (node_word 0 x) 0 (place d n)
  gathered d n (Sym s ts) = op (g (node_word 1 s) (len ts) (place d n)) (gathered (suc d) n ts)
  gathered d n (Meta z ts) = op (g (node_word 2 z) (len ts) (place d n)) (gathered (suc d) n ts)
  gathered d n (Abst t) = op (g (node_word 3 0) 1 (place d n)) (gathered (suc d) (suc n) t)
  gathered d n Nil = u
  gathered d n (Cons t ts) = op (gathered d n t) (gathered d n ts)

  one_more : (k j w c h : ℕ) (ws hs : List ℕ) → k ≡ suc j → total op u g k (w ∷ c ∷ ws) (h ∷ hs) ≡ op (g w c h) (total op u g j ws hs)
  unfolding total
  one_more k j w c h ws hs e = rw e

  none_more : (j : ℕ) (ws hs : List ℕ) → j ≡ 0 → total op u g j ws hs ≡ u
  unfolding total
  none_more j ws hs e = rw e

  module _ (assoc : (a b c : A) → op (op a b) c ≡ op a (op b c)) (left : (a : A) → op u a ≡ a) (right : (a : A) → op a u ≡ a) where
    total_then : {s : Sort} (t : Tm s) (d n j : ℕ) (ws hs : List ℕ)
        → total op u g (nodes t + j) (table_of t ++ ws) (places_of d n t ++ hs) ≡ op (gathered d n t) (total op u g j ws hs)
    total_then (Var x) d n j ws hs = one_more _ j _ _ _ ws hs (omega arith)
    total_then (Sym s ts) d n j ws hs =
        one_more _ (nodes ts + j) _ _ _ _ _ (omega arith) ∙ ap (op _) (total_then ts (suc d) n j ws hs) ∙ sym (assoc _ _ _)
    total_then (Meta z ts) d n j ws hs =
        one_more _ (nodes ts + j) _ _ _ _ _ (omega arith) ∙ ap (op _) (total_then ts (suc d) n j ws hs) ∙ sym (assoc _ _ _)
    total_then (Abst t) d n j ws hs =
        one_more _ (nodes t + j) _ _ _ _ _ (omega arith) ∙ ap (op _) (total_then t (suc d) (suc n) j ws hs) ∙ sym (assoc _ _ _)
    total_then Nil d n j ws hs = let z : 0 + j ≡ j = omega arith in rw z (sym (left _))
    total_then (Cons t ts) d n j ws hs =
        let z : nodes t + nodes ts + j ≡ nodes t + (nodes ts + j) = omega arith in
        rw (z, append_assoc (table_of t) (table_of ts) ws, append_assoc (places_of d n t) (places_of d n ts) hs)
        (total_then t d n (nodes ts + j) (table_of ts ++ ws) (places_of d n ts ++ hs) ∙ ap (op _) (total_then ts d n j ws hs) ∙ sym (assoc _ _ _))

    -- the nodes of a term at the front of words and places
    pub total_is : {s : Sort} (t : Tm s) (d n : ℕ) (ws hs : List ℕ)
        → total op u g (nodes t) (table_of t ++ ws) (places_of d n t ++ hs) ≡ gathered d n t
    total_is t d n ws hs =
        let z : nodes t ≡ nodes t + 0 = omega arith in
        ap (λ k. total op u g k (table_of t ++ ws) (places_of d n t ++ hs)) z ∙ total_then t d n 0 ws hs ∙ ap (op _) (none_more 0 ws hs refl) ∙ right _
