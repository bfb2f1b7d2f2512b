-- An entry node by node: from its words in the subject and its nodes' places, what the definitions of `Trees` say of the term.
use Rattle.std.specs.Prelude.{ℕ, zero, suc, ◌+◌, ◌-◌, ◌/◌, ◌%◌, Bool, true, not, ◌&&◌, cond, List, [], ◌∷◌, eqb, leb, ltb, get_or}
use Rattle.std.proofs.Math.Option.{Option, none, some}
use Rattle.trees.specs.Trees.{or_one, or_moved, Writer, or_moved_words}

-- a word is a variable, free under n abstractions
unfoldable pub is_free : ℕ → ℕ → Bool
is_free w n = ltb w 65536 && leb n w

-- k nodes, each with its two words and its place, from the front of words ws and places hs
unfoldable pub total : {A : Type 0} → (A → A → A) → A → (ℕ → ℕ → ℕ → A) → ℕ → List ℕ → List ℕ → A
total op u g zero ws hs = u
total op u g (suc k) [] hs = u
total op u g (suc k) (w ∷ []) hs = u
total op u g (suc k) (w ∷ c ∷ ws) [] = u
total op u g (suc k) (w ∷ c ∷ ws) (h ∷ hs) = op (g w c h) (total op u g k ws hs)

-- of a node at place h, below a root at place r: how many levels, and how many abstractions
abbrev pub levels_in : ℕ → ℕ → ℕ
levels_in r h = (h - r) / 256

abbrev pub inside_of : ℕ → ℕ → ℕ
inside_of r h = (h - r) % 256

-- one node: `f` gives of a variable what is known of its body
abbrev pub node_nodes : (ℕ → Option ℕ) → ℕ → ℕ → ℕ → ℕ → ℕ
node_nodes f r w c h = cond (is_free w (inside_of r h)) (or_one (f (w - inside_of r h))) 1

abbrev pub node_depth : (ℕ → Option ℕ) → ℕ → ℕ → ℕ → ℕ → ℕ
node_depth f r w c h = levels_in r h + cond (is_free w (inside_of r h)) (or_one (f (w - inside_of r h))) 1

abbrev pub node_reach : (ℕ → Option ℕ) → ℕ → ℕ → ℕ → ℕ → ℕ → ℕ
node_reach f D r w c h = cond (is_free w (inside_of r h)) (or_moved (f (w - inside_of r h)) D (inside_of r h) w) 0

abbrev pub node_words : (ℕ → Option Writer) → ℕ → ℕ → List ℕ → ℕ → ℕ → ℕ → ℕ → List ℕ
node_words f D off nst r w c h = cond (is_free w (inside_of r h)) (or_moved_words (f (w - inside_of r h)) D (inside_of r h) w off nst) (w ∷ c ∷ [])

-- whether a body that stands behind a key there was measured
abbrev pub seen_at : List ℕ → Option ℕ → Bool
seen_at work none = true
seen_at work (some q) = not (eqb (get_or work q 0) 0)

abbrev pub node_seen : (ℕ → Bool) → ℕ → ℕ → ℕ → ℕ → Bool
node_seen f r w c h = cond (is_free w (inside_of r h)) (f (w - inside_of r h)) true
