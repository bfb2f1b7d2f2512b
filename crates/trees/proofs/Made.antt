-- What a checked build part makes, and what its tree says of it before it runs.
use mathlib.Core.Path.{◌≡◌, refl, sym, ap, ◌∙◌}
use Prim.Native.Nat.{ℕ, zero, suc, ◌*◌, ◌≤◌}
use native.Mathlib.Omega.{arith}
use mathlib.Core.Bool.{false}
use mathlib.Core.Option.{some}
use mathlib.Core.List.{List, [], ◌∷◌}
use lib.Dec.{T, leb}
use lib.ListN.{length, get_elem?}
use Rattle.documents.specs.Limits.{index_limit}
use Rattle.documents.specs.Lists.{every}
use Rattle.documents.specs.Terms.{one, Term, rename}
use Rattle.documents.specs.Tables.{table_of, Fits, nodes, depth, indices}
use Rattle.documents.specs.Instructions.{Program}
use Rattle.documents.specs.Machine.{Entry, entry, state, done, exec}
use Rattle.documents.specs.Passing.{Slot, one_term, build}
use Rattle.documents.proofs.Substitution.{rename_ext, rename_id}
use Rattle.documents.proofs.Tables.{length_table_of}
use Rattle.kahrs.proofs.RightSide.{offset_of}
use Rattle.safety.proofs.Entries.{EntriesOk}
use Rattle.trees.specs.Trees.{Tree, top_of, grown, term_of, entry_of, nodes_of, depth_of, reach_of, words_of}
use Rattle.trees.proofs.Sizes.{words_size}
use Rattle.trees.proofs.Values.{value, Good}
use Rattle.trees.proofs.Words.{Quiet, words_are}
use Rattle.trees.proofs.Depths.{depth_is}
use Rattle.trees.proofs.Reaches.{fits_in, reach_fits, every_index}
use Rattle.trees.proofs.Growing.{Makes, makes_its_tree}

-- every entry's term is one that a table can hold
abbrev pub AllFit : List Entry → Type 0
AllFit [] = Unit {0}
AllFit (entry b a ∷ env) = Fits a × AllFit env

pub entry_fits : (env : List Entry) (e : ℕ) → AllFit env → Fits (entry_of env e)
entry_fits [] e f = omega arith
entry_fits (entry b a ∷ env) zero f = f.0
entry_fits (entry b a ∷ env) (suc e) f = entry_fits env e f.1

-- what the tree p says of the term u that is made
pub record Told (ent : ℕ → Term) (p : Tree one) (u : Term) : Type 0 where
  pub words : table_of u ≡ words_of ent p 0 []
  pub size : nodes u ≡ nodes_of ent p
  pub deep : depth u ≡ depth_of ent p
  pub indices_fit : depth u ≤ 64 → every (λ x. leb x index_limit) (indices u) ≡ leb (reach_of ent p) 65536

pub record Made (env : List Entry) (rest : Program) : Type 0 where
  pub term : Term
  pub runs : exec rest (state [] env [] 0 []) ≡ done (state [] env (term ∷ []) 0 [])
  pub told : Told (entry_of env) (top_of (grown rest [])) term

-- at the beginning nothing is renamed
quiet : Quiet false 0 []
quiet x = omega arith

not_moved : (u : Term) → rename (offset_of 0 []) u ≡ u
not_moved u = rename_ext _ (λ x. x) u quiet ∙ rename_id u

module _ (ent : ℕ → Term) (fit : (e : ℕ) → Fits (ent e)) (p : Tree one) (g : Good ent false 0 p) where
  words_told : table_of (value ent 0 p) ≡ words_of ent p 0 []
  words_told = sym (words_are ent false 0 p g 0 [] refl quiet ∙ ap (λ (u : Term). table_of u) (not_moved (value ent 0 p)))

  size_told : nodes (value ent 0 p) ≡ nodes_of ent p
  size_told =
      let h : 2 * nodes (value ent 0 p) ≡ 2 * nodes_of ent p =
      sym (length_table_of (value ent 0 p)) ∙ ap (λ (ws : List ℕ). length ws) words_told ∙ words_size ent p 0 []
      in
      omega arith

  indices_told : depth (value ent 0 p) ≤ 64 → every (λ x. leb x 65535) (indices (value ent 0 p)) ≡ leb (reach_of ent p) 65536
  indices_told h =
      every_index 65535 0 (value ent 0 p) (omega arith) ∙ sym (reach_fits ent 65536 (λ e l. fits_in l (ent e) (fit e)) false 0 p g)

  pub told_of_good : Told ent p (value ent 0 p)
  told_of_good = record { words = words_told; size = size_told; deep = sym (depth_is ent 0 p); indices_fit = indices_told }

holds_entry : (env : List Entry) (e b : ℕ) (t : Term) → get_elem? env e ≡ some (entry b t) → t ≡ entry_of env e
holds_entry env e b t h = sym (ap term_of h)

made_of : (env : List Entry) (rest : Program) → AllFit env → Makes (entry_of env) [] env false 0 rest → Made env rest
made_of env rest f m =
    record {
      term = value (entry_of env) 0 m.tree;
      runs = m.runs [] 0 [] quiet refl
          ∙ ap (λ (u : Term). done (state [] env (u ∷ []) 0 [])) (not_moved (value (entry_of env) 0 m.tree));
      told = rw m.grows (told_of_good (entry_of env) (λ e. entry_fits env e f) m.tree m.good);
    }

-- a checked build part makes one term, of which its tree tells the truth
pub made : (es : List Slot) (env : List Entry) (rest : Program) → EntriesOk (λ x. Unit {0}) es env → AllFit env
    → T (one_term (build es false 0 0 rest (0 ∷ []))) → Made env rest
made es env rest ok f t = made_of env rest f (makes_its_tree (entry_of env) [] env es ok (holds_entry env) false 0 0 rest t)
