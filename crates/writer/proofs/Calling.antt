-- A whole result: what its measurement leaves is what the walk asks for, and its words then stand at the front of the table.
use mathlib.Core.Path.{◌≡◌, refl, sym, ap, ◌∙◌}
use Prim.Native.Nat.{ℕ, ◌*◌, ◌≤◌}
use native.Mathlib.Omega.{arith}
use mathlib.Core.List.{List, [], ◌++◌}
use lib.ListN.{length, drop}
use Rattle.documents.specs.Terms.{one}
use Rattle.trees.specs.Trees.{Tree, nodes_of, depth_of, words_of}
use Rattle.trees.proofs.Sizes.{words_size}
use Rattle.links.specs.Standing.{entry_at, Scene, Safe, root, Stands}
use Rattle.writer.specs.Written.{Writes, Room, nstack}
use Rattle.writer.specs.Wanted.{Ready, TreeAt}

-- no LAMBDA is open
pub nstack_empty : (off : ℕ) (o : List ℕ) → nstack off 0 o ≡ []
unfolding nstack
nstack_empty off o = refl

module _ {code subject entries work : List ℕ} (opened : List ℕ) where
  pub ready_whole : {result : List ℕ} {end : ℕ} → Scene code subject entries work → end ≤ length result → length opened ≡ 128
      → Ready code subject entries work result opened end 0 0 (length code)
  ready_whole sc h n = record {
    scene = sc;
    inside = h;
    lambdas = omega arith;
    long = n;
    low = λ i k. absurd (omega arith);
    small = let s = sc.code_short in omega arith;
  }

  module _ (z lo hi : ℕ) (p : Tree one) (s : Stands code subject entries (drop 4096 work) lo hi work p (root z)) (f : Safe 0 p) (h : hi ≤ length code)
      (d : depth_of (entry_at subject entries) p ≤ 64) where
    whole_wanted : TreeAt code subject entries work (length code) 0 0 0 (nstack 0 0 opened) z (words_of (entry_at subject entries) p 0 [])
    whole_wanted = record {
      tree = p;
      standing = record { lo = lo; hi = hi; stands = s; safe = f; short = h; few = omega arith };
      shallow = omega arith;
      these = rw (nstack_empty 0 opened);
    }

    pub room_whole : {end : ℕ} → 2 * nodes_of (entry_at subject entries) p ≤ end → Room (TreeAt code subject entries work (length code) 0 0 0 (nstack 0 0 opened) z) end
    room_whole k = record {
      words = words_of (entry_at subject entries) p 0 [];
      wanted = whole_wanted;
      fit = rw (words_size (entry_at subject entries) p 0 []) k;
    }

    pub whole_written : {d e : List ℕ} {r : ℕ}
        → Writes (TreeAt code subject entries work (length code) 0 0 0 (nstack 0 0 opened) z) d e r (2 * nodes_of (entry_at subject entries) p)
        → (r ≡ 0) × (e ≡ words_of (entry_at subject entries) p 0 [] ++ drop (2 * nodes_of (entry_at subject entries) p) d)
    whole_written {d = d} {e = e} {r = r} w =
        let n = words_size (entry_at subject entries) p 0 [] in
        let y = w.does (words_of (entry_at subject entries) p 0 []) whole_wanted (omega arith) in
        let i = y.ends in
        let z : r ≡ 0 = omega arith in
        (z, ap (λ k. drop k e) (sym z) ∙ y.behind)
