-- The rules sorted by what they ask of a root and of the node behind it, and which of them can match a term.
use Rattle.std.specs.Prelude.{◌≡◌, ℕ, ◌^◌, ◌<◌, false, List, length, get_or}
use Rattle.std.proofs.Math.Option.{some}
use Rattle.std.proofs.Math.ListN.{get_elem?}
use Rattle.documents.specs.Terms.{Term}
use Rattle.documents.specs.Tables.{subterm}
use Rattle.documents.specs.Instructions.{Program}
use Rattle.documents.specs.Machine.{fails, run}
use Rattle.indices.specs.Sets.{has}
use Rattle.dispatch.specs.Buckets.{bucket_of, root_word, root_count}

-- so many sets, of rules that there are
pub record Masks (rules : ℕ) (masks : List ℕ) : Type 0 where
  pub long : length masks ≡ 258
  pub low : (b : ℕ) → get_or masks b 0 < 2 ^ rules

-- A rule that is not in the set of a term's root fails there; and one that is not in the set of the node behind the root, which is the root's first
-- argument if it has one.
pub record Sorted (cs : List Program) (roots seconds : List ℕ) : Type 0 where
  pub roots_are : Masks (length cs) roots
  pub seconds_are : Masks (length cs) seconds
  pub root : (i : ℕ) (c : Program) (t : Term) → get_elem? cs i ≡ some c → has (get_or roots (bucket_of (root_word t) (root_count t)) 0) i ≡ false → run c t ≡ fails
  pub second : (i : ℕ) (c : Program) (t : Term) (word count : ℕ) → get_elem? cs i ≡ some c
      → ((u : Term) → subterm t 1 ≡ some u → (word ≡ root_word u) × (count ≡ root_count u))
      → has (get_or seconds (bucket_of word count) 0) i ≡ false → run c t ≡ fails

-- a set of rules without which no rule matches a term
pub record Candidates (cs : List Program) (t : Term) (set : ℕ) : Type 0 where
  pub low : set < 2 ^ length cs
  pub others : (i : ℕ) (c : Program) → get_elem? cs i ≡ some c → has set i ≡ false → run c t ≡ fails
