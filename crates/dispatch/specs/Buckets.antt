-- Buckets of nodes, told from a node's two words, and which bucket an instruction asks for.
use Rattle.std.specs.Prelude.{◌≡◌, ℕ, ◌+◌, ◌*◌, ◌/◌, ◌%◌, ◌<◌, cond, List, Option, Some, None, IfSome, eqb, leb, ltb, get_or}
use Rattle.documents.specs.Terms.{Term}
use Rattle.documents.specs.Tables.{table_of}
use Rattle.documents.specs.Instructions.{op_is, op_isabst}

-- symbols by name and count, then abstractions, then variables
unfoldable pub bucket_of : ℕ → ℕ → ℕ
bucket_of word count = cond (ltb word 65536) 257 (cond (leb 131072 word) 256 ((word * 20551 / 4096 + count) % 256))

-- the first two words of a term's table, which are its root's
abbrev pub root_word : Term → ℕ
root_word t = get_or (table_of t) 0 0

abbrev pub root_count : Term → ℕ
root_count t = get_or (table_of t) 1 0

-- the bucket that a node must be in for the instruction there not to fail; 258 where it may be in any
unfoldable pub asked_at : List ℕ → ℕ → ℕ
asked_at code at = cond (eqb (get_or code at 0) op_is) (bucket_of (65536 + get_or code (at + 1) 0) (get_or code (at + 2) 0)) (cond (eqb (get_or code at 0) op_isabst) 256 258)

-- .. and the node behind the root: an IS goes on to the first argument
unfoldable pub asked_behind : List ℕ → ℕ
asked_behind code = cond (eqb (get_or code 0 0) op_is) (asked_at code 3) 258

-- a bucket that is asked for, or any, as that number
abbrev pub asked_number : Option ℕ → ℕ
asked_number (Some b) = b
asked_number None = 258

-- what an instruction asks for, told from its number
abbrev pub Asked : Option ℕ → ℕ → Type 0
Asked o n = (asked_number o ≡ n) × IfSome o (λ b. b < 258)
