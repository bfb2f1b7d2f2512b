-- The walk of the terms that a part begins with: where it stands, and what a step of it gives.
use Rattle.std.specs.Prelude.{◌≡◌, ℕ, Bool, ◌&&◌, leb, ltb, ◌+◌, ◌-◌, ◌≤◌, ◌<◌, List, ◌∷◌, length, get_or, drop, Option}
use Rattle.std.specs.Option.{MatchOption}
use Rattle.tables.specs.declared.walk.Node.{Node}
use Rattle.tables.specs.declared.walk.Nodes.{Nodes}
use Rattle.documents.specs.Terms.{Terms}
use Rattle.tables.specs.Parts.{terms, Begins}

-- so many terms begin at its place
abbrev pub Stands : Nodes → Type 0
Stands s = Begins s.owed (drop s.at s.part.now) × (s.at ≤ length s.part.now)

-- the terms that it still owes
abbrev pub owes : Nodes → Terms
owes s = terms s.owed (drop s.at s.part.now)

-- it stands before the first word of a part, and owes one term
abbrev pub starts : List ℕ → Nodes → Type 0
starts part s = (s.part.now ≡ part) × (s.at ≡ 0) × (s.owed ≡ 1)

-- the part that a node begins
abbrev pub part_at : Node → List ℕ
part_at n = n.word ∷ n.count ∷ n.behind.now

-- a metavariable's first word
abbrev pub is_metavariable : ℕ → Bool
is_metavariable word = leb 131072 word && ltb word 196608

-- A step gives the node there and goes on behind it: the node is owed no more, its arguments are. Where nothing is owed, the walk is at its end.
abbrev pub node_gives : Nodes → Option Node → Nodes → Type 0
node_gives s r t = (t.part ≡ s.part) × MatchOption r ((s.owed ≡ 0) × (t ≡ s))
    (λ n. (0 < s.owed) × (n.word ≡ get_or s.part.now s.at 0) × (n.count ≡ get_or s.part.now (s.at + 1) 0) × (n.behind.now ≡ drop (s.at + 2) s.part.now)
    × (t.at ≡ s.at + 2) × (t.owed ≡ s.owed - 1 + n.count))

-- on behind so many terms, of so many words
abbrev pub goes_past : Nodes → ℕ → ℕ → Nodes → Type 0
goes_past s gone words t = (t.part ≡ s.part) × (t.at ≡ s.at + words) × (t.owed ≡ s.owed - gone)

-- no step goes past the part's end
abbrev pub words_left : Nodes → ℕ
words_left s = length s.part.now - s.at
