-- What the checker's state stands for (document 01, 'When code passes').
use Rattle.std.specs.Prelude.{ℕ, zero, suc, ◌-◌, Bool, false, cond, List, [], ◌∷◌, Option, Some, None, eqb, ltb, get_or}
use Rattle.documents.specs.Passing.{Slot, slot}
use Rattle.indices.specs.Sets.{members}
use Rattle.turns.specs.declared.entries.Entries.{Entries}
use Rattle.turns.specs.declared.entries.Stored.{Stored}
use Rattle.turns.specs.declared.entries.Entry.{Entry}

-- the first n of an array, the last first
unfoldable pub stacked : ℕ → List ℕ → List ℕ
stacked zero ds = []
stacked (suc n) ds = get_or ds n 0 ∷ stacked n ds

-- a guard is held as a set, so its list is that of the set's members
unfoldable pub slots : ℕ → List ℕ → List ℕ → List Slot
slots zero ds gs = []
slots (suc n) ds gs = slot (get_or ds n 0) (members (get_or gs n 0)) ∷ slots n ds gs

-- the entries, the newest first
abbrev pub entries_of : Entries → List Slot
entries_of e = slots e.stored.count e.stored.depths e.stored.guards

-- entry x, counted from the newest
unfoldable pub found_in : Stored → ℕ → Option Entry
found_in e x = let i = e.count - 1 - x in cond (ltb x e.count) (Some (record { depth = get_or e.depths i 0; guard = get_or e.guards i 0 })) None

unfoldable pub same_depth : Option Entry → ℕ → Bool
same_depth (Some e) d = eqb d e.depth
same_depth None d = false
