-- The words that the working table holds of a build instruction that is the root of a tree, and of a body that was measured.
use Rattle.std.specs.Prelude.{ℕ, ◌+◌, ◌*◌, ◌/◌, ◌%◌, min}

-- the root of the tree before it, the root of the last of those that it is over, its depth
unfoldable pub link_of : ℕ → ℕ → ℕ → ℕ
link_of before over depth = (depth * 4096 + over) * 4096 + before

unfoldable pub before_in : ℕ → ℕ
before_in link = link % 4096

unfoldable pub over_in : ℕ → ℕ
over_in link = link / 4096 % 4096

unfoldable pub depth_in : ℕ → ℕ
depth_in link = link / 4096 / 4096

-- depths over the limit are not told apart
abbrev pub capped : ℕ → ℕ
capped d = min d 65

-- nodes and reach
unfoldable pub note_of : ℕ → ℕ → ℕ
note_of nodes reach = reach * 8192 + nodes

unfoldable pub nodes_in : ℕ → ℕ
nodes_in note = note % 8192

unfoldable pub reach_in : ℕ → ℕ
reach_in note = note / 8192
