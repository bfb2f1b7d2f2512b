-- The words of a link and of a note, put together and taken apart.
use mathlib.Core.Path.{◌≡◌}
use Prim.Native.Nat.{ℕ, ◌+◌, ◌*◌, ◌/◌, ◌<◌}
use native.Mathlib.Omega.{arith}
use Rattle.links.specs.Links.{link_of, before_in, over_in, depth_in, note_of, nodes_in, reach_in}

pub link_before : (b o d : ℕ) → b < 4096 → before_in (link_of b o d) ≡ b
unfolding link_of before_in
link_before b o d h = omega arith

pub link_over : (b o d : ℕ) → b < 4096 → o < 4096 → over_in (link_of b o d) ≡ o
unfolding link_of over_in
link_over b o d h k = let e : ((d * 4096 + o) * 4096 + b) / 4096 ≡ d * 4096 + o = omega arith in rw e (omega arith)

pub link_depth : (b o d : ℕ) → b < 4096 → o < 4096 → depth_in (link_of b o d) ≡ d
unfolding link_of depth_in
link_depth b o d h k = let e : ((d * 4096 + o) * 4096 + b) / 4096 ≡ d * 4096 + o = omega arith in rw e (omega arith)

pub note_nodes : (n r : ℕ) → n < 8192 → nodes_in (note_of n r) ≡ n
unfolding note_of nodes_in
note_nodes n r h = omega arith

pub note_reach : (n r : ℕ) → n < 8192 → reach_in (note_of n r) ≡ r
unfolding note_of reach_in
note_reach n r h = omega arith

pub before_low : (w : ℕ) → before_in w < 4096
unfolding before_in
before_low w = omega arith
