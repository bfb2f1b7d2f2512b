-- The links that the measuring walk leaves, and what it clears.
use Rattle.std.specs.Prelude.{ℕ, zero, suc, ◌+◌, max, cond, List, eqb, get_or, set}
use Rattle.documents.specs.Instructions.{op_adbmal, op_pushvar, op_pushimm}
use Rattle.instructions.specs.Bodies.{body_end, place_behind}
use Rattle.links.specs.Links.{link_of, before_in, depth_in, capped}
use Rattle.links.specs.Standing.{back}

-- the depth of the deepest of n trees, the root of the last at z
abbrev pub deepest_back : List ℕ → ℕ → ℕ → ℕ
deepest_back work zero z = 0
deepest_back work (suc n) z = max (depth_in (get_or work z 0)) (deepest_back work n (before_in (get_or work z 0)))

-- an instruction over these
unfoldable pub over_link : List ℕ → ℕ → ℕ → ℕ
over_link work n z = link_of (back work n z) z (capped (deepest_back work n z + 1))

-- a CELL, ADBMAL or PUSHVAR, the newest tree with its root at z
unfoldable pub plain_link : List ℕ → ℕ → List ℕ → ℕ → ℕ
plain_link code at work z =
    cond (eqb (get_or code at 0) op_pushvar) (link_of z 0 1)
    (cond (eqb (get_or code at 0) op_adbmal) (over_link work 1 z) (over_link work (get_or code (at + 2) 0) z))

-- the place behind a PUSHIMM or PUSHI
unfoldable pub place_next : List ℕ → ℕ → ℕ
place_next code at = cond (eqb (get_or code at 0) op_pushimm) (at + 2) (place_behind code (at + 4) (get_or code (at + 3) 0))

-- the words at the keys of c bodies cleared
unfoldable pub forgotten : List ℕ → List ℕ → ℕ → ℕ → List ℕ
forgotten code work q zero = work
forgotten code work q (suc c) = forgotten code (set work q 0) (body_end code q) c
