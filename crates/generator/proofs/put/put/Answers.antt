-- `put::put` meets its contract: the row stands in the place of as many words from there on.
use mathlib.Core.Path.{◌≡◌}
use native.Mathlib.Omega.{arith}
use lib.ListN.{length}
use borrow.Author.Rules.{rules}
use Rattle.generator.proofs.Written.{row_put}
use Rattle.generator.proofs.put.put.Goals as goal

pub returns : goal.returns
returns g c =
    let s = c.args in
    let n : length s.row ≡ g.row.N = search rules in
    let r = c.requires.room in
    record { code = rw c.copy_from_slice.ensures.after (row_put s.code.now s.row s.at g.row.N n (omega arith)); place = omega arith }
