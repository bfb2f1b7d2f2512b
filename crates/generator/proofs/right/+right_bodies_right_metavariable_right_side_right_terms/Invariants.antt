-- The four functions of `right` meet their contracts. Each writes the words of what 004's `rhs` says of the node that it stands at, and then those of
-- the terms inside, by a call; the loops' invariants say that the words of the terms that are left, written from here on, make the table asked for.
-- What falls from call to call is the part's length, and between functions that are lent the same part a number that tells them apart.
use Prim.Native.Nat.{◌+◌, ◌-◌, ◌*◌}
use lib.ListN.{length}
use Rattle.generator.proofs.Building.{Joining, Keying}
use Rattle.generator.proofs.right.+right_bodies_right_metavariable_right_side_right_terms.Given as goal

abbrev pub decreases-right_bodies : goal.decreases-right_bodies
decreases-right_bodies l = 3 * length l.part.now + 2

abbrev pub decreases-right_metavariable : goal.decreases-right_metavariable
decreases-right_metavariable l = 3 * length l.part.now + 0

abbrev pub decreases-right_side : goal.decreases-right_side
decreases-right_side l = 3 * length l.part.now + 1

abbrev pub decreases-right_terms : goal.decreases-right_terms
decreases-right_terms l = 3 * length l.part.now + 2

abbrev pub invariant-right_bodies-loop-key : goal.invariant-right_bodies-loop-key
invariant-right_bodies-loop-key l = Keying l.part l.count l.under l.rows l.keys l.initial.code l.at l.code (l.count - l.key-index) (l.keys + l.key-index) l.read l.place

abbrev pub invariant-right_terms-loop : goal.invariant-right_terms-loop
invariant-right_terms-loop l = Joining l.part l.count l.under l.rows l.initial.code l.at l.code (l.count - l.counter) l.read l.place
