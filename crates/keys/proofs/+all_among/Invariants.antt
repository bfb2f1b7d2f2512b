-- `all_among` meets its contract: each key of the right is on the left if each with a bit 0 is, and each other one. What falls is the number of bits left.
use Prim.Native.Nat.{◌-◌}
use Rattle.keys.proofs.+all_among.Given as goal

abbrev pub decreases-all_among : goal.decreases-all_among
decreases-all_among l = 20 - l.place
