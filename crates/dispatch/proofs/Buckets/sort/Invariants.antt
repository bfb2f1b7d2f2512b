-- `Buckets::sort`: the rules so far are in the sets of what they ask for, and no other rule is in any. A rule that is in no set of a node fails there.
use Rattle.dispatch.proofs.Sifting.{Sorting}
use Rattle.dispatch.proofs.Buckets.sort.Given as goal

abbrev pub invariant-loop-i : goal.invariant-loop-i
invariant-loop-i l = Sorting l.rules l.starts l.self.roots l.self.seconds l.i
