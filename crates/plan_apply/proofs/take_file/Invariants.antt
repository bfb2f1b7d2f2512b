-- `plan_apply::take_file` stays within the lent bytes and ends: each turn takes a byte or more.
use Rattle.std.proofs.Common.{length, ◌-◌, ◌≡◌, ◌≤◌}
use Rattle.plan_apply.proofs.take_file.Given as goal

abbrev pub invariant-loop-taken : goal.invariant-loop-taken
invariant-loop-taken g l = (l.taken ≤ length l.file) × (length l.file ≡ length l.initial.file)

abbrev pub decreases-loop-taken : goal.decreases-loop-taken
decreases-loop-taken g l = length l.initial.file - l.taken
