-- `dispatch::admit_everywhere`: the sets before a place have the rule, and with it in those behind they are all that were to have it.
use Rattle.dispatch.proofs.Entering.{Entering}
use Rattle.dispatch.proofs.admit_everywhere.Given as goal

abbrev pub invariant-loop-mask : goal.invariant-loop-mask
invariant-loop-mask l = Entering l.initial.masks l.rule l.masks l.mask-index
