use native.Mathlib.Omega.{arith}
use Prim.Native.Nat.{◌-◌}
use Rattle.std.proofs.lemmas.List.Edits.{swap_is}
use Rattle.keys.proofs.Parting.{parting_from, parting_low, parting_high, parting_ended}
use Rattle.keys.proofs.part.Goals as goal

pub loop-low-init : goal.loop-low-init
loop-low-init c = parting_from

pub loop-low-preserved-then-keys-low-eq0 : goal.loop-low-preserved-then-keys-low-eq0
loop-low-preserved-then-keys-low-eq0 c = parting_low c.loop-low.invariant c.loop-low-test.true c.if-keys-low-eq0.true

pub loop-low-preserved : goal.loop-low-preserved
loop-low-preserved c =
    let l = c.loop-low in
    let t = l.invariant.top in
    rw (c.swap.ensures.after, ← swap_is l.keys l.low (l.high - 1) 0 (omega arith) (omega arith)) (parting_high l.invariant c.loop-low-test.true c.if-keys-low-eq0.false)

pub returns : goal.returns
returns c = parting_ended c.loop-low.invariant c.loop-low-test.false
