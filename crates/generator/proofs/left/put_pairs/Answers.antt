use Prim.Native.Nat.{◌+◌, ◌-◌, ◌*◌}
use mathlib.Core.Path.{◌≡◌}
use lib.Dec.{lit<}
use native.Mathlib.Omega.{arith}
use Rattle.generator.proofs.Matching.{pairing_from, pairing_fits, pairing_on, pairing_ended}
use Rattle.generator.proofs.left.put_pairs.Goals as goal

pub loop-i-init : goal.loop-i-init
loop-i-init c =
    let s = c.args in
    let e : s.count - 0 ≡ s.count = omega arith in
    rw e (pairing_from c.requires.0 c.requires.1 c.requires.2)

pub put-place-requires : goal.put-place-requires
put-place-requires c = (lit< tt, pairing_fits c.loop-i.invariant (omega arith))

pub loop-i-preserved : goal.loop-i-preserved
loop-i-preserved c =
    let s = c.args in
    let l = c.loop-i in
    let e : s.count - (l.i + 1) ≡ s.count - l.i - 1 = omega arith in
    let f : 2 * (l.i + 1) ≡ 2 * l.i + 2 = omega arith in
    rw (e, f) (pairing_on l.invariant (omega arith) c.put-place.ensures)

pub returns : goal.returns
returns c = pairing_ended c.loop-i.invariant (omega arith)
