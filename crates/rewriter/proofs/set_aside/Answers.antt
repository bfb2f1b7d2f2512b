-- `rewriter::set_aside`: one copy if the words behind the redex stay where they are; else two, there and back.
use native.Mathlib.Omega.{arith}
use Prim.Native.Nat.{◌-◌}
use Rattle.rewriter.proofs.Copied.{put_there, put_length, aside_alone, aside_moved}
use Rattle.rewriter.proofs.set_aside.Goals as goal

pub returns-then-end-next-clause-tables : goal.returns-then-end-next-clause-tables
returns-then-end-next-clause-tables c = let h = c.requires in aside_alone h c.work-1.given.1 c.if-end-next.true (put_there _ _ _ _ _ (omega arith) c.copy.ensures)

pub returns-clause-tables : goal.returns-clause-tables
returns-clause-tables c =
    let h = c.requires in
    aside_moved h c.work-2-1.given.1
    (put_length c.args.next (8192 - c.args.next) c.args.plan.now.table c.copy-3.new.table (omega arith) c.copy-3.auto.table)
    (put_there _ _ _ _ _ (omega arith) c.copy-2.ensures)
    (put_there _ _ _ _ _ (omega arith) c.copy-3.ensures)
