-- `rewriter::put_in`: the copy of the redex, and the links before it, are what `put_before` asks for.
use lib.Seq.{length-take-le}
use mathlib.Core.Path.{sym}
use native.Mathlib.Omega.{arith}
use Rattle.rewriter.proofs.Exchanged.{copy_lent}
use Rattle.rewriter.proofs.put_in.Goals as goal

pub slice_bounds-put_before-end-2 : goal.slice_bounds-put_before-end-2
slice_bounds-put_before-end-2 c = sym (length-take-le 8192 c.args.work.now (let h = c.requires in omega arith))

pub put_before-requires : goal.put_before-requires
put_before-requires c = let p = c.requires in ((p.0.0, rw copy_lent p.0.1, p.0.2), p.1)

pub returns : goal.returns
returns c = λ u b h. c.put_before.ensures u (rw copy_lent b) h
