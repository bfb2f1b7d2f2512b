-- `plan::line_for`: with the program's tables `planned` is document 01's line (`plan_line_lem`), and its words leave room for it (`plan_within`).
use mathlib.Core.Path.{sym}
use native.Mathlib.Omega.{arith}
use lib.Seq.{length-take-le}
use Rattle.plan.proofs.Written.{line_counts}
use Rattle.plan.proofs.Planning.{plan_line_lem, plan_within}
use borrow.Author.Rules.{rules}
use Rattle.plan.proofs.line_for.Goals as goal

pub slice_bounds-result-end : goal.slice_bounds-result-end
slice_bounds-result-end c = let w = plan_within _ _ c.apply-applied.ensures.0 in search rules

pub slice_bounds-put_line-end : goal.slice_bounds-put_line-end
slice_bounds-put_line-end c = let w = plan_within _ _ c.apply-applied.ensures.0 in sym (length-take-le _ _ (omega arith))

pub returns : goal.returns
returns c = line_counts _ (plan_line_lem _ _ c.apply-applied.ensures.0) c.put_line.ensures
