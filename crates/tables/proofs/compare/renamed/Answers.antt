use Rattle.std.proofs.Common.{sym, ◌∙◌}
use Rattle.documents.proofs.Instructions.{pairs_chunk, pairs_short}
use Rattle.tables.proofs.Renamed.{pair_found, pair_passed, no_pair}
use Rattle.tables.proofs.compare.renamed.Goals as goal

pub returns-then-pair-index : goal.returns-then-pair-index
returns-then-pair-index c =
    let l = c.loop-pair.invariant in
    let p = c.in-Some.ensures.steps in
    sym (rw (p.1.0, pairs_chunk _ _ (p.1.1 ∙ l.0)) (pair_found _ _ _ _ _ c.if-pair-index.true)) ∙ l.1

pub loop-pair-preserved : goal.loop-pair-preserved
loop-pair-preserved c =
    let l = c.loop-pair.invariant in
    let p = c.in-Some.ensures.steps in
    (p.0 ∙ l.0, sym (rw (p.1.0, pairs_chunk _ _ (p.1.1 ∙ l.0)) (pair_passed _ _ _ _ _ c.if-pair-index.false)) ∙ l.1)

pub returns : goal.returns
returns c =
    let l = c.loop-pair.invariant in
    let p = c.in-None.ensures.steps in
    let s = c.saturating_sub.ensures in s ∙ sym (rw (pairs_short _ (rw l.0 at p.1.0)) (no_pair c.args.shift c.args.index)) ∙ l.1
