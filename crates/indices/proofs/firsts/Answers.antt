use Rattle.std.proofs.Common.{sym, ◌∙◌}
use Rattle.documents.proofs.Instructions.{pairs_chunk, pairs_short}
use Rattle.indices.proofs.Gathering.{firsts_none, first_high, second_high, pair_next}
use Rattle.indices.proofs.firsts.Goals as goal
use Rattle.indices.proofs.firsts.Goals.{then-b-first-via-then-b-first, then-b-first-via-else-b-first+then-d-second}

pub returns-then-b-first : goal.returns-then-b-first
returns-then-b-first c =
    let l = c.loop-pair.invariant in
    let p = c.in-Some.ensures.steps in
    sym (l.1 ∙ rw (p.1.0, pairs_chunk _ _ (p.1.1 ∙ l.0)) (elim c.then-b-first.branch [
      | then-b-first-via-then-b-first w ↦ first_high _ _ _ _ _ _ w.if-b-first.true
      | then-b-first-via-else-b-first+then-d-second w ↦ second_high _ _ _ _ _ _ w.if-d-second.true
    ]))

pub loop-pair-preserved : goal.loop-pair-preserved
loop-pair-preserved c =
    let l = c.loop-pair.invariant in
    let p = c.in-Some.ensures.steps in
    (p.0 ∙ l.0, l.1 ∙ rw (p.1.0, pairs_chunk _ _ (p.1.1 ∙ l.0)) (pair_next _ _ _ _ _ _ _ c.if-b-first.false c.if-d-second.false c.insert-firsts.ensures))

pub returns : goal.returns
returns c =
    let l = c.loop-pair.invariant in
    let p = c.in-None.ensures.steps in
    sym (l.1 ∙ rw (pairs_short _ (rw l.0 at p.1.0)) (firsts_none _ _ _))
