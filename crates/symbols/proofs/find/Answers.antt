use mathlib.Core.Path.{refl, ◌∙◌}
use Rattle.std.specs.Iterator.Adapters.{enumerate_source}
use Rattle.std.specs.Slice.Iter.{chunks_exact_rest}
use Rattle.symbols.proofs.Rows.{seeking_from, seeking_here, seeking_on, seeking_ended}
use Rattle.symbols.proofs.find.Goals as goal
use Rattle.symbols.proofs.find.Goals.{else-row-name-via-then-row-name+else-row-count, else-row-name-via-else-row-name}

pub loop-location-init : goal.loop-location-init
loop-location-init c =
    let s = c.args in
    rw (
      c.into_iter-location-iterator.ensures.into_iter_gives,
      c.enumerate-location-items.ensures.source,
      c.enumerate-location-items.ensures.count,
      c.chunks_exact.ensures.rest,
      c.chunks_exact.ensures.size,
    )
    (refl, seeking_from s.rows.now s.name s.count)

pub returns-then-row-count : goal.returns-then-row-count
returns-then-row-count c =
    let l = c.loop-location.invariant in
    let p = c.in-Some.ensures.steps in
    let rest = chunks_exact_rest (enumerate_source c.next.new.self) in
    rw p.1 (seeking_here c.in-Some.row.now rest (p.0.1.1 ∙ l.0) (rw p.0.1.0 at l.1) c.if-row-name.true c.if-row-count.true)

pub loop-location-preserved : goal.loop-location-preserved
loop-location-preserved c =
    let l = c.loop-location.invariant in
    let p = c.in-Some.ensures.steps in
    let rest = chunks_exact_rest (enumerate_source c.next.new.self) in (
      p.0.0 ∙ l.0,
      rw p.2 (seeking_on c.in-Some.row.now rest (p.0.1.1 ∙ l.0) (rw p.0.1.0 at l.1) (λ e f. elim c.else-row-name.branch [
        | else-row-name-via-then-row-name+else-row-count w ↦ w.if-row-count.false f
        | else-row-name-via-else-row-name w ↦ w.if-row-name.false e
      ])),
    )

pub returns : goal.returns
returns c =
    let l = c.loop-location.invariant in
    let p = c.in-None.ensures.steps in
    seeking_ended _ l.1 (rw l.0 at p.0.1.0)
