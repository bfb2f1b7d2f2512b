use mathlib.Core.Path.{sym, ◌∙◌}
use lib.Dec.{lit<}
use Rattle.generator.proofs.Matching.{listing_from, listing_over, listing_fits, listing_on, listing_ended}
use Rattle.generator.proofs.left.put_others.Goals as goal
use Rattle.generator.proofs.left.put_others.Goals.{then-not-occurs_among, else-not-occurs_among}

pub loop-index-init : goal.loop-index-init
loop-index-init c = listing_from c.requires.0 c.requires.1

pub put-place-requires : goal.put-place-requires
put-place-requires c = (lit< tt, listing_fits c.loop-index.invariant c.loop-index-test.true (sym c.if-not-occurs_among.true ∙ c.occurs_among.ensures))

pub loop-index-preserved : goal.loop-index-preserved
loop-index-preserved c = elim c.if-not-occurs_among.branch [
  | then-not-occurs_among w ↦
      rw (w.code-is, w.place-is) (listing_on c.loop-index.invariant c.loop-index-test.true (sym w.if-not-occurs_among.true ∙ c.occurs_among.ensures) w.put-place.ensures)
  | else-not-occurs_among w ↦
      rw (w.code-is, w.place-is) (listing_over c.loop-index.invariant c.loop-index-test.true (sym w.if-not-occurs_among.false ∙ c.occurs_among.ensures))
]

pub returns : goal.returns
returns c = listing_ended c.loop-index.invariant c.loop-index-test.false
