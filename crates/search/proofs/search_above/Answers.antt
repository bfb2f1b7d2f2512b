use borrow.Author.Rules.{rules}
use Rattle.std.proofs.Common.{◌≡◌, refl, ap, arith}
use Rattle.levels.specs.declared.Levels.{Levels}
use Rattle.levels.proofs.Above.{above_few, above_back}
use Rattle.search.proofs.Looking.{trying_part, node_same, above_from, above_here, above_missed, above_found, above_ends}
use Rattle.search.proofs.search_above.Goals as goal

words_same : {now then : Levels} → now ≡ then → now.words ≡ then.words
words_same e = ap (λ (l : Levels). l.words) e

pub loop-level-init : goal.loop-level-init
loop-level-init c = (above_from c.requires, refl)

pub offset_bounds-above-level : goal.offset_bounds-above-level
offset_bounds-above-level c = let f = above_few c.requires.1.above_is in omega (arith, f.1)

pub bounds-above-level : goal.bounds-above-level
bounds-above-level c = let f = above_few c.requires.1.above_is in omega (arith, f.1)

pub offset_bounds-above-level-in-Some : goal.offset_bounds-above-level-in-Some
offset_bounds-above-level-in-Some c = let f = above_few c.requires.1.above_is in omega (arith, f.1)

pub bounds-above-level-in-Some : goal.bounds-above-level-in-Some
bounds-above-level-in-Some c = let f = above_few c.requires.1.above_is in omega (arith, f.1)

pub bounds-above-level-in-Some-2 : goal.bounds-above-level-in-Some-2
bounds-above-level-in-Some-2 c = let f = above_few c.requires.1.above_is in omega (arith, f.1)

pub candidates-set-requires : goal.candidates-set-requires
candidates-set-requires c = (above_here c.loop-level.invariant.0 c.loop-level-test.true (node_same _ _ _ (words_same c.loop-level.invariant.1) c.node_of-node.ensures) c.requires.1.above_is).begins.whole

pub slice_bounds-attempt-count : goal.slice_bounds-attempt-count
slice_bounds-attempt-count c = let h = above_here c.loop-level.invariant.0 c.loop-level-test.true (node_same _ _ _ (words_same c.loop-level.invariant.1) c.node_of-node.ensures) c.requires.1.above_is in search rules

pub slice_bounds-attempt-start : goal.slice_bounds-attempt-start
slice_bounds-attempt-start c = let h = above_here c.loop-level.invariant.0 c.loop-level-test.true (node_same _ _ _ (words_same c.loop-level.invariant.1) c.node_of-node.ensures) c.requires.1.above_is in search rules

pub attempt-requires : goal.attempt-requires
attempt-requires c =
    let h = above_here c.loop-level.invariant.0 c.loop-level-test.true (node_same _ _ _ (words_same c.loop-level.invariant.1) c.node_of-node.ensures) c.requires.1.above_is in
    (c.requires.0, trying_part h c.candidates-set.ensures c.loop-level.invariant.0.room c.requires.1.places c.requires.1.sorted)

pub overflow_add-above : goal.overflow_add-above
overflow_add-above c =
    rw (words_same c.loop-level.invariant.1) (let b = above_back c.requires.1.above_is c.loop-level.level c.loop-level.invariant.0.first c.loop-level-test.true in omega (arith, b.0))

pub returns-in-Some-clause-finds : goal.returns-in-Some-clause-finds
returns-in-Some-clause-finds c =
    let h = above_here c.loop-level.invariant.0 c.loop-level-test.true (node_same _ _ _ (words_same c.loop-level.invariant.1) c.node_of-node.ensures) c.requires.1.above_is in
    rw (c.redex.ensures, words_same c.loop-level.invariant.1)
    (above_found c.loop-level.invariant.0 c.loop-level-test.true (node_same _ _ _ (words_same c.loop-level.invariant.1) c.node_of-node.ensures) h c.candidates-set.ensures c.attempt.ensures c.in-Some.is)

pub loop-level-preserved : goal.loop-level-preserved
loop-level-preserved c =
    let h = above_here c.loop-level.invariant.0 c.loop-level-test.true (node_same _ _ _ (words_same c.loop-level.invariant.1) c.node_of-node.ensures) c.requires.1.above_is in
    (above_missed c.loop-level.invariant.0 c.loop-level-test.true (node_same _ _ _ (words_same c.loop-level.invariant.1) c.node_of-node.ensures) h c.candidates-set.ensures c.attempt.ensures c.in_default.is, c.loop-level.invariant.1)

pub returns-clause-finds : goal.returns-clause-finds
returns-clause-finds c = rw (words_same c.loop-level.invariant.1) (above_ends c.loop-level.invariant.0 (omega arith))
