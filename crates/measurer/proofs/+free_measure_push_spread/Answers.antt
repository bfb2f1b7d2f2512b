use Rattle.tables.specs.Nodes.{starts}
use Rattle.tables.proofs.Parts.{from_drop}
use Rattle.measurer.proofs.Walked.{stands_first, at_first, word_is, owed_is, at_next, root_room, not_below, free_here, large_here, larger_here, met_on, pass_on, end_small}
use Rattle.trees.specs.Trees.{further}
use Rattle.links.proofs.Keyed.{bodied_readable}
use Rattle.measurer.proofs.Answering.{measures_of, measures_large, pushes_of, pushes_large, spreads_are, meets_too_large, small_reach, noted_small, end_answer, full_answer, plain_pre, growing_plain, push_answer, over_answer, growing_at, push_falls, next_pre}
use mathlib.Core.Path.{refl, sym, ap, ◌∙◌}
use native.Mathlib.Omega.{arith}
use Prim.Native.Nat.{◌+◌, ◌/◌}
use lib.ListN.{length, drop}
use Rattle.measurer.proofs.Asking.{sequence_of, push_of, spreading_of, free_of, asks_sequence, asks_push, asks_spread, asks_free}
use Rattle.measurer.proofs.Growing.{growing_from, growing_lambda, pushable}
use Rattle.measurer.proofs.Spreading.{en, span_from, span_end}
use Rattle.measurer.proofs.Meeting.{meets_none, key_in, key_long, body_end_lem, body_low, body_sequence, noted, noted_root, meets_before, root_small, note_room, depth_room, meets_now}
use Rattle.measurer.proofs.Pushing.{first_low, whole_spreading, whole_pushes, whole_large, bodies_read, push_spreading, push_pushes, whole_falls, bodies_fall}
use borrow.Author.Rules.{rules}
use Prim.Native.Nat.{ℕ}
use Rattle.measurer.proofs.+free_measure_push_spread.Goals as goal

pub free-find-requires : goal.free-find-requires
free-find-requires t c = let s = c.args in bodied_readable s.walk.now.given.code.now (s.push.at + 4) s.push.count (length s.walk.now.given.entries.now) c.requires.makes

pub free-returns-in_default : goal.free-returns-in_default
free-returns-in_default t c = let q = free_of c.args.walk.now.given.known c.args.walk.now.few c.args.push.low c.requires in meets_none q (sym c.in_default.is ∙ c.find.ensures) (let m = c.moved.ensures in omega arith)

pub free-offset_bounds-work-key : goal.free-offset_bounds-work-key
free-offset_bounds-work-key t c = let q = free_of c.args.walk.now.given.known c.args.walk.now.few c.args.push.low c.requires in let b = key_long q (sym c.in-Some.is ∙ c.find.ensures) in search rules

pub free-bounds-work-key : goal.free-bounds-work-key
free-bounds-work-key t c = let q = free_of c.args.walk.now.given.known c.args.walk.now.few c.args.push.low c.requires in let b = key_long q (sym c.in-Some.is ∙ c.find.ensures) in omega arith

pub free-overflow_add-from : goal.free-overflow_add-from
free-overflow_add-from t c = let q = free_of c.args.walk.now.given.known c.args.walk.now.few c.args.push.low c.requires in let b = key_in q (sym c.in-Some.is ∙ c.find.ensures) in let s = q.scene.code_short in search rules

pub free-overflow_add-end : goal.free-overflow_add-end
free-overflow_add-end t c = let q = free_of c.args.walk.now.given.known c.args.walk.now.few c.args.push.low c.requires in let b = key_in q (sym c.in-Some.is ∙ c.find.ensures) in let s = q.scene.code_short in search rules

pub free-offset_bounds-code-key : goal.free-offset_bounds-code-key
free-offset_bounds-code-key t c = let q = free_of c.args.walk.now.given.known c.args.walk.now.few c.args.push.low c.requires in let b = key_in q (sym c.in-Some.is ∙ c.find.ensures) in let s = q.scene.code_short in search rules

pub free-bounds-code-key : goal.free-bounds-code-key
free-bounds-code-key t c = let q = free_of c.args.walk.now.given.known c.args.walk.now.few c.args.push.low c.requires in let b = key_in q (sym c.in-Some.is ∙ c.find.ensures) in omega arith

pub free-overflow_add-end-then-work-key-eq0 : goal.free-overflow_add-end-then-work-key-eq0
free-overflow_add-end-then-work-key-eq0 t c = let q = free_of c.args.walk.now.given.known c.args.walk.now.few c.args.push.low c.requires in let b = key_in q (sym c.in-Some.is ∙ c.find.ensures) in let s = q.scene.code_short in search rules

pub free-measure-requires : goal.free-measure-requires
free-measure-requires t c = let q = free_of c.args.walk.now.given.known c.args.walk.now.few c.args.push.low c.requires in let K = sym c.in-Some.is ∙ c.find.ensures in ((let m = c.decreases in let e = body_end_lem q K in let l = body_low q K in omega arith), asks_sequence (body_sequence q K))

pub free-returns-in_err-nodes : goal.free-returns-in_err-nodes
free-returns-in_err-nodes t c = let q = free_of c.args.walk.now.given.known c.args.walk.now.few c.args.push.low c.requires in rw c.from_residual.ensures (meets_too_large q (sym c.in-Some.is ∙ c.find.ensures) c.measure.ensures.kept (measures_large c.measure.ensures c.in_err-nodes.was))

pub free-overflow_cast-work : goal.free-overflow_cast-work
free-overflow_cast-work t c = let q = free_of c.args.walk.now.given.known c.args.walk.now.few c.args.push.low c.requires in let z = root_small q (sym c.in-Some.is ∙ c.find.ensures) c.measure.ensures.kept (measures_of c.measure.ensures c.in_ok-nodes.was) in search rules

pub free-offset_bounds-work-key-then-work-key-eq0 : goal.free-offset_bounds-work-key-then-work-key-eq0
free-offset_bounds-work-key-then-work-key-eq0 t c = let q = free_of c.args.walk.now.given.known c.args.walk.now.few c.args.push.low c.requires in let b = key_long q (sym c.in-Some.is ∙ c.find.ensures) in search rules

pub free-bounds-work-key-then-work-key-eq0 : goal.free-bounds-work-key-then-work-key-eq0
free-bounds-work-key-then-work-key-eq0 t c = let q = free_of c.args.walk.now.given.known c.args.walk.now.few c.args.push.low c.requires in let b = key_long q (sym c.in-Some.is ∙ c.find.ensures) in let l = c.measure.ensures.kept.long in omega arith

pub free-new-requires : goal.free-new-requires
free-new-requires t c = let q = free_of c.args.walk.now.given.known c.args.walk.now.few c.args.push.low c.requires in let K = sym c.in-Some.is ∙ c.find.ensures in let m = measures_of c.measure.ensures c.in_ok-nodes.was in ((let a = m.fits in let f = q.few in omega arith), small_reach q K _ m.close)

pub free-overflow_add-work : goal.free-overflow_add-work
free-overflow_add-work t c = let q = free_of c.args.walk.now.given.known c.args.walk.now.few c.args.push.low c.requires in let b = key_in q (sym c.in-Some.is ∙ c.find.ensures) in let s = q.scene.code_short in search rules

pub free-offset_bounds-work-key-then-work-key-eq0-2 : goal.free-offset_bounds-work-key-then-work-key-eq0-2
free-offset_bounds-work-key-then-work-key-eq0-2 t c = let q = free_of c.args.walk.now.given.known c.args.walk.now.few c.args.push.low c.requires in let b = key_in q (sym c.in-Some.is ∙ c.find.ensures) in let s = q.scene.code_short in search rules

pub free-bounds-work-key-then-work-key-eq0-2 : goal.free-bounds-work-key-then-work-key-eq0-2
free-bounds-work-key-then-work-key-eq0-2 t c = let q = free_of c.args.walk.now.given.known c.args.walk.now.few c.args.push.low c.requires in note_room q (sym c.in-Some.is ∙ c.find.ensures) c.measure.ensures.kept (measures_of c.measure.ensures c.in_ok-nodes.was) 0

pub free-offset_bounds-work-root : goal.free-offset_bounds-work-root
free-offset_bounds-work-root t c = let q = free_of c.args.walk.now.given.known c.args.walk.now.few c.args.push.low c.requires in let z = root_small q (sym c.in-Some.is ∙ c.find.ensures) c.measure.ensures.kept (measures_of c.measure.ensures c.in_ok-nodes.was) in search rules

pub free-bounds-work-root : goal.free-bounds-work-root
free-bounds-work-root t c = let q = free_of c.args.walk.now.given.known c.args.walk.now.few c.args.push.low c.requires in depth_room q (sym c.in-Some.is ∙ c.find.ensures) c.measure.ensures.kept (measures_of c.measure.ensures c.in_ok-nodes.was) _

pub free-shifted-requires : goal.free-shifted-requires
free-shifted-requires t c = let q = free_of c.args.walk.now.given.known c.args.walk.now.few c.args.push.low c.requires in let K = sym c.in-Some.is ∙ c.find.ensures in let m = measures_of c.measure.ensures c.in_ok-nodes.was in (small_reach q K _ m.close, (let s = q.shallow in omega arith))

pub free-returns-then-work-key-eq0 : goal.free-returns-then-work-key-eq0
free-returns-then-work-key-eq0 t c = let q = free_of c.args.walk.now.given.known c.args.walk.now.few c.args.push.low c.requires in meets_now q (sym c.in-Some.is ∙ c.find.ensures) c.measure.ensures.kept (measures_of c.measure.ensures c.in_ok-nodes.was) _ c.if-work-key-eq0.true c.new.ensures c.depth.ensures.0 c.shifted.ensures

pub free-bounds-work-key-2 : goal.free-bounds-work-key-2
free-bounds-work-key-2 t c = let q = free_of c.args.walk.now.given.known c.args.walk.now.few c.args.push.low c.requires in let b = key_long q (sym c.in-Some.is ∙ c.find.ensures) in omega arith

pub free-bounds-work-root-2 : goal.free-bounds-work-root-2
free-bounds-work-root-2 t c = let q = free_of c.args.walk.now.given.known c.args.walk.now.few c.args.push.low c.requires in let K = sym c.in-Some.is ∙ c.find.ensures in let r = noted_root q K (noted q K c.if-work-key-eq0.false) in let b = key_long q K in omega arith

pub free-shifted-requires-2 : goal.free-shifted-requires-2
free-shifted-requires-2 t c = let q = free_of c.args.walk.now.given.known c.args.walk.now.few c.args.push.low c.requires in let K = sym c.in-Some.is ∙ c.find.ensures in (rw c.reach.ensures (noted_small q K (noted q K c.if-work-key-eq0.false)), (let s = q.shallow in omega arith))

pub free-returns : goal.free-returns
free-returns t c = let q = free_of c.args.walk.now.given.known c.args.walk.now.few c.args.push.low c.requires in meets_before q (sym c.in-Some.is ∙ c.find.ensures) c.if-work-key-eq0.false c.nodes.ensures c.depth-2.ensures.0 (c.shifted-2.ensures ∙ ap (λ (x : ℕ). further c.args.inside x) c.reach.ensures)

pub measure-loop-at-init : goal.measure-loop-at-init
measure-loop-at-init t c = let q = sequence_of c.args.walk.now.given.known c.args.walk.now.few c.requires in growing_from _ _ _ _ _ _ _ q

pub measure-loop-at-preserved-then-op-eq-LAMBDA : goal.measure-loop-at-preserved-then-op-eq-LAMBDA
measure-loop-at-preserved-then-op-eq-LAMBDA t c = let q = sequence_of c.args.walk.now.given.known c.args.walk.now.few c.requires in growing_lambda _ _ _ _ _ _ _ q c.loop-at.invariant c.loop-at-test.true c.if-op-eq-LAMBDA.true

pub measure-returns-then-walk-sum : goal.measure-returns-then-walk-sum
measure-returns-then-walk-sum t c = let q = sequence_of c.args.walk.now.given.known c.args.walk.now.few c.requires in full_answer q c.loop-at.invariant c.loop-at-test.true c.if-walk-sum.true c.if-op-lt-PUSHIMM.true c.if-op-eq-LAMBDA.false

pub measure-put_link-requires : goal.measure-put_link-requires
measure-put_link-requires t c = let q = sequence_of c.args.walk.now.given.known c.args.walk.now.few c.requires in plain_pre q c.loop-at.invariant c.loop-at-test.true c.if-op-lt-PUSHIMM.true c.if-op-eq-LAMBDA.false

pub measure-loop-at-preserved-then-op-lt-PUSHIMM : goal.measure-loop-at-preserved-then-op-lt-PUSHIMM
measure-loop-at-preserved-then-op-lt-PUSHIMM t c = let q = sequence_of c.args.walk.now.given.known c.args.walk.now.few c.requires in growing_plain q c.loop-at.invariant c.loop-at-test.true c.if-op-lt-PUSHIMM.true c.if-op-eq-LAMBDA.false (let h = c.if-walk-sum.false in omega arith) c.put_link.ensures (let e = c.fixed_words.ensures in omega arith)

pub measure-push-requires : goal.measure-push-requires
measure-push-requires t c = let q = sequence_of c.args.walk.now.given.known c.args.walk.now.few c.requires in let P = pushable _ _ _ _ _ _ _ q c.loop-at.invariant c.loop-at-test.true (let h = c.if-op-lt-PUSHIMM.false in omega arith) in (push_falls q c.loop-at.invariant c.loop-at-test.true P _ c.decreases, asks_push P.push)

pub measure-returns-in_err-span : goal.measure-returns-in_err-span
measure-returns-in_err-span t c = let q = sequence_of c.args.walk.now.given.known c.args.walk.now.few c.requires in rw c.from_residual.ensures (let P = pushable _ _ _ _ _ _ _ q c.loop-at.invariant c.loop-at-test.true (let h = c.if-op-lt-PUSHIMM.false in omega arith) in push_answer q c.loop-at.invariant c.loop-at-test.true P c.push.ensures.kept (pushes_large c.push.ensures c.in_err-span.was))

pub measure-returns-then-walk-sum-2 : goal.measure-returns-then-walk-sum-2
measure-returns-then-walk-sum-2 t c = let q = sequence_of c.args.walk.now.given.known c.args.walk.now.few c.requires in let P = pushable _ _ _ _ _ _ _ q c.loop-at.invariant c.loop-at-test.true (let h = c.if-op-lt-PUSHIMM.false in omega arith) in over_answer q c.loop-at.invariant c.loop-at-test.true P c.push.ensures.kept (pushes_of c.push.ensures c.in_ok-span.was).size c.if-walk-sum-2.true

pub measure-next-at-requires : goal.measure-next-at-requires
measure-next-at-requires t c = let q = sequence_of c.args.walk.now.given.known c.args.walk.now.few c.requires in let P = pushable _ _ _ _ _ _ _ q c.loop-at.invariant c.loop-at-test.true (let h = c.if-op-lt-PUSHIMM.false in omega arith) in next_pre q c.loop-at.invariant c.loop-at-test.true P

pub measure-loop-at-smaller : goal.measure-loop-at-smaller
measure-loop-at-smaller t c = let q = sequence_of c.args.walk.now.given.known c.args.walk.now.few c.requires in let P = pushable _ _ _ _ _ _ _ q c.loop-at.invariant c.loop-at-test.true (let h = c.if-op-lt-PUSHIMM.false in omega arith) in let w = P.wide in let e = c.next-at.ensures in let l = c.loop-at-test.true in omega arith

pub measure-loop-at-preserved : goal.measure-loop-at-preserved
measure-loop-at-preserved t c = let q = sequence_of c.args.walk.now.given.known c.args.walk.now.few c.requires in let P = pushable _ _ _ _ _ _ _ q c.loop-at.invariant c.loop-at-test.true (let h = c.if-op-lt-PUSHIMM.false in omega arith) in growing_at q c.loop-at.invariant c.loop-at-test.true P c.push.ensures.kept (pushes_of c.push.ensures c.in_ok-span.was) c.if-walk-sum-2.false c.new.ensures c.max-farthest.ensures c.next-at.ensures

pub measure-returns : goal.measure-returns
measure-returns t c = let q = sequence_of c.args.walk.now.given.known c.args.walk.now.few c.requires in end_answer q c.loop-at.invariant (omega arith)

pub push-offset_bounds-walk-first : goal.push-offset_bounds-walk-first
push-offset_bounds-walk-first t c = let q = push_of c.args.walk.now.given.known c.args.walk.now.few c.requires in let l = first_low q in let e = c.entry-first.ensures in let s = q.scene.few in search rules

pub push-slice_bounds-part-count : goal.push-slice_bounds-part-count
push-slice_bounds-part-count t c = let q = push_of c.args.walk.now.given.known c.args.walk.now.few c.requires in let l = first_low q in let e = c.entry-first.ensures in let s = q.scene.few in search rules

pub push-slice_bounds-part-start : goal.push-slice_bounds-part-start
push-slice_bounds-part-start t c = let q = push_of c.args.walk.now.given.known c.args.walk.now.few c.requires in let l = first_low q in let e = c.entry-first.ensures in let s = q.scene.few in search rules

pub push-spread-requires : goal.push-spread-requires
push-spread-requires t c = let q = push_of c.args.walk.now.given.known c.args.walk.now.few c.requires in (whole_falls q c.if-code-at-eq-PUSHIMM.true _ c.decreases, asks_spread (whole_spreading q c.if-code-at-eq-PUSHIMM.true (from_drop c.entry-first.result c.args.walk.now.given.subject.now ∙ ap (λ (f : ℕ). drop f c.args.walk.now.given.subject.now) c.entry-first.ensures) (ap (λ (f : ℕ). 4096 + f / 2) c.entry-first.ensures)))

pub push-returns-in_err-span : goal.push-returns-in_err-span
push-returns-in_err-span t c = let q = push_of c.args.walk.now.given.known c.args.walk.now.few c.requires in rw c.from_residual.ensures (whole_large q c.if-code-at-eq-PUSHIMM.true (spreads_are c.spread.ensures c.in_err-span.was))

pub push-returns-then-code-at-eq-PUSHIMM : goal.push-returns-then-code-at-eq-PUSHIMM
push-returns-then-code-at-eq-PUSHIMM t c = let q = push_of c.args.walk.now.given.known c.args.walk.now.few c.requires in whole_pushes q c.if-code-at-eq-PUSHIMM.true (spreads_are c.spread.ensures c.in_ok-span.was)

pub push-forget-requires : goal.push-forget-requires
push-forget-requires t c = let q = push_of c.args.walk.now.given.known c.args.walk.now.few c.requires in (bodies_read q c.if-code-at-eq-PUSHIMM.false, (let u = q.scene.code_short in let w = q.scene.work_long in omega arith))

pub push-spread-requires-2 : goal.push-spread-requires-2
push-spread-requires-2 t c = let q = push_of c.args.walk.now.given.known c.args.walk.now.few c.requires in (bodies_fall q c.if-code-at-eq-PUSHIMM.false _ c.decreases, asks_spread (push_spreading q c.if-code-at-eq-PUSHIMM.false c.forget.ensures (from_drop c.entry-first.result c.args.walk.now.given.subject.now ∙ ap (λ (f : ℕ). drop f c.args.walk.now.given.subject.now) c.entry-first.ensures) (ap (λ (f : ℕ). 4096 + f / 2) c.entry-first.ensures)))

pub push-returns : goal.push-returns
push-returns t c = let q = push_of c.args.walk.now.given.known c.args.walk.now.few c.requires in push_pushes q c.if-code-at-eq-PUSHIMM.false c.forget.ensures c.spread-2.ensures

pub spread-offset_bounds-work-places : goal.spread-offset_bounds-work-places
spread-offset_bounds-work-places t c = let q = spreading_of c.args.walk.now.given.known c.args.walk.now.few c.args.push.low c.requires in let k = root_room q in search rules

pub spread-bounds-work-places : goal.spread-bounds-work-places
spread-bounds-work-places t c = let q = spreading_of c.args.walk.now.given.known c.args.walk.now.few c.args.push.low c.requires in root_room q

pub spread-of-node-items-requires : goal.spread-of-node-items-requires
spread-of-node-items-requires t c = let q = spreading_of c.args.walk.now.given.known c.args.walk.now.few c.args.push.low c.requires in rw q.part_is (en q).begins

pub spread-loop-node-init-derived : goal.spread-loop-node-init-derived
spread-loop-node-init-derived t c = let q = spreading_of c.args.walk.now.given.known c.args.walk.now.few c.args.push.low c.requires in let b : starts c.args.part.now c.into_iter-node-iterator.result = rw c.into_iter-node-iterator.ensures.into_iter_gives c.of-node-items.ensures in (stands_first c.args.part.now c.into_iter-node-iterator.result (rw q.part_is (en q).begins) b, tt)

pub spread-loop-node-init : goal.spread-loop-node-init
spread-loop-node-init t c = let q = spreading_of c.args.walk.now.given.known c.args.walk.now.few c.args.push.low c.requires in let b : starts c.args.part.now c.into_iter-node-iterator.result = rw c.into_iter-node-iterator.ensures.into_iter_gives c.of-node-items.ensures in (rw b.2 (span_from q), refl, at_first b)

pub spread-overflow_sub-here : goal.spread-overflow_sub-here
spread-overflow_sub-here t c = let q = spreading_of c.args.walk.now.given.known c.args.walk.now.few c.args.push.low c.requires in let i = c.loop-node.invariant in let g = c.in-Some.ensures.steps in let lo = g.1.0 in let k = not_below q i.0 i.1 lo in search rules

pub spread-free-requires : goal.spread-free-requires
spread-free-requires t c = let q = spreading_of c.args.walk.now.given.known c.args.walk.now.few c.args.push.low c.requires in let i = c.loop-node.invariant in let g = c.in-Some.ensures.steps in let lo = g.1.0 in let w = word_is _ c.in-Some.node i.2 g in let f = rw w at c.is_free.ensures in ((let m = c.decreases in omega arith), rw w (asks_free (free_here q i.0 i.1 lo f c.if-is_free.true)))

pub spread-returns-in_err-span : goal.spread-returns-in_err-span
spread-returns-in_err-span t c = let q = spreading_of c.args.walk.now.given.known c.args.walk.now.few c.args.push.low c.requires in let i = c.loop-node.invariant in let g = c.in-Some.ensures.steps in let lo = g.1.0 in let w = word_is _ c.in-Some.node i.2 g in let f = rw w at c.is_free.ensures in rw c.from_residual.ensures (large_here q i.0 i.1 lo f c.if-is_free.true (rw w at c.free.ensures) c.in_err-span.was)

pub spread-returns-then-walk-more : goal.spread-returns-then-walk-more
spread-returns-then-walk-more t c = let q = spreading_of c.args.walk.now.given.known c.args.walk.now.few c.args.push.low c.requires in let i = c.loop-node.invariant in let g = c.in-Some.ensures.steps in let lo = g.1.0 in let w = word_is _ c.in-Some.node i.2 g in let f = rw w at c.is_free.ensures in larger_here q i.0 i.1 lo f c.if-is_free.true (rw w at c.free.ensures) c.in_ok-span.was c.if-walk-more.true

pub spread-loop-node-preserved-then-is_free : goal.spread-loop-node-preserved-then-is_free
spread-loop-node-preserved-then-is_free t c = let q = spreading_of c.args.walk.now.given.known c.args.walk.now.few c.args.push.low c.requires in let i = c.loop-node.invariant in let g = c.in-Some.ensures.steps in let lo = g.1.0 in let w = word_is _ c.in-Some.node i.2 g in let f = rw w at c.is_free.ensures in let o = owed_is _ c.in-Some.node i.2 g in (rw o (met_on q i.0 i.1 lo f c.if-is_free.true (rw w at c.free.ensures) c.in_ok-span.was (let h = c.if-walk-more.false in omega arith) c.max-highest.ensures c.max-deepest.ensures c.max-farthest.ensures), i.1, at_next _ c.in-Some.node i.2 g)

pub spread-loop-node-preserved : goal.spread-loop-node-preserved
spread-loop-node-preserved t c = let q = spreading_of c.args.walk.now.given.known c.args.walk.now.few c.args.push.low c.requires in let i = c.loop-node.invariant in let g = c.in-Some.ensures.steps in let lo = g.1.0 in let w = word_is _ c.in-Some.node i.2 g in let f = rw w at c.is_free.ensures in let o = owed_is _ c.in-Some.node i.2 g in (rw o (pass_on q i.0 i.1 lo f c.if-is_free.false c.max-highest.ensures), i.1, at_next _ c.in-Some.node i.2 g)

pub spread-overflow_mul-work : goal.spread-overflow_mul-work
spread-overflow_mul-work t c = let q = spreading_of c.args.walk.now.given.known c.args.walk.now.few c.args.push.low c.requires in let e = end_small q c.loop-node.invariant.0 (omega (arith, c.in-None.ensures.steps)) in let a = e.0 in let b = e.1 in search rules

pub spread-overflow_cast-work : goal.spread-overflow_cast-work
spread-overflow_cast-work t c = let q = spreading_of c.args.walk.now.given.known c.args.walk.now.few c.args.push.low c.requires in let e = end_small q c.loop-node.invariant.0 (omega (arith, c.in-None.ensures.steps)) in let a = e.0 in let b = e.1 in search rules

pub spread-returns : goal.spread-returns
spread-returns t c = let q = spreading_of c.args.walk.now.given.known c.args.walk.now.few c.args.push.low c.requires in span_end q c.loop-node.invariant.0 (omega (arith, c.in-None.ensures.steps)) refl refl c.max.ensures c.min.ensures
