use mathlib.Core.Path.{refl, sym, ap, ◌∙◌}
use native.Mathlib.Omega.{arith}
use mathlib.Core.List.{[], ◌∷◌}
use lib.ListN.{length}
use borrow.Author.Rules.{rules}
use Rattle.links.proofs.Variables.{free_low}
use Rattle.writer.proofs.Moves.{moves_pushed}
use Rattle.writer.proofs.Writings.{writes_from, room_from, writes_exactly}
use Rattle.writer.proofs.Opened.{same_none}
use Rattle.writer.proofs.Rooting.{leaf_within, tree_root, tree_cell, tree_bound}
use Rattle.writer.proofs.Entries.{entry_part, named_part, tree_named, tree_pushed, copied_words}
use Rattle.writer.proofs.Freed.{key_found, key_missing_lem, free_readable, free_moved, free_falls}
use Rattle.writer.proofs.Walking.{ready_of, going_of, ready_bound, constant_fits, constant_written, bound_fits, bound_written, body_tree, body_ready, writing_from, writing_ended, writing_at, leaf_room, leaf_below, writing_leaf, node_cell, opened_high, opened_few, writing_opened, closed_kept, closed_within, closed_cell, closed_some, closed_fit, writing_closed, entry_root, entering_from, entering_ended, entering_ready, entering_below, entering_met, entering_room, entering_free, entering_fit, entering_kept}
use Rattle.writer.proofs.+write_write_entry_write_free_write_leaf.Goals as goal

pub write-loop-left-init : goal.write-loop-left-init
write-loop-left-init t c = let y = ready_of c.args.given.now.known c.args.place.few c.args.place.small c.requires.0 in writing_from y c.requires.1

pub write-returns-then-kept-place : goal.write-returns-then-kept-place
write-returns-then-kept-place t c = (writing_ended c.loop-left.invariant (omega arith) c.if-kept-place.true, c.loop-left.invariant.same)

pub write-bounds-work-node : goal.write-bounds-work-node
write-bounds-work-node t c = let y = ready_of c.args.given.now.known c.args.place.few c.args.place.small c.requires.0 in let a = closed_kept c.loop-left.invariant (omega arith) c.if-kept-place.false in let n = c.loop-left.invariant.ready.long in let v = closed_within c.loop-left.invariant (omega arith) c.if-kept-place.false in let s = y.scene.code_short in let m = y.scene.work_long in search rules

pub write-head-requires : goal.write-head-requires
write-head-requires t c = (closed_within c.loop-left.invariant (omega arith) c.if-kept-place.false, λ q. (let b = closed_cell c.loop-left.invariant (omega arith) c.if-kept-place.false q in (omega (arith, b.within), omega (arith, b.name))))

pub write-arguments-requires : goal.write-arguments-requires
write-arguments-requires t c = (closed_within c.loop-left.invariant (omega arith) c.if-kept-place.false, λ q. (closed_cell c.loop-left.invariant (omega arith) c.if-kept-place.false q).within)

pub write-put-to-requires : goal.write-put-to-requires
write-put-to-requires t c = (closed_fit c.loop-left.invariant (omega arith) c.if-kept-place.false, c.loop-left.invariant.ready.inside)

pub write-outer-lambdas-requires : goal.write-outer-lambdas-requires
write-outer-lambdas-requires t c = (closed_within c.loop-left.invariant (omega arith) c.if-kept-place.false, closed_some c.loop-left.invariant (omega arith) c.if-kept-place.false)

pub write-loop-left-preserved-then-left-eq0 : goal.write-loop-left-preserved-then-left-eq0
write-loop-left-preserved-then-left-eq0 t c = writing_closed c.loop-left.invariant (omega arith) c.if-kept-place.false c.outer-lambdas.ensures c.before-at.ensures c.head.ensures c.arguments.ensures c.put-to.ensures c.put-to.auto.res

pub write-offset_bounds-code-at : goal.write-offset_bounds-code-at
write-offset_bounds-code-at t c = let y = ready_of c.args.given.now.known c.args.place.few c.args.place.small c.requires.0 in let a = writing_at c.loop-left.invariant (omega arith) in let s = y.scene.code_short in let m = y.scene.work_long in search rules

pub write-bounds-code-at : goal.write-bounds-code-at
write-bounds-code-at t c = let y = ready_of c.args.given.now.known c.args.place.few c.args.place.small c.requires.0 in let a = writing_at c.loop-left.invariant (omega arith) in let s = y.scene.code_short in let m = y.scene.work_long in search rules

pub write-overflow_cast-opened : goal.write-overflow_cast-opened
write-overflow_cast-opened t c = let y = ready_of c.args.given.now.known c.args.place.few c.args.place.small c.requires.0 in let a = writing_at c.loop-left.invariant (omega arith) in let s = y.scene.code_short in let m = y.scene.work_long in let k = opened_high c.loop-left.invariant (omega arith) c.if-code-at-lt-PUSHVAR.true in let n = c.loop-left.invariant.ready.long in let q = c.loop-left.invariant.ready.lambdas in let f = c.loop-left.invariant.few in search rules

pub write-overflow_mul-opened : goal.write-overflow_mul-opened
write-overflow_mul-opened t c = let y = ready_of c.args.given.now.known c.args.place.few c.args.place.small c.requires.0 in let a = writing_at c.loop-left.invariant (omega arith) in let s = y.scene.code_short in let m = y.scene.work_long in let k = opened_high c.loop-left.invariant (omega arith) c.if-code-at-lt-PUSHVAR.true in let n = c.loop-left.invariant.ready.long in let q = c.loop-left.invariant.ready.lambdas in let f = c.loop-left.invariant.few in search rules

pub write-overflow_add-opened : goal.write-overflow_add-opened
write-overflow_add-opened t c = let y = ready_of c.args.given.now.known c.args.place.few c.args.place.small c.requires.0 in let a = writing_at c.loop-left.invariant (omega arith) in let s = y.scene.code_short in let m = y.scene.work_long in let k = opened_high c.loop-left.invariant (omega arith) c.if-code-at-lt-PUSHVAR.true in let n = c.loop-left.invariant.ready.long in let q = c.loop-left.invariant.ready.lambdas in let f = c.loop-left.invariant.few in search rules

pub write-bounds-opened-kept-then-code-at-lt-PUSHVAR : goal.write-bounds-opened-kept-then-code-at-lt-PUSHVAR
write-bounds-opened-kept-then-code-at-lt-PUSHVAR t c = let y = ready_of c.args.given.now.known c.args.place.few c.args.place.small c.requires.0 in let a = writing_at c.loop-left.invariant (omega arith) in let s = y.scene.code_short in let m = y.scene.work_long in let k = opened_high c.loop-left.invariant (omega arith) c.if-code-at-lt-PUSHVAR.true in let n = c.loop-left.invariant.ready.long in let q = c.loop-left.invariant.ready.lambdas in let f = c.loop-left.invariant.few in search rules

pub write-inner-lambdas-requires : goal.write-inner-lambdas-requires
write-inner-lambdas-requires t c = (writing_at c.loop-left.invariant (omega arith), let q = c.loop-left.invariant.ready.lambdas in omega arith)

pub write-arguments-left-requires : goal.write-arguments-left-requires
write-arguments-left-requires t c = (writing_at c.loop-left.invariant (omega arith), λ q. node_cell c.loop-left.invariant (omega arith) c.if-code-at-lt-PUSHVAR.true q)

pub write-offset_bounds-work-at : goal.write-offset_bounds-work-at
write-offset_bounds-work-at t c = let y = ready_of c.args.given.now.known c.args.place.few c.args.place.small c.requires.0 in let a = writing_at c.loop-left.invariant (omega arith) in let s = y.scene.code_short in let m = y.scene.work_long in search rules

pub write-bounds-work-at : goal.write-bounds-work-at
write-bounds-work-at t c = let y = ready_of c.args.given.now.known c.args.place.few c.args.place.small c.requires.0 in let a = writing_at c.loop-left.invariant (omega arith) in let s = y.scene.code_short in let m = y.scene.work_long in search rules

pub write-loop-left-smaller-then-code-at-lt-PUSHVAR : goal.write-loop-left-smaller-then-code-at-lt-PUSHVAR
write-loop-left-smaller-then-code-at-lt-PUSHVAR t c = let k = opened_high c.loop-left.invariant (omega arith) c.if-code-at-lt-PUSHVAR.true in let g = opened_few c.loop-left.invariant (omega arith) c.if-code-at-lt-PUSHVAR.true in let r = c.arguments-left.ensures in search rules

pub write-loop-left-preserved-then-code-at-lt-PUSHVAR : goal.write-loop-left-preserved-then-code-at-lt-PUSHVAR
write-loop-left-preserved-then-code-at-lt-PUSHVAR t c = writing_opened c.loop-left.invariant (omega arith) c.if-code-at-lt-PUSHVAR.true refl c.inner-lambdas.ensures c.arguments-left.ensures c.over-at.ensures

pub write-write_leaf-to-requires : goal.write-write_leaf-to-requires
write-write_leaf-to-requires t c = (omega (arith, c.decreases), (going_of c.loop-left.invariant.ready, leaf_room c.loop-left.invariant (omega arith), omega arith))

pub write-loop-left-smaller : goal.write-loop-left-smaller
write-loop-left-smaller t c = let b = leaf_below c.loop-left.invariant (omega arith) c.write_leaf-to.ensures.0 in search rules

pub write-loop-left-preserved : goal.write-loop-left-preserved
write-loop-left-preserved t c = writing_leaf c.loop-left.invariant (omega arith) c.write_leaf-to.ensures.0 c.write_leaf-to.ensures.1 c.write_leaf-to.auto.res c.write_leaf-to.auto.opened c.before-at-else-code-at-lt-PUSHVAR.ensures

pub write_entry-offset_bounds-work-places : goal.write_entry-offset_bounds-work-places
write_entry-offset_bounds-work-places t c = let y = ready_of c.args.given.now.known c.args.place.few c.args.place.small c.requires.0 in let v = entry_root y c.requires.1 c.requires.2 c.requires.3 in let m = y.scene.work_long in search rules

pub write_entry-bounds-work-places : goal.write_entry-bounds-work-places
write_entry-bounds-work-places t c = let y = ready_of c.args.given.now.known c.args.place.few c.args.place.small c.requires.0 in let v = entry_root y c.requires.1 c.requires.2 c.requires.3 in let m = y.scene.work_long in search rules

pub write_entry-loop-node-init : goal.write_entry-loop-node-init
write_entry-loop-node-init t c = let y = ready_of c.args.given.now.known c.args.place.few c.args.place.small c.requires.0 in entering_from y c.requires.1 c.requires.2 c.requires.3

pub write_entry-overflow_sub-inside : goal.write_entry-overflow_sub-inside
write_entry-overflow_sub-inside t c = let y = ready_of c.args.given.now.known c.args.place.few c.args.place.small c.requires.0 in let p = (entering_below y c.loop-node.invariant (omega arith)).0 in search rules

pub write_entry-write_free-to-requires : goal.write_entry-write_free-to-requires
write_entry-write_free-to-requires t c = let y = ready_of c.args.given.now.known c.args.place.few c.args.place.small c.requires.0 in (omega (arith, c.decreases), (going_of (entering_ready y c.loop-node.invariant), entering_room y c.loop-node.invariant (omega arith) (sym c.is_free.ensures ∙ c.if-is_free.true), entering_met y c.loop-node.invariant (omega arith) (sym c.is_free.ensures ∙ c.if-is_free.true)))

pub write_entry-put-to-requires : goal.write_entry-put-to-requires
write_entry-put-to-requires t c = let y = ready_of c.args.given.now.known c.args.place.few c.args.place.small c.requires.0 in (entering_fit y c.loop-node.invariant (omega arith) (sym c.is_free.ensures ∙ c.if-is_free.false), (entering_ready y c.loop-node.invariant).inside)

pub write_entry-loop-node-preserved-then-is_free : goal.write_entry-loop-node-preserved-then-is_free
write_entry-loop-node-preserved-then-is_free t c = let y = ready_of c.args.given.now.known c.args.place.few c.args.place.small c.requires.0 in entering_free y c.loop-node.invariant (omega arith) (sym c.is_free.ensures ∙ c.if-is_free.true) c.write_free-to.ensures.0 c.write_free-to.ensures.1 c.write_free-to.auto.res c.write_free-to.auto.opened

pub write_entry-loop-node-preserved : goal.write_entry-loop-node-preserved
write_entry-loop-node-preserved t c = let y = ready_of c.args.given.now.known c.args.place.few c.args.place.small c.requires.0 in entering_kept y c.loop-node.invariant (omega arith) (sym c.is_free.ensures ∙ c.if-is_free.false) c.put-to.ensures c.put-to.auto.res

pub write_entry-returns : goal.write_entry-returns
write_entry-returns t c = let y = ready_of c.args.given.now.known c.args.place.few c.args.place.small c.requires.0 in (entering_ended y c.loop-node.invariant (omega arith), c.loop-node.invariant.same)

pub write_free-overflow_sub-word : goal.write_free-overflow_sub-word
write_free-overflow_sub-word t c = let y = ready_of c.args.given.now.known c.args.place.few c.args.place.small c.requires.0 in let r = free_readable c.requires.1.wanted in let s = y.scene.code_short in let f = free_low _ _ c.requires.2.free in let q = y.small in let h = f.1 in search rules

pub write_free-find-requires : goal.write_free-find-requires
write_free-find-requires t c = (free_readable c.requires.1.wanted).bodies

pub write_free-moved-requires : goal.write_free-moved-requires
write_free-moved-requires t c = let y = ready_of c.args.given.now.known c.args.place.few c.args.place.small c.requires.0 in let r = free_readable c.requires.1.wanted in let s = y.scene.code_short in let f = free_low _ _ c.requires.2.free in let q = y.small in let h = f.0 in let d = r.shift in omega arith

pub write_free-put-requires : goal.write_free-put-requires
write_free-put-requires t c = let y = ready_of c.args.given.now.known c.args.place.few c.args.place.small c.requires.0 in (let n = ap length (free_moved (key_missing_lem _ (sym c.find.ensures ∙ c.in_default.is)) _ c.requires.1.wanted) in let f = c.requires.1.fit in omega arith, y.inside)

pub write_free-returns-in_default : goal.write_free-returns-in_default
write_free-returns-in_default t c = (writes_exactly (λ ws x. free_moved (key_missing_lem _ (sym c.find.ensures ∙ c.in_default.is)) ws x ∙ ap (λ y. y ∷ 0 ∷ []) (sym c.moved.ensures)) c.put.ensures, same_none)

pub write_free-offset_bounds-work-key : goal.write_free-offset_bounds-work-key
write_free-offset_bounds-work-key t c = let y = ready_of c.args.given.now.known c.args.place.few c.args.place.small c.requires.0 in let v = free_falls c.requires.2 _ (key_found _ _ (sym c.find.ensures ∙ c.in-Some.is)) c.requires.1.wanted in let s = y.scene.code_short in let m = y.scene.work_long in search rules

pub write_free-bounds-work-key : goal.write_free-bounds-work-key
write_free-bounds-work-key t c = let y = ready_of c.args.given.now.known c.args.place.few c.args.place.small c.requires.0 in let v = free_falls c.requires.2 _ (key_found _ _ (sym c.find.ensures ∙ c.in-Some.is)) c.requires.1.wanted in let s = y.scene.code_short in let m = y.scene.work_long in search rules

pub write_free-bounds-code-root : goal.write_free-bounds-code-root
write_free-bounds-code-root t c = let y = ready_of c.args.given.now.known c.args.place.few c.args.place.small c.requires.0 in let a = tree_root (body_tree y c.requires.2 (key_found _ _ (sym c.find.ensures ∙ c.in-Some.is)) refl _ c.requires.1.wanted) in let s = y.scene.code_short in search rules

pub write_free-bounds-code-root-then-code-root-eq-PUSHVAR : goal.write_free-bounds-code-root-then-code-root-eq-PUSHVAR
write_free-bounds-code-root-then-code-root-eq-PUSHVAR t c = let y = ready_of c.args.given.now.known c.args.place.few c.args.place.small c.requires.0 in let b = (tree_bound c.if-code-root-eq-PUSHVAR.true (body_tree y c.requires.2 (key_found _ _ (sym c.find.ensures ∙ c.in-Some.is)) refl _ c.requires.1.wanted)).within in let s = y.scene.code_short in search rules

pub write_free-bound-index-requires : goal.write_free-bound-index-requires
write_free-bound-index-requires t c = let y = ready_of c.args.given.now.known c.args.place.few c.args.place.small c.requires.0 in ready_bound (body_ready y c.requires.2 (key_found _ _ (sym c.find.ensures ∙ c.in-Some.is)) (omega arith) c.requires.1.wanted) (tree_bound c.if-code-root-eq-PUSHVAR.true (body_tree y c.requires.2 (key_found _ _ (sym c.find.ensures ∙ c.in-Some.is)) refl _ c.requires.1.wanted)).low

pub write_free-put-requires-then-code-root-eq-PUSHVAR : goal.write_free-put-requires-then-code-root-eq-PUSHVAR
write_free-put-requires-then-code-root-eq-PUSHVAR t c = let y = ready_of c.args.given.now.known c.args.place.few c.args.place.small c.requires.0 in (bound_fits c.args.opened.now c.if-code-root-eq-PUSHVAR.true (room_from (body_tree y c.requires.2 (key_found _ _ (sym c.find.ensures ∙ c.in-Some.is)) refl) c.requires.1), y.inside)

pub write_free-returns-then-code-root-eq-PUSHVAR : goal.write_free-returns-then-code-root-eq-PUSHVAR
write_free-returns-then-code-root-eq-PUSHVAR t c = let y = ready_of c.args.given.now.known c.args.place.few c.args.place.small c.requires.0 in (writes_from (body_tree y c.requires.2 (key_found _ _ (sym c.find.ensures ∙ c.in-Some.is)) refl) (bound_written c.args.opened.now c.if-code-root-eq-PUSHVAR.true c.bound-index.ensures c.put-then-code-root-eq-PUSHVAR.ensures), same_none)

pub write_free-is_constant-requires : goal.write_free-is_constant-requires
write_free-is_constant-requires t c = let y = ready_of c.args.given.now.known c.args.place.few c.args.place.small c.requires.0 in (tree_root (body_tree y c.requires.2 (key_found _ _ (sym c.find.ensures ∙ c.in-Some.is)) refl _ c.requires.1.wanted), λ q. (tree_cell q (body_tree y c.requires.2 (key_found _ _ (sym c.find.ensures ∙ c.in-Some.is)) refl _ c.requires.1.wanted)).within)

pub write_free-head-requires : goal.write_free-head-requires
write_free-head-requires t c = let y = ready_of c.args.given.now.known c.args.place.few c.args.place.small c.requires.0 in (tree_root (body_tree y c.requires.2 (key_found _ _ (sym c.find.ensures ∙ c.in-Some.is)) refl _ c.requires.1.wanted), λ q. (let b = tree_cell q (body_tree y c.requires.2 (key_found _ _ (sym c.find.ensures ∙ c.in-Some.is)) refl _ c.requires.1.wanted) in (omega (arith, b.within), omega (arith, b.name))))

pub write_free-put-requires-then-is_constant : goal.write_free-put-requires-then-is_constant
write_free-put-requires-then-is_constant t c = let y = ready_of c.args.given.now.known c.args.place.few c.args.place.small c.requires.0 in (constant_fits c.args.opened.now (sym c.is_constant.ensures ∙ c.if-is_constant.true) (let n = y.long in let k = y.lambdas in omega arith) (room_from (body_tree y c.requires.2 (key_found _ _ (sym c.find.ensures ∙ c.in-Some.is)) refl) c.requires.1), y.inside)

pub write_free-returns-then-is_constant : goal.write_free-returns-then-is_constant
write_free-returns-then-is_constant t c = let y = ready_of c.args.given.now.known c.args.place.few c.args.place.small c.requires.0 in (writes_from (body_tree y c.requires.2 (key_found _ _ (sym c.find.ensures ∙ c.in-Some.is)) refl) (constant_written c.args.opened.now (sym c.is_constant.ensures ∙ c.if-is_constant.true) (let n = y.long in let k = y.lambdas in omega arith) c.head.ensures c.put-then-is_constant.ensures), same_none)

pub write_free-overflow_add-under : goal.write_free-overflow_add-under
write_free-overflow_add-under t c = let y = ready_of c.args.given.now.known c.args.place.few c.args.place.small c.requires.0 in let v = free_falls c.requires.2 _ (key_found _ _ (sym c.find.ensures ∙ c.in-Some.is)) c.requires.1.wanted in let s = y.scene.code_short in let m = y.scene.work_long in let q = y.small in let i = c.requires.2.shallow in search rules

pub write_free-offset_bounds-code-key : goal.write_free-offset_bounds-code-key
write_free-offset_bounds-code-key t c = let y = ready_of c.args.given.now.known c.args.place.few c.args.place.small c.requires.0 in let v = free_falls c.requires.2 _ (key_found _ _ (sym c.find.ensures ∙ c.in-Some.is)) c.requires.1.wanted in let s = y.scene.code_short in let m = y.scene.work_long in let q = y.small in let i = c.requires.2.shallow in search rules

pub write_free-bounds-code-key : goal.write_free-bounds-code-key
write_free-bounds-code-key t c = let y = ready_of c.args.given.now.known c.args.place.few c.args.place.small c.requires.0 in let v = free_falls c.requires.2 _ (key_found _ _ (sym c.find.ensures ∙ c.in-Some.is)) c.requires.1.wanted in let s = y.scene.code_short in let m = y.scene.work_long in let q = y.small in let i = c.requires.2.shallow in search rules

pub write_free-invariant_of-under : goal.write_free-invariant_of-under
write_free-invariant_of-under t c = let y = ready_of c.args.given.now.known c.args.place.few c.args.place.small c.requires.0 in let b = body_ready y c.requires.2 (key_found _ _ (sym c.find.ensures ∙ c.in-Some.is)) refl c.requires.1.wanted in record { few = b.lambdas; small = let s = b.small in omega arith }

pub write_free-write-requires : goal.write_free-write-requires
write_free-write-requires t c = let y = ready_of c.args.given.now.known c.args.place.few c.args.place.small c.requires.0 in let v = free_falls c.requires.2 _ (key_found _ _ (sym c.find.ensures ∙ c.in-Some.is)) c.requires.1.wanted in (omega (arith, v.1, c.decreases), (going_of (body_ready y c.requires.2 (key_found _ _ (sym c.find.ensures ∙ c.in-Some.is)) refl c.requires.1.wanted), room_from (body_tree y c.requires.2 (key_found _ _ (sym c.find.ensures ∙ c.in-Some.is)) (omega arith)) c.requires.1))

pub write_free-returns : goal.write_free-returns
write_free-returns t c = let y = ready_of c.args.given.now.known c.args.place.few c.args.place.small c.requires.0 in (writes_from (body_tree y c.requires.2 (key_found _ _ (sym c.find.ensures ∙ c.in-Some.is)) (omega arith)) c.write.ensures.0, c.write.ensures.1)

pub write_leaf-bounds-code-at : goal.write_leaf-bounds-code-at
write_leaf-bounds-code-at t c = let y = ready_of c.args.given.now.known c.args.place.few c.args.place.small c.requires.0 in let a = leaf_within c.requires.2 c.requires.1.wanted in let s = y.scene.code_short in let m = y.scene.work_long in search rules

pub write_leaf-bound-requires : goal.write_leaf-bound-requires
write_leaf-bound-requires t c = let y = ready_of c.args.given.now.known c.args.place.few c.args.place.small c.requires.0 in ready_bound y (tree_bound c.if-code-at-eq-PUSHVAR.true c.requires.1.wanted).low

pub write_leaf-put-requires : goal.write_leaf-put-requires
write_leaf-put-requires t c = let y = ready_of c.args.given.now.known c.args.place.few c.args.place.small c.requires.0 in (bound_fits c.args.opened.now c.if-code-at-eq-PUSHVAR.true c.requires.1, y.inside)

pub write_leaf-returns-then-code-at-eq-PUSHVAR : goal.write_leaf-returns-then-code-at-eq-PUSHVAR
write_leaf-returns-then-code-at-eq-PUSHVAR t c = (bound_written c.args.opened.now c.if-code-at-eq-PUSHVAR.true c.bound.ensures c.put.ensures, same_none)

pub write_leaf-entry-first-requires : goal.write_leaf-entry-first-requires
write_leaf-entry-first-requires t c = let n = tree_named c.requires.2 c.if-code-at-eq-PUSHVAR.false c.requires.1.wanted in n.there

pub write_leaf-offset_bounds-given-first : goal.write_leaf-offset_bounds-given-first
write_leaf-offset_bounds-given-first t c = let y = ready_of c.args.given.now.known c.args.place.few c.args.place.small c.requires.0 in let n = tree_named c.requires.2 c.if-code-at-eq-PUSHVAR.false c.requires.1.wanted in let v = named_part y.scene n in let e = c.entry-first.ensures in let f = y.scene.few in search rules

pub write_leaf-slice_bounds-part-count : goal.write_leaf-slice_bounds-part-count
write_leaf-slice_bounds-part-count t c = let y = ready_of c.args.given.now.known c.args.place.few c.args.place.small c.requires.0 in let n = tree_named c.requires.2 c.if-code-at-eq-PUSHVAR.false c.requires.1.wanted in let v = named_part y.scene n in let e = c.entry-first.ensures in let f = y.scene.few in search rules

pub write_leaf-slice_bounds-part-start : goal.write_leaf-slice_bounds-part-start
write_leaf-slice_bounds-part-start t c = let y = ready_of c.args.given.now.known c.args.place.few c.args.place.small c.requires.0 in let n = tree_named c.requires.2 c.if-code-at-eq-PUSHVAR.false c.requires.1.wanted in let v = named_part y.scene n in let e = c.entry-first.ensures in let f = y.scene.few in search rules

pub write_leaf-slice_bounds-part-end : goal.write_leaf-slice_bounds-part-end
write_leaf-slice_bounds-part-end t c = let y = ready_of c.args.given.now.known c.args.place.few c.args.place.small c.requires.0 in let n = tree_named c.requires.2 c.if-code-at-eq-PUSHVAR.false c.requires.1.wanted in let v = named_part y.scene n in let e = c.entry-first.ensures in let f = y.scene.few in search rules

pub write_leaf-moves_nothing-requires : goal.write_leaf-moves_nothing-requires
write_leaf-moves_nothing-requires t c = let y = ready_of c.args.given.now.known c.args.place.few c.args.place.small c.requires.0 in (tree_root c.requires.1.wanted, λ q. (let b = tree_pushed c.requires.2 c.if-code-at-eq-PUSHVAR.false c.requires.1.wanted q in (b.within, b.shift)), let q = y.small in omega arith)

pub write_leaf-copy-requires : goal.write_leaf-copy-requires
write_leaf-copy-requires t c = let y = ready_of c.args.given.now.known c.args.place.few c.args.place.small c.requires.0 in (let n = ap length (copied_words c.requires.2 c.if-code-at-eq-PUSHVAR.false y.scene (sym c.moves_nothing.ensures ∙ c.if-moves_nothing.true) _ _ c.entry-first.ensures refl _ c.requires.1.wanted) in let f = c.requires.1.fit in omega arith, y.inside)

pub write_leaf-returns-then-moves_nothing : goal.write_leaf-returns-then-moves_nothing
write_leaf-returns-then-moves_nothing t c = let y = ready_of c.args.given.now.known c.args.place.few c.args.place.small c.requires.0 in (writes_exactly (copied_words c.requires.2 c.if-code-at-eq-PUSHVAR.false y.scene (sym c.moves_nothing.ensures ∙ c.if-moves_nothing.true) _ _ c.entry-first.ensures refl) c.copy.ensures, same_none)

pub write_leaf-write_entry-requires : goal.write_leaf-write_entry-requires
write_leaf-write_entry-requires t c = (omega (arith, c.decreases), (c.requires.0, c.requires.1, (tree_pushed c.requires.2 c.if-code-at-eq-PUSHVAR.false c.requires.1.wanted (moves_pushed _ _ _ (sym c.if-moves_nothing.false ∙ c.moves_nothing.ensures))).op, entry_part c.entry-first.ensures))
