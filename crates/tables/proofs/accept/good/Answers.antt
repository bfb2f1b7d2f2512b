use Rattle.std.proofs.Common.{sym, ap, ◌∙◌, arith, length, get_or}
use borrow.Author.Rules.{rules}
use Rattle.tables.proofs.Accepted.{layout_narrow, good_start, chunk_length, chunk_node, chunk_outside, chunk_more}
use Rattle.tables.proofs.accept.good.Goals as goal
use Rattle.tables.proofs.accept.good.Goals.{then-owed-eq0-via-then-owed-eq0, then-owed-eq0-via-else-owed-eq0+then-not-in_layout}

pub loop-node-init : goal.loop-node-init
loop-node-init c =
    let r = c.chunks_exact-node-items.ensures.rest in
    rw c.into_iter-node-iterator.ensures.into_iter_gives (c.chunks_exact-node-items.ensures.size, rw r (sym (good_start c.args.table.now)), rw r, rw r (omega arith))

pub returns-then-owed-eq0 : goal.returns-then-owed-eq0
returns-then-owed-eq0 c =
    let l = c.loop-node in
    let p = c.in-Some.ensures.steps in
    let e = p.1.1 ∙ l.invariant.0 in
    elim c.then-owed-eq0.branch [
      | then-owed-eq0-via-then-owed-eq0 w ↦ sym (rw p.1.0 (chunk_more _ _ e l.owed w.if-owed-eq0.true)) ∙ l.invariant.1
      | then-owed-eq0-via-else-owed-eq0+then-not-in_layout w ↦ sym (rw p.1.0 (chunk_outside _ _ e l.owed (sym w.in_layout.ensures ∙ w.if-not-in_layout.true))) ∙ l.invariant.1
    ]

pub overflow_cast-owed : goal.overflow_cast-owed
overflow_cast-owed c = let k = layout_narrow (get_or c.in-Some.node.now 0 0) (get_or c.in-Some.node.now 1 0) (sym c.in_layout.ensures ∙ c.if-not-in_layout.false) in search rules

pub overflow_add-owed : goal.overflow_add-owed
overflow_add-owed c = let k = layout_narrow (get_or c.in-Some.node.now 0 0) (get_or c.in-Some.node.now 1 0) (sym c.in_layout.ensures ∙ c.if-not-in_layout.false) in let i = c.loop-node.invariant.3 in search rules

pub loop-node-preserved : goal.loop-node-preserved
loop-node-preserved c =
    let l = c.loop-node in
    let p = c.in-Some.ensures.steps in
    let e = p.1.1 ∙ l.invariant.0 in
    let h = sym c.in_layout.ensures ∙ c.if-not-in_layout.false in
    let k = layout_narrow (get_or c.in-Some.node.now 0 0) (get_or c.in-Some.node.now 1 0) h in
    let n = ap length p.1.0 ∙ chunk_length _ _ e in (
      p.0 ∙ l.invariant.0,
      sym (rw p.1.0 (chunk_node _ _ e l.owed (omega arith) h)) ∙ l.invariant.1,
      omega arith,
      omega arith,
    )
