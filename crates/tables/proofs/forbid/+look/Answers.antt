use Rattle.std.proofs.Common.{sym, ◌∙◌}
use Rattle.tables.proofs.Free.{looking_from, variable_marked, looking_variable, looking_applied, body_marked, body_passes, looking_body, looking_ended}
use Rattle.tables.proofs.forbid.+look.Goals as goal
use Rattle.tables.proofs.forbid.+look.Goals.{else-node-lt-FIRST_SYMBOL-via-then-node-lt-FIRST_SYMBOL+else-is_marked, else-node-lt-FIRST_SYMBOL-via-else-node-lt-FIRST_SYMBOL}

pub loop-node-init : goal.loop-node-init
loop-node-init t c = looking_from _ c.requires.0 c.of-nodes.ensures

pub returns-then-is_marked : goal.returns-then-is_marked
returns-then-is_marked t c =
    variable_marked _ _ c.in-Some.node c.loop-node.invariant c.in-Some.ensures.steps c.if-node-lt-FIRST_SYMBOL.true (sym c.is_marked.ensures ∙ c.if-is_marked.true)

pub returns-in_err-look : goal.returns-in_err-look
returns-in_err-look t c =
    c.from_residual.ensures
    ∙ body_marked _ _ c.in-Some.node c.loop-node.invariant c.in-Some.ensures.steps c.if-node-eq-ABSTRACTION.true (sym c.in_err-look.was ∙ c.look.ensures)

pub pass-requires : goal.pass-requires
pass-requires t c =
    body_passes _ _ c.in-Some.node c.loop-node.invariant c.in-Some.ensures.steps c.if-node-eq-ABSTRACTION.true _ (sym c.in_ok-look.was ∙ c.look.ensures)

pub loop-node-preserved-then-node-eq-ABSTRACTION : goal.loop-node-preserved-then-node-eq-ABSTRACTION
loop-node-preserved-then-node-eq-ABSTRACTION t c =
    looking_body _ _ c.in-Some.node c.loop-node.invariant c.in-Some.ensures.steps c.if-node-eq-ABSTRACTION.true _ (sym c.in_ok-look.was ∙ c.look.ensures) _ c.pass.ensures

pub loop-node-preserved : goal.loop-node-preserved
loop-node-preserved t c = elim c.else-node-lt-FIRST_SYMBOL.branch [
  | else-node-lt-FIRST_SYMBOL-via-then-node-lt-FIRST_SYMBOL+else-is_marked w ↦
      looking_variable _ _ c.in-Some.node c.loop-node.invariant c.in-Some.ensures.steps w.if-node-lt-FIRST_SYMBOL.true (sym w.is_marked.ensures ∙ w.if-is_marked.false)
  | else-node-lt-FIRST_SYMBOL-via-else-node-lt-FIRST_SYMBOL w ↦
      looking_applied _ _ c.in-Some.node c.loop-node.invariant c.in-Some.ensures.steps w.if-node-lt-FIRST_SYMBOL.false c.if-node-eq-ABSTRACTION.false
]

pub returns : goal.returns
returns t c = rw c.passed.ensures (looking_ended _ _ c.loop-node.invariant c.in_default.ensures.steps)
