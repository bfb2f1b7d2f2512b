use mathlib.Core.Path.{sym, ◌∙◌}
use Rattle.compiler.proofs.Counted.{counting_from, counting_variable, counting_symbol, counting_abstraction, counting_metavariable, counting_ended}
use Rattle.compiler.proofs.length.right_words.Goals as goal
use Rattle.compiler.proofs.length.right_words.Goals.{then-is_metavariable, else-is_metavariable+then-node-eq-ABSTRACTION, else-is_metavariable+else-node-eq-ABSTRACTION+then-node-lt-FIRST_SYMBOL, else-is_metavariable+else-node-eq-ABSTRACTION+else-node-lt-FIRST_SYMBOL}

pub loop-node-init : goal.loop-node-init
loop-node-init c =
    counting_from c.args.part.now c.into_iter-node-iterator.result c.requires.0 c.requires.1 (rw c.into_iter-node-iterator.ensures.into_iter_gives c.of-node-items.ensures)

pub loop-node-preserved : goal.loop-node-preserved
loop-node-preserved c =
    let i = c.loop-node.invariant in
    let b = c.loop-node.iterator.0 in
    let g = c.in-Some.ensures.steps in
    let n = c.in-Some.node in
    elim c.if-is_metavariable.branch [
      | then-is_metavariable w ↦ rw w.words-is (counting_metavariable _ _ n i b g (sym c.is_metavariable.ensures ∙ w.if-is_metavariable.true))
      | else-is_metavariable+then-node-eq-ABSTRACTION w ↦ rw w.words-is (counting_abstraction _ _ n i b g w.if-node-eq-ABSTRACTION.true)
      | else-is_metavariable+else-node-eq-ABSTRACTION+then-node-lt-FIRST_SYMBOL w ↦ rw w.words-is (counting_variable _ _ n i b g w.if-node-lt-FIRST_SYMBOL.true)
      | else-is_metavariable+else-node-eq-ABSTRACTION+else-node-lt-FIRST_SYMBOL w ↦
          rw w.words-is (counting_symbol _ _ n i b g (sym c.is_metavariable.ensures ∙ w.if-is_metavariable.false) w.if-node-eq-ABSTRACTION.false w.if-node-lt-FIRST_SYMBOL.false)
    ]

pub returns : goal.returns
returns c = counting_ended _ _ c.loop-node.invariant c.loop-node.iterator.0 c.in-None.ensures.steps
