-- `measurer::put_link`: by its opcode, a leaf or over what it took.
use Prim.Native.Nat.{ℕ}
use lib.ListN.{set}
use mathlib.Core.Path.{ap, ◌∙◌}
use Rattle.measurer.proofs.Linking.{link_pushvar, link_adbmal, link_cell}
use Rattle.measurer.proofs.put_link.Goals as goal

pub returns-then-op-eq-PUSHVAR : goal.returns-then-op-eq-PUSHVAR
returns-then-op-eq-PUSHVAR c = let s = c.args in ap (λ (w : ℕ). set s.work.now s.at w) (c.new.ensures ∙ link_pushvar _ _ _ _ c.if-op-eq-PUSHVAR.true)

pub returns-then-op-eq-ADBMAL : goal.returns-then-op-eq-ADBMAL
returns-then-op-eq-ADBMAL c = let s = c.args in c.put_over.ensures ∙ ap (λ (w : ℕ). set s.work.now s.at w) (link_adbmal _ _ _ _ c.if-op-eq-ADBMAL.true)

pub returns-else-op-eq-ADBMAL : goal.returns-else-op-eq-ADBMAL
returns-else-op-eq-ADBMAL c = let s = c.args in c.put_over-else-op-eq-ADBMAL.ensures ∙ ap (λ (w : ℕ). set s.work.now s.at w) (link_cell _ _ _ _ c.if-op-eq-PUSHVAR.false c.if-op-eq-ADBMAL.false)
