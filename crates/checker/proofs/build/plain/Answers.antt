-- `checker::build::plain`: the opcode says how many fixed words there are; each return is the law of its opcode.
use mathlib.Core.Path.{refl}
use Rattle.turns.proofs.Turning.{fixed_of}
use Rattle.checker.proofs.Making.{terms_cell, terms_other, terms_high, terms_pushvar}
use borrow.Author.Rules.{rules}
use Rattle.checker.proofs.build.plain.Goals as goal
use Rattle.checker.proofs.build.plain.Goals.{then-op-ne-PUSHVAR-via-then-op-ne-PUSHVAR, then-op-ne-PUSHVAR-via-else-op-ne-PUSHVAR+then-l-code}

pub bounds-code-at-then-op-eq-CELL : goal.bounds-code-at-then-op-eq-CELL
bounds-code-at-then-op-eq-CELL c = let s = c.args in let f = fixed_of s.code.now s.at 8 refl c.if-op-eq-CELL.true in search rules

pub bounds-code-at-then-op-eq-CELL-2 : goal.bounds-code-at-then-op-eq-CELL-2
bounds-code-at-then-op-eq-CELL-2 c = let s = c.args in let f = fixed_of s.code.now s.at 8 refl c.if-op-eq-CELL.true in search rules

pub returns-then-op-eq-CELL : goal.returns-then-op-eq-CELL
returns-then-op-eq-CELL c = terms_cell _ _ _ _ _ c.if-op-eq-CELL.true c.cell.ensures

pub returns-then-op-ne-PUSHVAR : goal.returns-then-op-ne-PUSHVAR
returns-then-op-ne-PUSHVAR c = elim c.then-op-ne-PUSHVAR.branch [
  | then-op-ne-PUSHVAR-via-then-op-ne-PUSHVAR w ↦ terms_other _ _ _ _ c.if-op-eq-CELL.false w.if-op-ne-PUSHVAR.true
  | then-op-ne-PUSHVAR-via-else-op-ne-PUSHVAR+then-l-code w ↦ terms_high _ _ _ _ w.if-op-ne-PUSHVAR.false w.if-l-code.true
]

pub returns : goal.returns
returns c = terms_pushvar _ _ _ _ c.if-op-ne-PUSHVAR.false c.if-l-code.false
