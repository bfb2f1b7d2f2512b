-- `count::grow`: each opcode by its law; only build instructions can stand here.
use native.Mathlib.Omega.{arith}
use Rattle.watcher.proofs.Growing.{cell_words, cell_takes, cell_grows, push_room, push_readable, push_grows, whole_grows, block_grows}
use borrow.Author.Rules.{rules}
use Rattle.watcher.proofs.count.grow.Goals as goal

pub bounds-code-at : goal.bounds-code-at
bounds-code-at c = let b = c.requires.1 in search rules

pub overflow_add-result : goal.overflow_add-result
overflow_add-result c = let b = cell_words c.requires.0 c.requires.1 c.if-op-eq-CELL.true in search rules

pub overflow_add-result-then-op-eq-CELL : goal.overflow_add-result-then-op-eq-CELL
overflow_add-result-then-op-eq-CELL c = let b = cell_words c.requires.0 c.requires.1 c.if-op-eq-CELL.true in search rules

pub bounds-code-at-then-op-eq-CELL : goal.bounds-code-at-then-op-eq-CELL
bounds-code-at-then-op-eq-CELL c = let b = cell_words c.requires.0 c.requires.1 c.if-op-eq-CELL.true in search rules

pub overflow_sub-result : goal.overflow_sub-result
overflow_sub-result c = let b = cell_takes c.requires.0 c.requires.1 c.if-op-eq-CELL.true in search rules

pub overflow_add-result-then-op-eq-CELL-2 : goal.overflow_add-result-then-op-eq-CELL-2
overflow_add-result-then-op-eq-CELL-2 c = let f = c.requires.0.few in let l = c.requires.0.inside in let w = c.requires.0.words in search rules

pub returns-then-op-eq-CELL : goal.returns-then-op-eq-CELL
returns-then-op-eq-CELL c = record { means = λ m. cell_grows m c.requires.1 c.if-op-eq-CELL.true }

pub overflow_add-at : goal.overflow_add-at
overflow_add-at c = let b = push_room c.requires.0 c.requires.1 c.if-op-eq-PUSHI.true in search rules

pub overflow_add-at-then-op-eq-PUSHI : goal.overflow_add-at-then-op-eq-PUSHI
overflow_add-at-then-op-eq-PUSHI c = let b = push_room c.requires.0 c.requires.1 c.if-op-eq-PUSHI.true in search rules

pub bounds-code-at-then-op-eq-PUSHI : goal.bounds-code-at-then-op-eq-PUSHI
bounds-code-at-then-op-eq-PUSHI c = let b = push_room c.requires.0 c.requires.1 c.if-op-eq-PUSHI.true in search rules

pub behind-next-requires : goal.behind-next-requires
behind-next-requires c = push_readable c.requires.0 c.requires.1 c.if-op-eq-PUSHI.true

pub overflow_add-result-then-op-eq-PUSHI : goal.overflow_add-result-then-op-eq-PUSHI
overflow_add-result-then-op-eq-PUSHI c = let f = c.requires.0.few in let l = c.requires.0.inside in let w = c.requires.0.words in search rules

pub returns-then-op-eq-PUSHI : goal.returns-then-op-eq-PUSHI
returns-then-op-eq-PUSHI c = record { means = λ m. push_grows m c.requires.1 c.if-op-eq-PUSHI.true _ c.behind-next.ensures }

pub overflow_add-result-then-op-ge-PUSHVAR-2 : goal.overflow_add-result-then-op-ge-PUSHVAR-2
overflow_add-result-then-op-ge-PUSHVAR-2 c = let f = c.requires.0.few in let l = c.requires.0.inside in let w = c.requires.0.words in search rules

pub returns-then-op-ge-PUSHVAR : goal.returns-then-op-ge-PUSHVAR
returns-then-op-ge-PUSHVAR c = record { means = λ m. whole_grows m c.requires.1 c.if-op-ge-PUSHVAR.true c.if-op-eq-PUSHI.false }

pub returns : goal.returns
returns c = record { means = λ m. block_grows m c.requires.1 (omega arith) c.if-op-eq-CELL.false }
