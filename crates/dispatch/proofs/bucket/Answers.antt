-- `dispatch::bucket`: the three ranges of a node's first word.
use mathlib.Core.Path.{sym}
use native.Mathlib.Omega.{arith}
use Rattle.dispatch.proofs.Asking.{bucket_variable, bucket_abstraction, bucket_symbol}
use Rattle.dispatch.proofs.bucket.Goals as goal

pub returns-then-word-lt-FIRST_SYMBOL : goal.returns-then-word-lt-FIRST_SYMBOL
returns-then-word-lt-FIRST_SYMBOL c = (sym (bucket_variable _ _ c.if-word-lt-FIRST_SYMBOL.true), omega arith)

pub returns-then-word-ge-FIRST_METAVARIABLE : goal.returns-then-word-ge-FIRST_METAVARIABLE
returns-then-word-ge-FIRST_METAVARIABLE c = (sym (bucket_abstraction _ _ c.if-word-ge-FIRST_METAVARIABLE.true), omega arith)

pub returns : goal.returns
returns c = (sym (bucket_symbol _ _ c.if-word-lt-FIRST_SYMBOL.false c.if-word-ge-FIRST_METAVARIABLE.false), omega arith)
