-- `plan::line::put_rest` writes the words that are left, one a turn; written from where the loop stands, they make the line that was asked for (`Rest`).
use Rattle.plan.proofs.Written.{Rest}
use Rattle.plan.proofs.line.put_rest.Given as goal

abbrev pub invariant-loop-word : goal.invariant-loop-word
invariant-loop-word l = Rest l.words l.initial.line l.at l.line l.end l.word-index
