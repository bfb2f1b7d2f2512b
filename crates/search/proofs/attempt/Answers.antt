use Rattle.std.proofs.Common.{◌-◌, ap, ◌∙◌, arith}
use Rattle.std.proofs.lemmas.Nat.{and_le_r}
use Rattle.documents.specs.Passing.{passes}
use Rattle.search.proofs.Attempting.{attempting_starts, next_is, attempt_matches, attempt_misses, attempt_ends}
use Rattle.search.proofs.attempt.Goals as goal

pub loop-left-init : goal.loop-left-init
loop-left-init c = attempting_starts c.requires.1.room

pub code-requires : goal.code-requires
code-requires c = let n = next_is c.loop-left.invariant c.loop-left-test.true c.requires (omega arith) in (n.inside, n.whole)

pub match_part-requires : goal.match_part-requires
match_part-requires c =
    let n = next_is c.loop-left.invariant c.loop-left-test.true c.requires (omega arith) in
    (ap passes c.code.ensures ∙ n.passed, c.requires.1.begins, c.loop-left.invariant.room)

pub returns-in-Ok : goal.returns-in-Ok
returns-in-Ok c = attempt_matches c.loop-left.invariant c.loop-left-test.true (omega arith) c.code.ensures c.match_part.ensures (c.match_part.auto.entries ∙ c.loop-left.invariant.room) c.in-Ok.is

pub loop-left-smaller : goal.loop-left-smaller
loop-left-smaller c = omega (arith, and_le_r c.loop-left.left (c.loop-left.left - 1))

pub loop-left-preserved : goal.loop-left-preserved
loop-left-preserved c = attempt_misses c.loop-left.invariant c.loop-left-test.true (omega arith) c.code.ensures c.match_part.ensures (c.match_part.auto.entries ∙ c.loop-left.invariant.room) c.in_default.is

pub returns : goal.returns
returns c = attempt_ends c.loop-left.invariant (omega arith)
