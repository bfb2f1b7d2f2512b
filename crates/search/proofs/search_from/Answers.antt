use Rattle.std.proofs.Common.{refl, ap, arith}
use Rattle.levels.specs.declared.Levels.{Levels}
use Rattle.search.proofs.Looking.{plan_accepted, looking_here, trying_part, looking_starts, looking_on, looking_missed, looking_found, looking_ends}
use Rattle.search.proofs.search_from.Goals as goal

pub loop-node-init : goal.loop-node-init
loop-node-init c = (looking_starts c.requires, refl)

pub candidates-set-requires : goal.candidates-set-requires
candidates-set-requires c = (looking_here c.loop-node.invariant.0 (plan_accepted c.requires) (omega arith)).begins.whole

pub loop-node-preserved-then-set-eq0 : goal.loop-node-preserved-then-set-eq0
loop-node-preserved-then-set-eq0 c =
    let h = looking_here c.loop-node.invariant.0 (plan_accepted c.requires) (omega arith) in
    (looking_on c.loop-node.invariant.0 h c.candidates-set.ensures (omega arith) c.if-set-eq0.true, c.loop-node.invariant.1)

pub attempt-requires : goal.attempt-requires
attempt-requires c =
    let h = looking_here c.loop-node.invariant.0 (plan_accepted c.requires) (omega arith) in
    (c.requires.0, trying_part h c.candidates-set.ensures c.loop-node.invariant.0.room c.requires.1.places c.requires.1.sorted)

pub go-requires : goal.go-requires
go-requires c = (rw c.loop-node.invariant.1 c.requires.1.above_is, c.loop-node.invariant.0.further, let w = c.loop-node.invariant.0.words in omega arith)

pub returns-in-Some-clause-finds : goal.returns-in-Some-clause-finds
returns-in-Some-clause-finds c =
    let h = looking_here c.loop-node.invariant.0 (plan_accepted c.requires) (omega arith) in
    rw c.redex.ensures (looking_found c.loop-node.invariant.0 h c.candidates-set.ensures c.attempt.ensures c.in-Some.is c.go.ensures)

pub loop-node-preserved : goal.loop-node-preserved
loop-node-preserved c =
    let h = looking_here c.loop-node.invariant.0 (plan_accepted c.requires) (omega arith) in
    (looking_missed c.loop-node.invariant.0 h c.candidates-set.ensures c.attempt.ensures (omega arith) c.in_default.is, c.loop-node.invariant.1)

pub returns-clause-finds : goal.returns-clause-finds
returns-clause-finds c = rw (ap (λ (l : Levels). l.words) c.loop-node.invariant.1) (looking_ends c.loop-node.invariant.0 (let w = c.loop-node.invariant.0.words in omega arith))
