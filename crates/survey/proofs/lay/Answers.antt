use mathlib.Core.Path.{sym, ◌∙◌}
use Prim.Native.Nat.{◌*◌, ◌%◌}
use native.Mathlib.Omega.{arith}
use lib.ListN.{get_or}
use borrow.Author.Rules.{rules}
use Rattle.survey.proofs.Surveying.{surveying_from, surveying_short, surveying_down, surveying_more, surveying_up, surveying_end, surveyed_refused, refused_here, stands_in, stands_leaf, goes_in_lem, below_most}
use Rattle.survey.proofs.Noting.{stands}
use Rattle.survey.proofs.lay.Goals as goal

pub loop-node-init : goal.loop-node-init
loop-node-init g c = surveying_from _ (c.requires.short, c.requires.room)

pub may_stand-requires : goal.may_stand-requires
may_stand-requires g c = λ t. stands _ (c.requires.known t) c.loop-node.invariant (omega arith)

pub refusal_at-requires : goal.refusal_at-requires
refusal_at-requires g c = refused_here c.loop-node.invariant (omega arith) (sym c.may_stand.ensures ∙ c.if-not-may_stand.true)

pub overflow_mul-here : goal.overflow_mul-here
overflow_mul-here g c =
    let o = (goes_in_lem _ _ _ (stands_in _ _ _ (sym c.may_stand.ensures ∙ c.if-not-may_stand.false) c.if-count-eq0.false)).narrow in
    search rules

pub inside-requires : goal.inside-requires
inside-requires g c = (goes_in_lem _ _ _ (stands_in _ _ _ (sym c.may_stand.ensures ∙ c.if-not-may_stand.false) c.if-count-eq0.false)).above

pub overflow_add-here : goal.overflow_add-here
overflow_add-here g c =
    let i = goes_in_lem _ _ _ (stands_in _ _ _ (sym c.may_stand.ensures ∙ c.if-not-may_stand.false) c.if-count-eq0.false) in
    let o = i.narrow in
    let a = i.above in
    let e = c.inside.ensures in
    let b = below_most (c.loop-node.here % 65536) (get_or c.args.subject.now (2 * c.loop-node.node) 0) in
    search rules

pub returns-then-kept-eq0 : goal.returns-then-kept-eq0
returns-then-kept-eq0 g c =
    rw c.whole.ensures
    (surveying_end c.loop-node.invariant (omega arith) (omega arith) (stands_leaf _ _ _ (sym c.may_stand.ensures ∙ c.if-not-may_stand.false) (omega arith)) (omega arith) c.if-kept-eq0.true)

pub loop-node-preserved-then-here : goal.loop-node-preserved-then-here
loop-node-preserved-then-here g c =
    let leaf = stands_leaf _ _ _ (sym c.may_stand.ensures ∙ c.if-not-may_stand.false) c.if-count-eq0.true in
    surveying_more c.loop-node.invariant (omega arith) c.if-count-eq0.true leaf c.if-here.true

pub loop-node-preserved-then-count-eq0 : goal.loop-node-preserved-then-count-eq0
loop-node-preserved-then-count-eq0 g c =
    let leaf = stands_leaf _ _ _ (sym c.may_stand.ensures ∙ c.if-not-may_stand.false) c.if-count-eq0.true in
    surveying_up c.loop-node.invariant (omega arith) c.if-count-eq0.true leaf (omega arith) c.if-kept-eq0.false

pub loop-node-preserved : goal.loop-node-preserved
loop-node-preserved g c =
    let goes = stands_in _ _ _ (sym c.may_stand.ensures ∙ c.if-not-may_stand.false) c.if-count-eq0.false in
    rw (c.keep-kept.ensures, c.inside.ensures) (surveying_down c.loop-node.invariant (omega arith) goes c.if-count-eq0.false)

pub returns : goal.returns
returns g c = surveyed_refused _ _ (surveying_short c.loop-node.invariant (omega arith))
