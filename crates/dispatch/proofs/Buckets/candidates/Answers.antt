-- `dispatch::candidates`: the words at a place are the root's of the term that begins there, and those behind them its first argument's, if it has one.
use Rattle.dispatch.proofs.Behind.{root_inside, root_narrow, behind_narrow, candidates_none, candidates_root, candidates_both}
use borrow.Author.Rules.{rules}
use Rattle.dispatch.proofs.Buckets.candidates.Goals as goal

pub offset_bounds-plan-at : goal.offset_bounds-plan-at
offset_bounds-plan-at c = let p = root_inside c.args.plan.now c.args.at c.requires in search rules

pub bounds-plan-at : goal.bounds-plan-at
bounds-plan-at c = let p = root_inside c.args.plan.now c.args.at c.requires in search rules

pub overflow_add-at : goal.overflow_add-at
overflow_add-at c = let p = root_inside c.args.plan.now c.args.at c.requires in search rules

pub offset_bounds-plan-at-2 : goal.offset_bounds-plan-at-2
offset_bounds-plan-at-2 c = let p = root_inside c.args.plan.now c.args.at c.requires in search rules

pub bounds-plan-at-2 : goal.bounds-plan-at-2
bounds-plan-at-2 c = let p = root_inside c.args.plan.now c.args.at c.requires in search rules

pub bucket-requires : goal.bucket-requires
bucket-requires c = root_narrow c.args.plan.now c.args.at c.requires

pub returns-then-set-eq0 : goal.returns-then-set-eq0
returns-then-set-eq0 c = λ cs r. candidates_none c.args.plan.now c.args.at c.requires c.bucket.ensures.0 cs r c.if-set-eq0.true

pub overflow_add-at-2 : goal.overflow_add-at-2
overflow_add-at-2 c = let p = root_inside c.args.plan.now c.args.at c.requires in search rules

pub returns-then-plan-at : goal.returns-then-plan-at
returns-then-plan-at c = candidates_root c.args.plan.now c.args.at c.requires c.bucket.ensures.0

pub bucket-requires-2 : goal.bucket-requires-2
bucket-requires-2 c = behind_narrow c.args.plan.now c.args.at c.requires c.if-plan-at.false

pub returns : goal.returns
returns c = λ cs r. candidates_both c.args.plan.now c.args.at c.requires c.bucket.ensures.0 cs r c.bucket-2.ensures.0
