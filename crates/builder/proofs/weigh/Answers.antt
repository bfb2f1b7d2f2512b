use mathlib.Core.Path.{◌≡◌}
use native.Mathlib.Omega.{arith}
use Rattle.std.proofs.lemmas.Result.{err_from_is_err_and}
use Rattle.documents.specs.declared.Refusal.TheVariants.{ResultTooLarge}
use Rattle.links.proofs.Scenes.{known_of}
use Rattle.measurer.proofs.Asking.{asks_sequence}
use Rattle.builder.proofs.Weighing.{asks, too_large, root_within, too_deep, too_far, fits}
use borrow.Author.Rules.{rules}
use Rattle.builder.proofs.weigh.Goals as goal

pub invariant_of-given : goal.invariant_of-given
invariant_of-given c = record { known = known_of (asks c.requires.0 c.requires.1 c.requires.2).scene }

pub measure-made-requires : goal.measure-made-requires
measure-made-requires c = asks_sequence (asks c.requires.0 c.requires.1 c.requires.2)

pub returns-in_err-nodes : goal.returns-in_err-nodes
returns-in_err-nodes c =
    let p = err_from_is_err_and c.from_residual.result c.from_residual.ensures.1 in
    let n = c.in_err-nodes.ensures.ok_part in
    let v = rw n at c.in_err-nodes.ensures.value in
    let e : c.in_err-nodes.field-0.0 ≡ ResultTooLarge = cc in
    rw (p.1, p.2, e) (too_large c.requires.0 c.requires.1 c.requires.2 c.measure-made.ensures n)

pub offset_bounds-work-root : goal.offset_bounds-work-root
offset_bounds-work-root c = let w = root_within c.requires.0 c.requires.1 c.requires.2 c.measure-made.ensures c.in_ok-nodes.ensures.ok_part in search rules

pub bounds-work-root : goal.bounds-work-root
bounds-work-root c = let w = root_within c.requires.0 c.requires.1 c.requires.2 c.measure-made.ensures c.in_ok-nodes.ensures.ok_part in search rules

pub returns-then-level-depth : goal.returns-then-level-depth
returns-then-level-depth c = too_deep c.requires.0 c.requires.1 c.requires.2 c.measure-made.ensures c.in_ok-nodes.ensures.ok_part c.depth.ensures.0 c.if-level-depth.true

pub returns-then-reach-gt-MOST_REACH : goal.returns-then-reach-gt-MOST_REACH
returns-then-reach-gt-MOST_REACH c = too_far c.requires.0 c.requires.1 c.requires.2 c.measure-made.ensures c.in_ok-nodes.ensures.ok_part c.depth.ensures.0 (omega arith) c.if-reach-gt-MOST_REACH.true

pub returns : goal.returns
returns c = fits c.requires.0 c.requires.1 c.requires.2 c.measure-made.ensures c.in_ok-nodes.ensures.ok_part c.depth.ensures.0 (omega arith) (omega arith)
