-- `rewriter::weigh_redex`: the redex is an accepted subject of its own, whose places are noted, so that it can be weighed.
use mathlib.Core.Path.{sym, ◌∙◌}
use native.Mathlib.Omega.{arith}
use Rattle.rewriter.proofs.Weighed.{ends_within, level_fits, lent_accepted, lent_long, building_at, weighs_redex}
use borrow.Author.Rules.{rules}
use Rattle.rewriter.proofs.weigh_redex.Goals as goal

pub overflow_mul-first : goal.overflow_mul-first
overflow_mul-first c = let h = ends_within c.requires in search rules

pub overflow_add-end : goal.overflow_add-end
overflow_add-end c = let h = ends_within c.requires in search rules

pub offset_bounds-plan-first : goal.offset_bounds-plan-first
offset_bounds-plan-first c = let h = ends_within c.requires in search rules

pub slice_bounds-note-end : goal.slice_bounds-note-end
slice_bounds-note-end c = let h = ends_within c.requires in search rules

pub note-requires : goal.note-requires
note-requires c = (lent_accepted c.requires, search rules)

pub overflow_sub-room : goal.overflow_sub-room
overflow_sub-room c = let h = ends_within c.requires in search rules

pub overflow_sub-room-2 : goal.overflow_sub-room-2
overflow_sub-room-2 c = let h = ends_within c.requires in search rules

pub offset_bounds-plan-first-2 : goal.offset_bounds-plan-first-2
offset_bounds-plan-first-2 c = let h = ends_within c.requires in search rules

pub slice_bounds-weigh-end : goal.slice_bounds-weigh-end
slice_bounds-weigh-end c = let h = ends_within c.requires in search rules

pub slice_bounds-weigh-end-3 : goal.slice_bounds-weigh-end-3
slice_bounds-weigh-end-3 c = sym (lent_long c.requires c.note.new.places c.work-1.given.0 c.work-1.given.1)

pub weigh-requires : goal.weigh-requires
weigh-requires c = let p = c.requires in (building_at p c.note.new.places c.work-1.given.0 c.work-1.given.1 c.note.ensures, omega (arith, p.few), (level_fits p).0, (level_fits p).1)

pub shape_of-work : goal.shape_of-work
shape_of-work c = c.work-2-1.given.1 ∙ c.work-1.given.1

pub returns : goal.returns
returns c = weighs_redex c.requires c.note.new.places c.work-1.given.0 c.work-1.given.1 _ _ (c.work-2-1.given.1 ∙ c.work-1.given.1) c.weigh.ensures
