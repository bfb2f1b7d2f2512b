use mathlib.Core.Path.{sym, ◌∙◌}
use Rattle.keys.proofs.Among.{first_count, parted_missing, parted_behind}
use Rattle.keys.proofs.+all_among.Goals as goal

pub slice_bounds-all_among-end-2 : goal.slice_bounds-all_among-end-2
slice_bounds-all_among-end-2 t c = first_count c.part-asked.ensures

pub slice_bounds-all_among-end-4 : goal.slice_bounds-all_among-end-4
slice_bounds-all_among-end-4 t c = first_count c.part-known.ensures

pub returns-then-all_among : goal.returns-then-all_among
returns-then-all_among t c = parted_behind c.part-known.ensures c.part-asked.ensures c.all_among.new.left c.all_among.new.right c.left-2-1.given.0 c.right-2-1.given.0 (sym c.all_among.ensures ∙ c.if-all_among.true) c.all_among-then-all_among.ensures

pub returns-else-all_among : goal.returns-else-all_among
returns-else-all_among t c = parted_missing c.part-known.ensures c.part-asked.ensures c.all_among.ensures c.if-all_among.false
