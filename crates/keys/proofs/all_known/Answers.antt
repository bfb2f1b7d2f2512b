-- `all_known` meets its contract: a metavariable is known by its key.
use mathlib.Core.Path.{◌∙◌}
use Rattle.keys.proofs.Keying.{key_count, known_by_keys}
use Rattle.keys.proofs.all_known.Goals as goal

pub slice_bounds-all_among-end : goal.slice_bounds-all_among-end
slice_bounds-all_among-end c = key_count c.put_keys-asked.ensures

pub slice_bounds-all_among-end-2 : goal.slice_bounds-all_among-end-2
slice_bounds-all_among-end-2 c = key_count c.put_keys-known.ensures

pub returns : goal.returns
returns c = c.all_among.ensures ∙ known_by_keys c.requires.0 c.requires.1 c.put_keys-asked.ensures c.put_keys-known.ensures
