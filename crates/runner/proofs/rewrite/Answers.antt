-- `runner::rewrite`: the match fails, or leaves the entries and the place of the build part to `build`.
use borrow.Author.Rules.{rules}
use Rattle.std.proofs.Common.{refl, ap, ◌∙◌, Err}
use Rattle.std.proofs.lemmas.Result.{err_from_is_err_and}
use Rattle.matcher.proofs.Parts.{begins_whole}
use Rattle.runner.proofs.Applying.{match_fails, entries_few, entries_lent, building_from}
use Rattle.runner.proofs.rewrite.Goals as goal

pub match_part-requires : goal.match_part-requires
match_part-requires c = (c.requires.passed, begins_whole _ c.requires.accepted, refl)

pub returns-in_err-matched : goal.returns-in_err-matched
returns-in_err-matched c =
    let q = err_from_is_err_and c.from_residual.result c.from_residual.ensures.1 in
    rw (q.1 ∙ ap Err q.2) (match_fails c.requires c.match_part.ensures c.in_err-matched.was)

pub slice_bounds-entries-end : goal.slice_bounds-entries-end
slice_bounds-entries-end c = let w = entries_few c.requires c.match_part.ensures c.in_ok-matched.was in search rules

pub slice_bounds-build-end : goal.slice_bounds-build-end
slice_bounds-build-end c = entries_lent c.requires c.match_part.ensures c.in_ok-matched.was c.entries-2-1.given

pub build-requires : goal.build-requires
build-requires c = building_from c.requires c.match_part.ensures c.in_ok-matched.was c.entries-2-1.given
