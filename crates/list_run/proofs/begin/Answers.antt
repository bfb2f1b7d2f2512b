use borrow.Author.Tests.{leb-true}
use lib.Seq.{length-take-le}
use Rattle.std.proofs.Common.{refl, sym, ap, ◌∙◌, arith, Err}
use Rattle.std.proofs.lemmas.Result.{err_from_is_err_and}
use Rattle.list_run.proofs.Answering.{list_many, list_over, list_short}
use Rattle.list_run.proofs.Planning.{laid_inside, begun_from, bad_rule}
use Rattle.list_run.proofs.begin.Goals as goal
use Rattle.list_run.proofs.begin.Goals.{then-rewrites-gt-MOST_REWRITES-via-then-rewrites-gt-MOST_REWRITES, then-rewrites-gt-MOST_REWRITES-via-else-rewrites-gt-MOST_REWRITES+then-not-few}

pub returns-then-rewrites-gt-MOST_REWRITES : goal.returns-then-rewrites-gt-MOST_REWRITES
returns-then-rewrites-gt-MOST_REWRITES c = record {
  long = refl;
  says = elim c.then-rewrites-gt-MOST_REWRITES.branch [
    | then-rewrites-gt-MOST_REWRITES-via-then-rewrites-gt-MOST_REWRITES w ↦ list_many _ _ _ _ _ w.if-rewrites-gt-MOST_REWRITES.true
    | then-rewrites-gt-MOST_REWRITES-via-else-rewrites-gt-MOST_REWRITES+then-not-few w ↦ list_over _ _ _ _ _ (sym w.few.ensures ∙ w.if-not-few.true)
  ];
}

pub returns-then-work-lt-LIST_WORDS : goal.returns-then-work-lt-LIST_WORDS
returns-then-work-lt-LIST_WORDS c = record { long = refl; says = list_short _ _ _ _ _ (sym c.few.ensures ∙ c.if-not-few.false) (omega arith) c.if-work-lt-LIST_WORDS.true }

pub lay-requires : goal.lay-requires
lay-requires c = (leb-true _ _ (sym c.few.ensures ∙ c.if-not-few.false), refl)

pub returns-in_err-count : goal.returns-in_err-count
returns-in_err-count c =
    let q = err_from_is_err_and c.from_residual.result c.from_residual.ensures.1 in
    rw (q.1 ∙ ap Err q.2) (bad_rule _ _ c.lay.ensures c.in_err-count.was (sym c.few.ensures ∙ c.if-not-few.false) (omega arith) (omega arith))

pub slice_bounds-starts-end : goal.slice_bounds-starts-end
slice_bounds-starts-end c = laid_inside _ _ c.lay.ensures c.in_ok-count.was

pub slice_bounds-accept-end : goal.slice_bounds-accept-end
slice_bounds-accept-end c = sym (length-take-le _ _ (laid_inside _ _ c.lay.ensures c.in_ok-count.was))

pub accept-requires : goal.accept-requires
accept-requires c = begun_from _ _ c.lay.ensures c.in_ok-count.was (sym c.few.ensures ∙ c.if-not-few.false) (omega arith) (omega arith)
