-- `checker::builds`: with a term still current nothing passes; else the build part decides, with no block around.
use mathlib.Core.Path.{ap, ◌∙◌}
use Rattle.std.specs.Prelude.{Ok}
use Rattle.std.proofs.lemmas.Result.{err_from_is_err_and}
use Rattle.checker.proofs.Ending.{done_not, other_done}
use Rattle.checker.proofs.Matching.{builds_many, builds_not, builds_done}
use Rattle.checker.proofs.builds.Goals as goal

pub returns-then-terms-ne0 : goal.returns-then-terms-ne0
returns-then-terms-ne0 c = builds_many c.requires.0 c.requires.2 c.if-terms-ne0.true

pub returns-in_err-build : goal.returns-in_err-build
returns-in_err-build c =
    let p = err_from_is_err_and c.from_residual.result c.from_residual.ensures.1 in
    rw (p.1, p.2, c.build.ensures.refusal _ c.in_err-build.was)
    (builds_not c.requires.0 c.requires.2 c.if-terms-ne0.false c.build.ensures (done_not _ c.in_err-build.was))

pub returns-in_default : goal.returns-in_default
returns-in_default c = builds_not c.requires.0 c.requires.2 c.if-terms-ne0.false c.build.ensures (other_done _ c.in_ok-build.was c.in_default.not-Done)

pub returns : goal.returns
returns c = builds_done c.requires.0 c.requires.2 c.if-terms-ne0.false c.build.ensures (c.in_ok-build.was ∙ ap Ok c.in-Done.is)
