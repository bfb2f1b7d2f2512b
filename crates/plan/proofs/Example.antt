-- Document 01's worked example, rule B on its subject: plan_apply prints `0 6 65539 2 7 0 7 0`.
use mathlib.Core.Path.{◌≡◌, refl}
use mathlib.Core.List.{[], ◌∷◌}
use Rattle.plan.specs.Line.{decimal, line_of}

pub line_of_beta : line_of (0 ∷ 6 ∷ 65539 ∷ 2 ∷ 7 ∷ 0 ∷ 7 ∷ 0 ∷ [])
    ≡ 48 ∷ 32 ∷ 54 ∷ 32 ∷ 54 ∷ 53 ∷ 53 ∷ 51 ∷ 57 ∷ 32 ∷ 50 ∷ 32 ∷ 55 ∷ 32 ∷ 48 ∷ 32 ∷ 55 ∷ 32 ∷ 48 ∷ 10 ∷ []
unfolding decimal line_of
line_of_beta = refl
