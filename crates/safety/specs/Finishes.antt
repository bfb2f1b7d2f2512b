-- How a run of code that passes ends (demand 3).
use Rattle.std.specs.Prelude.{◌≡◌, ◌⊎◌, List, [], ◌∷◌, T}
use Rattle.documents.specs.Lists.{every, member}
use Rattle.documents.specs.Terms.{Term}
use Rattle.documents.specs.Rules.{freevars}
use Rattle.documents.specs.Instructions.{Program}
use Rattle.documents.specs.Machine.{Entry, state, done, fails, run}

-- A match instruction fails, or the run ends with one finished term, and every variable free there is free in the subject. In neither case was
-- there an instruction that has no step.
abbrev pub Finishes : Program → Term → Type 0
Finishes c t =
    (run c t ≡ fails) ⊎ ((u : Term) × (env : List Entry) × T (every (member (freevars t)) (freevars u)) × (run c t ≡ done (state [] env (u ∷ []) 0 [])))
