-- What the compiler asks of the arguments of a left metavariable (document 01, 'Rules, valuations, translation').
use Rattle.std.specs.Prelude.{Bool, ◌&&◌}
use Rattle.documents.specs.Lists.{isset}
use Rattle.documents.specs.Terms.{Terms}
use Rattle.documents.specs.Rules.{are_vars, freevars}

-- they are distinct variables
abbrev pub distinct : Terms → Bool
distinct ts = are_vars ts && isset (freevars ts)
