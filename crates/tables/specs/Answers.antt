-- What the table check answers (document 01, 'Terms and node tables' and 'Numbers given back').
use Rattle.std.specs.Prelude.{ℕ, ◌/◌, ◌%◌, Bool, true, false, ◌&&◌, List, eqb, leb, Result, Ok, Err}
use Rattle.std.proofs.Math.Option.{Option, none, some}
use Rattle.documents.specs.Limits.{argument_limit, kind_step}
use Rattle.documents.specs.Terms.{Term}
use Rattle.documents.specs.Tables.{Kind, variable, symbol, metavariable, abstraction, other, kind_of, term_in, nodes}
use Rattle.documents.specs.Numbers.{Answer, answered, refused}
use Rattle.documents.specs.declared.Refusal.{Refusal}

-- the node count, or the refusal that is due
abbrev pub sized : Answer Term → Result ℕ Refusal
sized (answered t) = Ok (nodes t)
sized (refused r) = Err r

abbrev pub is_there : Option Term → Bool
is_there none = false
is_there (some t) = true

-- a table is good if it holds exactly one term and no word more
unfoldable pub is_good : List ℕ → Bool
is_good table = is_there (term_in table)

-- 01's table of kinds: the name and the count that a node may have
abbrev pub fits_kind : Kind → ℕ → ℕ → Bool
fits_kind variable x c = eqb c 0
fits_kind symbol s c = leb c argument_limit
fits_kind metavariable z c = leb c argument_limit
fits_kind abstraction s c = eqb s 0 && eqb c 1
fits_kind other s c = false

unfoldable pub in_layout : ℕ → ℕ → Bool
in_layout word count = fits_kind (kind_of (word / kind_step)) (word % kind_step) count
