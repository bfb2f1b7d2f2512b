-- What a rewrite is, over numbered nodes and rules. By code from anybody: a node and a rule of the list whose run makes a term of the subterm there,
-- none earlier; then that term stands in that place. By compiled rules, in document 01's words: a node, a rule and a valuation that turns the
-- rule's left side into the subterm there, none earlier; then the right side under it stands in that place.
use Rattle.std.specs.Prelude.{◌≡◌, ℕ, ◌<◌, List, [], ◌∷◌}
use Rattle.std.proofs.Math.Option.{some}
use Rattle.std.proofs.Math.ListN.{get_elem?}
use Rattle.documents.specs.Terms.{Term}
use Rattle.documents.specs.Tables.{subterm}
use Rattle.documents.specs.Rules.{Val, Valuation, metasubst}
use Rattle.documents.specs.Instructions.{Program, words}
use Rattle.documents.specs.Machine.{fails, run, made}
use Rattle.documents.specs.Translation.{compile}
use Rattle.documents.specs.Numbers.{answered, Rule, rule, rule_in}
use Rattle.rewriting.specs.Replacing.{replace}

-- ---- By code from anybody

-- rule i of the list makes w of the subterm at node n of t
pub record MakesAt (rules : List Program) (t : Term) (n i : ℕ) (w : Term) : Type 0 where
  pub old : Term
  pub program : Program
  pub there : subterm t n ≡ some old
  pub listed : get_elem? rules i ≡ some program
  pub makes : made (run program old) ≡ some w

-- t' is t rewritten once
pub record RewriteBy (rules : List Program) (t t' : Term) : Type 0 where
  pub node : ℕ
  pub index : ℕ
  pub new : Term
  pub makes : MakesAt rules t node index new
  -- 'at the first node in prefix order where some rule matches'
  pub first_node : (n i : ℕ) (w : Term) → n < node → MakesAt rules t n i w → ⊥
  -- 'by the first such rule there'
  pub first_rule : (i : ℕ) (w : Term) → i < index → MakesAt rules t node i w → ⊥
  pub whole : t' ≡ replace t node new

-- 'no rule matches any more': each one's run fails, on every subterm
abbrev pub Normal : List Program → Term → Type 0
Normal rules t = (n i : ℕ) (u : Term) (c : Program) → subterm t n ≡ some u → get_elem? rules i ≡ some c → run c u ≡ fails

-- ---- Rules, and their code

-- some tables hold its two sides, and are accepted
abbrev pub IsAccepted : Rule → Type 0
IsAccepted (rule l r) = (left right : List ℕ) × (rule_in left right ≡ answered (rule l r))

abbrev pub AllAccepted : List Rule → Type 0
AllAccepted [] = Unit {0}
AllAccepted (r ∷ rs) = IsAccepted r × AllAccepted rs

abbrev pub program_of : Rule → Program
program_of (rule l r) = compile l r

abbrev pub programs_of : List Rule → List Program
programs_of [] = []
programs_of (r ∷ rs) = program_of r ∷ programs_of rs

abbrev pub codes_of : List Rule → List (List ℕ)
codes_of [] = []
codes_of (r ∷ rs) = words (program_of r) ∷ codes_of rs

-- ---- By compiled rules

-- rule i of the list, with sides l and r, matches at node n of t: the valuation v turns l into the subterm there
pub record TurnsAt (rules : List Rule) (t : Term) (n i : ℕ) (l r : Term) (v : Val) : Type 0 where
  pub listed : get_elem? rules i ≡ some (rule l r)
  pub valuation : Valuation v
  pub there : subterm t n ≡ some (metasubst v l)

-- t' is t rewritten once by some valuation
pub record Rewrite (rules : List Rule) (t t' : Term) : Type 0 where
  pub node : ℕ
  pub index : ℕ
  pub left : Term
  pub right : Term
  pub val : Val
  pub turns : TurnsAt rules t node index left right val
  -- 'at the first node in prefix order where some rule matches'
  pub first_node : (n i : ℕ) (l r : Term) (v : Val) → n < node → TurnsAt rules t n i l r v → ⊥
  -- 'by the first such rule there'
  pub first_rule : (i : ℕ) (l r : Term) (v : Val) → i < index → TurnsAt rules t node i l r v → ⊥
  pub whole : t' ≡ replace t node (metasubst val right)

-- no valuation turns the left side of any rule into any subterm
abbrev pub NoMatch : List Rule → Term → Type 0
NoMatch rules t = (n i : ℕ) (l r : Term) (v : Val) → TurnsAt rules t n i l r v → ⊥
