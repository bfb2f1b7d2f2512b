-- Parts of a table (document 01, 'Terms and node tables'): a subterm is handed on as the part of the table that starts at its node. Such a part
-- holds whole terms, one after the other, and begins with that subterm.
use Rattle.std.specs.Prelude
use Rattle.std.specs.Prelude.{◌≡◌, ℕ, zero, suc, ◌*◌, ◌≤◌, Bool, true, false, List, [], ◌∷◌, length, Some, None}
use Rattle.std.proofs.Math.Option.{Option, none, some}
use Rattle.documents.specs.Terms.{Sort, Tm, Var, Nil, Cons, Term, Terms}
use Rattle.documents.specs.Tables.{terms_in, nodes}

abbrev pub or_empty : Option (List Term) → List Term
or_empty none = []
or_empty (some us) = us

-- the terms that a part holds
unfoldable pub held : List ℕ → List Term
held part = or_empty (terms_in part)

abbrev pub first_terms : ℕ → List Term → Terms
first_terms zero us = Nil
first_terms (suc n) [] = Nil
first_terms (suc n) (u ∷ us) = Cons u (first_terms n us)

-- the first n of them
unfoldable pub terms : ℕ → List ℕ → Terms
terms n part = first_terms n (held part)

abbrev pub first_term : List Term → Term
first_term [] = Var 0
first_term (u ∷ us) = u

-- the subterm that it begins with
unfoldable pub front : List ℕ → Term
front part = first_term (held part)

-- A part of whole terms, of which there are n at least.
pub record Begins (n : ℕ) (part : List ℕ) : Type 0 where
  pub whole : terms_in part ≡ some (held part)
  pub enough : n ≤ length (held part)

-- the words of a term's table, two a node
abbrev pub word_count : {s : Sort} → Tm s → ℕ
word_count t = 2 * nodes t

-- a walk's answer: the words of the terms of which the test holds
abbrev pub walked : {s : Sort} → Bool → Tm s → Prelude.Option ℕ
walked true ts = Some (word_count ts)
walked false ts = None
