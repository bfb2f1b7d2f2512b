-- 004's getval: the valuation that the entries stand for. After a match the entry of a row is the first occurrence's instance, and the body is
-- got back from it (I2); getval goes with all the entries, since no name and count stands twice in the table.
use mathlib.Core.Path.{◌≡◌, refl, sym, ap, ◌∙◌, subst as transport}
use Prim.Native.Nat.{ℕ}
use mathlib.Core.Bool.{false, ◌&&◌, cond}
use mathlib.Core.Option.{Option, none}
use mathlib.Core.List.{List, [], ◌∷◌}
use lib.Dec.{T, not_T, eqb, eqb→eq}
use borrow.Author.Tests.{eq-eqb}
use Rattle.documents.specs.Terms.{Var, Term, rename}
use Rattle.documents.specs.Rules.{Val}
use Rattle.documents.specs.Machine.{Entry, entry}
use Rattle.documents.specs.Translation.{Row, row, Located, lookup}
use Rattle.documents.proofs.Lists.{off, of_and, and_of}
use Rattle.documents.proofs.Substitution.{rename_ext, rename_rename, rename_id}
use Rattle.documents.proofs.FreeVariables.{free_renamed}
use Rattle.kahrs.proofs.RightSide.{place, covered, Covers}
use Rattle.kahrs.proofs.Places.{argument, eqb_of, place_argument, argument_covered}
use Rattle.kahrs.proofs.Locations.{Fresh}
use Rattle.kahrs.proofs.LeftSide.{Parallel, Looked, absent, present, looked, parallel_at, Instantiates, Gets}
use Rattle.kahrs.proofs.Known.{Known, not_here}

-- ---- The body that an entry stands for

pub instantiates_gets : (val : Val) (z k b : ℕ) (l : List ℕ) (a : Term) → Instantiates val (row z k b l) a → Gets val (row z k b l) a
instantiates_gets val z k b l a c =
    sym (ap (rename (place l b)) c.0 ∙ rename_rename (place l b) (argument b l) (val z k)
    ∙ rename_ext _ _ (val z k) (λ x. place_argument b l x c.1.0 c.1.1) ∙ rename_id (val z k))

covers_of : (val : Val) (rows : List Row) (env : List Entry) (z k : ℕ) (o : Option Located) → lookup z k rows ≡ o
    → Looked (Instantiates val) z k rows env o → Known rows z k → Covers env rows val z k
covers_of val rows env z k o e absent n = absurd (n e)
covers_of val rows env z k o e (present {i = i} {b = b} {l = l} a g h r) n = record {
  location = i;
  b = b;
  arguments = l;
  term = a;
  found = e;
  here = h;
  arity = r.1.3;
  low = r.1.2;
  inside = rw r.0 (free_renamed (λ y. T (covered l b y)) (argument b l) (val z k) (argument_covered b l));
  value = instantiates_gets val z k b l a r;
}

-- after a match the entries cover what the table knows (004's Definition 5)
pub covers : (val : Val) (rows : List Row) (env : List Entry) → Parallel (Instantiates val) rows env → (z k : ℕ) → Known rows z k → Covers env rows val z k
covers val rows env p z k = covers_of val rows env z k (lookup z k rows) refl (looked (Instantiates val) z k rows env p)

agree_at : (v w : Val) (rows : List Row) (env : List Entry) (z k : ℕ) (o : Option Located) → lookup z k rows ≡ o
    → Looked (Instantiates v) z k rows env o → Parallel (Instantiates w) rows env → Known rows z k → v z k ≡ w z k
agree_at v w rows env z k o e absent p n = absurd (n e)
agree_at v w rows env z k o e (present {i = i} {b = b} {l = l} a g h r) p n =
    instantiates_gets v z k b l a r ∙ sym (instantiates_gets w z k b l a (parallel_at (Instantiates w) rows env i (row z k b l) b a p g h))

-- two valuations that instantiate the same entries agree on what the table knows
pub agree : (v w : Val) (rows : List Row) (env : List Entry) → Parallel (Instantiates v) rows env → Parallel (Instantiates w) rows env
    → (z k : ℕ) → Known rows z k → v z k ≡ w z k
agree v w rows env p q z k = agree_at v w rows env z k (lookup z k rows) refl (looked (Instantiates v) z k rows env p) q

-- ---- getval

abbrev pub getval : List Row → List Entry → Val
getval [] env z k = Var 0
getval (r ∷ rows) [] z k = Var 0
getval (row z' k' b l ∷ rows) (entry b' a ∷ env) z k = cond (eqb z z' && eqb k k') (rename (place l b) a) (getval rows env z k)

swapped : (z k z₁ k₁ : ℕ) → (eqb z z₁ && eqb k k₁) ≡ false → (eqb z₁ z && eqb k₁ k) ≡ false
swapped z k z₁ k₁ h = off _ (not_T (eqb z₁ z && eqb k₁ k) (λ t.
    let r = of_and (eqb z₁ z) (eqb k₁ k) t in
    transport T h (and_of (eqb z z₁) (eqb k k₁) (eqb_of z z₁ (sym (eqb→eq z₁ z r.0))) (eqb_of k k₁ (sym (eqb→eq k₁ k r.1))))))

-- a valuation may be changed where the table has no row
changed : (v : Val) (z k : ℕ) (x : Term) (rows : List Row) (env : List Entry) → lookup z k rows ≡ none
    → Parallel (Gets v) rows env → Parallel (Gets (λ z' k'. cond (eqb z' z && eqb k' k) x (v z' k'))) rows env
changed v z k x [] [] f p = tt
changed v z k x [] (a ∷ env) f p = absurd p
changed v z k x (r ∷ rows) [] f p = absurd p
changed v z k x (row z₁ k₁ b l ∷ rows) (entry b' a ∷ env) f p =
    let r = not_here (eqb z z₁ && eqb k k₁) (row z₁ k₁ b l) (lookup z k rows) f in
    ((p.0.0, rw (swapped z k z₁ k₁ r.0) p.0.1), changed v z k x rows env r.1 p.1)

pub getval_gets : (R : Row → Term → Type 0) (rows : List Row) (env : List Entry) → Fresh rows → Parallel R rows env → Parallel (Gets (getval rows env)) rows env
getval_gets R [] [] f p = tt
getval_gets R [] (a ∷ env) f p = absurd p
getval_gets R (r ∷ rows) [] f p = absurd p
getval_gets R (row z k b l ∷ rows) (entry b' a ∷ env) f p = (
  (p.0.0, rw (eq-eqb z z refl, eq-eqb k k refl)),
  changed (getval rows env) z k (rename (place l b) a) rows env f.0 (getval_gets R rows env f.1 p.1),
)

pub getval_unknown : (rows : List Row) (env : List Entry) (z k : ℕ) → lookup z k rows ≡ none → getval rows env z k ≡ Var 0
getval_unknown [] env z k e = refl
getval_unknown (r ∷ rows) [] z k e = refl
getval_unknown (row z' k' b l ∷ rows) (entry b' a ∷ env) z k e =
    let r = not_here (eqb z z' && eqb k k') (row z' k' b l) (lookup z k rows) e in
    rw r.0 (getval_unknown rows env z k r.1)
