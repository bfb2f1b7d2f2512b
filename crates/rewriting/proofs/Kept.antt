-- What one rewrite by code that passes keeps: no subterm's run meets an instruction that has no step; every variable free in the new plan is free in
-- the old one; no metavariable comes in, and no name or count that a table cannot hold. So a new plan within 13, 14 and 15 is an accepted subject.
use mathlib.Core.Path.{◌≡◌}
use Prim.Native.Nat.{ℕ}
use native.Mathlib.Omega.{arith}
use mathlib.Core.Option.{some}
use mathlib.Core.List.{List}
use lib.Dec.{T}
use lib.ListN.{get_elem?}
use Rattle.documents.specs.Lists.{every, member}
use Rattle.documents.specs.Terms.{Sort, Tm, Term}
use Rattle.documents.specs.Tables.{table_of, subterm}
use Rattle.documents.specs.Rules.{freevars}
use Rattle.documents.specs.Instructions.{Program}
use Rattle.documents.specs.Machine.{no_step, run}
use Rattle.documents.specs.Passing.{obeys}
use Rattle.documents.specs.Numbers.{answered, subject_in, result_for}
use Rattle.documents.proofs.Numbers.{subject_in_held, held_subject_in}
use Rattle.documents.proofs.FreeVariables.{AllFree, free_in_itself, every_of_free}
use Rattle.rewriting.specs.Rewrites.{by_first_rule, once}
use Rattle.rewriting.specs.Replacing.{replace}
use Rattle.rewriting.proofs.Contexts.{Context, Here, InSym, InMeta, InAbst, First, Later, plug, replace_plug, by-context, subterm_ends}
use Rattle.rewriting.proofs.FirstNode.{Found, found}
use Rattle.rewriting.proofs.Splicing.{len_plug, replaced_free, subterm_depth, subterm_metas, subterm_fits, result_within}
use Rattle.rewriting.proofs.FirstRule.{ByRule, by_rule, AllObey, obeys_at, passing_steps, made_free}
use Rattle.safety.proofs.Named.{Named, named_of, named_metas, named_fits, made_named}

-- ---- Names in a place

named_in : {s : Sort} (k : Context s) (u : Term) → Named (plug k u) → Named u
named_in Here u h = h
named_in (InSym s k) u h = named_in k u h.2
named_in (InMeta z k) u h = absurd h
named_in (InAbst k) u h = named_in k u h
named_in (First k ts) u h = named_in k u h.0
named_in (Later t k) u h = named_in k u h.1

named_plug : {s : Sort} (k : Context s) (u w : Term) → Named (plug k u) → Named w → Named (plug k w)
named_plug Here u w h f = f
named_plug (InSym s k) u w h f = (h.0, omega (arith, h.1, len_plug k u, len_plug k w), named_plug k u w h.2 f)
named_plug (InMeta z k) u w h f = absurd h
named_plug (InAbst k) u w h f = named_plug k u w h f
named_plug (First k ts) u w h f = (named_plug k u w h.0 f, h.1)
named_plug (Later t k) u w h f = (h.0, named_plug k u w h.1 f)

pub subterm_named : {s : Sort} (t : Tm s) (n : ℕ) (u : Term) → subterm t n ≡ some u → Named t → Named u
subterm_named = by-context (λ t n u. Named t → Named u) named_in

pub replaced_named : {s : Sort} (t : Tm s) (n : ℕ) (u w : Term) → subterm t n ≡ some u → Named t → Named w → Named (replace t n w)
replaced_named t n u w = by-context (λ t n u. Named t → Named w → Named (replace t n w)) (λ k u e f. rw (replace_plug k u w) (named_plug k u w e f)) t n u

-- ---- One rewrite

module _ (rules : List Program) (h : AllObey rules) where
  -- 'never meets an instruction that has no step'
  pub steps_everywhere : (t : Term) (n i : ℕ) (u : Term) (c : Program) → subterm t n ≡ some u → get_elem? rules i ≡ some c → run c u ≡ no_step → ⊥
  steps_everywhere t n i u c e g = passing_steps c u (obeys_at rules i c h g)

  module _ (t t' : Term) (e : once rules t ≡ some t') where
    -- where it was, and by which rule
    abbrev place : Found (by_first_rule rules) t t'
    unfolding once
    place = found (by_first_rule rules) t t' e

    abbrev by : ByRule rules place.old place.new
    by = by_rule rules place.old place.new place.answers

    passed : T (obeys by.program)
    passed = obeys_at rules by.index by.program h by.listed

    -- whatever holds of each free variable of the old plan holds of each of the new one
    pub once_all_free : (P : ℕ → Type 0) → AllFree P t → AllFree P t'
    once_all_free P a =
        rw place.whole (replaced_free P t place.place place.old place.new place.there
        (made_free by.program place.old passed place.new by.makes) a)

    -- 'every variable free there is free in the subject'
    pub once_free : T (every (member (freevars t)) (freevars t'))
    once_free = every_of_free (member (freevars t)) 0 t' (once_all_free (λ x. T (member (freevars t) x)) (free_in_itself t))

    pub once_named : Named t → Named t'
    once_named n =
        rw place.whole (replaced_named t place.place place.old place.new place.there n
        (made_named by.program place.old place.new passed (subterm_named t place.place place.old place.there n) by.makes))

-- ---- The next plan is an accepted subject

pub subject_named : (subject : List ℕ) (t : Term) → subject_in subject ≡ answered t → Named t
subject_named subject t e = let h = subject_in_held subject t e in named_of t h.0.fits h.1

-- each part of an accepted plan is an accepted subject: a run may be handed it
pub subterm_accepted : (t : Term) (n : ℕ) (u : Term) → subject_in (table_of t) ≡ answered t → subterm t n ≡ some u → subject_in (table_of u) ≡ answered u
subterm_accepted t n u s e =
    let h = subject_in_held (table_of t) t s in
    held_subject_in u (subterm_fits t n u e h.0.fits) (omega (arith, h.0.small, subterm_ends t n u e))
    (omega (arith, h.0.shallow, subterm_depth t n u e))
    (subterm_metas t n u e h.1)

-- a plan like that, within 13, 14 and 15
pub named_subject : (room : ℕ) (t : Term) (ws : List ℕ) → Named t → result_for room t ≡ answered ws → subject_in (table_of t) ≡ answered t
named_subject room t ws n e =
    let h = (result_within room t ws e).0 in
    held_subject_in t (named_fits t n h.low) (omega (arith, h.small)) h.shallow (named_metas t n)

pub once_accepted : (rules : List Program) (room : ℕ) (t t' : Term) (ws : List ℕ) → AllObey rules → subject_in (table_of t) ≡ answered t → once rules t ≡ some t'
    → result_for room t' ≡ answered ws → subject_in (table_of t') ≡ answered t'
once_accepted rules room t t' ws h s e r = named_subject room t' ws (once_named rules h t t' e (subject_named (table_of t) t s)) r
