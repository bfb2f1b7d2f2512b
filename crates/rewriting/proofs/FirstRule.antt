-- The first rule of the list that matches at the root: its place in the list, and that no earlier one matches. What passing code makes: a match
-- instruction fails, or there is one finished term, whose free variables are the subject's.
use mathlib.Core.Path.{◌≡◌, refl, ap, ◌∙◌}
use mathlib.Core.Logic.{◌⊎◌, inl, inr, ⊎_elim}
use Prim.Native.Nat.{ℕ, zero, suc, ◌<◌}
use native.Mathlib.Omega.{arith}
use mathlib.Core.Option.{Option, none, some}
use mathlib.Core.List.{List, [], ◌∷◌}
use lib.Dec.{T}
use lib.ListN.{get_elem?}
use Rattle.documents.specs.Terms.{Term}
use Rattle.documents.specs.Instructions.{Program}
use Rattle.documents.specs.Machine.{Entry, state, done, fails, no_step, run, made}
use Rattle.documents.specs.Passing.{obeys}
use Rattle.documents.proofs.Lists.{never}
use Rattle.documents.proofs.FreeVariables.{AllFree, free_all}
use Rattle.safety.proofs.NeverStuck.{never_stuck}
use Rattle.rewriting.specs.Rewrites.{or_else, by_first_rule}

-- ---- The first rule

pub record ByRule (rules : List Program) (u w : Term) : Type 0 where
  pub index : ℕ
  pub program : Program
  pub listed : get_elem? rules index ≡ some program
  pub makes : made (run program u) ≡ some w
  pub first : (i : ℕ) (c : Program) → i < index → get_elem? rules i ≡ some c → made (run c u) ≡ none

abbrev pub NoRule : List Program → Term → Type 0
NoRule rules u = (i : ℕ) (c : Program) → get_elem? rules i ≡ some c → made (run c u) ≡ none

one_more : (c : Program) (cs : List Program) (u w : Term) → made (run c u) ≡ none → ByRule cs u w → ByRule (c ∷ cs) u w
one_more c cs u w q b = record {
  index = suc b.index;
  program = b.program;
  listed = b.listed;
  makes = b.makes;
  first = elim [ zero ↦ λ d h e. let p : d ≡ c = cc in rw p q | suc i ↦ λ d h e. b.first i d (omega arith) e ];
}

pub by_rule : (rules : List Program) (u w : Term) → by_first_rule rules u ≡ some w → ByRule rules u w
by_rule [] u w e = never (cc)
by_rule (c ∷ cs) u w e = go (made (run c u)) refl e (by_rule cs u w)
  where
    go : (o : Option Term) → made (run c u) ≡ o → or_else o (by_first_rule cs u) ≡ some w → (by_first_rule cs u ≡ some w → ByRule cs u w) → ByRule (c ∷ cs) u w
    go none q e k = one_more c cs u w q (k e)
    go (some x) q e k = record { index = 0; program = c; listed = refl; makes = q ∙ e; first = λ i d h. absurd (omega arith) }

pub rule_by : (rules : List Program) (u w : Term) (i : ℕ) (c : Program) → get_elem? rules i ≡ some c → made (run c u) ≡ some w
    → ((j : ℕ) (d : Program) → j < i → get_elem? rules j ≡ some d → made (run d u) ≡ none) → by_first_rule rules u ≡ some w
rule_by [] u w i c e m h = never (cc)
rule_by (d ∷ cs) u w zero c e m h = let p : d ≡ c = cc in rw (p, m)
rule_by (d ∷ cs) u w (suc i) c e m h = rw (h 0 d (omega arith) refl) (rule_by cs u w i c e m (λ j b l q. h (suc j) b (omega arith) q))

pub no_rule : (rules : List Program) (u : Term) → by_first_rule rules u ≡ none → NoRule rules u
no_rule [] u e i c q = never (cc)
no_rule (d ∷ cs) u e i c q = go (made (run d u)) refl e (no_rule cs u) i q
  where
    go : (o : Option Term) → made (run d u) ≡ o → or_else o (by_first_rule cs u) ≡ none → (by_first_rule cs u ≡ none → NoRule cs u)
        → (i : ℕ) → get_elem? (d ∷ cs) i ≡ some c → made (run c u) ≡ none
    go none p e k zero q = let r : c ≡ d = cc in rw r p
    go none p e k (suc i) q = k e i c q
    go (some x) p e k i q = never (cc)

pub rule_no : (rules : List Program) (u : Term) → NoRule rules u → by_first_rule rules u ≡ none
rule_no [] u h = refl
rule_no (c ∷ cs) u h = rw (h 0 c refl) (rule_no cs u (λ i d e. h (suc i) d e))

-- one rule after the other
pub rule_misses : (c : Program) (cs : List Program) (u : Term) → run c u ≡ fails → by_first_rule (c ∷ cs) u ≡ by_first_rule cs u
rule_misses c cs u e = rw e

pub rule_matches : (c : Program) (cs : List Program) (u w : Term) (env : List Entry) → run c u ≡ done (state [] env (w ∷ []) 0 [])
    → by_first_rule (c ∷ cs) u ≡ some w
rule_matches c cs u w env e = rw e

-- ---- Code that passes

abbrev pub AllObey : List Program → Type 0
AllObey [] = Unit {0}
AllObey (c ∷ cs) = T (obeys c) × AllObey cs

pub obeys_at : (rules : List Program) (i : ℕ) (c : Program) → AllObey rules → get_elem? rules i ≡ some c → T (obeys c)
obeys_at [] i c h e = never (cc)
obeys_at (d ∷ cs) zero c h e = let p : c ≡ d = cc in rw p h.0
obeys_at (d ∷ cs) (suc i) c h e = obeys_at cs i c h.1 e

module _ (c : Program) (u : Term) (p : T (obeys c)) where
  -- it fails, or there is one finished term; in neither case was there an instruction that has no step
  pub made_or_fails : (run c u ≡ fails) ⊎ ((w : Term) × (env : List Entry) × (run c u ≡ done (state [] env (w ∷ []) 0 [])))
  made_or_fails = ⊎_elim inl (λ x. inr (x.0, x.1, x.3)) (never_stuck (λ x. Unit {0}) c u p (free_all (λ x. Unit {0}) u (λ x. tt)))

  pub passing_steps : run c u ≡ no_step → ⊥
  passing_steps e = ⊎_elim (λ f. never (cc)) (λ x. never (cc x.2)) made_or_fails

  -- 'where some rule matches' is where its run does not fail
  pub made_none_fails : made (run c u) ≡ none → run c u ≡ fails
  made_none_fails e = ⊎_elim (λ f. f) (λ x. never (cc (ap made x.2))) made_or_fails

  -- whatever holds of each free variable of the subject holds of each that is made
  pub made_free : (w : Term) → made (run c u) ≡ some w → (Q : ℕ → Type 0) → AllFree Q u → AllFree Q w
  made_free w e Q a = ⊎_elim (λ f. never (cc (ap made f))) (λ x. let q : x.0 ≡ w = cc (ap made x.3) in rw (← q) x.2) (never_stuck Q c u p a)
