-- What `once` is, over numbered nodes and rules (specs/Turning): by code from anybody it is what `at_first_node` and `by_first_rule` were shown to be.
-- Then demand 2 of each rewrite of a subterm. By 004's theorems a rule's code makes w of a term without metavariables exactly when some valuation turns the
-- left side into it and the right side into w. So a rewrite is made exactly when some rule's left side is turned into some node's subterm, at
-- the first such node and by the first such rule there.
use mathlib.Core.Path.{◌≡◌, refl, sym, ap, ◌∙◌}
use mathlib.Core.Logic.{◌⊎◌, inl, inr, ◌↔◌}
use Prim.Native.Nat.{ℕ, zero, suc}
use mathlib.Core.Option.{Option, none, some, some-injective}
use mathlib.Core.List.{List, [], ◌∷◌}
use lib.Dec.{T}
use lib.ListN.{get_elem?}
use Rattle.documents.specs.Terms.{Term}
use Rattle.documents.specs.Tables.{subterm}
use Rattle.documents.specs.Rules.{Val, Valuation, metas, metasubst, among}
use Rattle.documents.specs.Instructions.{Program}
use Rattle.documents.specs.Machine.{fails, run, made}
use Rattle.documents.specs.Translation.{compile}
use Rattle.documents.specs.Numbers.{Rule, rule}
use Rattle.documents.proofs.Lists.{never}
use Rattle.documents.proofs.Numbers.{rule_in_accepted}
use Rattle.kahrs.proofs.Main.{CrsRule, crs_rule_lem, Yields, theorem_9_metasubst, soundness_metasubst, unique_metasubst}
use Rattle.kahrs.proofs.Plain.{metasubst_plain}
use Rattle.compiled.proofs.Passes.{compiled_obeys}
use Rattle.rewriting.specs.Rewrites.{by_first_rule, once}
use Rattle.rewriting.specs.Replacing.{replace}
use Rattle.rewriting.specs.Turning.{RewriteBy, Normal, IsAccepted, AllAccepted, programs_of, TurnsAt, Rewrite, NoMatch}
use Rattle.rewriting.proofs.FirstNode.{found, found_some, silent_none, none_silent}
use Rattle.rewriting.proofs.Splicing.{subterm_metas, replaced_metas}
use Rattle.rewriting.proofs.FirstRule.{by_rule, rule_by, no_rule, rule_no, AllObey, obeys_at, made_none_fails}

-- ---- By code from anybody

none_or : (o : Option Term) → ((w : Term) → o ≡ some w → ⊥) → o ≡ none
none_or none h = refl
none_or (some w) h = absurd (h w refl)

module _ (rules : List Program) (t : Term) where
  rewrite_by_once : (t' : Term) → once rules t ≡ some t' → RewriteBy rules t t'
  unfolding once
  rewrite_by_once t' e =
      let d = found (by_first_rule rules) t t' e in
      let b = by_rule rules d.old d.new d.answers in
      record {
        node = d.place;
        index = b.index;
        new = d.new;
        makes = record { old = d.old; program = b.program; there = d.there; listed = b.listed; makes = b.makes };
        first_node = λ n i w l m.
            let q = no_rule rules m.old (d.first n m.old l m.there) i m.program m.listed in
            never (cc m.makes);
        first_rule = λ i w l m.
            let q = b.first i m.program l m.listed in
            let o : m.old ≡ d.old = some-injective m.old d.old (sym m.there ∙ d.there) in
            never (cc (m.makes, ap (λ (u : Term). made (run m.program u)) o));
        whole = d.whole;
      }

  once_by_rewrite : (t' : Term) → RewriteBy rules t t' → once rules t ≡ some t'
  unfolding once
  once_by_rewrite t' w =
      let m = w.makes in
      found_some (by_first_rule rules) t t' (record {
        place = w.node;
        old = m.old;
        new = w.new;
        there = m.there;
        answers = rule_by rules m.old w.new w.index m.program m.listed m.makes
            (λ i c l g. none_or (made (run c m.old))
            (λ x e. w.first_rule i x l (record { old = m.old; program = c; there = m.there; listed = g; makes = e })));
        first = λ n v l s. rule_no rules v
            (λ i c g. none_or (made (run c v)) (λ x e. w.first_node n i x l (record { old = v; program = c; there = s; listed = g; makes = e })));
        whole = w.whole;
      })

  pub rewrite_by_exactly : (t' : Term) → (once rules t ≡ some t') ↔ RewriteBy rules t t'
  rewrite_by_exactly t' = (rewrite_by_once t', once_by_rewrite t')

  -- where code passed, a rule that makes nothing has failed
  pub normal_exactly : AllObey rules → (once rules t ≡ none) ↔ Normal rules t
  unfolding once
  normal_exactly h = (
    λ e n i u c s g. made_none_fails c u (obeys_at rules i c h g) (no_rule rules u (none_silent (by_first_rule rules) t e n u s) i c g),
    λ k. silent_none (by_first_rule rules) t (λ n u s. rule_no rules u (λ i c g. ap made (k n i u c s g))),
  )

-- ---- One rule

module _ (l r : Term) (h : CrsRule l r) where
  pub turned_made : (v : Val) → Valuation v → made (run (compile l r) (metasubst v l)) ≡ some (metasubst v r)
  turned_made v val = ap made (theorem_9_metasubst l r h v val).1

  module _ (u : Term) (p : metas u ≡ []) where
    -- what the code makes is the right side under a valuation that turns the left side into the term
    pub made_turned : (w : Term) → made (run (compile l r) u) ≡ some w → (v : Val) × Valuation v × (metasubst v l ≡ u) × (w ≡ metasubst v r)
    made_turned w e = go (soundness_metasubst l r h u p)
      where
        go : (run (compile l r) u ≡ fails) ⊎ ((v : Val) × Valuation v × (metasubst v l ≡ u) × Yields (compile l r) u (metasubst v r))
            → (v : Val) × Valuation v × (metasubst v l ≡ u) × (w ≡ metasubst v r)
        go (inl f) = never (cc (ap made f))
        go (inr (v, val, q, y)) = let z : w ≡ metasubst v r = cc (ap made y.1) in (v, val, q, z)

    pub unturned_made : ((v : Val) → Valuation v → metasubst v l ≡ u → ⊥) → made (run (compile l r) u) ≡ none
    unturned_made n = none_or (made (run (compile l r) u)) (λ w e. let (v, val, q, z) = made_turned w e in n v val q)

-- ---- Rules of a list

accepted_crs : (l r : Term) → IsAccepted (rule l r) → CrsRule l r
accepted_crs l r (left, right, e) = let a = rule_in_accepted left right l r e in crs_rule_lem l r a.crs a.left_held.shallow

accepted_at : (rules : List Rule) (i : ℕ) (l r : Term) → AllAccepted rules → get_elem? rules i ≡ some (rule l r) → CrsRule l r
accepted_at [] i l r h e = never (cc)
accepted_at (x ∷ rules) zero l r h e = let p : x ≡ rule l r = cc in accepted_crs l r (rw p at h.0)
accepted_at (x ∷ rules) (suc i) l r h e = accepted_at rules i l r h.1 e

program_at_lem : (rules : List Rule) (i : ℕ) (l r : Term) → get_elem? rules i ≡ some (rule l r) → get_elem? (programs_of rules) i ≡ some (compile l r)
program_at_lem [] i l r e = never (cc)
program_at_lem (x ∷ rules) zero l r e = let p : x ≡ rule l r = cc in rw p
program_at_lem (x ∷ rules) (suc i) l r e = program_at_lem rules i l r e

rule_at : (rules : List Rule) (i : ℕ) (c : Program) → get_elem? (programs_of rules) i ≡ some c
    → (l : Term) × (r : Term) × (get_elem? rules i ≡ some (rule l r)) × (c ≡ compile l r)
rule_at [] i c e = never (cc)
rule_at (rule l r ∷ rules) zero c e = (l, r, refl, cc)
rule_at (rule l r ∷ rules) (suc i) c e = rule_at rules i c e

-- compiled rules are code that passes
pub compiled_all_obey : (rules : List Rule) → AllAccepted rules → AllObey (programs_of rules)
compiled_all_obey [] h = tt
compiled_all_obey (rule l r ∷ rules) h =
    let (left, right, e) = h.0 in
    (compiled_obeys left right l r (rule_in_accepted left right l r e), compiled_all_obey rules h.1)

-- ---- One rewrite

module _ (rules : List Rule) (h : AllAccepted rules) (t : Term) (p : metas t ≡ []) where
  -- a rule that turns its left side into the subterm at n makes something of it
  turns_made : (n i : ℕ) (l r : Term) (v : Val) (u : Term) → TurnsAt rules t n i l r v → subterm t n ≡ some u → made (run (compile l r) u) ≡ none → ⊥
  turns_made n i l r v u x e q =
      let z : u ≡ metasubst v l = cc x.there in
      let m = turned_made l r (accepted_at rules i l r h x.listed) v x.valuation in
      never (cc (ap (λ (a : Term). made (run (compile l r) a)) z))

  -- no rule makes anything of the subterm at n where none turns its left side into it
  none_turned : (n i : ℕ) (u : Term) → subterm t n ≡ some u → ((l r : Term) (v : Val) → TurnsAt rules t n i l r v → ⊥) → (c : Program)
      → get_elem? (programs_of rules) i ≡ some c → made (run c u) ≡ none
  none_turned n i u e k c g =
      let (l, r, a, q) = rule_at rules i c g in
      ap (λ (d : Program). made (run d u)) q
      ∙ unturned_made l r (accepted_at rules i l r h a) u (subterm_metas t n u e p)
      (λ v val z. k l r v (record { listed = a; valuation = val; there = e ∙ ap some (sym z) }))

  pub rewrite_of_once : (t' : Term) → once (programs_of rules) t ≡ some t' → Rewrite rules t t'
  unfolding once
  rewrite_of_once t' e =
      let d = found (by_first_rule (programs_of rules)) t t' e in
      let b = by_rule (programs_of rules) d.old d.new d.answers in
      let (l, r, a, q) = rule_at rules b.index b.program b.listed in
      let (v, val, x, y) = made_turned l r (accepted_at rules b.index l r h a) d.old (subterm_metas t d.place d.old d.there p) d.new
      (ap (λ (c : Program). made (run c d.old)) (sym q) ∙ b.makes) in
      record {
        node = d.place;
        index = b.index;
        left = l;
        right = r;
        val = v;
        turns = record { listed = a; valuation = val; there = d.there ∙ ap some (sym x) };
        first_node = λ n i l₁ r₁ v₁ g z.
            turns_made n i l₁ r₁ v₁ (metasubst v₁ l₁) z z.there
            (no_rule (programs_of rules) (metasubst v₁ l₁) (d.first n (metasubst v₁ l₁) g z.there) i (compile l₁ r₁) (program_at_lem rules i l₁ r₁ z.listed));
        first_rule = λ i l₁ r₁ v₁ g z.
            turns_made d.place i l₁ r₁ v₁ d.old z d.there (b.first i (compile l₁ r₁) g (program_at_lem rules i l₁ r₁ z.listed));
        whole = d.whole ∙ ap (replace t d.place) y;
      }

  pub once_of_rewrite : (t' : Term) → Rewrite rules t t' → once (programs_of rules) t ≡ some t'
  unfolding once
  once_of_rewrite t' w =
      let u = metasubst w.val w.left in
      let e = w.turns.there in
      let c = accepted_at rules w.index w.left w.right h w.turns.listed in
      found_some (by_first_rule (programs_of rules)) t t' (record {
        place = w.node;
        old = u;
        new = metasubst w.val w.right;
        there = e;
        answers = rule_by (programs_of rules) u (metasubst w.val w.right) w.index (compile w.left w.right)
            (program_at_lem rules w.index w.left w.right w.turns.listed)
            (turned_made w.left w.right c w.val w.turns.valuation)
            (λ j d g q. none_turned w.node j u e (λ l r v. w.first_rule j l r v g) d q);
        first = λ m v g q. rule_no (programs_of rules) v (λ j d. none_turned m j v q (λ l r y. w.first_node m j l r y g) d);
        whole = w.whole;
      })

  -- 'exactly when some valuation turns the left side into the subject', read over the subterms of a plan
  pub rewrite_exactly : (t' : Term) → (once (programs_of rules) t ≡ some t') ↔ Rewrite rules t t'
  rewrite_exactly t' = (rewrite_of_once t', once_of_rewrite t')

  -- 'no rule matches any more'
  pub none_exactly : (once (programs_of rules) t ≡ none) ↔ NoMatch rules t
  unfolding once
  none_exactly = (
    λ e n i l r v z.
        turns_made n i l r v (metasubst v l) z z.there
        (no_rule (programs_of rules) (metasubst v l) (none_silent (by_first_rule (programs_of rules)) t e n (metasubst v l) z.there)
        i (compile l r) (program_at_lem rules i l r z.listed)),
    λ k. silent_none (by_first_rule (programs_of rules)) t (λ m v q. rule_no (programs_of rules) v (λ j d. none_turned m j v q (λ l r y. k m j l r y) d)),
  )

  -- the new plan has no metavariable either, so the next rewrite is one of these again
  pub rewrite_plain : (t' : Term) → once (programs_of rules) t ≡ some t' → metas t' ≡ []
  rewrite_plain t' e =
      let w = rewrite_of_once t' e in
      ap metas w.whole ∙ replaced_metas t w.node _ _ w.turns.there p (metasubst_plain w.val w.turns.valuation w.right)

-- 'On the left side's metavariables there is only one.'
pub turns_only_one : (rules : List Rule) → AllAccepted rules → (t : Term) (n i : ℕ) (l r : Term) (v w : Val)
    → TurnsAt rules t n i l r v → TurnsAt rules t n i l r w
    → (z k : ℕ) → T (among (metas l) (z, k)) → v z k ≡ w z k
turns_only_one rules h t n i l r v w a b =
    let e = some-injective (metasubst v l) (metasubst w l) (sym a.there ∙ b.there) in
    unique_metasubst l r (accepted_at rules i l r h a.listed) v w a.valuation b.valuation e
