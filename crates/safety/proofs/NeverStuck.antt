-- Demand 3: code that passes never meets an instruction that has no step. Each match instruction fails or goes on as the check says; the build
-- part then starts with no current term and nothing renamed, and makes the one term.
use mathlib.Core.Path.{◌≡◌, refl, ap, ◌∙◌}
use mathlib.Core.Logic.{◌⊎◌, inl, inr}
use Prim.Native.Nat.{ℕ}
use native.Mathlib.Omega.{arith}
use mathlib.Core.Bool.{Bool, false, ◌&&◌, cond}
use mathlib.Core.Option.{Option, none, some}
use mathlib.Core.List.{List, [], ◌∷◌}
use lib.Dec.{T, leb}
use lib.ListN.{length}
use Rattle.documents.specs.Limits.{code_limit}
use Rattle.documents.specs.Lists.{member}
use Rattle.documents.specs.Terms.{Term}
use Rattle.documents.specs.Rules.{freevars}
use Rattle.documents.specs.Instructions.{End, ◌▸◌, Program, program_in}
use Rattle.documents.specs.Machine.{Current, current, Entry, State, state, Outcome, done, fails, exec, run}
use Rattle.documents.specs.Passing.{Matching, matching, match_step, is_match, builds, and_then_holds, parts, obeys, passes}
use Rattle.documents.proofs.Lists.{case, of_and}
use Rattle.documents.proofs.Substitution.{rename_ext, rename_id}
use Rattle.documents.proofs.FreeVariables.{AllFree, every_of_free, free_in_itself}
use Rattle.safety.specs.Finishes.{Finishes}
use Rattle.safety.proofs.Building.{makes_one_term}
use Rattle.safety.proofs.Matching.{Agrees, agrees_at_start, matches_as_checked, goes_then}

pub holds_then : {A : Type 0} (o : Option A) (f : A → Bool) → T (and_then_holds o f) → (a : A) × (o ≡ some a) × T (f a)
holds_then none f t = absurd t
holds_then (some a) f t = (a, refl, t)

module _ (Sub : ℕ → Type 0) where
  -- fails, or ends with one finished term whose free variables satisfy Sub
  abbrev Ends : Outcome State → Type 0
  Ends r = (r ≡ fails) ⊎ ((u : Term) × (env : List Entry) × AllFree Sub u × (r ≡ done (state [] env (u ∷ []) 0 [])))

  build_ends : (m : Matching) (c : Program) (cs : List Current) (env : List Entry) → T (builds m c) → Agrees Sub m cs env → Ends (exec c (state cs env [] 0 []))
  build_ends (matching (d ∷ ds) es g) c cs env p a = absurd p
  build_ends (matching [] es g) c (x ∷ cs) env p a = absurd a.0
  build_ends (matching [] es g) c [] env p a =
      let r = makes_one_term Sub [] env es a.1 false 0 0 c p in
      inr (
        r.term,
        env,
        r.free,
        r.runs [] 0 [] (refl, refl) refl
            ∙ ap (λ (u : Term). done (state [] env (u ∷ []) 0 [])) (rename_ext _ (λ x. x) r.term (λ x. omega arith) ∙ rename_id r.term),
      )

  parts_ends : (c : Program) (m : Matching) (cs : List Current) (env : List Entry) → T (parts c m) → Agrees Sub m cs env → Ends (exec c (state cs env [] 0 []))
  parts_ends End m cs env p a = absurd p
  parts_ends (i ▸ c) m cs env p a =
      case (λ q. T (cond q (and_then_holds (match_step i m) (parts c)) (builds m (i ▸ c))) → Ends (exec (i ▸ c) (state cs env [] 0 []))) (is_match i)
      (λ t h.
      let q = holds_then (match_step i m) (parts c) h in
      goes_then Sub [] 0 [] Ends q.0 _ c (matches_as_checked Sub [] 0 [] i m q.0 cs env q.1 a) (inl refl) (λ cs' env'. parts_ends c q.0 cs' env' q.2))
      (λ t h. build_ends m (i ▸ c) cs env h a) p

  -- Code that passes, on any subject: a match instruction fails, or one finished term is left, whose free variables are the subject's
  pub never_stuck : (c : Program) (t : Term) → T (obeys c) → AllFree Sub t
      → (run c t ≡ fails) ⊎ ((u : Term) × (env : List Entry) × AllFree Sub u × (run c t ≡ done (state [] env (u ∷ []) 0 [])))
  never_stuck c t p f = parts_ends c (matching (0 ∷ []) [] []) (current 0 0 t ∷ []) [] p (agrees_at_start Sub t f)

pub obeying_finishes : (c : Program) (t : Term) → T (obeys c) → Finishes c t
obeying_finishes c t p = go (never_stuck (λ x. T (member (freevars t) x)) c t p (free_in_itself t))
  where
    go : Ends (λ x. T (member (freevars t) x)) (run c t) → Finishes c t
    go (inl e) = inl e
    go (inr (u, env, f, e)) = inr (u, env, every_of_free (member (freevars t)) 0 u f, e)

-- demand 3, of code as words
pub passing_obeys : (ws : List ℕ) → T (passes ws) → (c : Program) × (program_in ws ≡ some c) × T (obeys c)
passing_obeys ws t = holds_then (program_in ws) obeys (of_and (leb 1 (length ws) && leb (length ws) code_limit) (and_then_holds (program_in ws) obeys) t).1

pub passing_finishes : (ws : List ℕ) → T (passes ws) → (t : Term) → (c : Program) × (program_in ws ≡ some c) × Finishes c t
passing_finishes ws p t = let q = passing_obeys ws p in (q.0, q.1, obeying_finishes q.0 t q.2)
