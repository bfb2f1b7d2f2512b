-- How many current terms, entries and finished terms there are after the first i instructions is what the check counted, whatever the subject:
-- a part of code that the check follows is followed too, and the machine's state after it has the check's counts.
use mathlib.Core.Path.{◌≡◌, refl, sym, ap, ap₂, ◌∙◌}
use mathlib.Core.Logic.{◌⊎◌, inl, inr}
use Prim.Native.Nat.{ℕ, zero, suc, ◌+◌}
use mathlib.Core.Bool.{Bool, false, cond}
use mathlib.Core.Option.{Option, some}
use mathlib.Core.List.{List, [], ◌∷◌, map}
use lib.Dec.{T}
use lib.ListN.{length, length-append, length-map}
use Rattle.documents.specs.Lists.{and_then}
use Rattle.documents.specs.Terms.{Term, rename}
use Rattle.documents.specs.Instructions.{End, ◌▸◌, Program}
use Rattle.documents.specs.Machine.{Current, current, Entry, State, state, Outcome, done, fails, exec, run, first}
use Rattle.documents.specs.Passing.{Slot, build, Matching, matching, match_step, is_match, builds, and_then_holds, parts, obeys}
use Rattle.documents.proofs.Lists.{never, case, and_then_is}
use Rattle.documents.proofs.FreeVariables.{free_all}
use Rattle.kahrs.proofs.RightSide.{offset_of}
use Rattle.safety.proofs.Entries.{entries_length}
use Rattle.safety.proofs.Asked.{one_term_lem}
use Rattle.safety.proofs.Building.{Blocks, laid, opened, builds_as_checked}
use Rattle.safety.proofs.Matching.{currents_length, Agrees, agrees_at_start, matches_as_checked, goes_then}
use Rattle.safety.proofs.NeverStuck.{holds_then}

abbrev pub total : List ℕ → ℕ
total [] = 0
total (h ∷ hs) = h + total hs

-- ---- What the check has after the first i instructions

pub data Progress : Type 0 where
  in_match : Matching → Progress
  -- the entries, and the counts of finished terms of each open block
  in_build : List Slot → List ℕ → Progress

abbrev pub current_count : Progress → ℕ
current_count (in_match (matching ds es g)) = length ds
current_count (in_build es hs) = 0

abbrev pub entry_count : Progress → ℕ
entry_count (in_match (matching ds es g)) = length es
entry_count (in_build es hs) = length es

abbrev pub finished_count : Progress → ℕ
finished_count (in_match m) = 0
finished_count (in_build es hs) = total hs

abbrev pub built_after : ℕ → Program → Matching → Option Progress
built_after i c (matching ds es g) = and_then (build es false 0 0 (first i c) (0 ∷ [])) (λ hs. some (in_build es hs))

abbrev pub progress : ℕ → Program → Matching → Option Progress
progress zero c m = some (in_match m)
progress (suc i) End m = some (in_match m)
progress (suc i) (j ▸ c) m = cond (is_match j) (and_then (match_step j m) (progress i c)) (built_after (suc i) (j ▸ c) m)

-- the machine has what the check has counted
abbrev pub Counted : Progress → State → Type 0
Counted p (state cs env st off nst) = (length cs ≡ current_count p) × (length env ≡ entry_count p) × (length st ≡ finished_count p)

-- ---- The build part

pub length_laid : (off : ℕ) (nst : List ℕ) (B : Blocks) → length (laid off nst B []) ≡ total (map length B)
length_laid off nst [] = refl
length_laid off nst (us ∷ B) =
    length-append (map (rename (offset_of off (opened B nst))) us) (laid off nst B [])
    ∙ ap₂ ◌+◌ (length-map us (rename (offset_of off (opened B nst)))) (length_laid off nst B)

first_builds : (es : List Slot) (inside : Bool) (l nest i : ℕ) (c : Program) (hs ks : List ℕ) → build es inside l nest c hs ≡ some ks
    → (js : List ℕ) × (build es inside l nest (first i c) hs ≡ some js)
first_builds es inside l nest zero c hs ks e = (hs, refl)
first_builds es inside l nest (suc i) End hs ks e = (hs, refl)
first_builds es inside l nest (suc i) (j ▸ c) hs ks e =
    let q = and_then_is (build es inside l nest j hs) _ ks e in
    let r = first_builds es inside l nest i c q.0 ks q.2 in
    (r.0, ap (λ (o : Option (List ℕ)). and_then o (build es inside l nest (first i c))) q.1 ∙ r.1)

-- ---- The whole

-- the check of code that passes has got somewhere after each i
built_there : (i : ℕ) (c : Program) (m : Matching) → T (builds m c) → (p : Progress) × (built_after i c m ≡ some p)
built_there i c (matching (d ∷ ds) es g) t = absurd t
built_there i c (matching [] es g) t =
    let r = first_builds es false 0 0 i c (0 ∷ []) (1 ∷ []) (one_term_lem _ t) in
    (in_build es r.0, ap (λ (o : Option (List ℕ)). and_then o (λ hs. some (in_build es hs))) r.1)

progress_there : (i : ℕ) (c : Program) (m : Matching) → T (parts c m) → (p : Progress) × (progress i c m ≡ some p)
progress_there zero c m t = (in_match m, refl)
progress_there (suc i) End m t = absurd t
progress_there (suc i) (j ▸ c) m t =
    case (λ q. T (cond q (and_then_holds (match_step j m) (parts c)) (builds m (j ▸ c)))
    → (p : Progress) × (cond q (and_then (match_step j m) (progress i c)) (built_after (suc i) (j ▸ c) m) ≡ some p)) (is_match j)
    (λ y h.
    let q = holds_then (match_step j m) (parts c) h in
    let r = progress_there i c q.0 q.2 in
    (r.0, ap (λ (o : Option Matching). and_then o (progress i c)) q.1 ∙ r.1))
    (λ y h. built_there (suc i) (j ▸ c) m h) t

-- fails, or leaves what the check has counted
abbrev pub Comes : Progress → Outcome State → Type 0
Comes p r = (r ≡ fails) ⊎ ((τ : State) × (r ≡ done τ) × Counted p τ)

-- which variables are free does not matter here
abbrev Any : ℕ → Type 0
Any x = Unit {0}

agrees_counted : (m : Matching) (cs : List Current) (env : List Entry) → Agrees Any m cs env → Counted (in_match m) (state cs env [] 0 [])
agrees_counted (matching ds es g) cs env a = (currents_length Any ds cs a.0, entries_length Any es env a.1, refl)

build_comes : (i : ℕ) (c : Program) (m : Matching) (p : Progress) (cs : List Current) (env : List Entry) → T (builds m c) → Agrees Any m cs env
    → built_after i c m ≡ some p → Comes p (exec (first i c) (state cs env [] 0 []))
build_comes i c (matching (d ∷ ds) es g) p cs env t a e = absurd t
build_comes i c (matching [] es g) p cs env t a e =
    let q = and_then_is (build es false 0 0 (first i c) (0 ∷ [])) _ p e in
    let s = builds_as_checked Any cs env es a.1 (first i c) false 0 0 [] [] q.0 q.1 (tt, tt) in
    let k : in_build es q.0 ≡ p = some_is q.2 in
    rw (← k)
    (inr (
      _,
      s.goes [] 0 [] (refl, refl) refl,
      (
        currents_length Any [] cs a.0,
        entries_length Any es env a.1,
        length_laid 0 [] (s.top ∷ s.around) ∙ ap total (sym s.counted),
      ),
    ))
  where
    some_is : {x y : Progress} → some x ≡ some y → x ≡ y
    some_is e = cc

parts_come : (i : ℕ) (c : Program) (m : Matching) (p : Progress) (cs : List Current) (env : List Entry) → T (parts c m) → Agrees Any m cs env
    → progress i c m ≡ some p → Comes p (exec (first i c) (state cs env [] 0 []))
parts_come zero c m p cs env t a e = let k : in_match m ≡ p = cc in rw (← k) (inr (_, refl, agrees_counted m cs env a))
parts_come (suc i) End m p cs env t a e = absurd t
parts_come (suc i) (j ▸ c) m p cs env t a e =
    case (λ q. T (cond q (and_then_holds (match_step j m) (parts c)) (builds m (j ▸ c)))
    → cond q (and_then (match_step j m) (progress i c)) (built_after (suc i) (j ▸ c) m) ≡ some p
    → Comes p (exec (first (suc i) (j ▸ c)) (state cs env [] 0 []))) (is_match j)
    (λ y h w.
    let q = holds_then (match_step j m) (parts c) h in
    let z : progress i c q.0 ≡ some p = ap (λ (o : Option Matching). and_then o (progress i c)) (sym q.1) ∙ w in
    goes_then Any [] 0 [] (Comes p) q.0 _ (first i c) (matches_as_checked Any [] 0 [] j m q.0 cs env q.1 a) (inl refl) (λ cs' env' b. parts_come i c q.0 p cs' env' q.2 b z))
    (λ y h w. build_comes (suc i) (j ▸ c) m p cs env h a w) t e

-- the check before the first instruction
abbrev pub beginning : Matching
beginning = matching (0 ∷ []) [] []

pub progress_of_passing : (c : Program) (i : ℕ) → T (obeys c) → (p : Progress) × (progress i c beginning ≡ some p)
progress_of_passing c i t = progress_there i c beginning t

-- the first i instructions of code that passes, on any subject: one fails, or the counts are the check's
pub first_counted : (c : Program) (t : Term) (i : ℕ) (p : Progress) → T (obeys c) → progress i c beginning ≡ some p → Comes p (run (first i c) t)
first_counted c t i p o e = parts_come i c beginning p (current 0 0 t ∷ []) [] o (agrees_at_start Any t (free_all Any t (λ x. tt))) e

-- .. so where none fails, the three numbers are
pub counts_as_checked : (c : Program) (t : Term) (i : ℕ) (p : Progress) (σ : State) → T (obeys c) → progress i c beginning ≡ some p
    → run (first i c) t ≡ done σ → Counted p σ
counts_as_checked c t i p σ o e r = go (first_counted c t i p o e)
  where
    go : Comes p (run (first i c) t) → Counted p σ
    go (inl f) = never (cc)
    go (inr (τ, d, k)) = let z : τ ≡ σ = cc in rw z at k

-- whatever the subject
pub counts_for_every_subject : (c : Program) (t u : Term) (i : ℕ) (cs cs' : List Current) (env env' : List Entry) (st st' : List Term) (off off' : ℕ) (nst nst' : List ℕ)
    → T (obeys c) → run (first i c) t ≡ done (state cs env st off nst) → run (first i c) u ≡ done (state cs' env' st' off' nst')
    → (length cs ≡ length cs') × (length env ≡ length env') × (length st ≡ length st')
counts_for_every_subject c t u i cs cs' env env' st st' off off' nst nst' o d d' =
    let p = progress_of_passing c i o in
    let k = counts_as_checked c t i p.0 _ o p.1 d in
    let k' = counts_as_checked c u i p.0 _ o p.1 d' in
    (k.0 ∙ sym k'.0, k.1 ∙ sym k'.1, k.2 ∙ sym k'.2)
