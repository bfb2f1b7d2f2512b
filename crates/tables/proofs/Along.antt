-- Arguments that are variables, by a count: each is one node, so the i-th begins at word 2 * i. The laws of a walk, in this form.
use Rattle.std.proofs.Common.{◌≡◌, ℕ, ◌+◌, ◌-◌, ◌*◌, ◌≤◌, ◌<◌, true, false, not, ◌&&◌, List, ◌∷◌, get_or, arith}
use native.Mathlib.Nat.{sub-zero}
use Rattle.std.specs.Prelude.{drop}
use Rattle.documents.specs.Lists.{member}
use Rattle.documents.specs.Terms.{Terms, Nil}
use Rattle.documents.specs.Rules.{are_vars, freevars}
use Rattle.tables.specs.Parts.{terms, Begins}
use Rattle.tables.specs.Side.{distinct}
use Rattle.tables.proofs.Walks.{Walk, walk_from, walk_variable, ended}
use Rattle.tables.proofs.Sides.{no_variable, is_variable, variables_behind, freevars_here, distinct_here}

-- the terms from the i-th on, of c
abbrev pub along : ℕ → List ℕ → ℕ → Terms
along c t i = terms (c - i) (drop (2 * i) t)

abbrev pub Along : ℕ → List ℕ → ℕ → Type 0
Along c t i = Walk t (2 * i) (c - i)

pub along_from : {c : ℕ} {t : List ℕ} → Begins c t → Along c t 0
along_from {c} b = rw (sub-zero c) (walk_from b)

pub along_zero : (c : ℕ) (t : List ℕ) → along c t 0 ≡ terms c t
along_zero c t = rw (sub-zero c)

module _ {c : ℕ} {t : List ℕ} {i : ℕ} (w : Along c t i) (h : i < c) where
  next_is : terms (c - i - 1) (drop (2 * i + 2) t) ≡ along c t (i + 1)
  next_is = let a : 2 * (i + 1) ≡ 2 * i + 2 = omega arith in let n : c - (i + 1) ≡ c - i - 1 = omega arith in rw (a, n)

  pub along_none : 65536 ≤ get_or t (2 * i) 0 → are_vars (along c t i) ≡ false
  along_none v = no_variable w (omega arith) v

  pub along_variable : are_vars (along c t i) ≡ true → get_or t (2 * i) 0 < 65536
  along_variable e = is_variable w (omega arith) e

  module _ (v : get_or t (2 * i) 0 < 65536) where
    pub along_on : Along c t (i + 1)
    along_on =
        let a : 2 * (i + 1) ≡ 2 * i + 2 = omega arith in
        let n : c - (i + 1) ≡ c - i - 1 = omega arith in
        rw (a, n) (walk_variable w (omega arith) v)

    pub along_variables : are_vars (along c t i) ≡ are_vars (along c t (i + 1))
    along_variables = rw (← next_is) (variables_behind w (omega arith) v)

    pub along_free : freevars (along c t i) ≡ get_or t (2 * i) 0 ∷ freevars (along c t (i + 1))
    along_free = rw (← next_is) (freevars_here w (omega arith) v)

  pub along_distinct : are_vars (along c t i) ≡ true
      → distinct (along c t i) ≡ not (member (freevars (terms (c - i - 1) (drop (2 * i + 2) t))) (get_or t (2 * i) 0)) && distinct (along c t (i + 1))
  along_distinct e = rw (← next_is) (distinct_here w (omega arith) e)

pub along_end : {c : ℕ} {t : List ℕ} {i : ℕ} → Along c t i → c ≤ i → along c t i ≡ Nil
along_end w h = ended w (omega arith)
