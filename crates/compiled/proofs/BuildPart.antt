-- The build part of compiled code passes. The code of a term, met with n open LAMBDAs and m blocks and bodies around, makes one term in the innermost
-- block, whichever body it stands in; n is at most m, and m with the depth of the term at most 64, since each block and each body is a step down.
use mathlib.Core.Path.{◌≡◌, refl, sym, ap, ◌∙◌, fun_ext}
use Prim.Native.Nat.{ℕ, suc, ◌+◌, ◌-◌, ◌≤◌, ◌<◌}
use native.Mathlib.Omega.{arith}
use mathlib.Core.Bool.{Bool, true}
use mathlib.Core.Option.{Option, none, some}
use mathlib.Core.List.{List, [], ◌∷◌}
use lib.Dec.{T}
use lib.ListN.{length}
use borrow.Author.Tests.{le-leb, lt-ltb, eq-eqb}
use Rattle.documents.specs.Limits.{argument_limit, index_limit, d_shift}
use Rattle.documents.specs.Lists.{and_then}
use Rattle.documents.specs.Terms.{Sort, one, many, Tm, Var, Sym, Meta, Abst, Nil, Cons, len}
use Rattle.documents.specs.Tables.{Fits, depth}
use Rattle.documents.specs.Instructions.{CELL, ADBMAL, End, ◌▸◌, None, Body, Program, Bodies, body_count, keys}
use Rattle.documents.specs.Translation.{Row, Located, lookup, ◌⧺◌, offset, Built, joined, keyed, rhs_meta, rhs}
use Rattle.documents.specs.Passing.{open_limit, pair_limit, nest_limit, Slot, covers, all_below, build}
use Rattle.documents.proofs.Lists.{on, and_then_assoc}
use Rattle.documents.proofs.Nodes.{depth_positive}
use Rattle.documents.proofs.Translation.{keys_keyed}
use Rattle.kahrs.proofs.RightSide.{AllMetas, Below, below_abst}
use Rattle.kahrs.proofs.Known.{Known}
use Rattle.compiled.proofs.Unlisted.{unlisted, unlisted_covers, under_below}
use Rattle.compiled.proofs.Rows.{slots, RowsGood, Found, absent, present, found}
use Rattle.compiled.proofs.Length.{count_rhs}

build-⧺ : (es : List Slot) (inside : Bool) (l nest : ℕ) (c d : Program) (hs : List ℕ)
    → build es inside l nest (c ⧺ d) hs ≡ and_then (build es inside l nest c hs) (build es inside l nest d)
build-⧺ es inside l nest End d hs = refl
build-⧺ es inside l nest (i ▸ c) d hs =
    ap (and_then (build es inside l nest i hs)) (fun_ext (build-⧺ es inside l nest c d)) ∙ sym (and_then_assoc (build es inside l nest i hs) _ _)

-- ---- Bodies behind their keys

body_count_keys : (a : Bodies) → body_count a ≡ length (keys a)
body_count_keys None = refl
body_count_keys (Body k c a) = ap suc (body_count_keys a)

-- ---- The code of a right side

module _ (tab : List Row) (good : RowsGood tab) where
  -- c, with n open LAMBDAs and m blocks and bodies around it, makes one term
  abbrev Makes : ℕ → ℕ → Program → Type 0
  Makes n m c = (inside : Bool) (l nest h : ℕ) (hs : List ℕ) → l + length hs ≡ n → nest + length hs ≡ m
      → build (slots tab) inside l nest c (h ∷ hs) ≡ some ((h + 1) ∷ hs)

  abbrev MakeEach : ℕ → ℕ → List Program → Type 0
  MakeEach n m [] = Unit {0}
  MakeEach n m (c ∷ cs) = Makes n m c × MakeEach n m cs

  abbrev MakesBuilt : (s : Sort) → ℕ → ℕ → Built s → Type 0
  MakesBuilt one n m c = Makes n m c
  MakesBuilt many n m cs = MakeEach n m cs

  joined_makes : (n m : ℕ) (cs : List Program) → MakeEach n m cs → (inside : Bool) (l nest h : ℕ) (hs : List ℕ) (d : Program)
      → l + length hs ≡ n → nest + length hs ≡ m
      → build (slots tab) inside l nest (joined cs d) (h ∷ hs) ≡ build (slots tab) inside l nest d ((h + length cs) ∷ hs)
  joined_makes n m [] a inside l nest h hs d p q = let e : h + 0 ≡ h = omega arith in rw e
  joined_makes n m (c ∷ cs) a inside l nest h hs d p q =
      let e : h + 1 + length cs ≡ h + suc (length cs) = omega arith in
      build-⧺ (slots tab) inside l nest c (joined cs d) (h ∷ hs)
      ∙ ap (λ (o : Option (List ℕ)). and_then o (build (slots tab) inside l nest (joined cs d))) (a.0 inside l nest h hs p q)
      ∙ joined_makes n m cs a.1 inside l nest (h + 1) hs d p q
      ∙ ap (λ (k : ℕ). build (slots tab) inside l nest d (k ∷ hs)) e

  -- each body makes one term, n being the LAMBDAs open at the PUSHI and m the blocks and bodies around it
  bodies_obey_lem : (n m : ℕ) (ks : List ℕ) (cs : List Program) → m < nest_limit → MakeEach n (m + 1) cs → T (build (slots tab) true n m (keyed ks cs))
  bodies_obey_lem n m [] cs lo a = tt
  bodies_obey_lem n m (k ∷ ks) [] lo a = tt
  bodies_obey_lem n m (k ∷ ks) (c ∷ cs) lo a =
      rw (lt-ltb m nest_limit lo, a.0 true n (m + 1) 0 [] (omega arith) (omega arith)) (bodies_obey_lem n m ks cs lo a.1)

  meta_makes : (n m k : ℕ) (cs : List Program) (o : Option Located) → m < nest_limit → k ≤ argument_limit → length cs ≡ k → (o ≡ none → ⊥) → Found k tab o
      → MakeEach n (m + 1) cs → Makes n m (rhs_meta n cs o)
  meta_makes n m k cs o lo c e known absent a = absurd (known refl)
  meta_makes n m k cs o lo c e known (present {b = b} {l = ks} g r) a = λ inside l nest h hs p q.
      let w = r.2 in
      let v = keys_keyed ks cs (r.3 ∙ sym e) in
      let u = body_count_keys (keyed ks cs) in
      let x : l + (suc (length hs) - 1) ≡ n = omega arith in
      let y : nest + (suc (length hs) - 1) ≡ m = omega arith in
      rw (
        g,
        x,
        y,
        eq-eqb (offset n b + b) (n + d_shift) (omega arith),
        le-leb (body_count (keyed ks cs)) pair_limit (omega (arith, ap length v, r.3)),
        v,
        on (all_below b ks) (under_below b ks r.1),
        on (covers b (unlisted b ks) ks) (unlisted_covers b ks),
        on (build (slots tab) true n m (keyed ks cs)) (bodies_obey_lem n m ks cs lo a),
      )

  pub right_makes : {s : Sort} (n m : ℕ) (t : Tm s) → n ≤ m → m + depth t ≤ nest_limit → Below n t → Fits t → AllMetas (Known tab) t → MakesBuilt s n m (rhs tab n t)
  right_makes n m (Var x) o d b f k = λ inside l nest h hs p q. rw (lt-ltb x (l + (suc (length hs) - 1)) (omega arith))
  right_makes n m (Sym s ts) o d b f k = λ inside l nest h hs p q.
      let w = count_rhs tab n ts in
      let v : h + len ts - len ts + 1 ≡ h + 1 = omega arith in
      joined_makes n m (rhs tab n ts) (right_makes n m ts o (omega arith) b f.2 k) inside l nest h hs (CELL s (len ts) ▸ End) p q
      ∙ (rw (w, le-leb s index_limit f.0, le-leb (len ts) argument_limit f.1, le-leb (len ts) (h + len ts) (omega arith), v))
  right_makes n m (Meta z ts) o d b f k =
      meta_makes n m (len ts) (rhs tab n ts) (lookup z (len ts) tab) (omega arith) f.1 (count_rhs tab n ts) k.0 (found z (len ts) tab good)
      (right_makes n (m + 1) ts (omega arith) (omega arith) b f.2 k.1)
  right_makes n m (Abst t) o d b f k = λ inside l nest h hs p q.
      let j = depth_positive t in
      rw (
        lt-ltb (l + (suc (length hs) - 1)) open_limit (omega arith),
        lt-ltb (nest + (suc (length hs) - 1)) nest_limit (omega arith),
        build-⧺ (slots tab) inside l nest (rhs tab (suc n) t) (ADBMAL ▸ End) (0 ∷ h ∷ hs),
        right_makes (suc n) (suc m) t (omega arith) (omega arith) (below_abst n t b) f k inside l nest 0 (h ∷ hs) (omega arith) (omega arith),
      )
  right_makes n m Nil o d b f k = tt
  right_makes n m (Cons t ts) o d b f k =
      (right_makes n m t o (omega arith) b.0 f.0 k.0, right_makes n m ts o (omega arith) b.1 f.1 k.1)
