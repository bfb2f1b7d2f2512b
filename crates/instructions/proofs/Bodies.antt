-- The bodies of a PUSHI, one after the other: the first with a key, and the place behind them, which is where bodies that were read end.
use mathlib.Core.Path.{◌≡◌, refl, sym, ◌∙◌}
use Prim.Native.Nat.{ℕ, zero, suc, ◌+◌, ◌-◌, ◌≤◌, ◌<◌}
use native.Mathlib.Omega.{arith}
use mathlib.Core.Option.{Option, none, some}
use mathlib.Core.List.{List}
use lib.Dec.{leb}
use lib.ListN.{length, get_or}
use borrow.Author.Tests.{eq-eqb, ne_eqb, leb-true, leb-false}
use Rattle.documents.specs.Instructions.{None, Program, Bodies, ReadBodies, whole_bodies, body_then}
use Rattle.documents.proofs.Lists.{case, on, off}
use Rattle.instructions.specs.Places.{program_at, bodies_at}
use Rattle.instructions.specs.Bodies.{body_end, Readable, key_place, place_behind}
use Rattle.instructions.proofs.Reading.{nothing, bodies_done, bodies_short, bodies_step}

pub readable_more : (t : List ℕ) (q c : ℕ) → Readable t q c → 0 < c → (body_end t q ≤ length t) × Readable t (body_end t q) (c - 1)
readable_more t q zero r h = absurd (omega arith)
readable_more t q (suc c) r h = let e : suc c - 1 ≡ c = omega arith in rw e r

pub key_here : (t : List ℕ) (q c y : ℕ) → 0 < c → get_or t q 0 ≡ y → key_place t q c y ≡ some q
unfolding key_place
key_here t q zero y h e = absurd (omega arith)
key_here t q (suc c) y h e = rw (eq-eqb (get_or t q 0) y e)

pub key_later : (t : List ℕ) (q c y : ℕ) → 0 < c → ((get_or t q 0 ≡ y) → ⊥) → key_place t q c y ≡ key_place t (body_end t q) (c - 1) y
unfolding key_place
key_later t q zero y h n = absurd (omega arith)
key_later t q (suc c) y h n = let e : suc c - 1 ≡ c = omega arith in rw (ne_eqb (get_or t q 0) y n, e)

pub key_none : (t : List ℕ) (q c y : ℕ) → c ≤ 0 → key_place t q c y ≡ none
unfolding key_place
key_none t q zero y h = refl
key_none t q (suc c) y h = absurd (omega arith)

pub behind_later : (t : List ℕ) (q c : ℕ) → 0 < c → place_behind t q c ≡ place_behind t (body_end t q) (c - 1)
unfolding place_behind
behind_later t q zero h = absurd (omega arith)
behind_later t q (suc c) h = let e : suc c - 1 ≡ c = omega arith in rw e

pub behind_none : (t : List ℕ) (q c : ℕ) → c ≤ 0 → place_behind t q c ≡ q
unfolding place_behind
behind_none t q zero h = refl
behind_none t q (suc c) h = absurd (omega arith)

pub behind_low : (t : List ℕ) (q c : ℕ) → q ≤ place_behind t q c
unfolding place_behind
behind_low t q zero = omega arith
behind_low t q (suc c) = let h = behind_low t (body_end t q) c in omega arith

-- bodies that were read lie within the code, and what is left of the words before e begins behind them
pub record Ends (t : List ℕ) (q e n m : ℕ) : Type 0 where
  pub readable : Readable t q n
  pub high : place_behind t q n ≤ e
  pub same : e - m ≡ place_behind t q n

pub bodies_end : {t : List ℕ} {e : ℕ} (n q : ℕ) (b : Bodies) (m : ℕ) → e ≤ length t → q ≤ e → bodies_at t q e n ≡ some (whole_bodies b m) → Ends t q e n m
unfolding place_behind
bodies_end {t} {e} zero q b m hi lo w =
    let z : some (whole_bodies None (e - q)) ≡ some (whole_bodies b m) = sym (bodies_done t q e) ∙ w in
    let y : e - q ≡ m = cc in
    record { readable = tt; high = lo; same = omega arith }
bodies_end {t} {e} (suc k) q b m hi lo w =
    case (λ x. Ends t q e (suc k) m) (leb (body_end t q) e)
    (λ y.
    let l = leb-true (body_end t q) e (on _ y) in
    go l (program_at t (q + 2) (body_end t q)) (bodies_at t (body_end t q) e k) (λ a j h. bodies_end k (body_end t q) a j hi l h) (sym (bodies_step t q e k l hi) ∙ w))
    (λ y. nothing (sym (bodies_short t q e k (leb-false (body_end t q) e (off _ y))) ∙ w))
  where
    go : body_end t q ≤ e → (c : Option Program) (o : Option ReadBodies) → ((a : Bodies) (j : ℕ) → o ≡ some (whole_bodies a j) → Ends t (body_end t q) e k j)
        → body_then (get_or t q 0) c o ≡ some (whole_bodies b m) → Ends t q e (suc k) m
    go l none o f w = nothing w
    go l (some c) none f w = nothing w
    go l (some c) (some (whole_bodies a j)) f w =
        let z : j ≡ m = cc in
        let r = f a j refl in
        record { readable = (omega arith, r.readable); high = r.high; same = rw (sym z) r.same }

-- a walk of the bodies that looks for a key
pub record Finding (t : List ℕ) (q₀ c₀ y q c : ℕ) : Type 0 where
  pub readable : Readable t q c
  pub same : key_place t q c y ≡ key_place t q₀ c₀ y

pub finding_from : {t : List ℕ} {q c y : ℕ} → Readable t q c → Finding t q c y q c
finding_from r = record { readable = r; same = refl }

module _ {t : List ℕ} {q₀ c₀ y q c : ℕ} (f : Finding t q₀ c₀ y q c) where
  pub finding_in : 0 < c → body_end t q ≤ length t
  finding_in h = (readable_more t q c f.readable h).0

  pub finding_on : {d : ℕ} → 0 < c → d ≡ c - 1 → ((get_or t q 0 ≡ y) → ⊥) → Finding t q₀ c₀ y (body_end t q) d
  finding_on h e n = rw e record { readable = (readable_more t q c f.readable h).1; same = sym (key_later t q c y h n) ∙ f.same }

  pub finding_here : 0 < c → get_or t q 0 ≡ y → key_place t q₀ c₀ y ≡ some q
  finding_here h e = sym f.same ∙ key_here t q c y h e

  pub finding_none : c ≤ 0 → key_place t q₀ c₀ y ≡ none
  finding_none h = sym f.same ∙ key_none t q c y h

-- a walk of the bodies to their end
pub record Passing (t : List ℕ) (q₀ c₀ q c : ℕ) : Type 0 where
  pub readable : Readable t q c
  pub same : place_behind t q c ≡ place_behind t q₀ c₀

pub passing_from : {t : List ℕ} {q c : ℕ} → Readable t q c → Passing t q c q c
passing_from r = record { readable = r; same = refl }

module _ {t : List ℕ} {q₀ c₀ q c : ℕ} (f : Passing t q₀ c₀ q c) where
  pub passing_in : 0 < c → body_end t q ≤ length t
  passing_in h = (readable_more t q c f.readable h).0

  pub passing_on : {d : ℕ} → 0 < c → d ≡ c - 1 → Passing t q₀ c₀ (body_end t q) d
  passing_on h e = rw e record { readable = (readable_more t q c f.readable h).1; same = sym (behind_later t q c h) ∙ f.same }

  pub passing_end : c ≤ 0 → q ≡ place_behind t q₀ c₀
  passing_end h = sym (behind_none t q c h) ∙ f.same
