-- A stack of trees that stand, the newest first, each one's link naming the root of the one below it.
use mathlib.Core.Path.{◌≡◌, refl, ap, ◌∙◌}
use Prim.Native.Nat.{ℕ, zero, suc, ◌≤◌, ◌<◌, max}
use native.Mathlib.Nat.{max_comm}
use native.Mathlib.Omega.{arith}
use native.Mathlib.Nat.{le_of_suc-le-suc, not-suc-le-zero}
use mathlib.Core.List.{List, [], ◌∷◌}
use lib.ListN.{length, get_or}
use Rattle.documents.specs.Terms.{one, many}
use Rattle.trees.specs.Trees.{Tree, Cell, Block, Bound, Whole, Pushed, More, count, taken, left, greatest, depth_of}
use Rattle.links.specs.Links.{before_in, depth_in, capped}
use Rattle.links.specs.Standing.{entry_at, back, root, last, Stands}
use Rattle.links.proofs.Spread.{capped_both}
use Rattle.measurer.specs.Linking.{deepest_back}
use Rattle.measurer.proofs.Linking.{max_assoc}
use Rattle.measurer.proofs.Standing.{stands_kept, root_in}

capped_more : (m d dp g : ℕ) → capped m ≡ capped g → d ≡ capped dp → capped (max m d) ≡ capped (max dp g)
capped_more m d dp g e f = capped_both m d g dp e (omega arith) ∙ ap capped (max_comm g dp)

module _ (code subject entries places : List ℕ) where
  abbrev pub Stack : ℕ → ℕ → List ℕ → List (Tree one) → ℕ → Type 0
  Stack lo hi work [] z = Unit {0}
  Stack lo hi work (p ∷ st) z = Stands code subject entries places lo hi work p (root z) × Stack lo hi work st (before_in (get_or work z 0))

  module _ (work : List ℕ) (lo hi : ℕ) where
    pub stands_deep : (p : Tree one) (z : ℕ) → Stands code subject entries places lo hi work p (root z) → depth_in (get_or work z 0) ≡ capped (depth_of (entry_at subject entries) p)
    stands_deep (Cell s ps) z h = h.0.deep
    stands_deep (Block p) z h = h.0.deep
    stands_deep (Bound x) z h = h.0.deep
    stands_deep (Whole e) z h = h.0.deep
    stands_deep (Pushed e D ks ps) z h = h.0.deep

    pub stands_falls : (p : Tree one) (z : ℕ) → Stands code subject entries places lo hi work p (root z) → before_in (get_or work z 0) < z
    stands_falls (Cell s ps) z h = h.0.before_falls
    stands_falls (Block p) z h = h.0.before_falls
    stands_falls (Bound x) z h = h.0.before_falls
    stands_falls (Whole e) z h = h.0.before_falls
    stands_falls (Pushed e D ks ps) z h = h.0.before_falls

    back_one : (k z : ℕ) → before_in (get_or work (back work k z) 0) ≡ back work (suc k) z
    back_one zero z = refl
    back_one (suc k) z = back_one k (before_in (get_or work z 0))

    pub back_falls : (n : ℕ) (st : List (Tree one)) (z b : ℕ) → n ≤ length st → Stack lo hi work st z → z < b → back work n z < b
    back_falls zero st z b h s l = l
    back_falls (suc n) [] z b h s l = absurd (not-suc-le-zero h)
    back_falls (suc n) (p ∷ st) z b h s l = back_falls n st (before_in (get_or work z 0)) b (le_of_suc-le-suc h) s.1 (let k = stands_falls p z s.0 in omega arith)

    pub record Taken (n : ℕ) (ps : Tree many) (st : List (Tree one)) (z₀ : ℕ) : Type 0 where
      pub args : Stands code subject entries places lo hi work (taken n ps st) (last z₀)
      pub rest : Stack lo hi work (left n st) (back work n (back work (count ps) z₀))

    -- the newest n of them as the arguments of an instruction
    pub stack_taken : (n : ℕ) (ps : Tree many) (st : List (Tree one)) (z₀ : ℕ) → n ≤ length st → Stands code subject entries places lo hi work ps (last z₀)
        → Stack lo hi work st (back work (count ps) z₀) → Taken n ps st z₀
    stack_taken zero ps st z₀ h a s = record { args = a; rest = s }
    stack_taken (suc n) ps [] z₀ h a s = absurd (not-suc-le-zero h)
    stack_taken (suc n) ps (p ∷ st) z₀ h a s =
        let e = back_one (count ps) z₀ in
        let r = stack_taken n (More p ps) st z₀ (le_of_suc-le-suc h) (a, s.0) (rw e at s.1) in
        record { args = r.args; rest = rw e r.rest }

    -- and how deep they are
    pub deepest_taken : (n : ℕ) (ps : Tree many) (st : List (Tree one)) (z m : ℕ) → n ≤ length st → Stack lo hi work st z
        → capped m ≡ capped (greatest (depth_of (entry_at subject entries) ps))
        → capped (max m (deepest_back work n z)) ≡ capped (greatest (depth_of (entry_at subject entries) (taken n ps st)))
    deepest_taken zero ps st z m h s e = let k : max m 0 ≡ m = omega arith in rw k e
    deepest_taken (suc n) ps [] z m h s e = absurd (not-suc-le-zero h)
    deepest_taken (suc n) ps (p ∷ st) z m h s e =
        let d = stands_deep p z s.0 in
        let k = max_assoc m (depth_in (get_or work z 0)) (deepest_back work n (before_in (get_or work z 0))) in
        rw (← k) (deepest_taken n (More p ps) st (before_in (get_or work z 0)) (max m (depth_in (get_or work z 0))) (le_of_suc-le-suc h) s.1 (capped_more m _ _ _ e d))

  -- it stands where the words between its bounds are as they were
  pub stack_kept : (work work' : List ℕ) (lo hi lo' hi' : ℕ) → ((i : ℕ) → lo ≤ i → i < hi → get_or work' i 0 ≡ get_or work i 0) → lo' ≤ lo → hi ≤ hi'
      → (st : List (Tree one)) (z : ℕ) → Stack lo hi work st z → Stack lo' hi' work' st z
  stack_kept work work' lo hi lo' hi' a l h [] z s = tt
  stack_kept work work' lo hi lo' hi' a l h (p ∷ st) z s =
      let i = root_in code subject entries places work work' lo hi lo' hi' a l h p z s.0 in (
        stands_kept code subject entries places work work' lo hi lo' hi' a l h p (root z) s.0,
        rw (a z i.0 i.1) (stack_kept work work' lo hi lo' hi' a l h st (before_in (get_or work z 0)) s.1),
      )
