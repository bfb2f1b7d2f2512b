-- The bodies of a PUSHI by their keys: the body that a key names, its tree among the trees, and that no two lie over each other.
use mathlib.Core.Path.{◌≡◌, refl, sym, ap, ap₂, ◌∙◌}
use mathlib.Core.Logic.{◌⊎◌, inl, inr}
use Prim.Native.Nat.{ℕ, zero, suc, ◌+◌, ◌-◌, ◌≤◌}
use native.Mathlib.Omega.{arith}
use mathlib.Core.Bool.{Bool, true, false, cond}
use mathlib.Core.Option.{Option, none, some}
use mathlib.Core.List.{List, [], ◌∷◌}
use lib.Dec.{eqb}
use lib.ListN.{length, get_or}
use Rattle.documents.specs.Lists.{assoc, pairlists}
use Rattle.documents.specs.Terms.{Term}
use Rattle.documents.specs.Instructions.{Program, Bodies, keys}
use Rattle.documents.proofs.Lists.{never}
use Rattle.instructions.specs.Places.{program_at}
use Rattle.instructions.specs.Bodies.{body_end, Readable, key_place, place_behind}
use Rattle.instructions.proofs.Reading.{nothing}
use Rattle.instructions.proofs.Bodies.{behind_low}
use Rattle.trees.specs.Trees.{More, count, top_of, grown, nodes_of, depth_of, reach_of}
use Rattle.links.specs.Sequences.{tree_in, tree_at, Sequenced, Bodied, keys_at, trees_at}
use Rattle.links.proofs.Ran.{Held, HeldNext, held_next, held_none}

-- ---- The first of c keys from q on that is y stands at k

pub record KeyAt (code : List ℕ) (q c y k : ℕ) : Type 0 where
  pub low : q ≤ k
  pub high : body_end code k ≤ place_behind code q c
  pub nodes : (ent : ℕ → Term) → assoc (pairlists (keys_at code q c) (nodes_of ent (trees_at code q c))) y ≡ some (nodes_of ent (tree_at code (k + 2) (body_end code k)))
  pub depth : (ent : ℕ → Term) → assoc (pairlists (keys_at code q c) (depth_of ent (trees_at code q c))) y ≡ some (depth_of ent (tree_at code (k + 2) (body_end code k)))
  pub reach : (ent : ℕ → Term) → assoc (pairlists (keys_at code q c) (reach_of ent (trees_at code q c))) y ≡ some (reach_of ent (tree_at code (k + 2) (body_end code k)))

-- none of them is
pub record NoKey (code : List ℕ) (q c y : ℕ) : Type 0 where
  pub nodes : (ent : ℕ → Term) → assoc (pairlists (keys_at code q c) (nodes_of ent (trees_at code q c))) y ≡ none
  pub depth : (ent : ℕ → Term) → assoc (pairlists (keys_at code q c) (depth_of ent (trees_at code q c))) y ≡ none
  pub reach : (ent : ℕ → Term) → assoc (pairlists (keys_at code q c) (reach_of ent (trees_at code q c))) y ≡ none

something : {A P : Type 0} {a : A} → some a ≡ none → P
something e = never (cc)

inside : {A : Type 0} {a b : A} → some a ≡ some b → a ≡ b
inside e = cc

-- the first key is y, or a later one
key_step : {P : Type 0} {r : Option ℕ} (code : List ℕ) (q c y : ℕ) → key_place code q (suc c) y ≡ r
    → (eqb (get_or code q 0) y ≡ true → some q ≡ r → P) → (eqb (get_or code q 0) y ≡ false → key_place code (body_end code q) c y ≡ r → P) → P
unfolding key_place
key_step {P} {r} code q c y e f g = go (eqb (get_or code q 0) y) refl e
  where
    go : (b : Bool) → eqb (get_or code q 0) y ≡ b → cond b (some q) (key_place code (body_end code q) c y) ≡ r → P
    go true p e = f p e
    go false p e = g p e

no_keys : {P : Type 0} {k : ℕ} (code : List ℕ) (q y : ℕ) → key_place code q 0 y ≡ some k → P
unfolding key_place
no_keys code q y e = nothing e

pub key_at : (code : List ℕ) (q c y k : ℕ) → key_place code q c y ≡ some k → KeyAt code q c y k
unfolding place_behind keys_at trees_at
key_at code q zero y k e = no_keys code q y e
key_at code q (suc c) y k e =
    key_step code q c y e
    (λ p w.
    let z : q ≡ k = inside w in
    let h = behind_low code (body_end code q) c in
    rw (sym z) (record { low = omega arith; high = h; nodes = λ ent. rw p; depth = λ ent. rw p; reach = λ ent. rw p }))
    (λ p w.
    let r = key_at code (body_end code q) c y k w in
    let l = r.low in
    record { low = omega arith; high = r.high; nodes = λ ent. rw p (r.nodes ent); depth = λ ent. rw p (r.depth ent); reach = λ ent. rw p (r.reach ent) })

pub key_missing_lem : (code : List ℕ) (q c y : ℕ) → key_place code q c y ≡ none → NoKey code q c y
unfolding keys_at trees_at
key_missing_lem code q zero y e = record { nodes = λ ent. refl; depth = λ ent. refl; reach = λ ent. refl }
key_missing_lem code q (suc c) y e =
    key_step code q c y e (λ p w. something w)
    (λ p w.
    let r = key_missing_lem code (body_end code q) c y w in
    record { nodes = λ ent. rw p (r.nodes ent); depth = λ ent. rw p (r.depth ent); reach = λ ent. rw p (r.reach ent) })

-- two bodies do not lie over each other
pub keys_apart : (code : List ℕ) (q c y z k j : ℕ) → key_place code q c y ≡ some k → key_place code q c z ≡ some j
    → (k ≡ j) ⊎ ((body_end code k ≤ j) ⊎ (body_end code j ≤ k))
keys_apart code q zero y z k j e f = no_keys code q y e
keys_apart code q (suc c) y z k j e f =
    key_step code q c y e
    (λ p w.
    let a : q ≡ k = inside w in
    key_step code q c z f
    (λ s v. let b : q ≡ j = inside v in inl (sym a ∙ b))
    (λ s v. let l = (key_at code (body_end code q) c z j v).low in inr (inl (rw a at l))))
    (λ p w.
    key_step code q c z f
    (λ s v. let b : q ≡ j = inside v in let l = (key_at code (body_end code q) c y k w).low in inr (inr (rw b at l)))
    (λ s v. keys_apart code (body_end code q) c y z k j w v))

-- ---- Bodies that make one tree each

pub body_at : (code : List ℕ) (q c y k E : ℕ) → Bodied code q c E → key_place code q c y ≡ some k
    → (body_end code k ≤ length code) × Sequenced code (k + 2) (body_end code k) E
body_at code q zero y k E b e = no_keys code q y e
body_at code q (suc c) y k E b e =
    key_step code q c y e (λ p w. let z : q ≡ k = inside w in rw (sym z) (b.0, b.1)) (λ p w. body_at code (body_end code q) c y k E b.2 w)

pub bodied_readable : (code : List ℕ) (q c E : ℕ) → Bodied code q c E → Readable code q c
bodied_readable code q zero E b = b
bodied_readable code q (suc c) E b = (b.0, bodied_readable code (body_end code q) c E b.2)

-- ---- As many trees as bodies

pub count_trees : (t : List ℕ) (q c : ℕ) → count (trees_at t q c) ≡ c
unfolding trees_at
count_trees t q zero = refl
count_trees t q (suc c) = let h = count_trees t (body_end t q) c in omega arith

-- ---- What was read is what stands at its place

pub tree_here : (t : List ℕ) (a e : ℕ) {c : Program} → program_at t a e ≡ some c → top_of (grown c []) ≡ tree_at t a e
unfolding tree_at
tree_here t a e h = ap tree_in (sym h)

pub held_trees : {t : List ℕ} {q e E n : ℕ} {b : Bodies} → Held t q e E n b → e ≤ length t → (keys b ≡ keys_at t q n) × (grown b ≡ trees_at t q n) × Bodied t q n E
unfolding keys_at trees_at
held_trees {n = zero} s hi =
    let z = held_none s refl in
    let l = s.within in
    (ap keys z, ap (λ (a : Bodies). grown a) z, omega arith)
held_trees {t} {q} {e} {E} {n = suc k} {b} s hi =
    let m : suc k - 1 ≡ k = omega arith in
    let r : HeldNext t q e E k b = rw m at (held_next s hi (omega arith)) in
    let l = r.within in
    let i = r.inside in
    let o = held_trees {q = body_end t q} {n = k} r.behind hi in (
      ap keys r.is ∙ ap (λ l. get_or t q 0 ∷ l) o.0,
      ap (λ (a : Bodies). grown a) r.is ∙ ap₂ More (tree_here t (q + 2) (body_end t q) i.here) o.1,
      (omega arith, record { program = r.body; here = i.here; runs = i.runs }, o.2),
    )
