-- A CELL or ADBMAL by its opcode: how many terms it takes, how many LAMBDAs are open in these and around it, the word of its node.
use mathlib.Core.Path.{◌≡◌, sym, ◌∙◌}
use Prim.Native.Nat.{ℕ, ◌+◌, ◌-◌, ◌≤◌}
use native.Mathlib.Omega.{arith}
use native.Mathlib.Decide.{ℕ_discrete}
use mathlib.Core.Bool.{true}
use mathlib.Core.List.{List}
use lib.Dec.{eqb}
use lib.ListN.{get_or}
use borrow.Author.Tests.{eq-eqb, ne_eqb, eqb-true}
use Rattle.documents.proofs.Lists.{on, T_of, of_and}
use Rattle.writer.specs.Wanted.{arguments_at, lambdas_in, lambdas_around, is_constant, head_at}

module _ (code : List ℕ) (at : ℕ) (op : get_or code at 0 ≡ 8) where
  pub cell_arguments : get_or code (at + 2) 0 ≡ arguments_at code at
  unfolding arguments_at
  cell_arguments = rw (eq-eqb (get_or code at 0) 8 op)

  pub cell_lambdas : (l : ℕ) → l ≡ lambdas_in code at l
  unfolding lambdas_in
  cell_lambdas l = rw (eq-eqb (get_or code at 0) 8 op)

  pub cell_around : (l : ℕ) → l ≡ lambdas_around code at l
  unfolding lambdas_around
  cell_around l = rw (eq-eqb (get_or code at 0) 8 op)

  pub cell_head : 65536 + get_or code (at + 1) 0 ≡ head_at code at
  unfolding head_at
  cell_head = rw (eq-eqb (get_or code at 0) 8 op)

module _ (code : List ℕ) (at : ℕ) (op : get_or code at 0 ≡ 8 → ⊥) where
  pub block_arguments : 1 ≡ arguments_at code at
  unfolding arguments_at
  block_arguments = rw (ne_eqb (get_or code at 0) 8 op)

  pub block_lambdas : (l : ℕ) → l + 1 ≡ lambdas_in code at l
  unfolding lambdas_in
  block_lambdas l = rw (ne_eqb (get_or code at 0) 8 op)

  pub block_around : (l : ℕ) → l - 1 ≡ lambdas_around code at l
  unfolding lambdas_around
  block_around l = rw (ne_eqb (get_or code at 0) 8 op)

  pub block_head : 196608 ≡ head_at code at
  unfolding head_at
  block_head = rw (ne_eqb (get_or code at 0) 8 op)

-- a symbol without arguments
pub constant_is : (code : List ℕ) (at : ℕ) → is_constant code at ≡ true → (get_or code at 0 ≡ 8) × (get_or code (at + 2) 0 ≡ 0)
unfolding is_constant
constant_is code at e =
    let b = of_and (eqb (get_or code at 0) 8) (eqb (get_or code (at + 2) 0) 0) (T_of _ e) in
    (eqb-true _ _ (on _ b.0), eqb-true _ _ (on _ b.1))

-- from around a node into it, and out again
module _ (code : List ℕ) (at outer : ℕ) {l : ℕ} (i : l ≡ lambdas_in code at outer) where
  pub in_least : outer ≤ l
  in_least = go (ℕ_discrete (get_or code at 0) 8)
    where
      go : Dec (get_or code at 0 ≡ 8) → outer ≤ l
      go (yes op) = let e = i ∙ sym (cell_lambdas code at op outer) in omega arith
      go (no op) = let e = i ∙ sym (block_lambdas code at op outer) in omega arith

  pub around_in : lambdas_around code at l ≡ outer
  around_in = go (ℕ_discrete (get_or code at 0) 8)
    where
      go : Dec (get_or code at 0 ≡ 8) → lambdas_around code at l ≡ outer
      go (yes op) = let e = i ∙ sym (cell_lambdas code at op outer) in let r = cell_around code at op l in omega arith
      go (no op) = let e = i ∙ sym (block_lambdas code at op outer) in let r = block_around code at op l in omega arith

  pub in_some : (get_or code at 0 ≡ 8 → ⊥) → 1 ≤ l
  in_some op = let e = i ∙ sym (block_lambdas code at op outer) in omega arith
