-- The links of instructions, and keys that are cleared, one after the other.
use mathlib.Core.Path.{◌≡◌, refl, sym, ap, ap₂, subst, ◌∙◌}
use Prim.Native.Nat.{ℕ, zero, suc, ◌+◌, ◌≤◌, ◌<◌, max}
use native.Mathlib.Omega.{arith}
use mathlib.Core.List.{List}
use lib.ListN.{length, get_or, set, length-set}
use borrow.Author.Tests.{eq-eqb, ne_eqb}
use Rattle.instructions.specs.Bodies.{body_end, Readable, place_behind}
use Rattle.links.specs.Links.{link_of, before_in, depth_in, capped}
use Rattle.links.specs.Standing.{back}
use Rattle.measurer.specs.Linking.{deepest_back, over_link, plain_link, place_next, forgotten}

-- ---- Back over n trees

pub record Backing (work : List ℕ) (n₀ z₀ n z deep : ℕ) : Type 0 where
  pub same : back work n z ≡ back work n₀ z₀
  pub deepest : max deep (deepest_back work n z) ≡ deepest_back work n₀ z₀
  pub low : z < 4096
  pub small : deep ≤ 255

pub max_assoc : (a b c : ℕ) → max (max a b) c ≡ max a (max b c)
max_assoc a b c = omega arith

none_back : (work : List ℕ) (n z : ℕ) → n ≤ 0 → back work n z ≡ z
none_back work zero z h = refl
none_back work (suc n) z h = absurd (omega arith)

none_deepest : (work : List ℕ) (n z : ℕ) → n ≤ 0 → deepest_back work n z ≡ 0
none_deepest work zero z h = refl
none_deepest work (suc n) z h = absurd (omega arith)

module _ {work : List ℕ} {n₀ z₀ n z deep : ℕ} (b : Backing work n₀ z₀ n z deep) where
  pub backing_on : {m d z' deep' : ℕ} → suc m ≡ n → z' ≡ before_in (get_or work z 0) → z' < 4096 → d ≡ depth_in (get_or work z 0) → d ≤ 255 → deep' ≡ max deep d
      → Backing work n₀ z₀ m z' deep'
  backing_on {m} {d} {z'} {deep'} en ez lo ed small em =
      record {
        same = rw ez (ap (λ k. back work k z) en ∙ b.same);
        deepest = rw (em, ez, ed) (max_assoc deep _ _ ∙ ap (λ k. max deep (deepest_back work k z)) en ∙ b.deepest);
        low = lo;
        small = let k = b.small in omega arith;
      }

  pub backing_end : {d w : ℕ} → n ≤ 0 → w ≡ link_of z z₀ d → d ≡ capped (deep + 1) → w ≡ over_link work n₀ z₀
  unfolding over_link
  backing_end {d} {w} h e f =
      let s : z ≡ back work n₀ z₀ = sym (none_back work n z h) ∙ b.same in
      let k : deep ≡ deepest_back work n₀ z₀ = let k = none_deepest work n z h in let j = b.deepest in omega arith in
      e ∙ ap (link_of z z₀) f ∙ ap₂ (λ (x y : ℕ). link_of x z₀ (capped (y + 1))) s k

-- ---- One instruction

module _ (code : List ℕ) (at : ℕ) (work : List ℕ) (z : ℕ) where
  pub link_pushvar : get_or code at 0 ≡ 11 → link_of z 0 1 ≡ plain_link code at work z
  unfolding plain_link
  link_pushvar e = rw (eq-eqb (get_or code at 0) 11 e)

  pub link_adbmal : get_or code at 0 ≡ 10 → over_link work 1 z ≡ plain_link code at work z
  unfolding plain_link
  link_adbmal e = rw (ne_eqb (get_or code at 0) 11 (λ k. omega arith), eq-eqb (get_or code at 0) 10 e)

  pub link_cell : (get_or code at 0 ≡ 11 → ⊥) → (get_or code at 0 ≡ 10 → ⊥) → over_link work (get_or code (at + 2) 0) z ≡ plain_link code at work z
  unfolding plain_link
  link_cell n m = rw (ne_eqb (get_or code at 0) 11 n, ne_eqb (get_or code at 0) 10 m)

pub next_whole : (code : List ℕ) (at : ℕ) → get_or code at 0 ≡ 12 → at + 2 ≡ place_next code at
unfolding place_next
next_whole code at e = rw (eq-eqb (get_or code at 0) 12 e)

pub next_push : (code : List ℕ) (at : ℕ) → (get_or code at 0 ≡ 12 → ⊥) → place_behind code (at + 4) (get_or code (at + 3) 0) ≡ place_next code at
unfolding place_next
next_push code at n = rw (ne_eqb (get_or code at 0) 12 n)

-- ---- Keys cleared

pub record Forgetting (code work₀ : List ℕ) (q₀ c₀ : ℕ) (work : List ℕ) (q c : ℕ) : Type 0 where
  pub readable : Readable code q c
  pub same : forgotten code work q c ≡ forgotten code work₀ q₀ c₀
  pub room : length code ≤ length work
  pub long : length work ≡ length work₀

module _ {code work₀ work : List ℕ} {q₀ c₀ q c : ℕ} (f : Forgetting code work₀ q₀ c₀ work q c) where
  pub forgetting_on : {m : ℕ} → suc m ≡ c → Forgetting code work₀ q₀ c₀ (set work q 0) (body_end code q) m
  unfolding forgotten
  forgetting_on {m} e =
      let r = subst (λ (k : ℕ). Readable code q k) (sym e) f.readable in
      record {
        readable = r.1;
        same = ap (forgotten code work q) e ∙ f.same;
        room = rw (length-set work q 0) f.room;
        long = length-set work q 0 ∙ f.long;
      }

  none_forgotten : c ≤ 0 → forgotten code work q c ≡ work
  unfolding forgotten
  none_forgotten h = go c h
    where
      go : (c : ℕ) → c ≤ 0 → forgotten code work q c ≡ work
      go zero h = refl
      go (suc c) h = absurd (omega arith)

  pub forgetting_end : c ≤ 0 → work ≡ forgotten code work₀ q₀ c₀
  forgetting_end h = sym (none_forgotten h) ∙ f.same
