-- Rules laid one after the other: what is laid so far, and that the table comes to these rules and to what the words behind them come to.
use mathlib.Core.Path.{◌≡◌, refl, sym, ap, ◌∙◌}
use mathlib.Core.Logic.{◌⊎◌, inl, inr, ⊎_elim}
use Prim.Native.Nat.{ℕ, zero, suc, ◌+◌, ◌-◌, ◌≤◌, ◌<◌}
use native.Mathlib.Numerals.{add-one}
use native.Mathlib.Omega.{arith}
use mathlib.Core.Bool.{Bool, true, false, ◌&&◌, cond}
use mathlib.Core.Option.{Option, none, some}
use mathlib.Core.List.{List, [], ◌∷◌, ◌++◌, append_assoc, append-nil}
use lib.Dec.{leb}
use lib.ListN.{length, get_or, get_elem?, set, take, drop, length-append, length-drop, length-set, drop_of_length-le, get_or-append}
use lib.Seq.{drop-drop, get_or_at, take-suc-set}
use Rattle.std.specs.Prelude.{Ok, Err}
use borrow.Author.Tests.{le-leb, lt-leb}
use Rattle.documents.specs.declared.Refusal.{Refusal}
use Rattle.documents.specs.declared.Refusal.TheVariants.{DoesNotPass}
use Rattle.documents.specs.Limits.{code_limit}
use Rattle.documents.specs.Instructions.{Program, program_in}
use Rattle.documents.specs.Passing.{obeys, passes, and_then_holds}
use Rattle.documents.specs.Numbers.{Answer, answered, refused, with, code_in}
use Rattle.documents.proofs.Lists.{never, at_cons, both_true}
use Rattle.checker.specs.Matched.{verdict}
use Rattle.rewriting.specs.RuleTable.{whole, cut, listed, listed_in, rules_in}
use Rattle.rewriting.specs.ListCall.{rule_limit}
use Rattle.rewriting.proofs.RuleTables.{rules_cons}
use Rattle.rule_table.specs.Places.{code_at, Placed, Places, LaidAs}
use Rattle.rule_table.proofs.Placed.{member_below}
use Rattle.rule_table.proofs.Counting.{counted_at}

-- ---- One place more

last_member : {A : Type 0} (l : List A) (a : A) (i : ℕ) (b : A) → get_elem? (l ++ (a ∷ [])) i ≡ some b → (get_elem? l i ≡ some b) ⊎ ((i ≡ length l) × (a ≡ b))
last_member [] a zero b e = inr (refl, cc)
last_member [] a (suc i) b e = never (cc)
last_member (x ∷ l) a zero b e = inl e
last_member (x ∷ l) a (suc i) b e = ⊎_elim inl (λ h. inr (ap suc h.0, h.1)) (last_member l a i b e)

places_more : (rules starts : List ℕ) (cs : List Program) (at : ℕ) (c : Program) → Places rules starts cs → length cs < rule_limit → Placed rules at c
    → Places rules (starts ++ (at ∷ [])) (cs ++ (c ∷ []))
places_more rules starts cs at c p few q = record {
  count = omega (arith, length-append starts (at ∷ []), length-append cs (c ∷ []), p.count);
  few = omega (arith, length-append cs (c ∷ []));
  each = λ i d e. ⊎_elim
      (λ h. let l = member_below cs i d h in rw (get_or-append starts (at ∷ []) 0 i (omega (arith, p.count))) (p.each i d h))
      (λ h. rw (get_or_at starts at [] 0 i (p.count ∙ sym h.0), ← h.1) q)
      (last_member cs c i d e);
}

-- ---- What the words from a place on come to

rules_at : (rules : List ℕ) (at : ℕ) → at < length rules
    → rules_in (drop at rules) ≡ with (listed_in (cond (leb (get_or rules at 0) (length (drop (at + 1) rules))) (whole (code_at rules at)) cut))
    (λ c. with (rules_in (drop (at + 1 + get_or rules at 0) rules)) (λ cs. answered (c ∷ cs)))
unfolding code_at
rules_at rules at h =
    ap rules_in (at_cons rules at h)
    ∙ rules_cons (get_or rules at 0) (drop (at + 1) rules)
    ∙ rw (drop-drop (get_or rules at 0) (at + 1) rules)

code_good : (code : List ℕ) → passes code ≡ true → (c : Program) × (code_in code ≡ answered c)
unfolding code_in
code_good code e = go (program_in code) refl
  where
    go : (o : Option Program) → program_in code ≡ o → (c : Program) × (code_in code ≡ answered c)
    go none q = let h = (both_true (leb 1 (length code) && leb (length code) code_limit) (and_then_holds (program_in code) obeys) e).1 in never (cc (rw q at h))
    go (some c) q = (c, rw (e, q))

with_with : {A B C : Type 0} (o : Answer A) (f : A → Answer B) (g : B → Answer C) → with (with o f) g ≡ with o (λ a. with (f a) g)
with_with (answered a) f g = refl
with_with (refused w) f g = refl

pub record Laying (rules starts : List ℕ) (at count : ℕ) : Type 0 where
  pub inside : at ≤ length rules
  pub long : length starts ≡ rule_limit
  pub few : count + length (listed (drop at rules)) ≤ rule_limit
  pub programs : List Program
  pub many : length programs ≡ count
  pub places : Places rules (take count starts) programs
  pub table : rules_in rules ≡ with (rules_in (drop at rules)) (λ cs. answered (programs ++ cs))

pub laying_none : (rules starts : List ℕ) → length (listed rules) ≤ rule_limit → length starts ≡ rule_limit → Laying rules starts 0 0
laying_none rules starts few long = record {
  inside = omega arith;
  long = long;
  few = omega arith;
  programs = [];
  many = refl;
  places = record { count = refl; few = omega arith; each = λ i c e. never (cc) };
  table = sym (with_itself (rules_in rules));
}
  where
    with_itself : (o : Answer (List Program)) → with o (λ cs. answered cs) ≡ o
    with_itself (answered cs) = refl
    with_itself (refused w) = refl

module _ {rules starts : List ℕ} {at count : ℕ} (l : Laying rules starts at count) where
  pub laid_all : length rules ≤ at → LaidAs rules starts (Ok count)
  unfolding rules_in
  laid_all h = (l.programs, l.table ∙ rw (drop_of_length-le rules h, append-nil l.programs), omega (arith, l.long, l.few), l.places)

  module _ (h : at < length rules) where
    pub laid_room : count < rule_limit
    laid_room = omega (arith, l.few, counted_at rules at h)

    pub laid_cut : length rules - at - 1 < get_or rules at 0 → rules_in rules ≡ refused DoesNotPass
    laid_cut c =
        l.table
        ∙ rw (rules_at rules at h, lt-leb (get_or rules at 0) (length (drop (at + 1) rules)) (omega (arith, length-drop (at + 1) rules)))

    module _ (fits : at + 1 + get_or rules at 0 ≤ length rules) where
      rules_whole : rules_in (drop at rules)
          ≡ with (code_in (code_at rules at)) (λ c. with (rules_in (drop (at + 1 + get_or rules at 0) rules)) (λ cs. answered (c ∷ cs)))
      rules_whole = rw (rules_at rules at h, le-leb (get_or rules at 0) (length (drop (at + 1) rules)) (omega (arith, length-drop (at + 1) rules)))

      pub laid_refused : (w : Refusal) → Err w ≡ verdict (passes (code_at rules at)) → rules_in rules ≡ refused w
      unfolding code_in
      laid_refused w e = go (passes (code_at rules at)) refl e
        where
          go : (q : Bool) → passes (code_at rules at) ≡ q → Err w ≡ verdict q → rules_in rules ≡ refused w
          go true q e = never (cc)
          go false q e = let r : w ≡ DoesNotPass = cc in l.table ∙ rw (rules_whole, q, r)

      -- one rule more
      pub laid_more : passes (code_at rules at) ≡ true → Laying rules (set starts count at) (at + 1 + get_or rules at 0) (count + 1)
      laid_more e =
          let (c, a) = code_good (code_at rules at) e in
          let few : length l.programs < rule_limit = omega (arith, l.many, laid_room) in
          let p = places_more rules (take count starts) l.programs at c l.places few (record { inside = fits; code = a }) in
          let rest = rules_in (drop (at + 1 + get_or rules at 0) rules) in
          record {
            inside = fits;
            long = length-set starts count at ∙ l.long;
            few = omega (arith, l.few, counted_at rules at h);
            programs = l.programs ++ (c ∷ []);
            many = omega (arith, length-append l.programs (c ∷ []), l.many);
            places = rw (add-one count, take-suc-set starts count at (omega (arith, l.long, laid_room))) p;
            table = l.table ∙ rw (rules_whole, a) (with_with rest (λ cs. answered (c ∷ cs)) (λ cs. answered (l.programs ++ cs)) ∙ simp append_assoc);
          }

-- what the check says of a rule's code
pub passes_told : (q : Bool) {u : Unit {0}} → Ok u ≡ verdict q → q ≡ true
passes_told true e = refl
passes_told false e = never (cc)
