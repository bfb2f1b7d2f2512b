-- The rules of a set, tried one after the other: `left` is the set without those that were tried, which all fail. Its lowest bit is the next rule to try.
use mathlib.Core.Path.{◌≡◌, refl, sym, ap, ◌∙◌}
use Prim.Native.Nat.{ℕ, zero, suc, ◌+◌, ◌-◌, ◌/◌, ◌%◌, ◌^◌, ◌≤◌, ◌<◌}
use native.Mathlib.Omega.{arith}
use mathlib.Core.Bool.{Bool, true, false}
use mathlib.Core.Option.{none, some, some-injective}
use mathlib.Core.List.{List, [], ◌∷◌}
use lib.Bits.{bit_and}
use lib.Count.{count_trailing_zeros}
use lib.Dec.{eqb, ltb}
use lib.ListN.{length, get_or, get_elem?}
use lib.Pow.{pow_mono}
use borrow.Author.Tests.{eqb-true, eq-eqb, ne_eqb, ltb-true, ltb-false}
use Rattle.std.specs.Int.{w32}
use Rattle.std.proofs.lemmas.Nat.Bits.{bit_at_above, bit_at-trailing_zeros}
use Rattle.std.specs.Prelude.{Result, Ok, Err, Some, None}
use Rattle.documents.specs.declared.Refusal.{Refusal}
use Rattle.documents.specs.Terms.{Term}
use Rattle.documents.specs.Instructions.{Program}
use Rattle.documents.specs.Machine.{state, done, fails, exec, run}
use Rattle.documents.specs.Machine as machine
use Rattle.documents.specs.Passing.{passes}
use Rattle.documents.proofs.Substitution.{rename_ext, rename_id}
use Rattle.tables.specs.Parts.{front}
use Rattle.safety.proofs.Building.{makes_one_term}
use Rattle.indices.specs.Sets.{has}
use Rattle.indices.proofs.Covers.{none_there}
use Rattle.dispatch.specs.Sorted.{Candidates}
use Rattle.documents.proofs.Lists.{case, never, on, off}
use Rattle.std.proofs.lemmas.Nat.{and_le_l}
use Rattle.rewriting.specs.Rewrites.{by_first_rule}
use Rattle.rewriting.proofs.FirstRule.{rule_by, rule_no}
use Rattle.matcher.specs.declared.Matched.{Matched}
use Rattle.matcher.specs.Ready.{Ready, ComesTo, Comes}
use Rattle.rule_table.specs.Places.{code_at}
use Rattle.rule_table.proofs.Placed.{below_member, placed_below, placed_inside, placed_passes, placed_holds}
use Rattle.search.specs.Searches.{Trying, Tries}
use Rattle.search.proofs.Lowest.{others_stay}

-- what is left of the set is again one without whose rules none matches
pub record Attempting (rules starts : List ℕ) (set : ℕ) (part entries now : List ℕ) (left : ℕ) : Type 0 where
  pub room : length now ≡ 16
  pub candidates : (cs : List Program) → Trying rules starts set part entries cs → Candidates cs (front part) left

pub attempting_starts : {rules starts : List ℕ} {set : ℕ} {part entries : List ℕ} → length entries ≡ 16 → Attempting rules starts set part entries entries set
attempting_starts l = record { room = l; candidates = λ cs t. t.candidates }

-- ---- Where the match part has come to the build part, a term is made

ready_makes : {code part entries : List ℕ} {c : Program} {at made : ℕ} → Ready code part entries c at made → (w : Term) × (machine.made (run c (front part)) ≡ some w)
ready_makes {part = part} {c = c} y =
    let r = makes_one_term (λ x. Unit {0}) [] y.env y.es y.ok false 0 0 y.rest y.checked in
    let e : exec y.rest (state [] y.env [] 0 []) ≡ done (state [] y.env (r.term ∷ []) 0 []) =
    r.runs [] 0 [] (refl, refl) refl
    ∙ ap (λ (u : Term). done (state [] y.env (u ∷ []) 0 [])) (rename_ext _ (λ x. x) r.term (λ x. omega arith) ∙ rename_id r.term)
    in
    (r.term, ap machine.made (y.goes ∙ e))

-- ---- Bits

not_in : (set i : ℕ) → set / 2 ^ i % 2 ≡ 0 → has set i ≡ false
not_in set i e = ne_eqb (set / 2 ^ i % 2) 1 (λ f. omega arith)

in_it : (set i : ℕ) → set / 2 ^ i % 2 ≡ 1 → has set i ≡ true
in_it set i e = eq-eqb (set / 2 ^ i % 2) 1 e

positive : (n : ℕ) → (n ≡ 0 → ⊥) → 0 < n
positive zero h = absurd (h refl)
positive (suc n) h = omega arith

-- without its lowest rule a set has the others still
others_out : (set i : ℕ) → 0 < set → set < 2 ^ 32 → (i ≡ count_trailing_zeros 32 set → ⊥) → has (bit_and set (set - 1)) i ≡ false → has set i ≡ false
others_out set i p l n e = case (λ b. has set i ≡ false) (has set i)
    (λ y. let q = in_it (bit_and set (set - 1)) i (others_stay 32 set i p l (eqb-true (set / 2 ^ i % 2) 1 (on _ y)) n) in let z : true ≡ false = sym q ∙ e in never (cc))
    (λ y. off _ y)

-- ---- The next rule

module _ {rules starts : List ℕ} {set : ℕ} {part entries now : List ℕ} {left : ℕ} (a : Attempting rules starts set part entries now left) where
  -- none is left: all fail
  attempt_none : (cs : List Program) → Trying rules starts set part entries cs → left ≡ 0 → by_first_rule cs (front part) ≡ none
  attempt_none cs t z = rule_no cs (front part) (λ i c e. ap machine.made ((a.candidates cs t).others i c e (rw z (none_there i))))

-- the lowest one
module _ {rules starts : List ℕ} {set : ℕ} {part entries now : List ℕ} {left : ℕ} (a : Attempting rules starts set part entries now left)
    (cs : List Program) (t : Trying rules starts set part entries cs) (some_left : left ≡ 0 → ⊥) where
  low : left < 2 ^ 32
  low = omega (arith, (a.candidates cs t).low, pow_mono {i = length cs} {j = 32} t.places.few)

  lowest : (count_trailing_zeros 32 left < 32) × (left / 2 ^ count_trailing_zeros 32 left % 2 ≡ 1) × ((i : ℕ) → i < count_trailing_zeros 32 left → left / 2 ^ i % 2 ≡ 0)
  lowest = bit_at-trailing_zeros w32 left (positive left some_left) low

  next_below : count_trailing_zeros 32 left < length cs
  next_below = go (ltb (count_trailing_zeros 32 left) (length cs)) refl
    where
      go : (b : Bool) → ltb (count_trailing_zeros 32 left) (length cs) ≡ b → count_trailing_zeros 32 left < length cs
      go true q = ltb-true (count_trailing_zeros 32 left) (length cs) q
      go false q =
          let z = bit_at_above left (length cs) (count_trailing_zeros 32 left) (a.candidates cs t).low (ltb-false (count_trailing_zeros 32 left) (length cs) q) in
          absurd (omega (arith, z, lowest.1))

  -- the rules before it are not in the set
  missed_before : (i : ℕ) (c : Program) → i < count_trailing_zeros 32 left → get_elem? cs i ≡ some c → run c (front part) ≡ fails
  missed_before i c h e = (a.candidates cs t).others i c e (not_in left i (lowest.2 i h))

  next_rule : (c : Program) × (get_elem? cs (count_trailing_zeros 32 left) ≡ some c)
  next_rule = below_member cs (count_trailing_zeros 32 left) next_below

comes_same : (code part then : List ℕ) (c : Program) {r x : Result Matched Refusal} → r ≡ x → ComesTo code part then c r → ComesTo code part then c x
comes_same code part then c e k = rw e at k

-- what is asked on the way to trying it
pub record Next (rules starts : List ℕ) (rule : ℕ) : Type 0 where
  pub inside : rule < length starts
  pub whole : get_or starts rule 0 + 1 + get_or rules (get_or starts rule 0) 0 ≤ length rules
  pub passed : passes (code_at rules (get_or starts rule 0)) ≡ true

module _ {rules starts : List ℕ} {set : ℕ} {part entries now : List ℕ} {left : ℕ} (a : Attempting rules starts set part entries now left) (some_left : left ≡ 0 → ⊥) where
  pub next_is : (p : (cs : List Program) × Trying rules starts set part entries cs) → {rule : ℕ} → rule ≡ count_trailing_zeros 32 left → Next rules starts rule
  next_is (cs, t) {rule} g =
      let n = next_rule a cs t some_left in
      rw g (record {
        inside = placed_below rules starts cs t.places (count_trailing_zeros 32 left) n.0 n.1;
        whole = placed_inside rules starts cs t.places (count_trailing_zeros 32 left) n.0 n.1;
        passed = placed_passes rules starts cs t.places (count_trailing_zeros 32 left) n.0 n.1;
      })

  module _ {rule : ℕ} (g : rule ≡ count_trailing_zeros 32 left) {code then : List ℕ} {r : Result Matched Refusal} (is : code ≡ code_at rules (get_or starts rule 0)) (m : Comes code part then r) (l : length then ≡ 16) where
    comes_to : (cs : List Program) (t : Trying rules starts set part entries cs)
        → (c : Program) × (get_elem? cs rule ≡ some c) × ComesTo (code_at rules (get_or starts rule 0)) part then c r
    comes_to cs t =
        let n = rw (sym g) at (next_rule a cs t some_left) in
        (n.0, n.1, (rw is at m).means n.0 (placed_holds rules starts cs t.places rule n.0 n.1))

    -- it matches
    pub attempt_matches : {matched : Matched} → r ≡ Ok matched → Tries rules starts set part entries then (Some (record { rule = rule; matched = matched }))
    attempt_matches {matched} e = record {
      long = l;
      says = λ cs t. let n = comes_to cs t in
          let k = comes_same (code_at rules (get_or starts rule 0)) part then n.0 {x = Ok matched} e n.2 in
          record {
            program = n.0;
            listed = n.1;
            ready = k.0;
            words_are = k.1;
            new = (ready_makes k.0).0;
            makes = (ready_makes k.0).1;
            first = rule_by cs (front part) (ready_makes k.0).0 rule n.0 n.1 (ready_makes k.0).1 (λ i d h q. ap machine.made (missed_before a cs t some_left i d (rw g at h) q));
          };
    }

    -- it fails: the others are left
    pub attempt_misses : {w : Refusal} → r ≡ Err w → Attempting rules starts set part entries then (bit_and left (left - 1))
    attempt_misses {w} e = record {
      room = l;
      candidates = λ cs t. record {
        low = omega (arith, and_le_l left (left - 1), (a.candidates cs t).low);
        others = λ i c q n. go cs t i c q n (eqb i rule) refl;
      };
    }
      where
        go : (cs : List Program) (t : Trying rules starts set part entries cs) (i : ℕ) (c : Program) → get_elem? cs i ≡ some c → has (bit_and left (left - 1)) i ≡ false
            → (b : Bool) → eqb i rule ≡ b → run c (front part) ≡ fails
        go cs t i c q n true b =
            let z = eqb-true i rule b in
            let n = comes_to cs t in
            let k = comes_same (code_at rules (get_or starts rule 0)) part then n.0 {x = Err w} e n.2 in
            let s : c ≡ n.0 = some-injective c n.0 (sym q ∙ (ap (get_elem? cs) z ∙ n.1)) in
            rw s k.1
        go cs t i c q n false b =
            let other : i ≡ count_trailing_zeros 32 left → ⊥ = λ z. let y : true ≡ false = sym (eq-eqb i rule (z ∙ sym g)) ∙ b in never (cc) in
            (a.candidates cs t).others i c q (others_out left i (positive left some_left) (low a cs t some_left) other n)

-- no rule is left
pub attempt_ends : {rules starts : List ℕ} {set : ℕ} {part entries now : List ℕ} {left : ℕ} → Attempting rules starts set part entries now left → left ≡ 0
    → Tries rules starts set part entries now None
attempt_ends a z = record { long = a.room; says = λ cs t. attempt_none a cs t z }

-- a set without rules needs no look
pub none_tried : {rules starts part entries : List ℕ} {cs : List Program} → Trying rules starts 0 part entries cs → by_first_rule cs (front part) ≡ none
none_tried {cs = cs} t = attempt_none (attempting_starts t.room) cs t refl
