-- The instruction at the matcher's place, its top, and what the machine and the check make of the two.
use mathlib.Core.Path.{◌≡◌, refl, sym, ap, ◌∙◌}
use Prim.Native.Nat.{ℕ, zero, suc, ◌+◌, ◌-◌, ◌≤◌, ◌<◌}
use native.Mathlib.Omega.{arith}
use mathlib.Core.Bool.{Bool, true, false, cond}
use mathlib.Core.Option.{Option, none, some}
use mathlib.Core.List.{List, [], ◌∷◌}
use lib.Dec.{T, eqb, ltb}
use lib.ListN.{length, get_or, get_elem?, drop, set}
use lib.Seq.{get_or-set_same, get_or-set_other}
use borrow.Author.Tests.{eq-eqb, ne_eqb, lt-ltb, ltb-true, ltb-false, eqb-true, eqb-false}
use Rattle.documents.specs.Terms.{Nil, Cons, Terms, len}
use Rattle.documents.specs.Tables.{nodes}
use Rattle.documents.specs.Instructions.{End, ◌▸◌, Instruction, Program, opcode}
use Rattle.documents.specs.Machine.{Current, current, Entry, entry, State, state, Outcome, done, no_step, test, arguments_of, body_of, is_var, currents}
use Rattle.documents.specs.Passing.{Slot, slot, with_slot, Matching, matching, times, match_top, match_step, parts}
use Rattle.documents.proofs.Lists.{never, case, on, off}
use Rattle.tables.specs.Parts.{front, terms, Begins}
use Rattle.tables.proofs.Parts.{join}
use Rattle.tables.proofs.Walks.{walk_from}
use Rattle.tables.proofs.Fronts.{last_word, argument_count, front_variable, front_symbol, front_metavariable, front_abstraction}
use Rattle.instructions.specs.Places.{program_at}
use Rattle.instructions.proofs.Reading.{program_done}
use Rattle.safety.proofs.Matching.{Agrees, Goes, failing, going}
use Rattle.safety.proofs.NeverStuck.{holds_then}
use Rattle.matcher.specs.Midway.{Any, in_line, entered}

-- ---- the program

pub match_checked : (rest : Program) (i : Instruction) (c : Program) (M : Matching) → rest ≡ i ▸ c → opcode i ≤ 7 → T (parts rest M)
    → (M' : Matching) × (match_step i M ≡ some M') × T (parts c M')
match_checked rest i c M e h p =
    let q : T (parts (i ▸ c) M) = rw e at p in
    holds_then (match_step i M) (parts c) (rw (lt-ltb (opcode i) 8 (omega arith)) at q)

-- code that is still followed has not ended
pub not_ended : (code : List ℕ) (p : ℕ) (c : Program) (M : Matching) → p ≤ length code → program_at code p (length code) ≡ some c → T (parts c M) → p < length code
not_ended code p c M h e t =
    case (λ q. p < length code) (ltb p (length code)) (λ y. ltb-true p (length code) (on _ y))
    (λ y.
    let k = ltb-false p (length code) (off _ y) in
    let z : p ≡ length code = omega arith in
    let d : program_at code p (length code) ≡ some End = rw z (program_done code (length code)) in
    let x : c ≡ End = cc in
    absurd (rw x at t))

-- ---- the top

pub record TopOf (i : Instruction) (ds : List ℕ) (es : List Slot) (g : List ℕ) (M : Matching) : Type 0 where
  pub d : ℕ
  pub below : List ℕ
  pub are : ds ≡ d ∷ below
  pub goes : match_top i d below es g ≡ some M

pub top_of : (i : Instruction) (ds : List ℕ) (es : List Slot) (g : List ℕ) (M : Matching) → match_step i (matching ds es g) ≡ some M → TopOf i ds es g M
top_of i [] es g M e = never (cc)
top_of i (d ∷ ds) es g M e = record { d = d; below = ds; are = refl; goes = e }

pub depth_low : (ds : List ℕ) (d : ℕ) (below : List ℕ) (n : ℕ) (ts : Terms) (es : List Slot) (g : List ℕ) (env : List Entry) → ds ≡ d ∷ below → 0 < len ts
    → Agrees Any (matching ds es g) (in_line ds n ts) env → d ≤ 63
depth_low ds d below n Nil es g env e h a = absurd (omega arith)
depth_low ds d below n (Cons t ts) es g env e h a = (rw e at a).0.1

-- ---- the check is right

pub goes_agrees : {M : Matching} {r : Outcome State} (cs : List Current) (env : List Entry) → Goes Any [] 0 [] M r → r ≡ done (state cs env [] 0 []) → Agrees Any M cs env
goes_agrees cs env (failing e) q = never (cc)
goes_agrees cs env (going cs₁ env₁ e a) q =
    let x : cs₁ ≡ cs = cc in
    let y : env₁ ≡ env = cc in
    rw (x, y) at a

pub placed_by : {M : Matching} (p q : Bool) (σ : State) → Goes Any [] 0 [] M (cond p (test q σ) no_step) → cond p (test q σ) no_step ≡ test q σ
placed_by true q σ g = refl
placed_by false q σ (failing e) = never (cc)
placed_by false q σ (going cs env e a) = never (cc)

-- ---- an entry

pub entered_at : {A : Type 0} (part entries : List ℕ) (es : List Slot) (e : ℕ) (f : ℕ → List ℕ → Option A) (r : A) → with_slot (get_elem? es e) f ≡ some r
    → (b : ℕ) × (e < length es) × (get_elem? (entered part entries es) e ≡ some (entry b (front (drop (get_or entries (length es - 1 - e) 0) part))))
entered_at part entries [] e f r w = never (cc)
entered_at part entries (slot b g ∷ es) zero f r w =
    let z : suc (length es) - 1 - 0 ≡ length es = omega arith in
    (b, omega arith, ap (λ (k : ℕ). some (entry b (front (drop (get_or entries k 0) part)))) (sym z))
entered_at part entries (slot b g ∷ es) (suc e) f r w =
    let k = entered_at part entries es e f r w in
    let z : suc (length es) - 1 - suc e ≡ length es - 1 - e = omega arith in
    (k.0, (let h = k.1 in omega arith), k.2 ∙ ap (λ (j : ℕ). some (entry k.0 (front (drop (get_or entries j 0) part)))) (sym z))

-- what is written behind them leaves them as they are
entered_set : (part entries : List ℕ) (es : List Slot) (n x : ℕ) → length es ≤ n → entered part (set entries n x) es ≡ entered part entries es
entered_set part entries [] n x h = refl
entered_set part entries (slot b g ∷ es) n x h =
    let ne : length es ≡ n → ⊥ = λ e. omega arith in
    rw (get_or-set_other entries n (length es) x 0 ne, entered_set part entries es n x (omega arith))

pub entered_more : (part entries : List ℕ) (es : List Slot) (b : ℕ) (g : List ℕ) (n x : ℕ) → length es ≡ n → n < length entries
    → entered part (set entries n x) (slot b g ∷ es) ≡ entry b (front (drop x part)) ∷ entered part entries es
entered_more part entries es b g n x e h = rw (e, get_or-set_same entries n x 0 h, entered_set part entries es n x (omega arith))

-- ---- current terms

-- arguments take their symbol's place
pub in_line_join : (ts us : Terms) (d k : ℕ) (ds : List ℕ) → currents d k ts (in_line ds (k + nodes ts) us) ≡ in_line (times (len ts) d ds) k (join ts us)
in_line_join Nil us d k ds = let z : k + 0 ≡ k = omega arith in rw z
in_line_join (Cons t ts) us d k ds =
    let z : k + (nodes t + nodes ts) ≡ k + nodes t + nodes ts = omega arith in
    ap (λ (cs : List Current). current d k t ∷ cs) (ap (λ (n : ℕ). currents d (k + nodes t) ts (in_line ds n us)) z ∙ in_line_join ts us d (k + nodes t) ds)

pub times_length : (n d : ℕ) (ds : List ℕ) → length (times n d ds) ≡ n + length ds
times_length zero d ds = omega arith
times_length (suc n) d ds = let h = times_length n d ds in omega arith

module _ {part : List ℕ} (b : Begins 1 part) where
  word_low : get_or part 0 0 ≤ 196608
  word_low = last_word (walk_from b) (omega arith)

  pub arguments_other : (s n : ℕ) → s ≤ 65535 → (get_or part 0 0 ≡ 65536 + s → ⊥) → arguments_of s n (front part) ≡ none
  arguments_other s n h ne =
      case (λ q. arguments_of s n (front part) ≡ none) (ltb (get_or part 0 0) 65536) (λ y. rw (front_variable b (ltb-true (get_or part 0 0) 65536 (on _ y))))
      (λ y.
      let lo = ltb-false (get_or part 0 0) 65536 (off _ y) in
      case (λ q. arguments_of s n (front part) ≡ none) (ltb (get_or part 0 0) 131072)
      (λ z. let ne₁ : s ≡ get_or part 0 0 - 65536 → ⊥ = λ e. ne (omega arith) in rw (front_symbol b lo (ltb-true (get_or part 0 0) 131072 (on _ z)), ne_eqb s (get_or part 0 0 - 65536) ne₁))
      (λ z. high s n (ltb-false (get_or part 0 0) 131072 (off _ z))))
    where
      high : (s n : ℕ) → 131072 ≤ get_or part 0 0 → arguments_of s n (front part) ≡ none
      high s n lo =
          case (λ q. arguments_of s n (front part) ≡ none) (ltb (get_or part 0 0) 196608) (λ y. rw (front_metavariable b lo (ltb-true (get_or part 0 0) 196608 (on _ y))))
          (λ y.
          let k = ltb-false (get_or part 0 0) 196608 (off _ y) in
          let l = word_low in
          rw (front_abstraction b (omega arith)))

  pub arguments_here : (s n : ℕ) → s ≤ 65535 → get_or part 0 0 ≡ 65536 + s
      → arguments_of s n (front part) ≡ cond (eqb (get_or part 1 0) n) (some (terms (get_or part 1 0) (drop 2 part))) none
  arguments_here s n h e =
      let z : get_or part 0 0 - 65536 ≡ s = omega arith in
      rw (front_symbol b (omega arith) (omega arith), z, eq-eqb s s refl, argument_count b)

  pub body_other : (get_or part 0 0 ≡ 196608 → ⊥) → body_of (front part) ≡ none
  body_other ne =
      case (λ q. body_of (front part) ≡ none) (ltb (get_or part 0 0) 65536) (λ y. rw (front_variable b (ltb-true (get_or part 0 0) 65536 (on _ y))))
      (λ y.
      let lo = ltb-false (get_or part 0 0) 65536 (off _ y) in
      case (λ q. body_of (front part) ≡ none) (ltb (get_or part 0 0) 131072) (λ z. rw (front_symbol b lo (ltb-true (get_or part 0 0) 131072 (on _ z))))
      (λ z.
      let l = word_low in
      let k : get_or part 0 0 < 196608 = lower ne l in
      rw (front_metavariable b (ltb-false (get_or part 0 0) 131072 (off _ z)) k)))
    where
      lower : {w : ℕ} → (w ≡ 196608 → ⊥) → w ≤ 196608 → w < 196608
      lower {w} n h = case (λ q. w < 196608) (ltb w 196608) (λ y. ltb-true w 196608 (on _ y)) (λ y. let k = ltb-false w 196608 (off _ y) in absurd (n (omega arith)))

  pub variable_is : (x : ℕ) → x < 65536 → is_var x (front part) ≡ eqb (get_or part 0 0) x
  variable_is x h =
      case (λ q. is_var x (front part) ≡ q) (eqb (get_or part 0 0) x)
      (λ y. let e = eqb-true (get_or part 0 0) x (on _ y) in rw (front_variable b (omega arith), e, eq-eqb x x refl))
      (λ y. other (eqb-false (get_or part 0 0) x (off _ y)))
    where
      other : (get_or part 0 0 ≡ x → ⊥) → is_var x (front part) ≡ false
      other ne =
          case (λ q. is_var x (front part) ≡ false) (ltb (get_or part 0 0) 65536)
          (λ y. rw (front_variable b (ltb-true (get_or part 0 0) 65536 (on _ y)), ne_eqb x (get_or part 0 0) (λ e. ne (sym e))))
          (λ y.
          let lo = ltb-false (get_or part 0 0) 65536 (off _ y) in
          case (λ q. is_var x (front part) ≡ false) (ltb (get_or part 0 0) 131072) (λ z. rw (front_symbol b lo (ltb-true (get_or part 0 0) 131072 (on _ z))))
          (λ z.
          let mid = ltb-false (get_or part 0 0) 131072 (off _ z) in
          case (λ q. is_var x (front part) ≡ false) (ltb (get_or part 0 0) 196608) (λ v. rw (front_metavariable b mid (ltb-true (get_or part 0 0) 196608 (on _ v))))
          (λ v.
          let k = ltb-false (get_or part 0 0) 196608 (off _ v) in
          let l = word_low in
          rw (front_abstraction b (omega arith)))))
