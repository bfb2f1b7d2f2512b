-- The next plan. Where the plan keeps 13, 14 and 15, the next one breaks them as what the rule makes does, in the room and at the level that the redex has:
-- so what was weighed of the new term is said of the whole, and its words are those that were exchanged.
use mathlib.Core.Path.{◌≡◌, refl, sym, ap, ◌∙◌}
use Prim.Native.Nat.{ℕ, ◌+◌, ◌-◌, ◌*◌, ◌/◌, ◌≤◌, min}
use native.Mathlib.Omega.{arith}
use mathlib.Core.Bool.{Bool, true, false}
use mathlib.Core.Option.{some, some-injective}
use mathlib.Core.List.{List}
use lib.Dec.{leb}
use lib.ListN.{take}
use lib.Seq.{take-take}
use borrow.Author.Tests.{le-leb}
use Rattle.documents.specs.declared.Refusal.{Refusal}
use Rattle.documents.specs.Limits.{plan_limit, depth_limit, index_limit}
use Rattle.documents.specs.Lists.{every}
use Rattle.documents.specs.Terms.{Sort, Tm, Var, Sym, Meta, Abst, Nil, Cons, Term}
use Rattle.documents.specs.Tables.{table_of, Fits, nodes, depth, indices, subterm}
use Rattle.documents.specs.Instructions.{Program, program_in}
use Rattle.documents.specs.Machine.{run, made}
use Rattle.documents.specs.Numbers.{Answer, answered, refused, unless, with, result_for}
use Rattle.documents.proofs.Lists.{every_append}
use Rattle.rewriting.specs.Replacing.{replace}
use Rattle.rewriting.proofs.Splicing.{Within, replaced_result, replaced_table, room_left}
use Rattle.builder.specs.declared.Weighed.{Weighed}
use Rattle.std.specs.Prelude.{Result, Ok, Err}
use Rattle.builder.specs.Weighing.{weighed_for, WeighedAs}
use Rattle.builder.proofs.Weighing.{weighed_small}
use Rattle.rewriter.specs.declared.Redex.{Redex}
use Rattle.rewriter.specs.Replaces.{plan_in, redex_in, Replacing, room_for, WeighsRedex, exchanged, Exchanging, Exchanges, Replaces}
use Rattle.rewriter.proofs.Weighed.{held, plan_words, node_ends, ends_within, redex_front}

-- ---- Tests

-- the indices of a term that a table holds
pub fits_low : {s : Sort} (t : Tm s) → Fits t → every (λ x. leb x index_limit) (indices t) ≡ true
fits_low (Var x) h = rw (le-leb x index_limit h)
fits_low (Sym s ts) h = fits_low ts h.2
fits_low (Meta z ts) h = fits_low ts h.2
fits_low (Abst t) h = fits_low t h
fits_low Nil h = refl
fits_low (Cons t ts) h = every_append (λ x. leb x index_limit) (indices t) (indices ts) ∙ rw (fits_low t h.0, fits_low ts h.1) refl

-- three tests, with another answer behind them
answer_changed : (a b c : Bool) (p q r : Refusal) (x y : List ℕ)
    → unless a p (unless b q (unless c r (answered y))) ≡ with (unless a p (unless b q (unless c r (answered x)))) (λ _. answered y)
answer_changed false b c p q r x y = refl
answer_changed true false c p q r x y = refl
answer_changed true true false p q r x y = refl
answer_changed true true true p q r x y = refl

module _ {code : List ℕ} {redex : Redex} {entries plan : List ℕ} {words most : ℕ} {work : List ℕ} (p : Replacing code redex entries plan words most work) where
  -- ---- The next plan, with a term in the redex's place

  abbrev next : Term → Term
  next w = replace (plan_in plan words) redex.node w

  most_is : min plan_limit (2 * most / 2) ≡ most
  most_is = omega (arith, p.few)

  within : Within (2 * most) (plan_in plan words)
  within = record { small = omega (arith, most_is, p.small); shallow = (held p).shallow; low = fits_low (plan_in plan words) (held p).fits }

  -- the room: what the nodes around the redex leave
  room_is : most - (nodes (plan_in plan words) - nodes p.old) ≡ room_for most words redex
  room_is =
      let a = plan_words p in
      let b = p.words_are in
      omega arith

  -- 13, 14, 15 of the next plan are those of the term, in its room and at its level
  result_is : (w : Term) → result_for (2 * most) (next w) ≡ with (weighed_for (room_for most words redex) redex.level w) (λ _. answered (table_of (next w)))
  unfolding weighed_for
  result_is w =
      let left = room_left most (nodes (plan_in plan words)) (nodes p.old) (nodes w) (omega (arith, node_ends p)) p.small in
      replaced_result (2 * most) (plan_in plan words) redex.node p.old w p.here within
      ∙ rw (most_is, left, room_is, ← p.level_is)
      (answer_changed (leb (nodes w) (room_for most words redex)) (leb (redex.level + depth w) (depth_limit + 1)) (every (λ x. leb x index_limit) (indices w))
      _ _ _ (table_of w) (table_of (next w)))

  next_table : (w : Term) → exchanged plan words redex (table_of w) ≡ table_of (next w)
  next_table w =
      let h = ends_within p in
      sym (replaced_table (plan_in plan words) redex.node p.old w p.here
      ∙ rw ((held p).table, ← p.words_are, take-take (2 * redex.node) words plan (omega arith)) refl)

  -- ---- As it was weighed

  module _ {work₁ : List ℕ} {r : Result Weighed Refusal} (s : WeighsRedex code redex entries plan words most work work₁ r) where
    -- the new term is what the rule makes of the old subterm
    makes : (old : Term) → subterm (plan_in plan words) redex.node ≡ some old → (c : Program) → program_in code ≡ some c → made (run c old) ≡ some s.term
    makes old e c g =
        let h : p.old ≡ old = some-injective _ _ (sym p.here ∙ e) in
        ap (λ (u : Term). made (run c u)) (sym (redex_front p ∙ h)) ∙ ap made (s.ends c g).1

    pub refuses : {why : Refusal} → r ≡ Err why → {new : ℕ} → Replaces code redex entries plan plan words new most work work₁ (Err why)
    refuses {why} e {new} =
        let k : weighed_for (room_for most words redex) redex.level s.term ≡ refused why = rw e at s.says in
        record { table_stays = refl; work_stays = s.long; says = λ old i c g. (s.term, makes old i c g, result_is s.term ∙ rw k refl) }

    module _ {m : Weighed} (e : r ≡ Ok m) where
      weight : WeighedAs code (redex_in plan redex) entries (take 8192 work₁) (room_for most words redex) redex.level s.term (Ok m)
      weight = rw e at s.says

      -- the words of the next plan
      pub next_fits : (redex.words ≤ words) × (words - redex.words + 2 * m.nodes ≤ 2 * most) × (2 * most ≤ 8192)
      next_fits =
          let h = ends_within p in
          let a = plan_words p in
          let b = p.words_are in
          let c = p.small in
          let d = p.few in
          let k = weight.0 in
          let i = weighed_small (room_for most words redex) redex.level s.term (table_of s.term) weight.1 in
          (omega arith, omega arith, omega arith)

      pub exchanging : Exchanging code redex entries plan words work₁ m.nodes m.root
      exchanging = record {
        table_long = p.table_long;
        work_long = omega (arith, p.work_long, s.long);
        inside = (ends_within p).0;
        within = p.inside;
        fits = omega (arith, next_fits);
        term = s.term;
        size = weight.0;
        built = weight.2;
      }

      pub replaces : {plan₁ work₂ : List ℕ} → Exchanges code redex entries plan plan₁ words work₁ work₂ m.nodes m.root
          → Replaces code redex entries plan plan₁ words (words - redex.words + 2 * m.nodes) most work work₂ (Ok tt)
      replaces x = record {
        table_stays = x.table_stays;
        work_stays = x.work_stays ∙ s.long;
        says = λ old i c g. (
          s.term,
          makes old i c g,
          result_is s.term ∙ ap (λ (a : Answer (List ℕ)). with a (λ _. answered (table_of (next s.term)))) weight.1,
          x.front_is s.term weight.0 weight.2 ∙ next_table s.term,
          next_fits.1,
        );
      }
