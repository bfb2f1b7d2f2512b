use mathlib.Core.Path.{◌≡◌, sym, ◌∙◌}
use mathlib.Core.List.{List}
use Prim.Native.Nat.{ℕ, ◌+◌, ◌-◌, ◌<◌}
use lib.Dec.{lit<}
use lib.ListN.{length, take, drop, get_or, length-take, length-drop}
use Rattle.std.proofs.lemmas.List.{get_or-take}
use lib.Seq.{get_or-drop}
use native.Mathlib.Omega.{arith}
use Rattle.generator.proofs.Matching.{is_metavariable}
use Rattle.generator.proofs.Building.{falls_along, falls_inside, ready_arguments, ready_body, arguments_within, body_within, fits_variable, builds_variable, fits_arguments, writing_cell, builds_symbol, fits_lambda, fits_inside, writing_adbmal, builds_abstraction, builds_absent, row_of, keys_within, fits_pushi, writing_bodies, builds_metavariable, ready_first, first_within, joining_from, fits_first_term, joining_on, joining_ended, keying_from, fits_body, body_length, fits_key, keying_on, keying_ended}
use borrow.Author.Rules.{rules}
use Rattle.generator.proofs.right.+right_bodies_right_metavariable_right_side_right_terms.Goals as goal

pub right_bodies-loop-key-init : goal.right_bodies-loop-key-init
right_bodies-loop-key-init t c =
    let s = c.args in
    let e : s.count - 0 ≡ s.count = omega arith in
    let f : s.keys + 0 ≡ s.keys = omega arith in
    let p = c.requires in
    rw (e, f) (keying_from p.0 p.1 p.2)

-- a key that the loop stands at: some are left, and it is one of the rows' words
module _ (rows : List ℕ) (keys count i : ℕ) (h : i < length (take (keys + count - keys) (drop keys rows))) where
  keys_left : 0 < count - i
  keys_left = omega (arith, length-take (keys + count - keys) (drop keys rows))

  key_there : get_or (take (keys + count - keys) (drop keys rows)) i 0 ≡ get_or rows (keys + i) 0
  key_there = let k = keys_left in get_or-take (keys + count - keys) (drop keys rows) i 0 (omega arith) ∙ get_or-drop keys rows i 0

pub right_bodies-right_side-body-requires : goal.right_bodies-right_side-body-requires
right_bodies-right_side-body-requires t c =
    let s = c.args in
    let w = c.loop-key.invariant in
    let h = keys_left s.rows.now s.keys s.count c.loop-key.key-index c.loop-key-test.true in
    (falls_along w.going h c.decreases, (ready_first w.going h, fits_body w h))

pub right_bodies-overflow_cast-body : goal.right_bodies-overflow_cast-body
right_bodies-overflow_cast-body t c =
    let s = c.args in
    let b = body_length c.loop-key.invariant (keys_left s.rows.now s.keys s.count c.loop-key.key-index c.loop-key-test.true) c.right_side-body.ensures in
    search rules

pub right_bodies-put-requires : goal.right_bodies-put-requires
right_bodies-put-requires t c =
    let s = c.args in
    let l = c.loop-key in (
      lit< tt,
      rw (key_there s.rows.now s.keys s.count l.key-index c.loop-key-test.true)
          (fits_key l.invariant (keys_left s.rows.now s.keys s.count l.key-index c.loop-key-test.true) c.right_side-body.ensures),
    )

pub right_bodies-overflow_add-read : goal.right_bodies-overflow_add-read
right_bodies-overflow_add-read t c =
    let s = c.args in
    let o = first_within c.loop-key.invariant.going (keys_left s.rows.now s.keys s.count c.loop-key.key-index c.loop-key-test.true) c.right_side-body.ensures in
    search rules

pub right_bodies-loop-key-preserved : goal.right_bodies-loop-key-preserved
right_bodies-loop-key-preserved t c =
    let s = c.args in
    let l = c.loop-key in
    let e : s.count - (l.key-index + 1) ≡ s.count - l.key-index - 1 = omega arith in
    let f : s.keys + (l.key-index + 1) ≡ s.keys + l.key-index + 1 = omega arith in
    rw (e, f) (keying_on l.invariant (keys_left s.rows.now s.keys s.count l.key-index c.loop-key-test.true) c.right_side-body.ensures
    (rw (key_there s.rows.now s.keys s.count l.key-index c.loop-key-test.true) at c.put.ensures))

pub right_bodies-returns : goal.right_bodies-returns
right_bodies-returns t c =
    let s = c.args in
    let k = c.requires.1 in
    keying_ended c.loop-key.invariant (omega (arith, length-take (s.keys + s.count - s.keys) (drop s.keys s.rows.now), length-drop s.keys s.rows.now))

pub right_metavariable-returns-in_default : goal.right_metavariable-returns-in_default
right_metavariable-returns-in_default t c = let p = c.requires in builds_absent p.0 p.1 (sym c.in_default.is ∙ c.find.ensures) c.skip.ensures

pub right_metavariable-overflow_mul-row : goal.right_metavariable-overflow_mul-row
right_metavariable-overflow_mul-row t c = let p = c.requires in let w = (row_of p.0 p.1 (sym c.in-Some.is ∙ c.find.ensures)).within in search rules

pub right_metavariable-overflow_cast-location : goal.right_metavariable-overflow_cast-location
right_metavariable-overflow_cast-location t c = let p = c.requires in let n = p.0.few in let w = (row_of p.0 p.1 (sym c.in-Some.is ∙ c.find.ensures)).within in search rules

pub right_metavariable-overflow_add-shift-2 : goal.right_metavariable-overflow_add-shift-2
right_metavariable-overflow_add-shift-2 t c = let p = c.requires in let w = (row_of p.0 p.1 (sym c.in-Some.is ∙ c.find.ensures)).within in search rules

pub right_metavariable-overflow_add-row : goal.right_metavariable-overflow_add-row
right_metavariable-overflow_add-row t c = let p = c.requires in let w = (row_of p.0 p.1 (sym c.in-Some.is ∙ c.find.ensures)).within in search rules

pub right_metavariable-offset_bounds-rows-row : goal.right_metavariable-offset_bounds-rows-row
right_metavariable-offset_bounds-rows-row t c = let p = c.requires in let w = (row_of p.0 p.1 (sym c.in-Some.is ∙ c.find.ensures)).within in search rules

pub right_metavariable-bounds-rows-row : goal.right_metavariable-bounds-rows-row
right_metavariable-bounds-rows-row t c = let p = c.requires in let w = (row_of p.0 p.1 (sym c.in-Some.is ∙ c.find.ensures)).within in search rules

pub right_metavariable-overflow_sub-shift : goal.right_metavariable-overflow_sub-shift
right_metavariable-overflow_sub-shift t c = let p = c.requires in let w = (row_of p.0 p.1 (sym c.in-Some.is ∙ c.find.ensures)).low in search rules

pub right_metavariable-put-first-requires : goal.right_metavariable-put-first-requires
right_metavariable-put-first-requires t c = let p = c.requires in (lit< tt, fits_pushi p.0 p.1 (sym c.in-Some.is ∙ c.find.ensures) p.2)

pub right_metavariable-right_bodies-bodies-requires : goal.right_metavariable-right_bodies-bodies-requires
right_metavariable-right_bodies-bodies-requires t c = let p = c.requires in let e = sym c.in-Some.is ∙ c.find.ensures in (falls_inside p.0 2 0 (omega arith) c.decreases, (ready_arguments p.0, keys_within p.0 p.1 e, (writing_bodies p.0 p.1 e p.2 c.put-first.ensures).fits))

pub right_metavariable-overflow_add-result : goal.right_metavariable-overflow_add-result
right_metavariable-overflow_add-result t c = let r = arguments_within c.requires.0 c.right_bodies-bodies.ensures in search rules

pub right_metavariable-returns : goal.right_metavariable-returns
right_metavariable-returns t c = let p = c.requires in builds_metavariable p.0 p.1 (sym c.in-Some.is ∙ c.find.ensures) p.2 c.put-first.ensures c.right_bodies-bodies.ensures

pub right_side-put-requires : goal.right_side-put-requires
right_side-put-requires t c = (lit< tt, fits_variable c.requires.0 c.if-word-lt-FIRST_SYMBOL.true c.requires.1)

pub right_side-returns-then-word-lt-FIRST_SYMBOL : goal.right_side-returns-then-word-lt-FIRST_SYMBOL
right_side-returns-then-word-lt-FIRST_SYMBOL t c = builds_variable c.requires.0 c.if-word-lt-FIRST_SYMBOL.true c.put.ensures

pub right_side-right_terms-arguments-requires : goal.right_side-right_terms-arguments-requires
right_side-right_terms-arguments-requires t c = let p = c.requires in (falls_inside p.0 2 1 (omega arith) c.decreases, (ready_arguments p.0, fits_arguments p.0 c.if-word-lt-FIRST_SYMBOL.false c.if-word-lt-FIRST_METAVARIABLE.true p.1))

pub right_side-overflow_add-result : goal.right_side-overflow_add-result
right_side-overflow_add-result t c = let r = arguments_within c.requires.0 c.right_terms-arguments.ensures in search rules

pub right_side-put-requires-then-word-lt-FIRST_METAVARIABLE : goal.right_side-put-requires-then-word-lt-FIRST_METAVARIABLE
right_side-put-requires-then-word-lt-FIRST_METAVARIABLE t c = let p = c.requires in (lit< tt, (writing_cell p.0 c.if-word-lt-FIRST_SYMBOL.false c.if-word-lt-FIRST_METAVARIABLE.true p.1 c.right_terms-arguments.ensures).fits)

pub right_side-returns-then-word-lt-FIRST_METAVARIABLE : goal.right_side-returns-then-word-lt-FIRST_METAVARIABLE
right_side-returns-then-word-lt-FIRST_METAVARIABLE t c = let p = c.requires in builds_symbol p.0 c.if-word-lt-FIRST_SYMBOL.false c.if-word-lt-FIRST_METAVARIABLE.true p.1 c.right_terms-arguments.ensures c.put-then-word-lt-FIRST_METAVARIABLE.ensures

pub right_side-put-inside-requires : goal.right_side-put-inside-requires
right_side-put-inside-requires t c = let p = c.requires in (lit< tt, fits_lambda p.0 c.if-word-eq-ABSTRACTION.true p.1)

pub right_side-right_side-body-requires : goal.right_side-right_side-body-requires
right_side-right_side-body-requires t c = let p = c.requires in (falls_inside p.0 1 1 (omega arith) c.decreases, (ready_body p.0 c.if-word-eq-ABSTRACTION.true, fits_inside p.0 c.if-word-eq-ABSTRACTION.true p.1 c.put-inside.ensures))

pub right_side-overflow_add-result-then-word-eq-ABSTRACTION : goal.right_side-overflow_add-result-then-word-eq-ABSTRACTION
right_side-overflow_add-result-then-word-eq-ABSTRACTION t c = let r = body_within c.requires.0 c.if-word-eq-ABSTRACTION.true c.right_side-body.ensures in search rules

pub right_side-put-requires-then-word-eq-ABSTRACTION : goal.right_side-put-requires-then-word-eq-ABSTRACTION
right_side-put-requires-then-word-eq-ABSTRACTION t c = let p = c.requires in (lit< tt, (writing_adbmal p.0 c.if-word-eq-ABSTRACTION.true p.1 c.put-inside.ensures c.right_side-body.ensures).fits)

pub right_side-returns-then-word-eq-ABSTRACTION : goal.right_side-returns-then-word-eq-ABSTRACTION
right_side-returns-then-word-eq-ABSTRACTION t c = let p = c.requires in builds_abstraction p.0 c.if-word-eq-ABSTRACTION.true p.1 c.put-inside.ensures c.right_side-body.ensures c.put-then-word-eq-ABSTRACTION.ensures

pub right_side-right_metavariable-requires : goal.right_side-right_metavariable-requires
right_side-right_metavariable-requires t c = let p = c.requires in (omega arith, (p.0, is_metavariable p.0.begins c.if-word-lt-FIRST_METAVARIABLE.false c.if-word-eq-ABSTRACTION.false, p.1))

pub right_terms-loop-init : goal.right_terms-loop-init
right_terms-loop-init t c =
    let s = c.args in
    let e : s.count - 0 ≡ s.count = omega arith in
    rw e (joining_from c.requires.0 c.requires.1)

pub right_terms-right_side-term-requires : goal.right_terms-right_side-term-requires
right_terms-right_side-term-requires t c =
    let w = c.loop.invariant in
    let h : 0 < c.args.count - c.loop.counter = omega arith in
    (falls_along w.going h c.decreases, (ready_first w.going h, fits_first_term w h))

pub right_terms-overflow_add-read : goal.right_terms-overflow_add-read
right_terms-overflow_add-read t c =
    let h : 0 < c.args.count - c.loop.counter = omega arith in
    let o = first_within c.loop.invariant.going h c.right_side-term.ensures in
    search rules

pub right_terms-loop-preserved : goal.right_terms-loop-preserved
right_terms-loop-preserved t c =
    let e : c.args.count - (c.loop.counter + 1) ≡ c.args.count - c.loop.counter - 1 = omega arith in
    rw e (joining_on c.loop.invariant (omega arith) c.right_side-term.ensures)

pub right_terms-returns : goal.right_terms-returns
right_terms-returns t c = joining_ended c.loop.invariant (omega arith)
