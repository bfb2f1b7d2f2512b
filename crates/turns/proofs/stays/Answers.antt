-- `turns::stays`: the opcode says how many fixed words there are, and so what is read; each return is the law of its opcode.
use mathlib.Core.Path.{sym, ◌∙◌}
use native.Mathlib.Omega.{arith}
use Rattle.turns.proofs.Turning.{fixed_of, stays_check, stays_full, stays_set, stays_high, stays_eqvar, stays_other, stays_eqimm, stays_eqi}
use Rattle.turns.proofs.Entered.{entries_length}
use borrow.Author.Tests.{ltb-true, ltb-false}
use Prim.Native.Nat.{◌+◌}
use lib.ListN.{get_or}
use mathlib.Core.Path.{◌≡◌}
use Rattle.turns.proofs.stays.Goals.{then-op-eq-SET, else-op-eq-SET+then-op-eq-EQVAR, else-op-eq-SET+else-op-eq-EQVAR}
use Rattle.turns.proofs.stays.Goals as goal

pub returns-then-op-eq-CHECK : goal.returns-then-op-eq-CHECK
returns-then-op-eq-CHECK c = let s = c.args in let p = c.requires in stays_check _ _ _ _ _ c.if-op-eq-CHECK.true (fixed_of s.code.now s.at 3 p.3 c.if-op-eq-CHECK.true) p.4 c.check_list.ensures

pub returns-then-op-eq-EQI : goal.returns-then-op-eq-EQI
returns-then-op-eq-EQI c = let s = c.args in let p = c.requires in stays_eqi _ _ _ _ _ c.if-op-eq-EQI.true (fixed_of s.code.now s.at 7 p.3 c.if-op-eq-EQI.true) p.4 c.eqi.ensures

pub returns-then-not-stands : goal.returns-then-not-stands
returns-then-not-stands c =
    let s = c.args in
    let p = c.requires in
    elim c.if-op-eq-SET.branch [
      | then-op-eq-SET w ↦
          let k = entries_length s.entries.now in
          let h = ltb-false s.entries.now.stored.count 16 (sym w.stands-is ∙ c.if-not-stands.true) in
          stays_full _ _ _ _ w.if-op-eq-SET.true (fixed_of s.code.now s.at 4 p.3 w.if-op-eq-SET.true) p.4 (omega arith)
      | else-op-eq-SET+then-op-eq-EQVAR w ↦
          let h = ltb-false (get_or s.code.now (s.at + 1) 0) s.d (sym w.stands-is ∙ c.if-not-stands.true) in
          stays_high _ _ _ _ w.if-op-eq-EQVAR.true (fixed_of s.code.now s.at 5 p.3 w.if-op-eq-EQVAR.true) p.4 (omega arith)
      | else-op-eq-SET+else-op-eq-EQVAR w ↦
          let o : get_or s.code.now s.at 0 ≡ 6 = omega (arith, w.if-op-eq-SET.false, w.if-op-eq-EQVAR.false) in
          stays_other _ _ _ s.entries.now o (fixed_of s.code.now s.at 6 p.3 o) p.4 (sym w.has_depth.ensures ∙ sym w.stands-is ∙ c.if-not-stands.true)
    ]

pub returns : goal.returns
returns c =
    let s = c.args in
    let p = c.requires in
    elim c.if-op-eq-SET.branch [
      | then-op-eq-SET w ↦
          let k = entries_length s.entries.now in
          let h = ltb-true s.entries.now.stored.count 16 (sym w.stands-is ∙ c.if-not-stands.false) in
          stays_set _ _ _ _ w.if-op-eq-SET.true (fixed_of s.code.now s.at 4 p.3 w.if-op-eq-SET.true) p.4 (omega arith)
      | else-op-eq-SET+then-op-eq-EQVAR w ↦
          let h = ltb-true (get_or s.code.now (s.at + 1) 0) s.d (sym w.stands-is ∙ c.if-not-stands.false) in
          stays_eqvar _ _ _ _ w.if-op-eq-EQVAR.true (fixed_of s.code.now s.at 5 p.3 w.if-op-eq-EQVAR.true) p.4 h
      | else-op-eq-SET+else-op-eq-EQVAR w ↦
          let o : get_or s.code.now s.at 0 ≡ 6 = omega (arith, w.if-op-eq-SET.false, w.if-op-eq-EQVAR.false) in
          stays_eqimm _ _ _ s.entries.now o (fixed_of s.code.now s.at 6 p.3 o) p.4 (sym w.has_depth.ensures ∙ sym w.stands-is ∙ c.if-not-stands.false)
    ]
