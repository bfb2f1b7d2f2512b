-- `refusal_at` meets its contract: its tests are those of `subject_in`, in the same order, and a subject that passes all but the last has a metavariable.
use mathlib.Core.Path.{◌≡◌, sym, ◌∙◌}
use mathlib.Core.Bool.{Bool, true, false, not}
use Rattle.documents.proofs.Lists.{never}
use Rattle.tables.proofs.Accepted.{good_begins}
use Rattle.survey.proofs.Surveying.{refused_bad, refused_unfit, refused_deep}
use Rattle.survey.proofs.refusal_at.Goals as goal
use Rattle.survey.proofs.refusal_at.Goals.{then-not-in_layout, else-not-in_layout}

not_bad : {v r : Bool} → v ≡ not r → v ≡ false → r ≡ true
not_bad {r = true} e f = cc
not_bad {r = false} e f = never (cc)

not_good : {v r : Bool} → v ≡ not r → v ≡ true → r ≡ false
not_good {r = true} e f = never (cc)
not_good {r = false} e f = cc

pub returns-then-not-good : goal.returns-then-not-good
returns-then-not-good c =
    let p = c.requires in
    refused_bad _ p.0 (elim c.if-not-in_layout.branch [
      | then-not-in_layout w ↦ p.2 (sym c.in_layout.ensures ∙ w.if-not-in_layout.true)
      | else-not-in_layout w ↦ sym w.good.ensures ∙ not_good w.value-is c.if-not-good.true
    ])

pub is_shallow-requires : goal.is_shallow-requires
is_shallow-requires c =
    (good_begins c.args.subject.now (elim c.if-not-in_layout.branch [
      | then-not-in_layout w ↦ never (cc (not_bad w.value-is c.if-not-good.false, w.if-not-in_layout.true))
      | else-not-in_layout w ↦ sym w.good.ensures ∙ not_bad w.value-is c.if-not-good.false
    ])).0

pub returns-then-is_shallow : goal.returns-then-is_shallow
returns-then-is_shallow c =
    let p = c.requires in
    refused_unfit c.args.subject.now (elim c.if-not-in_layout.branch [
      | then-not-in_layout w ↦ never (cc (not_bad w.value-is c.if-not-good.false, w.if-not-in_layout.true))
      | else-not-in_layout w ↦ sym w.good.ensures ∙ not_bad w.value-is c.if-not-good.false
    ]) p.0 p.1 (sym c.is_shallow.ensures ∙ c.if-is_shallow.true)

pub returns-else-is_shallow : goal.returns-else-is_shallow
returns-else-is_shallow c =
    let p = c.requires in
    refused_deep c.args.subject.now (elim c.if-not-in_layout.branch [
      | then-not-in_layout w ↦ never (cc (not_bad w.value-is c.if-not-good.false, w.if-not-in_layout.true))
      | else-not-in_layout w ↦ sym w.good.ensures ∙ not_bad w.value-is c.if-not-good.false
    ]) p.0 (sym c.is_shallow.ensures ∙ c.if-is_shallow.false)
