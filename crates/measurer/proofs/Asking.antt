-- What a call asks, with what is known of the parts that it gets.
use Prim.Native.Nat.{ℕ, ◌≤◌}
use mathlib.Core.List.{List}
use Rattle.links.specs.Standing.{Known}
use Rattle.links.proofs.Scenes.{scene_of, placed_of}
use Rattle.measurer.specs.Measuring.{Sequence, AsksSequence, Push, AsksPush, Spreading, AsksSpread, Free, AsksFree}

module _ {code subject entries : List ℕ} (k : Known code subject entries) {most : ℕ} (few : most ≤ 4096) where
  pub sequence_of : {from end : ℕ} {work : List ℕ} → AsksSequence code from end subject entries work → Sequence code from end subject entries work most
  sequence_of a = record { scene = scene_of k a.placed; few = few; positive = a.positive; ordered = a.ordered; inside = a.inside; makes = a.makes }

  pub push_of : {at : ℕ} {work : List ℕ} → AsksPush code at subject entries work → Push code at subject entries work most
  push_of a = record { scene = scene_of k a.placed; few = few; op = a.op; words = a.words; entry = a.entry; bodies = a.bodies }

  module _ {push c D : ℕ} (low : D ≤ 127) where
    pub spreading_of : {part : List ℕ} {places : ℕ} {work : List ℕ} → AsksSpread code push c part places subject entries work
        → Spreading code push c D part places subject entries work most
    spreading_of a =
        record {
          scene = scene_of k a.placed;
          few = few;
          words = a.words;
          entry = a.entry;
          part_is = a.part_is;
          places_are = a.places_are;
          low = low;
          makes = a.makes;
          memos = a.memos;
        }

    pub free_of : {w inside : ℕ} {work : List ℕ} → AsksFree code push c w inside subject entries work → Free code push c D w inside subject entries work most
    free_of a =
        record { scene = scene_of k a.placed; few = few; words = a.words; variable = a.variable; free = a.free; shallow = a.shallow; low = low; makes = a.makes; memos = a.memos }

module _ {code subject entries work : List ℕ} {most : ℕ} where
  pub asks_sequence : {from end : ℕ} → Sequence code from end subject entries work most → AsksSequence code from end subject entries work
  asks_sequence a = record { placed = placed_of a.scene; positive = a.positive; ordered = a.ordered; inside = a.inside; makes = a.makes }

  pub asks_push : {at : ℕ} → Push code at subject entries work most → AsksPush code at subject entries work
  asks_push a = record { placed = placed_of a.scene; op = a.op; words = a.words; entry = a.entry; bodies = a.bodies }

  pub asks_spread : {push c D : ℕ} {part : List ℕ} {places : ℕ} → Spreading code push c D part places subject entries work most → AsksSpread code push c part places subject entries work
  asks_spread a = record { placed = placed_of a.scene; words = a.words; entry = a.entry; part_is = a.part_is; places_are = a.places_are; makes = a.makes; memos = a.memos }

  pub asks_free : {push c D w inside : ℕ} → Free code push c D w inside subject entries work most → AsksFree code push c w inside subject entries work
  asks_free a = record { placed = placed_of a.scene; words = a.words; variable = a.variable; free = a.free; shallow = a.shallow; makes = a.makes; memos = a.memos }
