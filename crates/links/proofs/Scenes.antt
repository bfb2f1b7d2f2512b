-- A scene, from what stays and what stands in the working table.
use mathlib.Core.List.{List}
use Prim.Native.Nat.{ℕ}
use Rattle.links.specs.Standing.{Scene, Known, Placed}

pub scene_of : {code subject entries work : List ℕ} → Known code subject entries → Placed subject work → Scene code subject entries work
scene_of k p =
    record {
      code_short = k.code_short;
      work_long = p.work_long;
      table = k.table;
      fits = k.fits;
      few = k.few;
      shallow = k.shallow;
      places = p.places;
      entries_few = k.entries_few;
      stands = λ e h. let n = k.stands e h in (n.0, n.1.0, n.1.1);
    }

pub known_of : {code subject entries work : List ℕ} → Scene code subject entries work → Known code subject entries
known_of s = record { code_short = s.code_short; table = s.table; fits = s.fits; few = s.few; shallow = s.shallow; entries_few = s.entries_few; stands = λ e h. let n = s.stands e h in (n.0, (n.1, n.2)) }

pub placed_of : {code subject entries work : List ℕ} → Scene code subject entries work → Placed subject work
placed_of s = record { work_long = s.work_long; places = s.places }
