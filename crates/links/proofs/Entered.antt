-- An entry of a scene: its words in the subject, the places of its nodes, and how deep these lie.
use mathlib.Core.Path.{◌≡◌, refl, sym, ap, ◌∙◌}
use Prim.Native.Nat.{ℕ, zero, suc, ◌+◌, ◌*◌, ◌/◌, ◌≤◌, ◌<◌}
use native.Mathlib.Omega.{arith}
use mathlib.Core.Option.{some}
use mathlib.Core.List.{List, [], ◌∷◌, ◌++◌, append_assoc}
use lib.ListN.{length, get_or, drop, take-append-drop, length-append}
use Rattle.documents.specs.Tables.{table_of, Fits, nodes, depth, subterm}
use lib.Seq.{drop_at}
use Rattle.documents.proofs.Tables.{subterm_place, length_table_of}
use Rattle.tables.specs.Parts.{front, Begins}
use Rattle.tables.proofs.Accepted.{fits_subterm, part_begins}
use Rattle.survey.specs.Places.{place, places_of}
use Rattle.survey.proofs.Places.{placed, places_root}
use Rattle.links.specs.Standing.{entry_place, entry_at, Scene}

-- a list that begins with a ∷ l, at a place
head_at : (l before rest : List ℕ) (w k : ℕ) → l ≡ before ++ (w ∷ rest) → length before ≡ k → get_or l k 0 ≡ w
head_at l [] rest w zero e h = rw e
head_at l [] rest w (suc k) e h = absurd (omega arith)
head_at l (x ∷ before) rest w zero e h = absurd (omega arith)
head_at l (x ∷ before) rest w (suc k) e h = rw e (head_at (before ++ (w ∷ rest)) before rest w k refl (omega arith))

pub record Entered (subject entries places : List ℕ) (e : ℕ) : Type 0 where
  pub node : ℕ
  pub level : ℕ
  pub above : ℕ
  pub later : List ℕ
  pub later_places : List ℕ
  pub even : entry_place entries e ≡ 2 * node
  pub words : drop (entry_place entries e) subject ≡ table_of (entry_at subject entries e) ++ later
  pub placed_so : drop (entry_place entries e / 2) places ≡ places_of level above (entry_at subject entries e) ++ later_places
  pub root : get_or places (entry_place entries e / 2) 0 ≡ place level above
  pub within : entry_place entries e + 2 * nodes (entry_at subject entries e) ≤ length subject
  pub shallow : level + depth (entry_at subject entries e) ≤ 65
  pub fewer : above + 1 ≤ level
  pub fits : Fits (entry_at subject entries e)
  pub begins : Begins 1 (drop (entry_place entries e) subject)
  pub is : front (drop (entry_place entries e) subject) ≡ entry_at subject entries e

module _ {code subject entries work : List ℕ} (sc : Scene code subject entries work) (e : ℕ) (h : e < length entries) where
  entered_at : (m : ℕ) → entry_place entries e ≡ 2 * m → entry_place entries e / 2 ≡ m → subterm (front subject) m ≡ some (entry_at subject entries e)
      → Entered subject entries (drop 4096 work) e
  entered_at m even half sub =
      let a = entry_at subject entries e in
      let t = front subject in
      let p = subterm_place t m a sub in
      let q = placed 1 0 t m a sub in
      let b = part_begins {t = subject} m a sc.table sc.fits sub in
      let r = places_root q.d q.k a in
      let words_are : drop (2 * m) subject ≡ table_of a ++ p.behind =
      ap (λ (l : List ℕ). drop (2 * m) l) (sym sc.table ∙ p.whole) ∙ drop_at p.before (table_of a ++ p.behind) (2 * m) p.start
      in
      let whole : drop 4096 work ≡ q.before ++ (places_of q.d q.k a ++ (q.behind ++ drop (nodes t) (drop 4096 work))) =
      sym (take-append-drop (nodes t) (drop 4096 work))
      ∙ ap (λ (l : List ℕ). l ++ drop (nodes t) (drop 4096 work)) (sc.places ∙ q.whole)
      ∙ append_assoc q.before _ _ ∙ ap (λ (l : List ℕ). q.before ++ l) (append_assoc (places_of q.d q.k a) _ _)
      in
      record {
        node = m;
        level = q.d;
        above = q.k;
        later = p.behind;
        later_places = q.behind ++ drop (nodes t) (drop 4096 work);
        even = even;
        words = ap (λ (k : ℕ). drop k subject) even ∙ words_are;
        placed_so = ap (λ (k : ℕ). drop k (drop 4096 work)) half ∙ (ap (λ (l : List ℕ). drop m l) whole ∙ drop_at q.before _ m q.start);
        root = ap (λ (k : ℕ). get_or (drop 4096 work) k 0) half ∙ (head_at (drop 4096 work) q.before _ _ m (whole ∙ ap (λ (l : List ℕ). q.before ++ (l ++ (q.behind ++ drop (nodes t) (drop 4096 work)))) r.1) q.start);
        within =
            let z : length subject ≡ 2 * m + (2 * nodes a + length p.behind) =
            ap length (sym sc.table ∙ p.whole) ∙ length-append p.before _ ∙ ap (λ k. length p.before + k) (length-append (table_of a) p.behind ∙ ap (λ k. k + length p.behind) (length_table_of a))
            ∙ ap (λ k. k + (2 * nodes a + length p.behind)) p.start
            in
            omega arith;
        shallow = let k = q.deeper in let j = sc.shallow in omega arith;
        fewer = let k = q.apart in omega arith;
        fits = fits_subterm t m a sc.fits sub;
        begins = rw even b.0;
        is = ap (λ (k : ℕ). front (drop k subject)) even ∙ b.1;
      }

  pub entered : Entered subject entries (drop 4096 work) e
  entered = let s = sc.stands e h in entered_at s.0 s.1 (let z = s.1 in omega arith) s.2
