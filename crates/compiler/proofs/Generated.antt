-- The code of a rule is its left side's and then its right side's, with the rows of the symbol table and as many SETs to come as there are rows.
use mathlib.Core.Path.{◌≡◌, sym}
use Prim.Native.Nat.{ℕ, ◌/◌}
use native.Mathlib.Omega.{arith}
use mathlib.Core.List.{List, ◌++◌}
use lib.ListN.{length}
use Rattle.documents.specs.Instructions.{words}
use Rattle.documents.specs.Translation.{symbol_table, lhs, rhs, compile}
use Rattle.documents.specs.Calls.{at_front}
use Rattle.tables.specs.Parts.{front}
use Rattle.symbols.specs.Rows.{rows_in, Low}
use Rattle.symbols.proofs.Stored.{length_rows}
use Rattle.symbols.proofs.Whole.{low_table}
use Rattle.generator.specs.declared.left.Matched.{Matched}
use Rattle.generator.specs.declared.right.Built.{Built}
use Rattle.generator.specs.Written.{Fits}
use Rattle.generator.specs.Matching.{left_code, Asked, Done}
use Rattle.generator.specs.Building.{right_code, Ready, Builds}
use Rattle.generator.proofs.Written.{words-⧺, Writing, writing_from, writing_on, writing_last, writing_as, fits_first}
use Rattle.compiler.specs.Answers.{Generating}
use Rattle.compiler.proofs.Called.{left_simple_lem, right_short}

module _ {left right rows code : List ℕ} (g : Generating left right rows code) where
  low : Low (rows_in rows)
  low = rw g.entries (low_table (front left) (left_simple_lem g.sides))

  -- the code comes in two
  two : words (compile (front left) (front right)) ≡ left_code rows 0 (length rows / 11) (front left) ++ right_code rows 0 (front right)
  unfolding right_code
  two =
      let t = symbol_table (front left) in
      rw (sym (length_rows rows), g.entries) (words-⧺ (lhs t 0 (length t) (front left)) (rhs t 0 (front right)))

  begun : Writing code 0 (words (compile (front left) (front right))) code 0 (left_code rows 0 (length rows / 11) (front left) ++ right_code rows 0 (front right))
  begun = writing_as _ two (writing_from g.fits)

  pub left_asked : Asked left rows code 0 (length rows / 11) 0
  left_asked = record {
    begins = g.sides.left_begins;
    simple = left_simple_lem g.sides;
    shallow = omega arith;
    low = low;
    few = g.few;
    fits = fits_first _ _ begun.fits;
  }

  module _ {mid : List ℕ} {matched : Matched} (d : Done left rows code mid 0 (length rows / 11) 0 matched) where
    behind_left : Writing code 0 (words (compile (front left) (front right))) mid matched.next (right_code rows 0 (front right))
    behind_left = writing_on _ _ begun d.wrote

    pub right_asked : Ready 1 right 0 rows × Fits mid matched.next (right_code rows 0 (front right))
    right_asked = (
      record { begins = g.sides.right_begins; shallow = let h = right_short g.sides in omega arith; low = low; few = g.few },
      behind_left.fits,
    )

    pub generated : {new : List ℕ} {built : Built} → Builds (front right) (right_code rows 0 (front right)) mid new matched.next built
        → new ≡ at_front code (words (compile (front left) (front right)))
    generated b = (writing_last behind_left b.wrote).code
