-- What the reader's answers stand for (document 01, 'Bytes and the program').
use Rattle.std.specs.Prelude.{Option, Some, None, Result, Ok, Err, ℕ, ◌+◌, ◌*◌, cond, List, leb, length, get_or, take, drop}
use Rattle.std.proofs.Math.Option as Math
use Rattle.std.proofs.Math.Option.{none, some}
use Rattle.documents.specs.Numbers.{number_of}
use Rattle.documents.specs.Calls.{big_endian, words_of, File, file, ReadAnswer}
use Rattle.documents.specs.declared.Refusal.{Refusal}
use Rattle.reader.specs.declared.Counts.{Counts}

-- 01's numbers and the lent tables afterwards, for each answer
abbrev pub given : Result Counts Refusal → List ℕ → List ℕ → List ℕ → ReadAnswer
given (Ok c) left right subject =
    record { number = 0; left_words = c.left; right_words = c.right; subject_words = c.subject; left = left; right = right; subject = subject }
given (Err w) left right subject =
    record { number = number_of w; left_words = 0; right_words = 0; subject_words = 0; left = left; right = right; subject = subject }

-- how many words each table of a file has
abbrev pub counts_of : Math.Option File → Option Counts
counts_of none = None
counts_of (some (file l r s)) = Some (record { left = length l; right = length r; subject = length s })

-- the four bytes from a place on, as a word
unfoldable pub word_at : List ℕ → ℕ → ℕ
word_at bs at = big_endian (get_or bs at 0) (get_or bs (at + 1) 0) (get_or bs (at + 2) 0) (get_or bs (at + 3) 0)

-- the count that bytes begin with, at most `limit` and `room`
unfoldable pub count_in : ℕ → ℕ → List ℕ → Option ℕ
count_in limit room bs =
    let n = word_at bs 0 in
    cond (leb 4 (length bs)) (cond (leb n limit) (cond (leb n room) (Some n) None) None) None

-- n words from a place on
abbrev pub words_from : List ℕ → ℕ → ℕ → List ℕ
words_from bs at n = words_of (take (4 * n) (drop at bs))
