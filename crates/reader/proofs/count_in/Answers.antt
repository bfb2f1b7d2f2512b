-- `reader::count_in` gives the count at a place. Each return is a case of `count_in`: the three tests stand there in the same order.
use mathlib.Core.Path.{sym}
use Rattle.reader.proofs.Words.{count_in_short, count_in_over_limit, count_in_over_room, count_in_within}
use Rattle.reader.proofs.count_in.Goals as goal
use Rattle.reader.proofs.count_in.Goals.{then-limit-words-via-then-limit-words, then-limit-words-via-else-limit-words+then-room-words}

pub returns-then-file-at : goal.returns-then-file-at
returns-then-file-at c = sym (count_in_short _ _ _ _ c.if-file-at.true)

pub returns-then-limit-words : goal.returns-then-limit-words
returns-then-limit-words c =
    elim c.then-limit-words.branch [
      | then-limit-words-via-then-limit-words w ↦ sym (count_in_over_limit _ _ _ _ _ c.if-file-at.false c.word_at-count.ensures w.if-limit-words.true)
      | then-limit-words-via-else-limit-words+then-room-words w ↦ sym (count_in_over_room _ _ _ _ _ c.if-file-at.false c.word_at-count.ensures w.if-limit-words.false w.if-room-words.true)
    ]

pub returns : goal.returns
returns c = sym (count_in_within _ _ _ _ _ c.if-file-at.false c.word_at-count.ensures c.if-limit-words.false c.if-room-words.false)
