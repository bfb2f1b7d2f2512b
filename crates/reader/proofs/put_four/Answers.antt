-- `reader::put_four` writes four words: they are those that the file has there, and a store keeps the table's length.
use Rattle.reader.proofs.Words.{sets_four}
use Rattle.reader.proofs.put_four.Goals as goal

pub returns : goal.returns
returns c = rw (c.word_at-d.ensures, c.word_at-c.ensures, c.word_at-b.ensures, c.word_at-a.ensures) (sets_four _ _ _ _ c.requires.1)
