-- What watch answers.
use Rattle.documents.specs.Numbers.{Answer, answered, refused}
use Rattle.documents.specs.Calls.{WatchAnswer}
use Rattle.std.specs.Prelude.{Result, Ok, Err}
use Rattle.documents.specs.declared.Refusal.{Refusal}
use Rattle.watcher.specs.declared.Counts.{Counts}

-- the four counts, or the refusal that is due
abbrev pub as_watched : Answer WatchAnswer → Result Counts Refusal
as_watched (answered w) = Ok (record { current = w.current; entries = w.entries; finished = w.finished; node = w.node })
as_watched (refused r) = Err r
