-- 01's numbers and values for each case of an answer, as the C structs hold them.
use Rattle.std.specs.Prelude.{ℕ, cond, Result, Ok, Err}
use Rattle.documents.specs.declared.Refusal.{Refusal}
use Rattle.documents.specs.Numbers.{number_of}
use Rattle.reader.specs.declared.Counts as read
use Rattle.list_run.specs.declared.Ended.{Ended}
use Rattle.watcher.specs.declared.Counts as watched
use Rattle.answers.specs.declared.ReedReadAnswer.{ReedReadAnswer}
use Rattle.answers.specs.declared.ReedAnswer.{ReedAnswer}
use Rattle.answers.specs.declared.ReedListAnswer.{ReedListAnswer}
use Rattle.answers.specs.declared.ReedWatchAnswer.{ReedWatchAnswer}

abbrev pub of_read : Result read.Counts Refusal → ReedReadAnswer
of_read (Ok c) = record { number = 0; left = c.left; right = c.right; subject = c.subject }
of_read (Err w) = record { number = number_of w; left = 0; right = 0; subject = 0 }

-- of compile and of run
abbrev pub of_words : Result ℕ Refusal → ReedAnswer
of_words (Ok n) = record { number = 0; words = n }
of_words (Err w) = record { number = number_of w; words = 0 }

abbrev pub of_check : Result (Unit {0}) Refusal → ℕ
of_check (Ok _) = 0
of_check (Err w) = number_of w

-- normal is 1 if no rule matches any more, else 0
abbrev pub of_list_run : Result Ended Refusal → ReedListAnswer
of_list_run (Ok e) = record { number = 0; words = e.words; rewrites = e.rewrites; normal = cond e.normal 1 0 }
of_list_run (Err w) = record { number = number_of w; words = 0; rewrites = 0; normal = 0 }

abbrev pub of_watch : Result watched.Counts Refusal → ReedWatchAnswer
of_watch (Ok c) = record { number = 0; current = c.current; entries = c.entries; finished = c.finished; node = c.node }
of_watch (Err w) = record { number = number_of w; current = 0; entries = 0; finished = 0; node = 0 }
