-- `matcher::match_part`: the code's program comes to what the rest of it comes to from the state that is held. Each instruction keeps that; the first build instruction finds no current term.
use Rattle.std.proofs.Common.{◌-◌, length}
use Rattle.matcher.proofs.Whole.{Going}
use Rattle.matcher.proofs.match_part.Given as goal

abbrev pub invariant-loop-here : goal.invariant-loop-here
invariant-loop-here l = Going l.code l.part l.entries l.here.at l.here.top l.here.current l.here.made

abbrev pub decreases-loop-here : goal.decreases-loop-here
decreases-loop-here l = length l.code - l.here.at
