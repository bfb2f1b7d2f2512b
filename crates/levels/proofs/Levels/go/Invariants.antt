-- `go` meets its contract: at every turn the array stands above the node, and a turn goes on to the next one (`above_next`).
use Prim.Native.Nat.{◌<◌}
use Rattle.documents.specs.Tables.{nodes}
use Rattle.tables.specs.Parts.{front}
use Rattle.levels.specs.Levels.{Above}
use Rattle.levels.proofs.Levels.go.Given as goal

abbrev pub invariant-loop-node : goal.invariant-loop-node
invariant-loop-node l = Above l.plan l.node l.above l.here × (l.to < nodes (front l.plan))
