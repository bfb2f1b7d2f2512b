-- `accept::good` meets its contract. The words that are left hold as many terms as are owed exactly if the table holds one: a node takes one term off
-- and adds its arguments.
use Rattle.std.proofs.Common.{◌≡◌, ◌+◌, ◌*◌, ◌≤◌, ◌%◌, length}
use Rattle.std.specs.Slice.Iter.{chunks_exact_rest, chunks_exact_size}
use Rattle.documents.specs.Tables.{terms_in}
use Rattle.tables.specs.Answers.{is_good}
use Rattle.tables.proofs.Accepted.{holds}
use Rattle.tables.proofs.accept.good.Given as goal

abbrev pub invariant-loop-node : goal.invariant-loop-node
invariant-loop-node l =
    (chunks_exact_size l.node-iterator ≡ 2) ×
    (holds l.owed (terms_in (chunks_exact_rest l.node-iterator)) ≡ is_good l.table) ×
    (length (chunks_exact_rest l.node-iterator) % 2 ≡ length l.table % 2) ×
    (l.owed + 4 * length (chunks_exact_rest l.node-iterator) ≤ 1 + 4 * length l.table)
