-- The loop keeps the least sums of the transitions passed.
use Rattle.table.specs.Rows.{transitions}
use Rattle.neighbours.specs.Neighbours.{Low}
use Rattle.neighbours.proofs.lower.Given as goal

abbrev pub invariant-loop-t : goal.invariant-loop-t
invariant-loop-t l = Low (transitions l.rows) l.t-index l.least
