use Rattle.table.specs.Rows.{transitions}
use Rattle.starts.specs.Rows.{EndsFrom}
use Rattle.starts.proofs.sums.first_row.Given as goal

abbrev pub invariant-loop-t : goal.invariant-loop-t
invariant-loop-t l = EndsFrom (transitions l.fit.rows.now) l.t-index l.n l.low
