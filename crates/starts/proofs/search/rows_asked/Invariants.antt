use Rattle.table.specs.Rows.{transitions}
use Rattle.starts.specs.Rows.{Covers}
use Rattle.starts.proofs.search.rows_asked.Given as goal

abbrev pub invariant-loop-t : goal.invariant-loop-t
invariant-loop-t l = Covers (transitions l.fit.rows.now) l.dist l.t-index l.n
