use Rattle.table.specs.Rows.{transitions}
use Rattle.walks.specs.Best.{Making}
use Rattle.walks.proofs.sums.sweep.Given as goal

abbrev pub invariant-loop-i : goal.invariant-loop-i
invariant-loop-i l = Making (transitions l.fit.rows.now) l.s l.best l.at l.i
