use Rattle.table.specs.Rows.{transitions}
use Rattle.walks.specs.Soon.{Soon}
use Rattle.walks.proofs.soon.all_ends.Given as goal

abbrev pub invariant-loop-r : goal.invariant-loop-r
invariant-loop-r l = Soon (transitions l.fit.rows.now) l.r-index l.s
