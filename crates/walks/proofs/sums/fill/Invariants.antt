use Prim.Native.Nat.{◌+◌}
use Rattle.table.specs.Rows.{transitions}
use Rattle.walks.specs.Best.{Filled, Roomy}
use Rattle.walks.proofs.sums.fill.Given as goal

abbrev pub invariant-loop-p : goal.invariant-loop-p
invariant-loop-p l = Roomy (transitions l.fit.rows.now) l.s l.best × Filled (transitions l.fit.rows.now) l.s l.best (l.p + 1)
