use native.Mathlib.Omega.{arith}
use lib.ListN.{length}
use Rattle.table.proofs.RowLaws.{length-rows}
use Rattle.walks.proofs.BestLaws.{making-end}
use Rattle.walks.proofs.sums.sweep.Goals as goal

pub returns : goal.returns
returns c =
    let l = c.args.fit.rows.now in
    making-end (omega (arith, length-rows l (length l))) c.loop-i.invariant
