use native.Mathlib.Omega.{arith}
use lib.ListN.{length}
use Rattle.table.proofs.RowLaws.{length-rows}
use Rattle.starts.proofs.TableLaws.{making-end}
use Rattle.starts.proofs.sums.sweep.Goals as goal

pub returns : goal.returns
returns c =
    let l = c.args.fit.rows.now in
    making-end (omega (arith, length-rows l (length l))) c.loop-i.invariant.2
