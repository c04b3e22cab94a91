use native.Mathlib.Omega.{arith}
use mathlib.Core.Path.{refl}
use lib.ListN.{length}
use Rattle.table.proofs.FitLaws.{fit-sound}
use Rattle.table.proofs.RowLaws.{length-rows}
use Rattle.starts.proofs.TableLaws.{filled_none, making-none}
use Rattle.starts.proofs.sums.fill.Goals as goal

pub loop-b-init : goal.loop-b-init
loop-b-init c =
    let l = c.args.fit.rows.now in
    (refl, refl, filled_none (length-rows l (length l)) c.first_row-b.ensures c.requires.1)

pub sweep-requires : goal.sweep-requires
sweep-requires c =
    let l = c.loop-b.invariant in
    making-none (fit-sound c.args.fit).ranged (omega arith) (omega arith) l.2
