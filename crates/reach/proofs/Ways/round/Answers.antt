-- The loop keeps the round, with as many transitions tried as were passed.
use mathlib.Core.Path.{sym}
use native.Mathlib.Omega.{arith}
use lib.ListN.{length}
use Rattle.table.proofs.RowLaws.{row_near, length-rows}
use Rattle.table.proofs.FitLaws.{fit-sound, row-said, row-ranged}
use Rattle.reach.proofs.RoundLaws.{led-round, same-trans}
use Rattle.reach.proofs.Ways.round.Goals as goal

pub loop-i-preserved : goal.loop-i-preserved
loop-i-preserved c =
    let l = c.loop-i in
    let t = c.args.fit.rows.now in
    let s = fit-sound c.args.fit in
    let n = length-rows t (length t) in
    let w = led-round l.invariant.0 (row-said s l.i c.loop-i-test.true (sym (row_near t l.i))) (omega arith)
    (row-ranged s l.i c.loop-i-test.true).arrives c.lead-top.ensures in
    (w.0, same-trans l.invariant.1 w.1)
