use native.Mathlib.Omega.{arith}
use Rattle.table.proofs.FitLaws.{fit-sound}
use Rattle.walks.proofs.BestLaws.{roomy, filled-first, making-none}
use Rattle.walks.proofs.sums.fill.Goals as goal

pub loop-p-init : goal.loop-p-init
loop-p-init c =
    let f = c.first.ensures in
    let z = fit-sound c.args.fit in
    (roomy z c.requires.0 f.size, filled-first z.ranged f)

pub sweep-requires : goal.sweep-requires
sweep-requires c =
    let l = c.loop-p.invariant in
    making-none l.0 (omega arith) l.1 c.copy_row.ensures
