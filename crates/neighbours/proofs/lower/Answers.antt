-- The loop keeps the least sums of the transitions passed.
use Rattle.std.proofs.Common.{rules}
use native.Mathlib.Omega.{arith}
use mathlib.Core.Path.{ap}
use Prim.Native.Nat.{◌+◌, ◌%◌, ◌<◌}
use lib.ListN.{length}
use Rattle.model.specs.Table.{Transition}
use Rattle.table.specs.Rows.{transitions, row_at}
use Rattle.table.proofs.RowLaws.{at_rows}
use Rattle.neighbours.proofs.NeighbourLaws.{low-none, low-more}
use Rattle.neighbours.proofs.lower.Goals as goal

pub loop-t-init : goal.loop-t-init
loop-t-init c = low-none _

pub loop-t-preserved : goal.loop-t-preserved
loop-t-preserved c =
    let r = c.args.rows.now in
    let l = c.loop-t in
    let e = at_rows r (length r) l.t-index c.loop-t-test.true in
    let d : (row_at r l.t-index).d < 65536 = omega arith in
    low-more (transitions r) l.t-index l.least l.invariant {own = c.from.result + c.from-in-loop-t.result}
    (omega (arith, ap (λ (t : Transition). t.from % 32) e)) (omega (arith, ap (λ (t : Transition). t.u + t.d) e)) (search rules)
    (omega (arith, ap (λ (t : Transition). t.d) e))
