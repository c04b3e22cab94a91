use native.Mathlib.Omega.{arith}
use mathlib.Core.Path.{◌≡◌, sym, ◌∙◌}
use lib.ListN.{length}
use Rattle.table.specs.Rows.{row_at, rows, said}
use Rattle.table.proofs.RowLaws.{has-none, has_more, has_here}
use Rattle.table.proofs.rows.has_row.Goals as goal

pub loop-s-init : goal.loop-s-init
unfolding rows
loop-s-init c = has-none _ _

pub returns-then-same_row : goal.returns-then-same_row
unfolding rows
returns-then-same_row c =
    has_here (λ i. said (row_at c.args.rows.now i)) (said c.args.r) (length c.args.rows.now) c.loop-s.s-index c.loop-s-test.true (sym c.same_row.ensures ∙ c.if-same_row.true)

pub loop-s-preserved : goal.loop-s-preserved
unfolding rows
loop-s-preserved c = has_more _ _ _ c.loop-s.invariant (sym c.same_row.ensures ∙ c.if-same_row.false)

pub returns : goal.returns
returns c =
    let e : c.loop-s.s-index ≡ length c.args.rows.now = omega arith in
    sym (rw e at c.loop-s.invariant)
