use borrow.Author.Rules.{rules}
use native.Mathlib.Omega.{arith}
use mathlib.Core.Path.{◌≡◌, refl, sym, ◌∙◌}
use mathlib.Core.Bool.{false}
use Rattle.table.specs.Rows.{row_at, rows, said}
use Rattle.table.specs.Check.{has}
use Rattle.table.proofs.RowLaws.{unlike-none, unlike-next, unlike-stop}
use Rattle.table.proofs.SliceLaws.{rows-lent}
use Rattle.table.proofs.SeenLaws.{marked_start, marked-listed, marked-not, marked_next}
use Rattle.table.proofs.ranges.unlike_by.Goals as goal
use Rattle.table.proofs.ranges.unlike_by.Goals.{else-mark-via-then-mark+else-has_row, else-mark-via-else-mark}

pub loop-i-init : goal.loop-i-init
unfolding rows
loop-i-init c = let l = c.args.rows.now in (unlike-none l, marked_start (λ i. said (row_at l i)) _ (omega (arith, c.requires.1)), refl)

pub returns-then-has_row : goal.returns-then-has_row
returns-then-has_row c =
    let l = c.args.rows.now in
    unlike-stop l _ c.loop-i.i (omega arith) (rw (rows-lent l c.loop-i.i (omega arith)) at (sym c.has_row.ensures ∙ c.if-has_row.true))

pub loop-i-preserved : goal.loop-i-preserved
unfolding rows
loop-i-preserved c =
    let l = c.loop-i in
    let cells = c.args.rows.now in
    let t = said (row_at cells l.i) in
    let k = c.key.ensures in
    let new : has t (rows cells l.i) ≡ false =
    elim c.else-mark.branch [
      | else-mark-via-then-mark+else-has_row w ↦ rw (rows-lent cells l.i (omega arith)) at (sym w.has_row.ensures ∙ w.if-has_row.false)
      | else-mark-via-else-mark w ↦ marked-not l.invariant.1 t k c.mark.ensures.0 w.if-mark.false
    ] in (
      unlike-next cells l.i l.invariant.0 new,
      marked-listed (λ i. said (row_at cells i)) l.i refl (marked_next l.invariant.1 t k c.mark.ensures.1),
      search rules,
    )
