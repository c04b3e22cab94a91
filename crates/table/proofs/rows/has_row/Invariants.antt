use mathlib.Core.Path.{◌≡◌}
use mathlib.Core.Bool.{false}
use Rattle.table.specs.Check.{has}
use Rattle.table.specs.Rows.{rows, said}
use Rattle.table.proofs.rows.has_row.Given as goal

abbrev pub invariant-loop-s : goal.invariant-loop-s
invariant-loop-s l = has (said l.r) (rows l.rows l.s-index) ≡ false
