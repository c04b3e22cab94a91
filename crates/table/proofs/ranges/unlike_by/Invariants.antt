use mathlib.Core.Path.{◌≡◌}
use lib.ListN.{length}
use Rattle.table.specs.Rows.{rows}
use Rattle.table.specs.Seen.{Marked}
use Rattle.model.specs.Table.{Unlike}
use Rattle.table.proofs.ranges.unlike_by.Given as goal

abbrev pub invariant-loop-i : goal.invariant-loop-i
invariant-loop-i l = Unlike (rows l.rows l.i) × Marked l.seen (rows l.rows l.i) × (length l.seen ≡ length l.initial.seen)
