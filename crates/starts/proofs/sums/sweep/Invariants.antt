use mathlib.Core.Path.{◌≡◌}
use lib.ListN.{length}
use Rattle.table.specs.Rows.{transitions}
use Rattle.starts.specs.Rows.{Making}
use Rattle.starts.proofs.sums.sweep.Given as goal

abbrev pub invariant-loop-i : goal.invariant-loop-i
invariant-loop-i l =
    (length l.numbers ≡ length l.initial.numbers) × (length l.letters ≡ length l.initial.letters) × Making (transitions l.fit.rows.now) l.numbers l.letters l.b l.i
