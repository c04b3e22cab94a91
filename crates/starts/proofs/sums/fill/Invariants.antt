use mathlib.Core.Path.{◌≡◌}
use lib.ListN.{length}
use Rattle.table.specs.Rows.{transitions}
use Rattle.starts.specs.Rows.{Filled}
use Rattle.starts.proofs.sums.fill.Given as goal

abbrev pub invariant-loop-b : goal.invariant-loop-b
invariant-loop-b l =
    (length l.numbers ≡ length l.initial.numbers) × (length l.letters ≡ length l.initial.letters) × Filled (transitions l.fit.rows.now) l.numbers l.letters l.b
