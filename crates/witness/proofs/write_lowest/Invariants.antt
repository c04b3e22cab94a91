-- Two tries: nothing is written until one shows a pair.
use mathlib.Core.Path.{◌≡◌}
use mathlib.Core.Bool.{cond}
use lib.ListN.{length}
use Rattle.witness.proofs.WitnessLaws.{Tried}
use Rattle.witness.proofs.write_lowest.Given as goal

abbrev pub invariant-loop-trace : goal.invariant-loop-trace
invariant-loop-trace l = (l.trace ≡ l.initial.trace) × Tried l.goal l.rows (length l.rows) l.ways.dist l.last l.found

abbrev pub decreases-loop-trace : goal.decreases-loop-trace
decreases-loop-trace l = cond l.last 0 1
