-- what is left of the sweep gives what the whole sweep gives
use Rattle.std.proofs.Common.{◌≡◌, ◌≤◌, length}
use Rattle.records.specs.Sweep.{swept}
use Rattle.records.proofs.sweeps.sweep.Given as goal

abbrev pub invariant-loop-n : goal.invariant-loop-n
invariant-loop-n l = (l.n ≤ length l.list) × (swept l.n l.list l.work ≡ swept l.initial.n l.initial.list l.initial.work)

abbrev pub decreases-loop-n : goal.decreases-loop-n
decreases-loop-n l = l.n
