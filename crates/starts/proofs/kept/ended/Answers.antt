use native.Mathlib.Omega.{arith}
use Rattle.model.specs.Shown.{late_gap}
use Rattle.starts.specs.Kept.{ended_not, ended_here}
use Rattle.starts.proofs.kept.ended.Goals as goal

pub returns-then-left-from : goal.returns-then-left-from
returns-then-left-from c = ended_not (omega arith)

pub overflow_add-late_gap : goal.overflow_add-late_gap
unfolding late_gap
overflow_add-late_gap c = omega (arith, c.late_gap.ensures, c.from-2.ensures)

pub returns : goal.returns
returns c =
    ended_here (omega arith) (rw (c.capped.ensures, c.late_gap.ensures, c.from-2.ensures) at c.taken.ensures)
