-- What is not named follows from the arithmetic around it.
use native.Mathlib.Omega.{arith}
use Rattle.verdict.proofs.TimeLaws.{next_small, filling-more}
use Rattle.verdict.proofs.times.fill.Goals as goal

-- the sum that the code makes at the step that it looks at
pub overflow_add-v : goal.overflow_add-v
overflow_add-v c =
    let s = c.step-s in
    omega (arith, next_small c.loop-j.invariant (omega arith) s.result s.ensures c.late_gap-v.result c.late_gap-v.ensures)

pub late_number-requires : goal.late_number-requires
late_number-requires c =
    let s = c.step-s in
    omega (arith, next_small c.loop-j.invariant (omega arith) s.result s.ensures c.late_gap-v.result c.late_gap-v.ensures)

pub loop-j-preserved : goal.loop-j-preserved
loop-j-preserved c =
    let s = c.step-s in
    filling-more c.loop-j.invariant (omega arith) s.result s.ensures c.late_gap-v.result c.late_gap-v.ensures
    c.late_number.result c.late_number.ensures
