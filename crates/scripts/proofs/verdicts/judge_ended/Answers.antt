use native.Mathlib.Omega.{arith}
use Rattle.std.proofs.lemmas.List.{length-set, length-take}
use Rattle.scripts.proofs.verdicts.judge_ended.Goals as goal

pub slice_bounds-trace-end : goal.slice_bounds-trace-end
slice_bounds-trace-end c = simp length-set (omega arith)

pub slice_bounds-judge_trace-end : goal.slice_bounds-judge_trace-end
slice_bounds-judge_trace-end c = simp (length-take, length-set) (omega arith)
