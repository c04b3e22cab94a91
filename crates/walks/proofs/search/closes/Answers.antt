use native.Mathlib.Omega.{arith}
use Rattle.model.specs.Shown.{late_gap}
use Rattle.model.proofs.AnswerLaws.{tells-same}
use Rattle.walks.proofs.EndLaws.{closed-law}
use Rattle.walks.proofs.search.closes.Goals as goal

pub overflow_add-number : goal.overflow_add-number
unfolding late_gap
overflow_add-number c = omega (arith, c.late_gap.ensures)

pub returns-then-number-ne0 : goal.returns-then-number-ne0
returns-then-number-ne0 c =
    tells-same c.meets.result (closed-law c.args.goal c.late_gap.ensures c.if-number-ne0.true) (rw c.from.ensures at c.meets.ensures)
