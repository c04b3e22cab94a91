use native.Mathlib.Omega.{arith}
use Rattle.model.proofs.AnswerLaws.{tells-same}
use Rattle.table.proofs.fit.in_limits.Goals as goal

pub returns-then-rows-le256 : goal.returns-then-rows-le256
returns-then-rows-le256 c = tells-same c.all_in_range.result (λ a. record { few = omega arith; ranged = a }, λ s. s.ranged) c.all_in_range.ensures
