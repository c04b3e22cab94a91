use Rattle.model.specs.Lists.{total}
use Rattle.table.specs.Rows.{transitions}
use Rattle.soonest.specs.Soonest.{Real}
use Rattle.soonest.proofs.settle.Given as goal

abbrev pub invariant-loop : goal.invariant-loop
invariant-loop l = Real (transitions l.fit.rows.now) l.soonest

abbrev pub decreases-loop : goal.decreases-loop
decreases-loop l = total (λ x. x) l.soonest
