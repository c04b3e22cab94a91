use Rattle.table.specs.Rows.{transitions}
use Rattle.soonest.proofs.SoonestLaws.{Round}
use Rattle.soonest.proofs.lower_all.Given as goal

abbrev pub invariant-loop-i : goal.invariant-loop-i
invariant-loop-i l = Round (transitions l.fit.rows.now) l.initial.soonest l.i l.any l.soonest
