-- The loop keeps the round, with as many transitions tried as were passed.
use Rattle.table.specs.Rows.{transitions}
use Rattle.reach.specs.Rounds.{Round, SameStart}
use Rattle.reach.proofs.Ways.round.Given as goal

abbrev pub invariant-loop-i : goal.invariant-loop-i
invariant-loop-i l =
    Round (transitions l.fit.rows.now) l.self.dist l.self.via l.r l.i l.top × SameStart l.initial.self.dist l.self.dist
