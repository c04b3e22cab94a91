-- The loop keeps that the rounds before r are over.
use Rattle.table.specs.Rows.{transitions}
use Rattle.reach.specs.Reach.{StartMarks}
use Rattle.reach.specs.Rounds.{Round}
use Rattle.reach.proofs.spread.Given as goal

abbrev pub invariant-loop-r : goal.invariant-loop-r
invariant-loop-r l =
    Round (transitions l.fit.rows.now) l.ways.dist l.ways.via l.r 0 l.r × StartMarks l.initial' l.ways.dist
