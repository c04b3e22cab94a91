use Rattle.table.specs.Rows.{named}
use Rattle.replay.proofs.GapLaws.{Passed}
use Rattle.replay.proofs.gaps.first_outside.Given as goal

abbrev pub invariant-loop-i : goal.invariant-loop-i
invariant-loop-i g l = Passed (named l.rows (g.T.Layout.list l.trace)) l.start (g.S.Layout.list l.stamps) l.before l.i
