-- The loop keeps that no number passed begins a pair.
use Rattle.table.specs.Rows.{transitions}
use Rattle.split_pair.proofs.SplitLaws.{Clear}
use Rattle.split_pair.proofs.first_split.Given as goal

abbrev pub invariant-loop-i : goal.invariant-loop-i
invariant-loop-i l = Clear (transitions l.rows) l.dist l.i
