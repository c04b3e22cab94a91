-- The loop keeps that the places of the transitions passed, each another, are those taken.
use Rattle.model.specs.Table.{at}
use Rattle.table.specs.Rows.{transitions}
use Rattle.split_pair.specs.Split.{fork_place}
use Rattle.split_pair.proofs.ApartLaws.{Taken}
use Rattle.split_pair.proofs.apart.Given as goal

abbrev pub invariant-loop-r : goal.invariant-loop-r
invariant-loop-r l = Taken (λ x. fork_place (at (transitions l.rows) x)) l.r-index l.taken
