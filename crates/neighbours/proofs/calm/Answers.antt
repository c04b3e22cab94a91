use Rattle.neighbours.proofs.NeighbourLaws.{calm-told}
use Rattle.neighbours.proofs.calm.Goals as goal

pub returns-then-rows-le256 : goal.returns-then-rows-le256
returns-then-rows-le256 c = calm-told _ _ c.if-rows-le256.true c.lower.ensures c.none_over.result c.none_over.ensures
