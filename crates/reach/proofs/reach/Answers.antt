-- Written out so that an edit of the test is refused by values.
use Rattle.std.proofs.Common.{arith}
use Rattle.reach.proofs.reach.Goals as goal

pub spread-requires : goal.spread-requires
spread-requires c = omega arith
