-- Written out so that an edit of the test is refused by values.
use Rattle.std.proofs.Common.{rules}
use Rattle.neighbours.proofs.none_over.Goals as goal

pub returns : goal.returns
returns c = search rules
