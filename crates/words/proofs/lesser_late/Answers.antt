use Rattle.std.proofs.Common.{arith}
use Rattle.words.proofs.lesser_late.Goals as goal

pub returns : goal.returns
returns c = omega arith
