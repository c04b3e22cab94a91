use native.Mathlib.Omega.{arith}
use Rattle.walks.proofs.SoonLaws.{rows-after}
use Rattle.walks.proofs.soon.rows_for.Goals as goal

pub returns : goal.returns
returns c = rows-after c.args.k c.args.s c.least_for.ensures (omega arith)
