use native.Mathlib.Omega.{arith}
use Rattle.walks.proofs.WalkLaws.{seen}
use Rattle.starts.proofs.TableLaws.{ends_more}
use Rattle.starts.proofs.sums.first_row.Goals as goal

pub loop-t-preserved : goal.loop-t-preserved
loop-t-preserved c = ends_more (seen c.args.fit c.loop-t.t-index (omega arith)) (omega arith) c.loop-t.invariant
