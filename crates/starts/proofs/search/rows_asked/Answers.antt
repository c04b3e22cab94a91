use native.Mathlib.Omega.{arith}
use Rattle.walks.proofs.WalkLaws.{seen}
use Rattle.starts.proofs.TableLaws.{covers_more}
use Rattle.starts.proofs.search.rows_asked.Goals as goal

pub loop-t-preserved : goal.loop-t-preserved
loop-t-preserved c = covers_more (seen c.args.fit c.loop-t.t-index (omega arith)) c.loop-t.invariant c.rows_with-n.ensures
