use native.Mathlib.Omega.{arith}
use Rattle.walks.proofs.WalkLaws.{seen}
use Rattle.walks.proofs.SoonLaws.{soon-more}
use Rattle.walks.proofs.soon.all_ends.Goals as goal

pub loop-r-preserved : goal.loop-r-preserved
loop-r-preserved c = soon-more (seen c.args.fit c.loop-r.r-index (omega arith)) c.loop-r.invariant c.sooner-s.ensures
