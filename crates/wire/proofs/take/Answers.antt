use Rattle.std.proofs.Common.{◌≡◌, arith}
use Rattle.wire.proofs.Bytes.{taking-more}
use Rattle.wire.specs.Bytes.{taken_by}
use Rattle.wire.proofs.take.Goals as goal

pub loop-i-preserved : goal.loop-i-preserved
loop-i-preserved g c = taking-more _ _ _ _ c.read.result c.loop-i.invariant (omega arith) c.read.ensures

pub returns : goal.returns
unfolding taken_by
returns g c = let e : c.loop-i.i ≡ c.lesser-n.result = omega arith in rw (← c.lesser-n.ensures, ← e) c.loop-i.invariant
