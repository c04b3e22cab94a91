use native.Mathlib.Omega.{arith}
use mathlib.Core.Path.{refl}
use Rattle.player_bytes.proofs.HeldLaws.{reading-none, reading-more}
use Rattle.player_bytes.proofs.held.records_in.Goals as goal

pub loop-i-init : goal.loop-i-init
loop-i-init c = reading-none refl

pub loop-i-preserved : goal.loop-i-preserved
loop-i-preserved c = reading-more c.loop-i.invariant _ (omega arith) c.record_at.ensures
