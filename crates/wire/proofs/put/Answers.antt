use Rattle.std.proofs.Common.{arith, ◌∙◌}
use Rattle.std.proofs.Math.Nat.{le-div_iff_mul-le}
use Rattle.wire.proofs.Bytes.{no_room, storing-none, storing-more, storing-all, too-few}
use Rattle.wire.proofs.put.Goals as goal
use Rattle.wire.proofs.put.Goals.{then-out-k-via-then-out-k, then-out-k-via-else-out-k+then-out-k-2}

pub returns-then-out-k : goal.returns-then-out-k
returns-then-out-k g c =
    no_room _ _ g.met.N.Number.width _ _ _ (elim c.then-out-k.branch [
      | then-out-k-via-then-out-k w ↦ omega (arith, w.if-out-k.true)
      | then-out-k-via-else-out-k+then-out-k-2 w ↦ omega (arith, too-few g.met.N.Number.some w.if-out-k-2.true)
    ])

pub loop-i-init : goal.loop-i-init
loop-i-init g c = storing-none _ _ g.met.N.Number.width _ _ _ (omega (arith, (le-div_iff_mul-le g.met.N.Number.some).0 c.if-out-k-2.false))

pub loop-i-preserved : goal.loop-i-preserved
loop-i-preserved g c =
    storing-more _ _ g.met.N.Number.width _ c.loop-i.invariant _ _ c.index-vals-i.is (c.copy_from_slice.ensures.after ∙ c.to_bytes.ensures) c.loop-i-test.true _ (omega arith)

pub returns : goal.returns
returns g c = storing-all _ _ g.met.N.Number.width c.loop-i.invariant (omega arith)
