use native.Mathlib.Omega.{arith}
use Rattle.verdict.proofs.LineLaws.{length-along}
use Rattle.verdict.proofs.PairLaws.{passed-more, passed-all, least-here}
use Rattle.verdict.proofs.SightLaws.{ruled_out}
use Rattle.verdict.proofs.pairs.pair_from.Goals as goal
use Rattle.verdict.proofs.pairs.pair_from.Goals.{then-may_turn+in_default, else-may_turn}

pub returns-in-Some : goal.returns-in-Some
returns-in-Some c = least-here c.loop-k.invariant.1 c.in-Some.m c.in-Some.ensures

pub loop-k-preserved : goal.loop-k-preserved
loop-k-preserved c =
    let l = c.loop-k in
    let s = c.sight_at-sight in
    let far = s.ensures.1 l.invariant.0 in (
      far,
      passed-more l.invariant.1 (elim c.if-may_turn.branch [
        | then-may_turn+in_default w ↦ w.in_default.ensures
        | else-may_turn w ↦ ruled_out c.args.seen (omega arith) s.result far s.ensures.0 (c.may_turn.ensures w.if-may_turn.false)
      ]),
    )

pub returns : goal.returns
returns c = passed-all c.loop-k.invariant.1 (omega (arith, length-along c.args.seen.line))
