-- What is not named follows from the arithmetic around it.
use native.Mathlib.Omega.{arith}
use mathlib.Core.Path.{◌≡◌}
use Rattle.verdict.proofs.CalmLaws.{looking-none, looking-more, looking-block, back_none, back-small, number-here, back_more, looked-back}
use Rattle.verdict.proofs.calm.look_back.Goals as goal

pub loop-p-init : goal.loop-p-init
loop-p-init c =
    rw (c.len-first.ensures, c.len-p.ensures) (back_none (omega arith), looking-none _ _ _ _ c.args.line.few (omega arith) (omega arith))

pub overflow_sub-arrival : goal.overflow_sub-arrival
overflow_sub-arrival c =
    omega (arith, back-small c.loop-p.invariant.0 (omega arith) c.step-r.result c.step-r.ensures)

pub loop-p-preserved-then-p-eq0 : goal.loop-p-preserved-then-p-eq0
loop-p-preserved-then-p-eq0 c =
    let l = c.loop-p.invariant in
    let n = number-here l.0 (omega arith) c.step-r.result c.step-r.ensures c.early_number-e.result c.early_number-e.ensures in (
      rw c.from-arrival.ensures (back_more l.0 (omega arith) c.step-r.result c.step-r.ensures c.early_number-e.result c.early_number-e.ensures),
      looking-block l.1 (omega arith) n c.after-still.result c.after-still.ensures c.with-s.result c.with-s.ensures
          c.first_unless-first.result c.first_unless-first.ensures (omega arith),
    )

pub loop-p-preserved : goal.loop-p-preserved
loop-p-preserved c =
    let l = c.loop-p.invariant in
    let n = number-here l.0 (omega arith) c.step-r.result c.step-r.ensures c.early_number-e.result c.early_number-e.ensures in (
      rw c.from-arrival.ensures (back_more l.0 (omega arith) c.step-r.result c.step-r.ensures c.early_number-e.result c.early_number-e.ensures),
      looking-more l.1 (omega arith) n c.after-still.result c.after-still.ensures c.with-s.result c.with-s.ensures
          c.first_unless-first.result c.first_unless-first.ensures c.if-p-eq0.false,
    )

pub returns : goal.returns
returns c =
    let z : c.loop-p.p ≡ 0 = omega arith in
    let l = rw z at c.loop-p.invariant in
    looked-back l.0 l.1
