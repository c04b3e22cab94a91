use Rattle.std.proofs.Common.{arith}
use Rattle.records.proofs.ListLaws.{fine-order, order-fine}
use Rattle.records.proofs.in_order.Goals as goal
use Rattle.records.proofs.in_order.Goals.{then-p-below-via-then-p-below, then-p-below-via-else-p-below+then-inputs-p, then-p-below-via-else-p-below+else-inputs-p+then-p-gt61440}

pub returns-then-p-below : goal.returns-then-p-below
returns-then-p-below c = λ o.
    let f = order-fine c.args.waiting.now c.args.inputs o c.loop-p.p-index c.loop-p-test.true in
    elim c.then-p-below.branch [
      | then-p-below-via-then-p-below w ↦ omega (arith, w.if-p-below.true, c.loop-p.invariant.0, f.0)
      | then-p-below-via-else-p-below+then-inputs-p w ↦ omega (arith, w.if-inputs-p.true, f.1)
      | then-p-below-via-else-p-below+else-inputs-p+then-p-gt61440 w ↦ omega (arith, w.if-p-gt61440.true, f.2)
    ]

pub returns : goal.returns
returns c = fine-order c.args.waiting.now c.args.inputs (λ i h. c.loop-p.invariant.1 i (omega (arith, c.loop-p-test.false)))
