-- What is not named follows from the arithmetic around it.
use native.Mathlib.Omega.{arith}
use Rattle.table.specs.Rows.{machine_of}
use Rattle.table.proofs.TestLaws.{valid-count}
use Rattle.table_order.proofs.DecideLaws.{rows-order}
use Rattle.order_bytes.proofs.OrderLaws.{order-uses}
use Rattle.order_bytes.proofs.OrderAsked270.search.Goals as goal

pub returns-clause-made : goal.returns-clause-made
returns-clause-made c =
    let a = c.args in
    let v = c.requires.valid in
    rows-order a.t.now v _ _ (c.rows.ensures.held (valid-count a.t.now v)) a.trace.now a.stamps.now
    (omega (arith, c.requires.places), omega (arith, c.requires.places)) c.order_rows-answer.ensures

pub returns-clause-uses : goal.returns-clause-uses
returns-clause-uses c = order-uses (machine_of c.args.t.now) c.used-n.ensures
