use Rattle.std.proofs.Common.{Ok, refl}
use Rattle.table.proofs.TestLaws.{valid-count}
use Rattle.table_order.specs.OnOrder.{order_fields}
use Rattle.places.proofs.ShownLaws.{sighted}
use Rattle.order_bytes.proofs.OrderLaws.{calm-order}
use Rattle.order_bytes.proofs.OrderAsked270.at_sight.Goals as goal

pub returns : goal.returns
returns c =
    let t = c.args.t.now in
    rw c.then_some.ensures
    (sighted (λ a. order_fields (Ok a)) _ _ refl (calm-order t c.requires _ _ (c.rows.ensures.held (valid-count t c.requires))) c.calm.ensures)
