-- The search finds this too; named, a check that fails says which part differs.
use Rattle.table_order.specs.OnOrder.{order_fields}
use Rattle.sandgusset.proofs.sandgusset_order.Goals as goal

pub returns : goal.returns
returns c = record {
  said = order_fields c.order_table_bytes-a.result;
  outcome = c.order_table_bytes-a.ensures;
  packs = c.pack.ensures;
}
