-- What the search leaves, and what one look tells, of a table whose transitions are lent.
use mathlib.Core.Path.{◌≡◌, sym, ap, subst, ◌∙◌}
use mathlib.Core.List.{List}
use Prim.Native.Nat.{ℕ, ◌≤◌}
use native.Mathlib.Omega.{arith}
use lib.ListN.{length}
use Rattle.model.specs.Answers.{Fields}
use Rattle.model.specs.Table.{Machine, Valid}
use Rattle.model.specs.Trace.{steps}
use Rattle.model.proofs.Paths.{length-steps}
use Rattle.model.proofs.StampLaws.{early-stamps}
use Rattle.table.specs.declared.Row.{Row}
use Rattle.table.specs.declared.Table.{Table}
use Rattle.table.specs.Rows.{rows, machine_of}
use Rattle.table.proofs.ShowingLaws.{values}
use Rattle.neighbours.specs.Neighbours.{Calm}
use Rattle.neighbours.proofs.NeighbourLaws.{calm-keeps}
use Rattle.table_order.specs.OnOrder.{KeepsOrder, OrderShows, overtaken_shown}
use Rattle.table_order.proofs.OnlyLaws.{order-pinned}
use Rattle.places.specs.ShownBytes.{Uses}

-- one place per step for the stamps too, and a shown trace has at most 270
used-places : {m : Machine} {f : Fields} {l s : List ℕ} → OrderShows m f l s → (length s ≡ f.steps) × (f.steps ≤ 270)
used-places {m} (overtaken_shown {shown = shown} {k = k} {last = last} e a) =
    let word = early-stamps (steps m.transitions shown) k last in (
      omega (arith, word, length-steps m.transitions shown, values e, a.lowest.ends),
      omega (arith, values e, a.lowest.ends, a.lowest.few),
    )

-- an answer uses as many places as it has steps
pub order-uses : (m : Machine) {f : Fields} {n : ℕ} → n ≡ f.steps → Uses (OrderShows m) 270 270 f n n
order-uses m {f} {n} used = record {
  none = λ e. let c : n ≡ 0 = used ∙ (values e).3 in (c, c);
  all = λ l s x.
      let w = used-places x in
      (sym (used ∙ (order-pinned m).steps f l s x), w.0 ∙ sym used, omega (arith, w.1), omega (arith, w.1));
}

-- one look told that the table keeps request order
pub calm-order : (t : Table) → Valid (machine_of t) → (c : List Row) (n : ℕ) → rows c n ≡ (machine_of t).transitions → Calm c n → KeepsOrder (machine_of t)
calm-order t v c n e calm =
    let m : _ ≡ machine_of t = ap (λ ts. record { states = t.states; initial = t.initial; transitions = ts }) e in
    subst KeepsOrder m (calm-keeps calm t.states t.initial (subst Valid (sym m) v))
