-- Two outcomes that the answer on a table file allows agree in all but the trace that is shown, and in everything if they show one trace.
use mathlib.Core.Path.{◌≡◌}
use mathlib.Core.List.{List}
use Prim.Native.Nat.{ℕ, ◌≤◌, ◌<◌}
use lib.ListN.{length}
use Rattle.model.specs.Answers.{Fields}
use Rattle.model.specs.Lists.{All}
use Rattle.model.specs.Table.{Machine}
use Rattle.model.proofs.Paths.{trace-known}
use Rattle.wire.specs.Bytes.{Bytes, wholes}
use Rattle.table.specs.Showing.{shown_in, Agree, ByTrace}
use Rattle.table_order.specs.OnOrder.{Ordered, order_fields, OrderShows, overtaken_shown}
use Rattle.table_order.specs.Agree.{SameShown}
use Rattle.table_order.proofs.OnlyLaws.{answer-only, order-pinned, order-by}
use Rattle.places.proofs.ShownLaws.{bytes-is, bytes-agree, bytes-only, bytes-plain-only}
use Rattle.order_bytes.specs.Orders.{OrderBytesOutcome}

-- a shown trace names transitions of the table
pub order-known : (m : Machine) (f : Fields) (l s : List ℕ) → OrderShows m f l s → All (λ i. i < length m.transitions) l
order-known m f _ _ (overtaken_shown {shown = shown} e a) = trace-known _ _ _ shown a.lowest.path

-- one file and one lent memory
module _ (trace₀ stamps₀ : List ℕ) (file : List ℕ) (read : Bytes file) where
  abbrev Out : Fields → List ℕ → List ℕ → Type 0
  Out f trace stamps = OrderBytesOutcome file trace₀ stamps₀ f trace stamps

  -- K is the first place of its transition in the shown trace, and M the trace's length
  pub order-bytes-by-trace : (f : Fields) (trace stamps : List ℕ) → Out f trace stamps → 256 ≤ f.status
      → ByTrace (shown_in f (wholes 2 trace)) f.first f.second
  order-bytes-by-trace f trace stamps x h =
      bytes-is order-pinned order-known 270 270 trace₀ stamps₀ file read f trace stamps (λ l. ByTrace l f.first f.second) (λ m. order-by m) h x

  module _ (f g : Fields) (trace stamps trace' stamps' : List ℕ) (x : Out f trace stamps) (y : Out g trace' stamps') where
    -- whatever traces they show, two outcomes agree in kind, a refusal's number and place, the transition at K
    pub order-bytes-agree : Agree SameShown f (wholes 2 trace) g (wholes 2 trace')
    order-bytes-agree = bytes-agree order-pinned order-known 270 270 trace₀ stamps₀ file read f g trace stamps trace' stamps' x y

    -- two outcomes that show one trace are equal: fields, trace memory and stamp memory
    pub fields-only : shown_in f (wholes 2 trace) ≡ shown_in g (wholes 2 trace') → (f ≡ g) × (trace ≡ trace') × (stamps ≡ stamps')
    fields-only = bytes-only order-pinned order-known 270 270 trace₀ stamps₀ file read f g trace stamps trace' stamps' x y

    -- so are two that are in order or refused
    pub fields-plain-only : f.status < 256 → (f ≡ g) × (trace ≡ trace') × (stamps ≡ stamps')
    fields-plain-only = bytes-plain-only order-pinned order-known 270 270 trace₀ stamps₀ file read f g trace stamps trace' stamps' x y

  -- the same of the answers
  pub order-bytes-only : (r s : Ordered) (trace stamps trace' stamps' : List ℕ) → Out (order_fields r) trace stamps → Out (order_fields s) trace' stamps'
      → shown_in (order_fields r) (wholes 2 trace) ≡ shown_in (order_fields s) (wholes 2 trace') → (r ≡ s) × (trace ≡ trace') × (stamps ≡ stamps')
  order-bytes-only r s trace stamps trace' stamps' x y h =
      let o = fields-only (order_fields r) (order_fields s) trace stamps trace' stamps' x y h in
      (answer-only r s o.0, o.1, o.2)

  pub order-bytes-plain-only : (r s : Ordered) (trace stamps trace' stamps' : List ℕ) → Out (order_fields r) trace stamps → Out (order_fields s) trace' stamps'
      → (order_fields r).status < 256 → (r ≡ s) × (trace ≡ trace') × (stamps ≡ stamps')
  order-bytes-plain-only r s trace stamps trace' stamps' x y h =
      let o = fields-plain-only (order_fields r) (order_fields s) trace stamps trace' stamps' x y h in
      (answer-only r s o.0, o.1, o.2)
