-- What is decided of a valid machine, and of transitions by the marks of reach.
use Rattle.std.specs.Prelude.{Some, None, Ok, ◌≡◌, List, [], ◌∷◌, ℕ, ◌+◌, ◌≤◌, length}
use Rattle.model.specs.Lists.{over}
use Rattle.model.specs.Table.{Machine}
use Rattle.table.specs.declared.Row.{Row}
use Rattle.table.specs.Rows.{rows}
use Rattle.table.specs.Tests.{Test, unless, Answered}
use Rattle.reach.specs.Reach.{Reach, after_limits}
use Rattle.criterion.specs.declared.Goal.TheVariants.{Overtakes}
use Rattle.witness.specs.Witness.{witness_of, ShownOutcome}
use Rattle.table_order.specs.declared.OnOrder.TheVariants.{InOrder, Overtaken}
use Rattle.table_order.specs.OnOrder.{Ordered, order_fields, OrderSays}

abbrev pub Decided : Machine → List ℕ → List ℕ → Ordered → List ℕ → List ℕ → Type 0
Decided m trace₀ stamps₀ r trace stamps =
    OrderSays m ((trace ≡ trace₀) × (stamps ≡ stamps₀)) (λ l s. (trace ≡ over l trace₀) × (stamps ≡ over s stamps₀)) (order_fields r)

-- nothing is shown, or a trace with its word
pub data Shown (cells : List Row) (count : ℕ) (dist via trace₀ stamps₀ : List ℕ) : Ordered → List ℕ → List ℕ → Type 0 where
  shown_none : {trace stamps : List ℕ} → ShownOutcome Overtakes cells count dist via trace₀ stamps₀ None trace stamps
      → Shown cells count dist via trace₀ stamps₀ (Ok InOrder) trace stamps
  shown_word : {n all : ℕ} {trace stamps : List ℕ} → ShownOutcome Overtakes cells count dist via trace₀ stamps₀ (Some (witness_of n all)) trace stamps
      → Shown cells count dist via trace₀ stamps₀ (Ok (Overtaken (n + 1) all)) trace stamps

-- the decision by the marks of reach
pub record ByMarks (cells : List Row) (count initial : ℕ) (trace₀ stamps₀ : List ℕ) (r : Ordered) (trace stamps : List ℕ) : Type 0 where
  pub dist : List ℕ
  pub via : List ℕ
  pub reach : Reach (rows cells count) initial dist via
  pub shown : Shown cells count dist via trace₀ stamps₀ r trace stamps

-- on transitions that nobody tested: 3, 4, then 8; then the decision
abbrev pub cell_tests : List Row → ℕ → ℕ → List ℕ → List ℕ → List Test
cell_tests cells count initial trace₀ stamps₀ = after_limits cells count initial (unless 8 ((270 ≤ length trace₀) × (270 ≤ length stamps₀)) ∷ [])

abbrev pub CellsOutcome : List Row → ℕ → ℕ → List ℕ → List ℕ → Ordered → List ℕ → List ℕ → Type 0
CellsOutcome cells count initial trace₀ stamps₀ r trace stamps =
    Answered (cell_tests cells count initial trace₀ stamps₀) (λ f. ByMarks cells count initial trace₀ stamps₀ r trace stamps)
    ((trace ≡ trace₀) × (stamps ≡ stamps₀)) (order_fields r)
