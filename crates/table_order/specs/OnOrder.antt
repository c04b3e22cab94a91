-- Whether a table keeps request order, and what the answer leaves in the lent memory.
use Rattle.std.specs.Prelude.{Result, Ok, Err, ◌≡◌, List, [], ◌∷◌, ℕ, suc, ◌≤◌, length}
use Rattle.model.specs.Answers.{Fields, fields}
use Rattle.model.specs.Table.{Machine}
use Rattle.model.specs.Trace.{steps}
use Rattle.model.specs.Verdict.{Overtakes, ShowsLowest, TableOvertakes}
use Rattle.model.specs.Shown.{early_word, ShowsOvertaking}
use Rattle.model.specs.Stamps.{stamps_of}
use Rattle.table.specs.declared.Refusal.{Refusal}
use Rattle.table.specs.Refusal.{refused_fields}
use Rattle.table.specs.Tests.{Test, unless, after_table}
use Rattle.table.specs.Showing.{Showing, ShownOn}
use Rattle.table_order.specs.declared.OnOrder.{OnOrder}
use Rattle.table_order.specs.declared.OnOrder.TheVariants.{InOrder, Overtaken}

-- in order or overtaken, or why neither is said
abbrev pub Ordered : Type 0
Ordered = Result OnOrder Refusal

-- overtaken: 258, the steps K and M counted from 1, the last of which is M
abbrev pub order_fields : Ordered → Fields
order_fields (Ok InOrder) = fields 0 0 0 0
order_fields (Ok (Overtaken k m)) = fields 258 k m m
order_fields (Err r) = refused_fields r

-- refused by 3, 4, 5 and 8 as a table verdict is, with 270 places for each buffer
abbrev pub order_tests : Machine → List ℕ → List ℕ → List Test
order_tests m trace₀ stamps₀ = after_table m (unless 8 ((270 ≤ length trace₀) × (270 ≤ length stamps₀)) ∷ [])

-- in order: no step can be overtaken
abbrev pub KeepsOrder : Machine → Type 0
KeepsOrder m = TableOvertakes m → ⊥

-- else a trace of at most 270 steps that ends at m, the pair, and one early word. The pair's first transition is the lowest-numbered reachable one
-- that can be overtaken.
pub record ShowsOvertaken (m : Machine) (shown : List ℕ) (k last : ℕ) : Type 0 where
  pub lowest : ShowsLowest Overtakes m shown k last
  pub shows : ShowsOvertaking (steps m.transitions shown) k last

-- a shown trace and its stamps, by the answer's fields
pub data OrderShows (m : Machine) (f : Fields) : List ℕ → List ℕ → Type 0 where
  overtaken_shown : {shown : List ℕ} {k last : ℕ} → f ≡ fields 258 (suc k) (suc last) (suc last) → ShowsOvertaken m shown k last
      → OrderShows m f shown (stamps_of (early_word (steps m.transitions shown) k last))

-- what is answered of a machine, on values and on bytes: in order, or shown
abbrev pub OrderSays : Machine → Type 0 → (List ℕ → List ℕ → Type 0) → Fields → Type 0
OrderSays m = Showing (KeepsOrder m) (OrderShows m)

abbrev pub OrderOutcome : Machine → List ℕ → List ℕ → Fields → List ℕ → List ℕ → Type 0
OrderOutcome m trace₀ stamps₀ f trace stamps = ShownOn (order_tests m trace₀ stamps₀) (KeepsOrder m) (OrderShows m) trace₀ stamps₀ f trace stamps
