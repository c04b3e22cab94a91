-- What the answer on a table file says, and what it leaves in the lent memory.
use Rattle.std.specs.Prelude.{List, ℕ}
use Rattle.model.specs.Answers.{Fields}
use Rattle.table_order.specs.OnOrder.{KeepsOrder, OrderShows}
use Rattle.places.specs.ShownBytes.{ShownOnFile}

-- with a machine that was read: 270 places for each buffer, whole ones; then what the call on values says
abbrev pub OrderBytesOutcome : List ℕ → List ℕ → List ℕ → Fields → List ℕ → List ℕ → Type 0
OrderBytesOutcome = ShownOnFile 270 270 KeepsOrder OrderShows
