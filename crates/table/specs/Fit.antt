-- What the search through a table asks of its cells: few transitions, every number of each within its range.
use Rattle.std.specs.Prelude.{List, ℕ, ◌≤◌}
use Rattle.model.specs.Lists.{All}
use Rattle.model.specs.Table.{InRange}
use Rattle.table.specs.declared.Row.{Row}
use Rattle.table.specs.Rows.{rows}

-- for as many states as a table can have
pub record Sound (cells : List Row) (count : ℕ) : Type 0 where
  pub few : count ≤ 256
  pub ranged : All (InRange 32) (rows cells count)
