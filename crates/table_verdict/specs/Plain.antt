-- What one look at each transition tells.
use Rattle.std.specs.Prelude.{List, ℕ}
use Rattle.table.specs.declared.Row.{Row}
use Rattle.neighbours.specs.Neighbours.{Calm}
use Rattle.split_pair.specs.Split.{Apart}

-- none can be overtaken by one right after it, and no two fork: a valid table with these transitions is strict, wherever it begins
pub record Plain (cells : List Row) (count : ℕ) : Type 0 where
  pub calm : Calm cells count
  pub apart : Apart cells count
