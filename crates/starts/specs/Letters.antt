-- Letters that differ.
use Rattle.std.specs.Prelude.{List, length}
use Rattle.model.specs.Table.{Transition, at}
use Rattle.model.specs.Order.{Differ}
use Rattle.walks.specs.Walks.{Among}

-- some transition of the table can be told apart from the first
abbrev pub AnyUnlike : List Transition → Type 0
AnyUnlike ts = Among (λ m. Differ (at ts 0) (at ts m)) (length ts)
