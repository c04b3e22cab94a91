-- The ends that are due soonest after the step before them.
use Rattle.std.specs.Prelude.{List, ℕ, ◌+◌, ◌≤◌, ◌<◌}
use Rattle.model.specs.Table.{Transition, at}
use Rattle.model.specs.Order.{Differ}
use Rattle.table.specs.Rows.{said}
use Rattle.criterion.specs.declared.Goal.{Goal}
use Rattle.model.specs.Criterion.{slack}
use Rattle.criterion.specs.Goals.{Possible}
use Rattle.walks.specs.declared.soon.Soonest.{Soonest}

-- t's own u and d is no less than what is kept of all ends, or of those that can be told apart from the soonest
pub record Bounds (s : Soonest) (t : Transition) : Type 0 where
  pub first : s.first ≤ t.u + t.d
  pub second : Differ t (said s.end) → s.second ≤ t.u + t.d

-- m taken in: what was bounded is, and so is m; and what was below both is below both
pub record Sooner (s : Soonest) (m : Transition) (r : Soonest) : Type 0 where
  pub here : Bounds r m
  pub still : (t : Transition) → Bounds s t → Bounds r t
  pub above : (x : ℕ) → x ≤ s.first → x ≤ s.second → x ≤ m.u + m.d → (x ≤ r.first) × (x ≤ r.second)

-- the first i transitions taken in; each has u and d of at least 1
pub record Soon (ts : List Transition) (i : ℕ) (s : Soonest) : Type 0 where
  pub bounds : (m : ℕ) → m < i → Bounds s (at ts m)
  pub low : (2 ≤ s.first) × (2 ≤ s.second)

-- r is no more than u and d of an end that is possible after k
pub record Asks (goal : Goal) (k : Transition) (s : Soonest) (r : ℕ) : Type 0 where
  pub least : (t : Transition) → Bounds s t → Possible goal k t → r ≤ t.u + t.d
  pub above : (x : ℕ) → x ≤ s.first → x ≤ s.second → x ≤ r

-- r rows are enough for every end that is possible after k
pub record RowsFor (goal : Goal) (k : Transition) (s : Soonest) (r : ℕ) : Type 0 where
  pub covers : (t : Transition) → Bounds s t → Possible goal k t → slack k t < r
  pub most : (x : ℕ) → x ≤ s.first → x ≤ s.second → x ≤ k.d → r + x ≤ k.d
