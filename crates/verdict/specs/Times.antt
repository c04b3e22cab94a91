-- When each step responds, at the soonest and at the latest: the numbers that the search for a pair goes by.
use Rattle.std.specs.Prelude.{◌≡◌, List, ℕ, suc, ◌+◌, ◌*◌, ◌-◌, ◌≤◌, ◌<◌, length, get_or, take, drop}
use Rattle.model.specs.Lists.{total}
use Rattle.model.specs.Table.{Transition, at}
use Rattle.model.specs.Shown.{late_gap}

-- step j's due time in ticks if every gap were u: every gap is more. It is counted back from the last step, which arrives at 2,096,640: no 512
-- lower bounds are more together.
abbrev pub soonest : List Transition → ℕ → ℕ
soonest tr j = 2096640 - total (λ t. t.u) (drop (suc j) tr) + (at tr j).d

-- step j's number: its letter in the low byte, its soonest time above
abbrev pub number_of : List Transition → ℕ → ℕ
number_of tr j = soonest tr j * 256 + (at tr j).output

-- its due time if every gap is late, in 1/256 tick
abbrev pub latest : List Transition → ℕ → ℕ
latest tr j = total late_gap (take (suc j) tr) + (at tr j).d * 256

-- the numbers of the steps from p on
pub record Numbered (tr : List Transition) (early : List ℕ) (p : ℕ) : Type 0 where
  pub size : length early ≡ 512
  pub is : (j : ℕ) → p ≤ j → j < length tr → get_or early j 0 ≡ number_of tr j

-- the latest times of the first n steps
pub record Latest (tr : List Transition) (late : List ℕ) (n : ℕ) : Type 0 where
  pub size : length late ≡ 512
  pub is : (j : ℕ) → j < n → get_or late j 0 ≡ latest tr j
