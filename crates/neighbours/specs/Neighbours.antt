-- Transitions that may come one right after the other. States are told apart by their remainder by 32: there are no more of them in a table.
use Rattle.std.specs.Prelude.{◌≡◌, All, List, ℕ, ◌+◌, ◌%◌, ◌≤◌, ◌<◌, length, get_or}
use Rattle.table.specs.declared.Row.{Row}
use Rattle.model.specs.Table.{Transition, at}
use Rattle.table.specs.Rows.{rows}

-- one of the first n transitions leaves s, and its u and d make x
pub record Leaves (ts : List Transition) (n s x : ℕ) : Type 0 where
  pub j : ℕ
  pub known : j < n
  pub from : (at ts j).from % 32 ≡ s
  pub sum : (at ts j).u + (at ts j).d ≡ x

-- for each of 32 states the least such sum, or, where none leaves it, a number that no delay is above
pub record Low (ts : List Transition) (n : ℕ) (l : List ℕ) : Type 0 where
  pub size : length l ≡ 32
  pub low : (j : ℕ) → j < n → get_or l ((at ts j).from % 32) 0 ≤ (at ts j).u + (at ts j).d
  pub real : (s : ℕ) → s < 32 → get_or l s 0 < 65536 → Leaves ts n s (get_or l s 0)
  pub short : (k : ℕ) → k < n → (at ts k).d < 65536

-- no delay is above what is kept for the state that the transition leads to
abbrev pub NoneOver : List Row → List ℕ → Type 0
NoneOver rows l = All (λ (r : Row). r.d ≤ get_or l (r.to % 32) 0) rows

-- of at most 256 transitions none has a response that one right after it can come before
pub record Calm (cells : List Row) (count : ℕ) : Type 0 where
  pub few : count ≤ 256
  pub after : (k j : ℕ) → k < count → j < count → (at (rows cells count) k).to % 32 ≡ (at (rows cells count) j).from % 32
      → (at (rows cells count) k).d ≤ (at (rows cells count) j).u + (at (rows cells count) j).d
