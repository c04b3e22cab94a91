-- The first split pair.
use Rattle.std.specs.Prelude.{◌≡◌, List, ℕ, ◌+◌, ◌*◌, ◌%◌, ◌≤◌, ◌<◌, length}
use Rattle.table.specs.declared.Row.{Row}
use Rattle.model.specs.Lists.{LeastPair}
use Rattle.model.specs.Table.{Transition, Machine, at}
use Rattle.model.specs.Verdict.{SplitPair, Overlap}
use Rattle.table.specs.Rows.{rows}
use Rattle.reach.specs.Reach.{mark}
use Rattle.std.specs.Prelude.{Option, Some, None}

-- two transitions that leave one state with one input, and whose guards overlap
pub record Forks (s t : Transition) : Type 0 where
  pub together : t.from ≡ s.from
  pub alike : t.input ≡ s.input
  pub overlap : Overlap s t

-- one of 256 places for a transition, by the state that it leaves and its input: two that fork have one place
abbrev pub fork_place : Transition → ℕ
fork_place t = t.from % 32 * 8 + t.input % 8

-- of at most 256 transitions no two have one place
pub record Apart (cells : List Row) (count : ℕ) : Type 0 where
  pub few : count ≤ 256
  pub apart : (i j : ℕ) → i < j → j < count → fork_place (at (rows cells count) i) ≡ fork_place (at (rows cells count) j) → ⊥

-- a split pair, by the marks
pub record MarkedPair (ts : List Transition) (dist : List ℕ) (i j : ℕ) : Type 0 where
  pub marked : 1 ≤ mark dist (at ts i).from
  pub ordered : i < j
  pub inside : j < length ts
  pub forks : Forks (at ts i) (at ts j)

-- the least second of a pair with i, or none
abbrev pub Partner : List Transition → List ℕ → ℕ → Option ℕ → Type 0
Partner ts dist i (Some j) = MarkedPair ts dist i j × ((y : ℕ) → y < j → MarkedPair ts dist i y → ⊥)
Partner ts dist i None = (y : ℕ) → MarkedPair ts dist i y → ⊥

-- by the marks, of at most 256 transitions: the least split pair, by its first number, then by its second
abbrev pub SplitOutcome : List Row → ℕ → List ℕ → Option (ℕ × ℕ) → Type 0
SplitOutcome cells count dist (Some (i, j)) = (count ≤ 256) × LeastPair (MarkedPair (rows cells count) dist) i j
SplitOutcome cells count dist None = count ≤ 256 → (i j : ℕ) → MarkedPair (rows cells count) dist i j → ⊥

-- what the answer says of a machine
abbrev pub SplitFound : Machine → Option (ℕ × ℕ) → Type 0
SplitFound m (Some (i, j)) = LeastPair (SplitPair m) i j
SplitFound m None = (i j : ℕ) → SplitPair m i j → ⊥
