-- Breadth first, in the making.
use Rattle.std.specs.Prelude.{◌≡◌, ◌↔◌, List, [], ◌∷◌, ℕ, zero, suc, ◌+◌, ◌≤◌, ◌<◌, length, set}
use Rattle.model.specs.Table.{Transition, at}
use Rattle.reach.specs.Reach.{mark, Linked, Met}

-- how many states are not reached
abbrev pub unmarked : List ℕ → ℕ
unmarked [] = 0
unmarked (zero ∷ l) = suc (unmarked l)
unmarked (suc k ∷ l) = unmarked l

-- round r with its first i transitions tried; no mark is above top. Every mark up to top stands at a state of its own, so 32 is enough
pub record Round (ts : List Transition) (dist via : List ℕ) (r i top : ℕ) : Type 0 where
  pub linked : Linked ts dist via
  pub low : 1 ≤ r
  pub near : top ≤ suc r
  pub most : (s : ℕ) → mark dist s ≤ top
  pub done : (j : ℕ) → j < length ts → 1 ≤ mark dist (at ts j).from → mark dist (at ts j).from < r → Met dist (at ts j)
  pub part : (j : ℕ) → j < i → mark dist (at ts j).from ≡ r → Met dist (at ts j)
  pub room : unmarked dist + top ≤ 32

-- what transition i, which is t, does in round r: it marks its arrival, or it does nothing
pub data Led (t : Transition) (i r top : ℕ) (dist via : List ℕ) : List ℕ → List ℕ → ℕ → Type 0 where
  led_on : mark dist t.from ≡ r → mark dist t.to ≡ 0 → Led t i r top dist via (set dist t.to (r + 1)) (set via t.to i) (r + 1)
  led_nowhere : (mark dist t.from ≡ r → 1 ≤ mark dist t.to) → Led t i r top dist via dist via top

-- the same states have the mark 1
pub record SameStart (dist₀ dist : List ℕ) : Type 0 where
  pub same : (s : ℕ) → (mark dist s ≡ 1) ↔ (mark dist₀ s ≡ 1)
