-- What is due soonest from each step on. A number has a letter in its low byte and a time above it.
use Rattle.std.specs.Prelude.{◌≡◌, Bool, true, false, List, ℕ, ◌*◌, ◌-◌, ◌%◌, ◌≤◌, ◌<◌, length, get_or}
use Rattle.model.specs.Table.{Transition}
use Rattle.verdict.specs.declared.calm.Soon.{Soon}
use Rattle.verdict.specs.Times.{Numbered}

-- x is not below s: not below the least, nor, with another letter than that, below the least of those
pub record Over (s : Soon) (x : ℕ) : Type 0 where
  pub first : s.first ≤ x
  pub other : (x % 256 ≡ s.first % 256 → ⊥) → s.other ≤ x

-- the numbers as they stand in a list
abbrev pub standing : List ℕ → ℕ → ℕ
standing early j = get_or early j 0

-- of n steps with these numbers, no later one with another letter is due before step k
pub record Calm (number : ℕ → ℕ) (n k : ℕ) : Type 0 where
  pub none : (m : ℕ) → k < m → m < n → (number m % 256 ≡ number k % 256 → ⊥) → number k - number k % 256 ≤ number m

-- what is known of the steps from p on, and of the blocks of eight that begin there
pub record Seen (number : ℕ → ℕ) (n : ℕ) (lows : List ℕ) (calm : List Bool) (p : ℕ) : Type 0 where
  pub few : n ≤ 512
  pub lows_size : length lows ≡ 64
  pub calm_size : length calm ≡ 512
  pub low : (i j : ℕ) → p ≤ 8 * i → 8 * i ≤ j → j < n → get_or lows i 0 ≤ number j
  pub still : (k : ℕ) → p ≤ k → k < n → get_or calm k false ≡ true → Calm number n k

-- what the look back leaves: the numbers, what is known of them, and the first step that is not calm
pub record LookedBack (tr : List Transition) (early lows : List ℕ) (calm : List Bool) (first : ℕ) : Type 0 where
  pub numbers : Numbered tr early 0
  pub seen : Seen (standing early) (length tr) lows calm 0
  pub within : first ≤ length tr
  pub before : (k : ℕ) → k < first → Calm (standing early) (length tr) k
