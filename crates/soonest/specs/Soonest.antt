-- The soonest end of the walks from each state: the least sum of lower bounds and of the last step's delay.
use Rattle.std.specs.Prelude.{◌≡◌, Bool, true, false, List, [], ◌∷◌, ◌++◌, ℕ, ◌+◌, ◌≤◌, ◌<◌, length, get_or}
use Rattle.model.specs.Lists.{total}
use Rattle.model.specs.Table.{Transition, at}
use Rattle.model.specs.Trace.{Trace, steps}
use Rattle.model.specs.Span.{span}

-- from s a walk that ends with m: U and m's delay make e
pub record Due (ts : List Transition) (s e : ℕ) : Type 0 where
  pub rest : List ℕ
  pub m : ℕ
  pub end : ℕ
  pub walk : Trace ts s (rest ++ (m ∷ [])) end
  pub sum : e ≡ (span (steps ts (rest ++ (m ∷ [])))).u + (at ts m).d

-- t, as an end or before one, makes no end sooner than what is kept for the state that it leaves
pub record Settled (t : Transition) (l : List ℕ) : Type 0 where
  pub own : get_or l t.from 0 ≤ t.u + t.d
  pub before : get_or l t.from 0 ≤ t.u + get_or l t.to 0

-- a number for each of 32 states: that of an end, or at least 240, since no delay is longer
pub record Real (ts : List Transition) (l : List ℕ) : Type 0 where
  pub size : length l ≡ 32
  pub due : (s : ℕ) → s < 32 → get_or l s 0 < 240 → Due ts s (get_or l s 0)

-- and no end is sooner
pub record Soonest (ts : List Transition) (l : List ℕ) : Type 0 where
  pub real : Real ts l
  pub least : (s e : ℕ) → Due ts s e → get_or l s 0 ≤ e

-- a number is made less, or all is as it was and so it should be
abbrev pub Lowered : List Transition → (List ℕ → Type 0) → List ℕ → Bool → List ℕ → Type 0
Lowered ts Fine l₀ true l = Real ts l × (total (λ x. x) l < total (λ x. x) l₀)
Lowered ts Fine l₀ false l = (l ≡ l₀) × Fine l₀

-- the first i transitions
abbrev pub SettledTo : List Transition → ℕ → List ℕ → Type 0
SettledTo ts i l = (j : ℕ) → j < i → Settled (at ts j) l
