-- What a search asks of two steps.
use Rattle.std.specs.Prelude.{ℕ}
use Rattle.model.specs.Table.{Transition}
use Rattle.model.specs.Order.{Differ}
use Rattle.model.specs.Criterion.{Above, Crosses, Ahead}
use Rattle.criterion.specs.declared.Goal.{Goal}
use Rattle.criterion.specs.declared.Goal.TheVariants.{Turns, Overtakes}

-- the verdict on a table asks for a pair that turns, request order for one whose later step can respond first
abbrev pub Meets : Goal → Transition → Transition → ℕ → ℕ → Type 0
Meets Turns k m u late = Crosses k m u late
Meets Overtakes k m u late = Ahead k m u late

-- for request order every pair counts
abbrev pub Told : Goal → Transition → Transition → Type 0
Told Turns k m = Differ k m
Told Overtakes k m = Unit {0}

-- as far as m's own u and the letters go
pub record Possible (goal : Goal) (k m : Transition) : Type 0 where
  pub above : Above k m m.u
  pub told : Told goal k m
