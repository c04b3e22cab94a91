-- Whatever is asked, a search may go by the sums, and need not look at a pair that is not possible.
use mathlib.Core.Logic.{◌↔◌}
use Prim.Native.Nat.{ℕ, ◌+◌, ◌*◌, ◌≤◌, ◌<◌}
use Rattle.model.specs.Table.{Transition}
use Rattle.model.specs.Order.{Differ}
use Rattle.model.specs.Criterion.{Above, Below, Crosses}
use Rattle.model.proofs.CriterionLaws.{Sought, crosses-sought, ahead-sought, above-less}
use Rattle.criterion.specs.declared.Goal.{Goal}
use Rattle.criterion.specs.declared.Goal.TheVariants.{Turns, Overtakes}
use Rattle.criterion.specs.Goals.{Meets, Told, Possible}

pub goal-sought : (goal : Goal) → Sought (Meets goal)
goal-sought Turns = crosses-sought
goal-sought Overtakes = ahead-sought

met-told : (goal : Goal) (k m : Transition) (u late : ℕ) → Meets goal k m u late → Told goal k m
met-told Turns k m u late c = c.differ
met-told Overtakes k m u late c = tt

-- what is met, with a walk between or not, is possible
pub met-possible : (goal : Goal) (k m : Transition) (u late : ℕ) → m.u ≤ u → Meets goal k m u late → Possible goal k m
met-possible goal k m u late h c = record {
  above = above-less k m u m.u ((goal-sought goal).above k m u late c) h;
  told = met-told goal k m u late c;
}

-- counted from k's arrival, m is due before k at the soonest and not before it at the latest, and the two can be told apart
pub crosses-due : (k m : Transition) (u late : ℕ) → Crosses k m u late ↔ (Differ k m × (u + m.d < k.d) × (k.d * 256 ≤ late + m.d * 256))
unfolding Above Below
crosses-due k m u late = (λ c. (c.differ, c.above, c.below), λ w. record { differ = w.0; above = w.1; below = w.2 })
