-- The trace that an answer shows is free; what two answers for one table agree in all the same, by their fields and the shown traces.
use Rattle.std.specs.Prelude.{◌≡◌, List, ℕ}
use Rattle.model.specs.Answers.{Fields}
use Rattle.table.specs.Showing.{at_step}

-- of a split I and J; of a turning trace the transition at K
pub record SameShown (f : Fields) (l : List ℕ) (g : Fields) (l' : List ℕ) : Type 0 where
  pub split : f.status ≡ 256 → (f.first ≡ g.first) × (f.second ≡ g.second)
  pub turning : f.status ≡ 257 → at_step l f.first ≡ at_step l' g.first
