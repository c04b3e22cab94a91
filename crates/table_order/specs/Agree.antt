-- The trace that an answer shows is free; what two answers for one table agree in all the same: the transition at K.
use Rattle.std.specs.Prelude.{◌≡◌, List, ℕ}
use Rattle.model.specs.Answers.{Fields}
use Rattle.table.specs.Showing.{at_step}

abbrev pub SameShown : Fields → List ℕ → Fields → List ℕ → Type 0
SameShown f l g l' = at_step l f.first ≡ at_step l' g.first
