use mathlib.Core.Path.{refl}
use mathlib.Core.Logic.{inr}
use Rattle.walks.proofs.walk.show.Goals as goal

pub returns-in-None : goal.returns-in-None
returns-in-None c = inr (λ t. c.in-None.ensures t.m t.to, refl, refl)
