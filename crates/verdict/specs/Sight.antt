-- How far the steps of a block have to look.
use Rattle.std.specs.Prelude.{◌≡◌, Bool, false, List, ℕ, ◌/◌, ◌≤◌, ◌<◌, get_or}
use Rattle.verdict.specs.declared.sight.Sight.{Sight}
use Rattle.verdict.specs.Marks.{Clear, mark_at}

-- of n steps, none from far on is what a step of the block asks for that is not calm
pub record Far (early late : List ℕ) (calm : List Bool) (n : ℕ) (s : Sight) : Type 0 where
  pub within : s.far ≤ 512
  pub clear : (k : ℕ) → k < 512 → k / 8 ≡ s.block → get_or calm k false ≡ false → Clear early late (mark_at early late k) s.far n
