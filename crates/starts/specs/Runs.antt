-- Walks from a state to an end, by their first step.
use Rattle.std.specs.Prelude.{◌≡◌, ◌⊎◌, List, [], ◌∷◌, ◌++◌, ℕ, ◌+◌, ◌*◌, ◌-◌, ◌≤◌, ◌<◌, length}
use Rattle.model.specs.Table.{Transition, at}
use Rattle.model.specs.Trace.{Trace, steps}
use Rattle.model.specs.Span.{span, late_sum}
use Rattle.model.specs.Shown.{late_gap}
use Rattle.starts.specs.Kept.{cap}

-- from s a walk that ends with m: U and m's delay are at most b; x is how late m can be due, in 1/256 tick and capped; c is m's letter
pub record Run (ts : List Transition) (s b x c : ℕ) : Type 0 where
  pub rest : List ℕ
  pub m : ℕ
  pub end : ℕ
  pub walk : Trace ts s (rest ++ (m ∷ [])) end
  pub fits : (span (steps ts (rest ++ (m ∷ [])))).u + (at ts m).d ≤ b
  pub late : x ≡ cap (late_sum (steps ts (rest ++ (m ∷ []))) + (at ts m).d * 256)
  pub letter : c ≡ (at ts m).output

-- t is the end
pub record Alone (t : Transition) (b x c : ℕ) : Type 0 where
  pub fits : t.u + t.d ≤ b
  pub late : x ≡ cap (late_gap t + t.d * 256)
  pub letter : c ≡ t.output

-- t, then such a walk
pub record Onward (ts : List Transition) (t : Transition) (b x c : ℕ) : Type 0 where
  pub low : t.u ≤ b
  pub y : ℕ
  pub after : Run ts t.to (b - t.u) y c
  pub late : x ≡ cap (y + late_gap t)

-- such a walk from s whose first step is transition j
pub record Begins (ts : List Transition) (s b j x c : ℕ) : Type 0 where
  pub known : j < length ts
  pub leaves : (at ts j).from ≡ s
  pub goes : Onward ts (at ts j) b x c ⊎ Alone (at ts j) b x c

-- such a walk whose first step is among the first i transitions
pub record Under (ts : List Transition) (s b i x c : ℕ) : Type 0 where
  pub j : ℕ
  pub below : j < i
  pub begins : Begins ts s b j x c
