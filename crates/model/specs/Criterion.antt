-- The criterion of a pair, for the theorems to compare with the definition by words, and the walks that meet it. Its two halves have one
-- name each, and everything that searches goes by their laws: another kind of guard or delay would change what stands here, and no search.
use Rattle.std.specs.Prelude.{List, [], ◌∷◌, ◌++◌, ℕ, ◌+◌, ◌*◌, ◌-◌, ◌≤◌, ◌<◌, length}
use Rattle.model.specs.Table.{Transition, Machine, at}
use Rattle.model.specs.Order.{Differ}
use Rattle.model.specs.Trace.{Trace, Reached, steps}
use Rattle.model.specs.Span.{span, late_sum, sum_u, sum_late}

-- U < D, where D is d of k less d of m: written without a difference, for the sum u of lower bounds
unfoldable pub Above : Transition → Transition → ℕ → Type 0
Above k m u = u + m.d < k.d

-- D ≤ V, for the sum of late gaps in 1/256 tick
unfoldable pub Below : Transition → Transition → ℕ → Type 0
Below k m late = k.d * 256 ≤ late + m.d * 256

-- a pair that turns: U < D ≤ V, and the two letters differ
pub record Crosses (k m : Transition) (u late : ℕ) : Type 0 where
  pub differ : Differ k m
  pub above : Above k m u
  pub below : Below k m late

-- so much u that no later step is above k, since every delay is at least 1
unfoldable pub Spent : Transition → ℕ → Type 0
Spent k u = k.d ≤ u + 1

-- the greatest sum of lower bounds before m with which m is still above; 0 where there is none
unfoldable pub slack : Transition → Transition → ℕ
slack k m = k.d - (m.d + m.u) - 1

-- what is asked of two steps: by their transitions, the sum of lower bounds and the sum of late gaps over the steps after the first
abbrev pub Goal : Type 1
Goal = Transition → Transition → ℕ → ℕ → Type 0

-- request order asks for the first half alone: the later step can respond before the earlier one
abbrev pub Ahead : Goal
Ahead k m u late = Above k m u

-- of two steps k < m of a trace, the sums being over the steps behind k up to m
pub record PairMeets (goal : Goal) (tr : List Transition) (k m : ℕ) : Type 0 where
  pub ordered : k < m
  pub inside : m < length tr
  pub meets : goal (at tr k) (at tr m) (sum_u tr k m) (sum_late tr k m)

abbrev pub Criterion : List Transition → ℕ → ℕ → Type 0
Criterion = PairMeets Crosses

-- after transition k the transitions `rest`, then m: a walk that meets the goal
pub record WalkTo (goal : Goal) (ts : List Transition) (k m : ℕ) : Type 0 where
  pub rest : List ℕ
  pub end : ℕ
  pub walk : Trace ts (at ts k).to (rest ++ (m ∷ [])) end
  pub meets : goal (at ts k) (at ts m) (span (steps ts (rest ++ (m ∷ [])))).u (late_sum (steps ts (rest ++ (m ∷ []))))

-- the same from a transition i that leaves a reachable state
pub record WalkFrom (goal : Goal) (m : Machine) (i : ℕ) : Type 0 where
  pub reached : Reached m.transitions m.initial (at m.transitions i).from
  pub known : i < length m.transitions
  pub j : ℕ
  pub after : WalkTo goal m.transitions i j
