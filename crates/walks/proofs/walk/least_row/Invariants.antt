use Prim.Native.Nat.{ℕ, ◌≤◌, ◌<◌}
use Rattle.walks.specs.Best.{cell}
use Rattle.walks.proofs.walk.least_row.Given as goal

abbrev pub invariant-loop-a : goal.invariant-loop-a
invariant-loop-a l = (b : ℕ) → b < l.a → l.enough ≤ cell l.best b l.e → ⊥
