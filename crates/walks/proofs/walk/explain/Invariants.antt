use Prim.Native.Nat.{ℕ, ◌<◌}
use Rattle.table.specs.Rows.{transitions}
use Rattle.walks.specs.Best.{Explains}
use Rattle.walks.proofs.walk.explain.Given as goal

abbrev pub invariant-loop-j : goal.invariant-loop-j
invariant-loop-j l = (x : ℕ) → x < l.j → Explains (transitions l.fit.rows.now) l.best l.e l.a x → ⊥
