use Prim.Native.Nat.{ℕ, ◌<◌}
use Rattle.walks.specs.Walks.{EndsIn}
use Rattle.table.specs.Rows.{transitions}
use Rattle.walks.proofs.search.ends.Given as goal

abbrev pub invariant-loop-m : goal.invariant-loop-m
invariant-loop-m l = (x : ℕ) → x < l.m → EndsIn l.goal (transitions l.fit.rows.now) l.k x → ⊥
