use Prim.Native.Nat.{ℕ, ◌<◌}
use Rattle.table.specs.Rows.{transitions}
use Rattle.criterion.specs.declared.Goal.TheVariants.{Turns}
use Rattle.walks.specs.Walks.{Starts}
use Rattle.starts.proofs.search.first_start.Given as goal

abbrev pub invariant-loop-k : goal.invariant-loop-k
invariant-loop-k l = (x : ℕ) → x < l.k → Starts Turns (transitions l.fit.rows.now) l.dist x → ⊥
