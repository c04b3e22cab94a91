use Rattle.std.proofs.Common.{◌≡◌, ℕ, ◌<◌, ◌-◌, get_or}
use Rattle.table.specs.Rows.{row_of, said}
use Rattle.trace.proofs.TraceLaws.{JoinedAt}
use Rattle.trace.proofs.all_joined.Given as goal

abbrev pub invariant-loop-i : goal.invariant-loop-i
invariant-loop-i g l =
    (l.to ≡ (row_of l.rows (get_or (g.T.Layout.list l.trace) (l.i - 1) 0)).to)
    × ((x : ℕ) → x < l.i → JoinedAt (λ k. said (row_of l.rows k)) (g.T.Layout.list l.trace) x)
