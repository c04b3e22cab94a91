use Rattle.std.proofs.Common.{ℕ, ◌<◌, get_or}
use Rattle.trace.proofs.all_named.Given as goal

abbrev pub invariant-loop-i : goal.invariant-loop-i
invariant-loop-i g l = (j : ℕ) → j < l.i → get_or (g.T.Layout.list l.trace) j 0 < l.count
