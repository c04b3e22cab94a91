use native.Mathlib.Omega.{arith}
use lib.ListN.{length}
use Rattle.table.proofs.RowLaws.{length-rows}
use Rattle.walks.proofs.EndLaws.{least-none}
use Rattle.starts.proofs.search.first_start.Goals as goal

pub returns : goal.returns
returns c =
    let l = c.args.fit.rows.now in
    least-none (λ x s. s.arrives.known) (omega (arith, length-rows l (length l))) c.loop-k.invariant
