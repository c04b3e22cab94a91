use native.Mathlib.Omega.{arith}
use lib.ListN.{length}
use Rattle.table.proofs.RowLaws.{length-rows}
use Rattle.walks.proofs.EndLaws.{end_known, least-none}
use Rattle.walks.proofs.search.ends.Goals as goal

pub returns : goal.returns
returns c =
    let a = c.args in
    least-none (λ x t. end_known a.goal t) (omega (arith, length-rows a.fit.rows.now (length a.fit.rows.now))) c.loop-m.invariant
