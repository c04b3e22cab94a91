use native.Mathlib.Omega.{arith}
use lib.ListN.{length}
use Rattle.table.proofs.RowLaws.{length-rows}
use Rattle.walks.proofs.EndLaws.{among_none}
use Rattle.walks.proofs.walk.explain.Goals as goal

pub unreachable-requires : goal.unreachable-requires
unreachable-requires c =
    let l = c.args.fit.rows.now in
    among_none (length-rows l (length l)) (omega arith) c.loop-j.invariant c.requires.3
