use Rattle.table.proofs.RowLaws.{length-rows}
use Rattle.walks.proofs.WalkLaws.{seen}
use Rattle.walks.proofs.BackLaws.{show-ready}
use Rattle.walks.proofs.walk.fill_for.Goals as goal

pub returns : goal.returns
returns c =
    let f = c.fill.ensures in
    show-ready (seen c.args.fit c.args.k c.requires.0) (length-rows _ _) c.all_ends.ensures c.rows_for-n.ensures f.0 f.1
