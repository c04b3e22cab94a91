use Rattle.std.proofs.Common.{◌≡◌}
use Rattle.table.specs.Rows.{machine_of, transitions}
use Rattle.table.proofs.TestLaws.{valid-count}
use Rattle.player.proofs.OpenLaws.{admits, split-told}
use Rattle.player.proofs.open.unsplit.Goals as goal
use Rattle.player.proofs.open.unsplit.Goals.{After-rows-rows}

-- the slice of a checked table holds its transitions
held : (p : After-rows-rows) → transitions p.rows-rows.result.now ≡ (machine_of p.args.t.now).transitions
held p = p.rows-rows.ensures.held (valid-count p.args.t.now p.requires)

pub returns-in_default : goal.returns-in_default
returns-in_default c =
    let a = c.args in
    absurd (c.in_default.ensures (admits a.t.now c.requires c.rows-rows.result.now (held (goal.at.returns-in_default c).After-rows-rows)))

pub returns : goal.returns
returns c =
    let a = c.args in
    split-told a.t.now c.requires c.rows-rows.result.now (held (goal.at.returns c).After-rows-rows) c.in-Some.ensures.1 c.first_split.result c.is_none.result
    c.first_split.ensures c.is_none.ensures
