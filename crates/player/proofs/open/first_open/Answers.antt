use Rattle.std.proofs.Common.{rules}
use Rattle.player.proofs.OpenLaws.{OpenAt, first-open}
use Rattle.player.proofs.open.first_open.Goals as goal

pub returns : goal.returns
returns c =
    let a = c.args in
    let at : OpenAt a.rows.now a.state a.letter a.timer c.position.result = search rules in
    first-open a.rows.now a.state a.letter a.timer c.position.result at
