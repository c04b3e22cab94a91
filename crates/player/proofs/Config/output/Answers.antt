use Rattle.player.proofs.MoveLaws.{output-none, output-issued}
use Rattle.player.proofs.Config.output.Goals as goal

pub returns-in_default : goal.returns-in_default
returns-in_default c =
    let none = rw c.from-n.ensures at c.in_default.ensures in
    λ m. output-none m c.args.self c.args.list.now none

pub returns : goal.returns
returns c =
    let due = rw c.from-n.ensures at c.in-Some.ensures in
    let closed = rw c.from-n.ensures at c.close.ensures in
    λ m. output-issued m c.args.self c.args.list.now c.requires c.in-Some.at due closed
