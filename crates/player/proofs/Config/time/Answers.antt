use Rattle.std.proofs.Common.{arith}
use Rattle.player.proofs.MoveLaws.{time-late, time-passed}
use Rattle.player.proofs.Config.time.Goals as goal

pub returns-then-not-none_before : goal.returns-then-not-none_before
returns-then-not-none_before c =
    let late = rw (c.if-not-none_before.true, c.from-n.ensures) at c.none_before.ensures in
    λ m. time-late m c.args.self c.args.list.now c.args.parts late

pub returns : goal.returns
returns c =
    let still = rw (c.if-not-none_before.false, c.from-n.ensures) at c.none_before.ensures in
    let aged = rw c.from-n.ensures at c.age.ensures in
    λ m. time-passed m c.args.self c.args.list.now c.args.parts c.requires still aged (omega (arith, c.saturating_add.ensures, c.min.ensures)) c.default.ensures
