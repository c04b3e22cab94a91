use Rattle.player.proofs.MoveLaws.{blank-fresh}
use Rattle.player.proofs.start.Goals as goal

pub returns : goal.returns
returns c = rw (c.after.ensures.config, c.after.ensures.answer, blank-fresh c.default.result c.default.ensures) c.begin.ensures
