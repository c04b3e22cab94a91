use Rattle.player.proofs.play.Goals as goal

pub returns : goal.returns
returns c = rw (c.after.ensures.config, c.after.ensures.answer) c.step.ensures
