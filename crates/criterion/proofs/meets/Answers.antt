use Rattle.criterion.proofs.meets.Goals as goal

pub returns-in-Overtakes : goal.returns-in-Overtakes
returns-in-Overtakes c = rw c.in-Overtakes.is assumption
