use Rattle.std.proofs.Common.{◌∙◌}
use Rattle.records.proofs.ListLaws.{closed}
use Rattle.records.proofs.close.Goals as goal

pub returns-then-n-list : goal.returns-then-n-list
returns-then-n-list c = c.copy_within.ensures.after ∙ closed _ _ _ c.if-at-n.true c.if-n-list.true
