use Rattle.std.proofs.Common.{sym, ◌∙◌, rules}
use Rattle.model.proofs.AnswerLaws.{told, tells-same}
use Rattle.criterion.proofs.crosses.Goals as goal
use Rattle.criterion.proofs.crosses.Goals.{then-differ, else-differ}

pub returns-then-above : goal.returns-then-above
returns-then-above c = elim c.if-differ.branch [
  | then-differ w ↦
      let unlike = told c.differ.result c.differ.ensures w.if-differ.true in
      let sooner = told w.above.result w.above.ensures (sym w.value-is ∙ c.if-above.true) in
      tells-same c.below.result (λ b. record { differ = unlike; above = sooner; below = b }, λ t. t.below) c.below.ensures
  | else-differ w ↦ search rules
]
