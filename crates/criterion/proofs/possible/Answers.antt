use Rattle.model.proofs.AnswerLaws.{told, tells-same}
use Rattle.criterion.proofs.possible.Goals as goal

pub returns-then-above : goal.returns-then-above
returns-then-above c =
    let sooner = told c.above.result c.above.ensures c.if-above.true in
    tells-same c.told.result (λ b. record { above = rw c.from.ensures at sooner; told = b }, λ t. t.told) c.told.ensures
