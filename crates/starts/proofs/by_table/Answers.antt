-- What is not named follows from the arithmetic around it.
use Rattle.model.proofs.AnswerLaws.{untold}
use Rattle.starts.proofs.LetterLaws.{none-unlike}
use Rattle.starts.proofs.by_table.Goals as goal

pub returns-then-not-any_unlike : goal.returns-then-not-any_unlike
returns-then-not-any_unlike c =
    let r = c.any_unlike in
    none-unlike _ (untold r.result r.ensures (c.if-not-any_unlike.true))
