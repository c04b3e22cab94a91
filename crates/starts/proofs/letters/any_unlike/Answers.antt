use Rattle.std.proofs.Common.{rules}
use Rattle.model.proofs.AnswerLaws.{tells-same}
use Rattle.starts.proofs.LetterLaws.{any-law}
use Rattle.starts.proofs.letters.any_unlike.Goals as goal

pub returns : goal.returns
returns c = tells-same c.any.result (any-law c.args.rows.now c.row_of-first.result c.row_of-first.ensures) (search rules)
