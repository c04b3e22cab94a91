use Rattle.std.proofs.Common.{rules}
use Rattle.model.proofs.AnswerLaws.{tells-same}
use Rattle.records.proofs.ListLaws.{every-all}
use Rattle.records.proofs.none_before.Goals as goal

pub returns : goal.returns
returns c = tells-same c.all.result (every-all c.args.waiting.now) (search rules)
